-- The body with the lines says the rows, and keeps what was there.
use Rattle.std.proofs.Common.{◌≡◌, ℕ, suc, ◌+◌, ◌*◌, ◌≤◌, ◌<◌, Bool, true, false, List, [], ◌∷◌, ◌++◌, length, Option, Some, None, refl, sym, ap, subst, ◌∙◌, arith, append_assoc, append-nil, length-append, eq-eqb, ne_eqb, ◌⊎◌, inl, inr}
use Rattle.std.specs.Prelude.{if◌then◌else◌, nat_eq, nat_lt, All}
use Rattle.std.proofs.lemmas.Bool.{cases_lt}
use Rattle.std.proofs.lemmas.List.Elements.{All-weaker}
use Rattle.spv_module.specs.declared.module.Inst.{Inst}
use Rattle.spv_module.specs.Words.{AreSpelled, IsIdBelow, ids_of}
use Rattle.spv_module.specs.Instructions.{Said, String, Constant, result_of, is_result, said, definition_in}
use Rattle.spv_module.specs.Options.{or_else, only_if, or_default}
use Rattle.spv_module.proofs.Spelling.{AreSpelled-left, AreSpelled-right}
use Rattle.spv_reflect.specs.declared.choice.Wanted.{Wanted}
use Rattle.spv_reflect.specs.declared.choice.Wanted.TheVariants as wanted
use Rattle.spv_reflect.specs.declared.copying.Section.TheVariants.{Imports, Strings, Types}
use Rattle.spv_reflect.specs.declared.rows.KernelRow.{KernelRow}
use Rattle.spv_reflect.specs.declared.rows.Reflection.{Reflection}
use Rattle.spv_reflect.specs.Reflection.{Line, is_reflection, is_word_type, line_of, with_line, lines_in, text_by, text_at, number_by, number_at, function_by, rows_by, rows_of}
use Rattle.spv_reflect.specs.Writing as spec
use Rattle.spv_reflect.specs.Writing.{string_line, constant_line, import_line, word_type_line, void_line, strings_from, constants_from, lines_of, texts_of, numbers_of, numbers_of_kernels, numbers_of_sizes, args_in, leading, behind, is_wanted, find_in, new_one, count_new, IsFunctionRow, AreThree, AreOfBuffers}
use Rattle.spv_reflect.proofs.Counts.{length-numbers_of_kernels}
use Rattle.spv_reflect.proofs.Lines.{kernel_lines, size_lines, rows_are}
use Rattle.spv_reflect.proofs.ReadBack.{lines_append, AreTexts, AreNumbers, numbers_left, numbers_right, kernels_read, size_read}
use Rattle.spv_reflect.proofs.Defined.{Over, Under, def_append, over_strings, under_strings, under_constants, under_lines, sections, over_old, function_found, IsFound, find_found, still_bare, over_one, under_one, over_nil, under_nil, if_true, if_false}

-- ---- ten parts of a body: a, b, c and d were there, and i, s, v, w, n and l are added

abbrev pub joined : (a i b s c v w n d l : List Inst) → List Inst
joined a i b s c v w n d l = (a ++ (i ++ (b ++ s))) ++ ((c ++ (v ++ (w ++ n))) ++ (d ++ l))

both_else : (a b c d : List Inst) (id : ℕ) → definition_in (a ++ (b ++ (c ++ d))) id ≡ or_else (definition_in a id) (or_else (definition_in b id) (or_else (definition_in c id) (definition_in d id)))
both_else a b c d id =
    def_append a (b ++ (c ++ d)) id
    ∙ ap (or_else (definition_in a id)) (def_append b (c ++ d) id ∙ ap (or_else (definition_in b id)) (def_append c d id))

module _ (a i b s c v w n d l : List Inst) where
  expand : (id : ℕ) → definition_in (joined a i b s c v w n d l) id ≡ or_else (or_else (definition_in a id) (or_else (definition_in i id) (or_else (definition_in b id) (definition_in s id)))) (or_else (or_else (definition_in c id) (or_else (definition_in v id) (or_else (definition_in w id) (definition_in n id)))) (or_else (definition_in d id) (definition_in l id)))
  expand id =
      def_append (a ++ (i ++ (b ++ s))) ((c ++ (v ++ (w ++ n))) ++ (d ++ l)) id
      ∙ ap (λ (o : Option Said). or_else o (definition_in ((c ++ (v ++ (w ++ n))) ++ (d ++ l)) id)) (both_else a i b s id)
      ∙ ap (or_else (or_else (definition_in a id) (or_else (definition_in i id) (or_else (definition_in b id) (definition_in s id)))))
      (def_append (c ++ (v ++ (w ++ n))) (d ++ l) id
      ∙ ap (λ (o : Option Said). or_else o (definition_in (d ++ l) id)) (both_else c v w n id)
      ∙ ap (or_else (or_else (definition_in c id) (or_else (definition_in v id) (or_else (definition_in w id) (definition_in n id))))) (def_append d l id))

  pub record Arranged (bound text void word number line : ℕ) : Type 0 where
    pub old_a : Over bound a
    pub old_b : Over bound b
    pub old_c : Over bound c
    pub old_d : Over bound d
    pub under_i : Under bound i
    pub over_i : Over text i
    pub under_s : Under text s
    pub over_s : Over void s
    pub under_v : Under void v
    pub over_v : Over word v
    pub under_w : Under word w
    pub over_w : Over number w
    pub under_n : Under number n
    pub under_l : Under line l
    pub order_text : bound ≤ text
    pub order_void : text ≤ void
    pub order_word : void ≤ word
    pub order_number : word ≤ number
    pub order_line : number ≤ line

  module _ (bound text void word number line : ℕ) (p : Arranged bound text void word number line) where
    four : (x y z u : Option Said) → or_else (or_else x (or_else None (or_else y None))) (or_else (or_else z (or_else None (or_else None None))) (or_else u None)) ≡ or_else x (or_else y (or_else z u))
    four (Some x) y z u = refl
    four None (Some y) z u = refl
    four None None (Some z) u = refl
    four None None None (Some u) = refl
    four None None None None = refl

    pub kept : (id : ℕ) → id < bound → definition_in (joined a i b s c v w n d l) id ≡ definition_in (a ++ (b ++ (c ++ d))) id
    kept id h =
        let e = p.under_i.none id h in
        let f = p.under_s.none id (omega (arith, h, p.order_text)) in
        let g = p.under_v.none id (omega (arith, h, p.order_text, p.order_void)) in
        let j = p.under_w.none id (omega (arith, h, p.order_text, p.order_void, p.order_word)) in
        let k = p.under_n.none id (omega (arith, h, p.order_text, p.order_void, p.order_word, p.order_number)) in
        let m = p.under_l.none id (omega (arith, h, p.order_text, p.order_void, p.order_word, p.order_number, p.order_line)) in
        expand id ∙ rw (e, f, g, j, k, m) (four (definition_in a id) (definition_in b id) (definition_in c id) (definition_in d id)) ∙ sym (both_else a b c d id)

    pub in_import : (id : ℕ) (x : Said) → bound ≤ id → definition_in i id ≡ Some x → definition_in (joined a i b s c v w n d l) id ≡ Some x
    in_import id x h e = expand id ∙ rw (p.old_a.none id h, e) refl

    pub in_strings : (id : ℕ) (x : Said) → text ≤ id → definition_in s id ≡ Some x → definition_in (joined a i b s c v w n d l) id ≡ Some x
    in_strings id x h e =
        let g : bound ≤ id = omega (arith, h, p.order_text) in
        expand id ∙ rw (p.old_a.none id g, p.over_i.none id h, p.old_b.none id g, e) refl

    pub in_word : (id : ℕ) (x : Said) → word ≤ id → definition_in w id ≡ Some x → definition_in (joined a i b s c v w n d l) id ≡ Some x
    in_word id x h e =
        let j : void ≤ id = omega (arith, h, p.order_word) in
        let k : text ≤ id = omega (arith, j, p.order_void) in
        let g : bound ≤ id = omega (arith, k, p.order_text) in
        expand id ∙ rw (p.old_a.none id g, p.over_i.none id k, p.old_b.none id g, p.over_s.none id j, p.old_c.none id g, p.over_v.none id h, e) refl

    pub in_numbers : (id : ℕ) (x : Said) → number ≤ id → definition_in n id ≡ Some x → definition_in (joined a i b s c v w n d l) id ≡ Some x
    in_numbers id x h e =
        let q : word ≤ id = omega (arith, h, p.order_number) in
        let j : void ≤ id = omega (arith, q, p.order_word) in
        let k : text ≤ id = omega (arith, j, p.order_void) in
        let g : bound ≤ id = omega (arith, k, p.order_text) in
        expand id ∙ rw (p.old_a.none id g, p.over_i.none id k, p.old_b.none id g, p.over_s.none id j, p.old_c.none id g, p.over_v.none id q, p.over_w.none id h, e) refl

-- ---- what the lines name is there

module _ (body : List Inst) where
  strings_there : (id : ℕ) (ts : List (List ℕ)) → ((m : ℕ) (x : Said) → id ≤ m → definition_in (strings_from id ts) m ≡ Some x → definition_in body m ≡ Some x) → AreTexts body id ts
  strings_there id [] h = tt
  strings_there id (t ∷ ts) h = (
    ap text_by (h id (String id t) (omega arith) (if_true (nat_eq id id) (Some (String id t)) (definition_in (strings_from (id + 1) ts) id) (eq-eqb id id refl))),
    strings_there (id + 1) ts (λ m x g e. h m x (omega (arith, g)) (if_false (nat_eq id m) (Some (String id t)) (definition_in (strings_from (id + 1) ts) m) (ne_eqb id m (λ f. omega (arith, f, g))) ∙ e)),
  )

  numbers_there : (type id : ℕ) (ns : List ℕ) → is_word_type (definition_in body type) ≡ true → ((m : ℕ) (x : Said) → id ≤ m → definition_in (constants_from type id ns) m ≡ Some x → definition_in body m ≡ Some x) → AreNumbers body id ns
  numbers_there type id [] t h = tt
  numbers_there type id (n ∷ ns) t h = (
    ap (number_by body) (h id (Constant type id n) (omega arith) (if_true (nat_eq id id) (Some (Constant type id n)) (definition_in (constants_from type (id + 1) ns) id) (eq-eqb id id refl))) ∙ ap (λ (c : Bool). only_if c n) t,
    numbers_there type (id + 1) ns t (λ m x g e. h m x (omega (arith, g)) (if_false (nat_eq id m) (Some (Constant type id n)) (definition_in (constants_from type (id + 1) ns) m) (ne_eqb id m (λ f. omega (arith, f, g))) ∙ e)),
  )

  -- ---- what is added beside them is no line
  bare_strings : (id : ℕ) (ts : List (List ℕ)) → lines_in body (strings_from id ts) ≡ []
  bare_strings id [] = refl
  bare_strings id (t ∷ ts) = bare_strings (id + 1) ts

  bare_constants : (type id : ℕ) (ns : List ℕ) → lines_in body (constants_from type id ns) ≡ []
  bare_constants type id [] = refl
  bare_constants type id (n ∷ ns) = bare_constants type (id + 1) ns

  bare_new : (o : Option ℕ) (x : Inst) → line_of body (said x) ≡ None → lines_in body (new_one o x) ≡ []
  bare_new None x e = ap (λ (q : Option Line). with_line q []) e
  bare_new (Some id) x e = refl

  behind_none : (xs ys : List Inst) (ls : List Line) → lines_in body xs ≡ [] → lines_in body ys ≡ ls → lines_in body (xs ++ ys) ≡ ls
  behind_none xs ys ls e f = lines_append body xs ys ∙ ap (λ (ms : List Line). ms ++ lines_in body ys) e ∙ f

new_under : (o : Option ℕ) (x : Inst) (r : ℕ) → result_of (said x) ≡ Some r → Under r (new_one o x)
new_under None x r e = under_one x r r e (omega arith)
new_under (Some id) x r e = under_nil r

new_over : (o : Option ℕ) (x : Inst) (r : ℕ) → result_of (said x) ≡ Some r → Over (r + count_new o) (new_one o x)
new_over None x r e = over_one x r (r + 1) e (omega arith)
new_over (Some id) x r e = over_nil (r + 0)

none_left : (xs ys : List Line) → xs ++ ys ≡ [] → xs ≡ []
none_left [] ys e = refl
none_left (x ∷ xs) ys e = absurd (cc)

none_right : (xs ys : List Line) → xs ++ ys ≡ [] → ys ≡ []
none_right [] ys e = e
none_right (x ∷ xs) ys e = absurd (cc)

-- ---- the body with the lines

module _ (old : List Inst) (bound : ℕ) (r : Reflection) where
  abbrev pub a_part : List Inst
  a_part = leading Imports old

  abbrev pub b_part : List Inst
  b_part = leading Strings (behind Imports old)

  abbrev pub c_part : List Inst
  c_part = leading Types (behind Strings (behind Imports old))

  abbrev pub d_part : List Inst
  d_part = behind Types (behind Strings (behind Imports old))

  pub whole : a_part ++ (b_part ++ (c_part ++ d_part)) ≡ old
  whole =
      ap (λ (is : List Inst). a_part ++ (b_part ++ is)) (sections Types (behind Strings (behind Imports old)))
      ∙ ap (λ (is : List Inst). a_part ++ is) (sections Strings (behind Imports old))
      ∙ sections Imports old

  -- ids
  abbrev pub t0 : ℕ
  t0 = bound + count_new (find_in old wanted.Import old)

  abbrev pub v0 : ℕ
  v0 = t0 + length (texts_of r.kernels)

  abbrev pub w0 : ℕ
  w0 = v0 + count_new (find_in old wanted.Void old)

  abbrev pub n0 : ℕ
  n0 = w0 + count_new (find_in old wanted.WordType old)

  abbrev pub l0 : ℕ
  l0 = n0 + length (numbers_of r)

  abbrev pub set_id : ℕ
  set_id = or_default (find_in old wanted.Import old) bound

  abbrev pub void_id : ℕ
  void_id = or_default (find_in old wanted.Void old) v0

  abbrev pub word_id : ℕ
  word_id = or_default (find_in old wanted.WordType old) w0

  abbrev pub i_part : List Inst
  i_part = new_one (find_in old wanted.Import old) (import_line bound)

  abbrev pub s_part : List Inst
  s_part = strings_from t0 (texts_of r.kernels)

  abbrev pub v_part : List Inst
  v_part = new_one (find_in old wanted.Void old) (void_line v0)

  abbrev pub w_part : List Inst
  w_part = new_one (find_in old wanted.WordType old) (word_type_line w0)

  abbrev pub n_part : List Inst
  n_part = constants_from word_id n0 (numbers_of r)

  abbrev pub l_part : List Inst
  l_part = lines_of void_id set_id t0 n0 l0 r

  abbrev pub new : List Inst
  new = joined a_part i_part b_part s_part c_part v_part w_part n_part d_part l_part

  pub is_new : spec.new_body old bound r ≡ new
  is_new = refl

  module _ (spelled : AreSpelled bound old) where
    abc : AreSpelled bound (a_part ++ (b_part ++ (c_part ++ d_part)))
    abc = subst (AreSpelled bound) (sym whole) spelled

    pub spelled_a : AreSpelled bound a_part
    spelled_a = AreSpelled-left bound a_part (b_part ++ (c_part ++ d_part)) abc

    bcd : AreSpelled bound (b_part ++ (c_part ++ d_part))
    bcd = AreSpelled-right bound a_part (b_part ++ (c_part ++ d_part)) abc

    pub spelled_b : AreSpelled bound b_part
    spelled_b = AreSpelled-left bound b_part (c_part ++ d_part) bcd

    cd : AreSpelled bound (c_part ++ d_part)
    cd = AreSpelled-right bound b_part (c_part ++ d_part) bcd

    pub spelled_c : AreSpelled bound c_part
    spelled_c = AreSpelled-left bound c_part d_part cd

    pub spelled_d : AreSpelled bound d_part
    spelled_d = AreSpelled-right bound c_part d_part cd

    old_over : (xs : List Inst) → AreSpelled bound xs → Over bound xs
    old_over xs p = record { none = over_old old bound xs p.ids }

    arranged : Arranged a_part i_part b_part s_part c_part v_part w_part n_part d_part l_part bound t0 v0 w0 n0 l0
    arranged = record {
      old_a = old_over a_part spelled_a;
      old_b = old_over b_part spelled_b;
      old_c = old_over c_part spelled_c;
      old_d = old_over d_part spelled_d;
      under_i = new_under (find_in old wanted.Import old) (import_line bound) bound refl;
      over_i = new_over (find_in old wanted.Import old) (import_line bound) bound refl;
      under_s = under_strings t0 t0 (texts_of r.kernels) (omega arith);
      over_s = over_strings t0 (texts_of r.kernels);
      under_v = new_under (find_in old wanted.Void old) (void_line v0) v0 refl;
      over_v = new_over (find_in old wanted.Void old) (void_line v0) v0 refl;
      under_w = new_under (find_in old wanted.WordType old) (word_type_line w0) w0 refl;
      over_w = new_over (find_in old wanted.WordType old) (word_type_line w0) w0 refl;
      under_n = under_constants n0 word_id n0 (numbers_of r) (omega arith);
      under_l = under_lines l0 void_id set_id t0 n0 l0 r (omega arith);
      order_text = omega arith;
      order_void = omega arith;
      order_word = omega arith;
      order_number = omega arith;
      order_line = omega arith;
    }

    pub same : (id : ℕ) → id < bound → definition_in new id ≡ definition_in old id
    same id h = kept a_part i_part b_part s_part c_part v_part w_part n_part d_part l_part bound t0 v0 w0 n0 l0 arranged id h ∙ ap (λ (is : List Inst). definition_in is id) whole

    imported_by : (o : Option ℕ) → find_in old wanted.Import old ≡ o → is_reflection (definition_in new (or_default o bound)) ≡ true
    imported_by (Some id) e =
        let f = find_found old bound wanted.Import old id spelled.ids e in
        ap is_reflection (same id f.id_below.below) ∙ f.is
    imported_by None e =
        let here : definition_in i_part bound ≡ Some (said (import_line bound)) =
        ap (λ (o : Option ℕ). definition_in (new_one o (import_line bound)) bound) e ∙ if_true (nat_eq bound bound) (Some (said (import_line bound))) None (eq-eqb bound bound refl) in
        ap is_reflection (in_import a_part i_part b_part s_part c_part v_part w_part n_part d_part l_part bound t0 v0 w0 n0 l0 arranged bound (said (import_line bound)) (omega arith) here)

    imported : is_reflection (definition_in new set_id) ≡ true
    imported = imported_by (find_in old wanted.Import old) refl

    word_by : (o : Option ℕ) → find_in old wanted.WordType old ≡ o → is_word_type (definition_in new (or_default o w0)) ≡ true
    word_by (Some id) e =
        let f = find_found old bound wanted.WordType old id spelled.ids e in
        ap is_word_type (same id f.id_below.below) ∙ f.is
    word_by None e =
        let here : definition_in w_part w0 ≡ Some (said (word_type_line w0)) =
        ap (λ (o : Option ℕ). definition_in (new_one o (word_type_line w0)) w0) e ∙ if_true (nat_eq w0 w0) (Some (said (word_type_line w0))) None (eq-eqb w0 w0 refl) in
        ap is_word_type (in_word a_part i_part b_part s_part c_part v_part w_part n_part d_part l_part bound t0 v0 w0 n0 l0 arranged w0 (said (word_type_line w0)) (omega arith) here)

    word_there : is_word_type (definition_in new word_id) ≡ true
    word_there = word_by (find_in old wanted.WordType old) refl

    texts_here : AreTexts new t0 (texts_of r.kernels)
    texts_here = strings_there new t0 (texts_of r.kernels) (in_strings a_part i_part b_part s_part c_part v_part w_part n_part d_part l_part bound t0 v0 w0 n0 l0 arranged)

    numbers_here : AreNumbers new n0 (numbers_of r)
    numbers_here = numbers_there new word_id n0 (numbers_of r) word_there (in_numbers a_part i_part b_part s_part c_part v_part w_part n_part d_part l_part bound t0 v0 w0 n0 l0 arranged)

    function_there : (k : KernelRow) → IsFunctionRow old k → IsFunctionRow new k
    function_there k e = either (cases_lt k.function bound) where
      either : (k.function < bound) ⊎ (bound ≤ k.function) → IsFunctionRow new k
      either (inl h) = ap function_by (same k.function h) ∙ e
      either (inr h) = absurd (cc (sym e ∙ ap function_by (over_old old bound old spelled.ids k.function h)))

    module _ (bare : lines_in old old ≡ []) (functions : All (IsFunctionRow old) r.kernels) (kinds : AreOfBuffers r) (three : AreThree r.sizes) where
      bare_abcd : lines_in old (a_part ++ (b_part ++ (c_part ++ d_part))) ≡ []
      bare_abcd = ap (lines_in old) whole ∙ bare

      left_bare : (xs ys : List Inst) → lines_in old (xs ++ ys) ≡ [] → lines_in old xs ≡ []
      left_bare xs ys e = none_left (lines_in old xs) (lines_in old ys) (sym (lines_append old xs ys) ∙ e)

      right_bare : (xs ys : List Inst) → lines_in old (xs ++ ys) ≡ [] → lines_in old ys ≡ []
      right_bare xs ys e = none_right (lines_in old xs) (lines_in old ys) (sym (lines_append old xs ys) ∙ e)

      bare_bcd : lines_in old (b_part ++ (c_part ++ d_part)) ≡ []
      bare_bcd = right_bare a_part (b_part ++ (c_part ++ d_part)) bare_abcd

      bare_cd : lines_in old (c_part ++ d_part) ≡ []
      bare_cd = right_bare b_part (c_part ++ d_part) bare_bcd

      none_old : (xs : List Inst) → AreSpelled bound xs → lines_in old xs ≡ [] → lines_in new xs ≡ []
      none_old xs p e = still_bare old bound new same xs p.ids e

      lines_here : lines_in new l_part ≡ kernel_lines l0 r.kernels (size_lines (l0 + length r.kernels + 2 * args_in r.kernels) r.sizes)
      lines_here =
          let on : AreNumbers new (n0 + 3 * args_in r.kernels) (numbers_of_sizes r.sizes) =
          subst (λ m. AreNumbers new m (numbers_of_sizes r.sizes)) (omega (arith, length-numbers_of_kernels r.kernels)) (numbers_right new n0 (numbers_of_kernels r.kernels) (numbers_of_sizes r.sizes) numbers_here) in
          kernels_read new void_id set_id imported t0 n0 l0 r.kernels _ (All-weaker (IsFunctionRow old) (IsFunctionRow new) function_there r.kernels functions) texts_here (numbers_left new n0 (numbers_of_kernels r.kernels) (numbers_of_sizes r.sizes) numbers_here)
          ∙ ap (kernel_lines l0 r.kernels) (size_read new void_id set_id imported (n0 + 3 * args_in r.kernels) (l0 + length r.kernels + 2 * args_in r.kernels) r.sizes three on)

      all_lines : lines_in new new ≡ kernel_lines l0 r.kernels (size_lines (l0 + length r.kernels + 2 * args_in r.kernels) r.sizes)
      all_lines =
          behind_none new (a_part ++ (i_part ++ (b_part ++ s_part))) _ _
          (behind_none new a_part _ [] (none_old a_part spelled_a (left_bare a_part (b_part ++ (c_part ++ d_part)) bare_abcd))
          (behind_none new i_part _ [] (bare_new new (find_in old wanted.Import old) (import_line bound) refl)
          (behind_none new b_part s_part [] (none_old b_part spelled_b (left_bare b_part (c_part ++ d_part) bare_bcd)) (bare_strings new t0 (texts_of r.kernels)))))
          (behind_none new (c_part ++ (v_part ++ (w_part ++ n_part))) _ _
          (behind_none new c_part _ [] (none_old c_part spelled_c (left_bare c_part d_part bare_cd))
          (behind_none new v_part _ [] (bare_new new (find_in old wanted.Void old) (void_line v0) refl)
          (behind_none new w_part n_part [] (bare_new new (find_in old wanted.WordType old) (word_type_line w0) refl) (bare_constants new word_id n0 (numbers_of r)))))
          (behind_none new d_part l_part _ (none_old d_part spelled_d (right_bare c_part d_part bare_cd)) lines_here))

      pub rows_back : rows_of new ≡ Some r
      rows_back = ap rows_by all_lines ∙ rows_are l0 (l0 + length r.kernels + 2 * args_in r.kernels) r kinds three

-- a row's function has an id below the bound
pub function_id : (old : List Inst) (bound : ℕ) → AreSpelled bound old → (k : KernelRow) → IsFunctionRow old k → IsIdBelow bound k.function
function_id old bound spelled k e = function_found old bound old k.function k.function spelled.ids e
