-- What the body with the lines defines: the ids that were there as they were, and what the lines name.
use Rattle.std.proofs.Common.{◌≡◌, ℕ, suc, ◌+◌, ◌*◌, ◌≤◌, ◌<◌, ◌==◌, Bool, true, false, List, [], ◌∷◌, ◌++◌, length, Option, Some, None, refl, sym, ap, subst, ◌∙◌, arith, append_assoc, append-nil, eq-eqb, ne_eqb}
use Rattle.std.specs.Prelude.{if◌then◌else◌, nat_eq, All}
use Rattle.std.proofs.lemmas.List.Elements.{All-head, All-tail}
use Rattle.std.specs.List.{flat_map}
use Rattle.spv_module.specs.declared.module.Inst.{Inst}
use Rattle.spv_module.specs.Words.{AreSpelled, IsIdBelow, ids_of}
use Rattle.spv_module.specs.Instructions.{Said, Extended, Function, result_of, is_result, said, definition_in}
use Rattle.spv_module.specs.Options.{◌>>=◌, or_else, only_if, or_default}
use Rattle.spv_module.proofs.Spelling.{AreSpelled-left, AreSpelled-right, All-left, All-right}
use Rattle.spv_reflect.specs.declared.choice.Wanted.{Wanted}
use Rattle.spv_reflect.specs.declared.choice.Wanted.TheVariants as wanted
use Rattle.spv_reflect.specs.declared.copying.Section.{Section}
use Rattle.spv_reflect.specs.declared.copying.Section.TheVariants.{Imports, Strings, Types}
use Rattle.spv_reflect.specs.declared.rows.ArgRow.{ArgRow}
use Rattle.spv_reflect.specs.declared.rows.KernelRow.{KernelRow}
use Rattle.spv_reflect.specs.declared.rows.Reflection.{Reflection}
use Rattle.spv_reflect.specs.Reflection.{Line, is_reflection, is_word_type, line_of, with_line, lines_in, function_by}
use Rattle.spv_reflect.specs.Writing
use Rattle.spv_reflect.specs.Writing.{string_line, constant_line, import_line, word_type_line, void_line, strings_from, constants_from, lines_of_args, lines_of_kernels, line_of_sizes, lines_of, is_in, leading, behind, op_of, is_wanted, made_by, find_in, new_one, count_new}
use Rattle.spv_reflect.proofs.Below.{IsBelow, IsSomeBelow, set_of, said_below}

-- ---- definitions among more instructions

pub def_append : (xs ys : List Inst) (id : ℕ) → definition_in (xs ++ ys) id ≡ or_else (definition_in xs id) (definition_in ys id)
def_append [] ys id = refl
def_append (x ∷ xs) ys id = tested (is_result (result_of (said x)) id) (said x) (definition_in (xs ++ ys) id) (definition_in xs id) (definition_in ys id) (def_append xs ys id) where
  tested : (b : Bool) (s : Said) (m n p : Option Said) → m ≡ or_else n p → (if b then Some s else m) ≡ or_else (if b then Some s else n) p
  tested true s m n p e = refl
  tested false s m n p e = e

pub if_true : {A : Type 0} (b : Bool) (x y : A) → b ≡ true → (if b then x else y) ≡ x
if_true b x y e = ap (λ (c : Bool). if c then x else y) e

pub if_false : {A : Type 0} (b : Bool) (x y : A) → b ≡ false → (if b then x else y) ≡ y
if_false b x y e = ap (λ (c : Bool). if c then x else y) e

-- ids below some number have no definition, and those from some number on
pub record Over (high : ℕ) (xs : List Inst) : Type 0 where
  pub none : (id : ℕ) → high ≤ id → definition_in xs id ≡ None

pub record Under (low : ℕ) (xs : List Inst) : Type 0 where
  pub none : (id : ℕ) → id < low → definition_in xs id ≡ None

pub over_nil : (high : ℕ) → Over high []
over_nil high = record { none = λ id h. refl }

pub under_nil : (low : ℕ) → Under low []
under_nil low = record { none = λ id h. refl }

pub over_more : (low high : ℕ) (xs : List Inst) → low ≤ high → Over low xs → Over high xs
over_more low high xs h p = record { none = λ id g. p.none id (omega (arith, h, g)) }

pub under_less : (low high : ℕ) (xs : List Inst) → low ≤ high → Under high xs → Under low xs
under_less low high xs h p = record { none = λ id g. p.none id (omega (arith, h, g)) }

pub over_append : (high : ℕ) (xs ys : List Inst) → Over high xs → Over high ys → Over high (xs ++ ys)
over_append high xs ys p q = record { none = λ id h. def_append xs ys id ∙ ap (λ (o : Option Said). or_else o (definition_in ys id)) (p.none id h) ∙ q.none id h }

pub under_append : (low : ℕ) (xs ys : List Inst) → Under low xs → Under low ys → Under low (xs ++ ys)
under_append low xs ys p q = record { none = λ id h. def_append xs ys id ∙ ap (λ (o : Option Said). or_else o (definition_in ys id)) (p.none id h) ∙ q.none id h }

other_id : (i : Inst) (r id : ℕ) → result_of (said i) ≡ Some r → (r ≡ id → ⊥) → definition_in (i ∷ []) id ≡ None
other_id i r id e h = if_false (is_result (result_of (said i)) id) (Some (said i)) None (ap (λ (o : Option ℕ). is_result o id) e ∙ ne_eqb r id h)

pub over_one : (i : Inst) (r high : ℕ) → result_of (said i) ≡ Some r → r < high → Over high (i ∷ [])
over_one i r high e h = record { none = λ id g. other_id i r id e (λ f. omega (arith, f, g, h)) }

pub under_one : (i : Inst) (r low : ℕ) → result_of (said i) ≡ Some r → low ≤ r → Under low (i ∷ [])
under_one i r low e h = record { none = λ id g. other_id i r id e (λ f. omega (arith, f, g, h)) }

-- ---- what is added

pub over_strings : (id : ℕ) (ts : List (List ℕ)) → Over (id + length ts) (strings_from id ts)
over_strings id [] = over_nil (id + 0)
over_strings id (t ∷ ts) =
    over_append (id + length (t ∷ ts)) (string_line id t ∷ []) (strings_from (id + 1) ts) (over_one (string_line id t) id (id + length (t ∷ ts)) refl (omega arith))
    (over_more (id + 1 + length ts) (id + length (t ∷ ts)) (strings_from (id + 1) ts) (omega arith) (over_strings (id + 1) ts))

pub under_strings : (low id : ℕ) (ts : List (List ℕ)) → low ≤ id → Under low (strings_from id ts)
under_strings low id [] h = under_nil low
under_strings low id (t ∷ ts) h = under_append low (string_line id t ∷ []) (strings_from (id + 1) ts) (under_one (string_line id t) id low refl h) (under_strings low (id + 1) ts (omega (arith, h)))

pub under_constants : (low type id : ℕ) (ns : List ℕ) → low ≤ id → Under low (constants_from type id ns)
under_constants low type id [] h = under_nil low
under_constants low type id (n ∷ ns) h = under_append low (constant_line type id n ∷ []) (constants_from type (id + 1) ns) (under_one (constant_line type id n) id low refl h) (under_constants low type (id + 1) ns (omega (arith, h)))

pub under_args : (low void set kernel text number line : ℕ) (as_ : List ArgRow) → low ≤ line → Under low (lines_of_args void set kernel text number line as_)
under_args low void set kernel text number line [] h = under_nil low
under_args low void set kernel text number line (a ∷ as_) h =
    let one = Writing.extended_line void set line 2 (text ∷ []) in
    let two = Writing.buffer_line void set kernel number line in
    let others = lines_of_args void set kernel (text + 1) (number + 3) (line + 2) as_ in
    under_append low (one ∷ []) (two ∷ others) (under_one one line low refl h)
    (under_append low (two ∷ []) others (under_one two (line + 1) low refl (omega (arith, h))) (under_args low void set kernel (text + 1) (number + 3) (line + 2) as_ (omega (arith, h))))

pub under_kernels : (low void set text number line : ℕ) (ks : List KernelRow) → low ≤ line → Under low (lines_of_kernels void set text number line ks)
under_kernels low void set text number line [] h = under_nil low
under_kernels low void set text number line (k ∷ ks) h =
    let one = Writing.extended_line void set line 1 (k.function ∷ text ∷ []) in
    let mine = lines_of_args void set line (text + 1) number (line + 1) k.args in
    let others = lines_of_kernels void set (text + 1 + length k.args) (number + 3 * length k.args) (line + 1 + 2 * length k.args) ks in
    under_append low (one ∷ mine) others
    (under_append low (one ∷ []) mine (under_one one line low refl h) (under_args low void set line (text + 1) number (line + 1) k.args (omega (arith, h))))
    (under_kernels low void set (text + 1 + length k.args) (number + 3 * length k.args) (line + 1 + 2 * length k.args) ks (omega (arith, h)))

pub under_sizes : (low void set number line : ℕ) (sizes : Option (List ℕ)) → low ≤ line → Under low (line_of_sizes void set number line sizes)
under_sizes low void set number line None h = under_nil low
under_sizes low void set number line (Some sizes) h = under_one (Writing.extended_line void set line 12 (number ∷ (number + 1) ∷ (number + 2) ∷ [])) line low refl h

pub under_lines : (low void set text number line : ℕ) (r : Reflection) → low ≤ line → Under low (lines_of void set text number line r)
under_lines low void set text number line r h =
    under_append low (lines_of_kernels void set text number line r.kernels) _ (under_kernels low void set text number line r.kernels h)
    (under_sizes low void set _ _ r.sizes (omega (arith, h)))

-- ---- what was there

pub sections : (section : Section) (is : List Inst) → leading section is ++ behind section is ≡ is
sections section [] = refl
sections section (i ∷ is) = tested (is_in section i.op) (sections section is) where
  tested : (b : Bool) → leading section is ++ behind section is ≡ is → (if b then i ∷ leading section is else []) ++ (if b then behind section is else i ∷ is) ≡ i ∷ is
  tested true e = ap (λ (js : List Inst). i ∷ js) e
  tested false e = refl

module _ (old : List Inst) (bound : ℕ) where
  -- the instructions' ids are below the bound, and none is a reflection line
  pub record IsOld (xs : List Inst) : Type 0 where
    pub ids : All (IsIdBelow bound) (flat_map ids_of xs)
    pub bare : lines_in old xs ≡ []

  result_is_other : (o : Option ℕ) (id : ℕ) → IsSomeBelow bound o → bound ≤ id → is_result o id ≡ false
  result_is_other None id p h = refl
  result_is_other (Some n) id p h = ne_eqb n id (λ e. omega (arith, e, h, p.below))

  pub over_old : (xs : List Inst) → All (IsIdBelow bound) (flat_map ids_of xs) → (id : ℕ) → bound ≤ id → definition_in xs id ≡ None
  over_old [] p id h = refl
  over_old (x ∷ xs) p id h =
      let b = said_below bound x (All-left (IsIdBelow bound) (ids_of x) (flat_map ids_of xs) p) in
      if_false (is_result (result_of (said x)) id) (Some (said x)) (definition_in xs id) (result_is_other (result_of (said x)) id b.result h)
      ∙ over_old xs (All-right (IsIdBelow bound) (ids_of x) (flat_map ids_of xs) p) id h

  -- a function that is defined has an id below the bound
  here : (s : Said) (id f : ℕ) → IsSomeBelow bound (result_of s) → function_by (Some s) ≡ Some f → is_result (result_of s) id ≡ true → IsIdBelow bound f
  here (Function t r type) id f p e h = let same : r ≡ f = cc in subst (IsIdBelow bound) same p
  here _ id f p e h = absurd (cc)

  pub function_found : (xs : List Inst) (id f : ℕ) → All (IsIdBelow bound) (flat_map ids_of xs) → function_by (definition_in xs id) ≡ Some f → IsIdBelow bound f
  function_found [] id f p e = absurd (cc)
  function_found (x ∷ xs) id f p e =
      let b = said_below bound x (All-left (IsIdBelow bound) (ids_of x) (flat_map ids_of xs) p) in
      tested (is_result (result_of (said x)) id) refl e (function_found xs id f (All-right (IsIdBelow bound) (ids_of x) (flat_map ids_of xs) p)) b.result where
        tested : (c : Bool) → is_result (result_of (said x)) id ≡ c → function_by (if c then Some (said x) else definition_in xs id) ≡ Some f → (function_by (definition_in xs id) ≡ Some f → IsIdBelow bound f) → IsSomeBelow bound (result_of (said x)) → IsIdBelow bound f
        tested true g h k q = here (said x) id f q h g
        tested false g h k q = k h

  -- what is found is what is wanted
  pub record IsFound (w : Wanted) (id : ℕ) : Type 0 where
    pub is : is_wanted w (definition_in old id) ≡ true
    pub id_below : IsIdBelow bound id

  made_found : (w : Wanted) (b : Bool) (o : Option ℕ) (id : ℕ) → IsSomeBelow bound o → (if b then (o >>= λ id. only_if (is_wanted w (definition_in old id)) id) else None) ≡ Some id → IsFound w id
  made_found w false o id p e = absurd (cc)
  made_found w true None id p e = absurd (cc)
  made_found w true (Some n) id p e = tested (is_wanted w (definition_in old n)) refl e where
    tested : (b : Bool) → is_wanted w (definition_in old n) ≡ b → only_if b n ≡ Some id → IsFound w id
    tested true f g = let same : n ≡ id = cc in subst (IsFound w) same (record { is = f; id_below = p })
    tested false f g = absurd (cc)

  pub find_found : (w : Wanted) (xs : List Inst) (id : ℕ) → All (IsIdBelow bound) (flat_map ids_of xs) → find_in old w xs ≡ Some id → IsFound w id
  find_found w [] id p e = absurd (cc)
  find_found w (x ∷ xs) id p e =
      let b = said_below bound x (All-left (IsIdBelow bound) (ids_of x) (flat_map ids_of xs) p) in
      either (made_by old w x) (made_found w (x.op == op_of w) (result_of (said x)) id b.result) (find_found w xs id (All-right (IsIdBelow bound) (ids_of x) (flat_map ids_of xs) p)) e where
        either : (o : Option ℕ) → (o ≡ Some id → IsFound w id) → (find_in old w xs ≡ Some id → IsFound w id) → or_else o (find_in old w xs) ≡ Some id → IsFound w id
        either None f g h = g h
        either (Some n) f g h = f h

  -- in a body with the same definitions below the bound they still are no lines
  module _ (body : List Inst) (same : (id : ℕ) → id < bound → definition_in body id ≡ definition_in old id) where
    no_line : (s : Said) → IsSomeBelow bound (set_of s) → line_of old s ≡ None → line_of body s ≡ None
    no_line (Extended t r set number os) p e = tested (is_reflection (definition_in old set)) _ _ (ap is_reflection (same set p.below)) e where
      tested : (b : Bool) (x y : Line) → is_reflection (definition_in body set) ≡ b → only_if b x ≡ None → only_if (is_reflection (definition_in body set)) y ≡ None
      tested true x y f g = absurd (cc)
      tested false x y f g = ap (λ (c : Bool). only_if c y) f
    no_line _ p e = refl

    pub still_bare : (xs : List Inst) → All (IsIdBelow bound) (flat_map ids_of xs) → lines_in old xs ≡ [] → lines_in body xs ≡ []
    still_bare [] p e = refl
    still_bare (x ∷ xs) p e =
        let b = said_below bound x (All-left (IsIdBelow bound) (ids_of x) (flat_map ids_of xs) p) in
        none (line_of old (said x)) (no_line (said x) b.set) (still_bare xs (All-right (IsIdBelow bound) (ids_of x) (flat_map ids_of xs) p)) e where
          none : (o : Option Line) → (o ≡ None → line_of body (said x) ≡ None) → (lines_in old xs ≡ [] → lines_in body xs ≡ []) → with_line o (lines_in old xs) ≡ [] → with_line (line_of body (said x)) (lines_in body xs) ≡ []
          none None f g h = ap (λ (q : Option Line). with_line q (lines_in body xs)) (f refl) ∙ g h
          none (Some l) f g h = absurd (cc)
