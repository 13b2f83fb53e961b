-- The body with the lines is still one that some words stand for.
use Rattle.std.proofs.Common.{◌≡◌, ℕ, ◌+◌, ◌*◌, ◌≤◌, ◌<◌, ◌^◌, List, [], ◌∷◌, ◌++◌, length, codes, Option, Some, None, refl, sym, ap, subst, ◌∙◌, arith}
use Rattle.std.specs.Prelude.{All}
use Rattle.std.specs.List.{flat_map, AllByRecursion}
use Rattle.std.proofs.lemmas.List.Elements.{All-from_recursion, All-head, All-tail, All-nil, All-weaker}
use Rattle.spv_module.specs.declared.module.Inst.{Inst}
use Rattle.spv_module.specs.declared.module.Module.{Module}
use Rattle.spv_module.specs.Grammar.{row_of}
use Rattle.spv_module.specs.Words.{HasCount, IsIdBelow, IsWord, IsString, AreSpelled, IsSpelled, ids_of, numbers_of as numbers_in, texts_of as texts_in, module_words}
use Rattle.spv_module.specs.declared.module.TheConstants.{MAX_BOUND, MAX_BYTES}
use Rattle.spv_module.specs.Instructions.{definition_in}
use Rattle.spv_module.specs.Options.{or_default}
use Rattle.spv_reflect.specs.Reflection.{lines_in, rows_of}
use Rattle.spv_module.proofs.Spelling.{AreSpelled-nil, AreSpelled-append, AreSpelled-larger}
use Rattle.spv_module.proofs.Tests.{HasForm-tested, HasCount-tested, IsString-ascii, AreSpelled-given}
use Rattle.spv_reflect.specs.declared.choice.Wanted.{Wanted}
use Rattle.spv_reflect.specs.declared.choice.Wanted.TheVariants as wanted
use Rattle.spv_reflect.specs.declared.rows.ArgRow.{ArgRow}
use Rattle.spv_reflect.specs.declared.rows.KernelRow.{KernelRow}
use Rattle.spv_reflect.specs.declared.rows.Reflection.{Reflection}
use Rattle.spv_reflect.specs.Writing.{import_line, string_line, void_line, word_type_line, constant_line, extended_line, buffer_line, strings_from, constants_from, lines_of_args, lines_of_kernels, line_of_sizes, lines_of, texts_of, numbers_of, args_in, other_rows, lines_among, rows_among, find_in, new_one, count_new, new_body, new_bound, IsShortString, IsFunctionRow, AreThree, AreOfBuffers, StaysSpelled}
use Rattle.spv_reflect.proofs.Counts.{length-texts_of, length-numbers_of}
use Rattle.spv_reflect.proofs.Defined.{find_found}
use Rattle.spv_reflect.proofs.Parts

module _ (bound : ℕ) where
  import_spelled : (id : ℕ) → IsIdBelow bound id → AreSpelled bound (import_line id ∷ [])
  unfolding row_of
  import_spelled id p = AreSpelled-given bound (import_line id ∷ []) refl refl (p, tt) tt (IsString-ascii (codes "NonSemantic.ClspvReflection.1") refl, tt)

  void_spelled : (id : ℕ) → IsIdBelow bound id → AreSpelled bound (void_line id ∷ [])
  unfolding row_of
  void_spelled id p = AreSpelled-given bound (void_line id ∷ []) refl refl (p, tt) tt tt

  word_spelled : (id : ℕ) → IsIdBelow bound id → AreSpelled bound (word_type_line id ∷ [])
  unfolding row_of
  word_spelled id p = AreSpelled-given bound (word_type_line id ∷ []) refl refl (p, tt) (record { below = omega arith }, (record { below = omega arith }, tt)) tt

  new_spelled : (o : Option ℕ) (i : Inst) → AreSpelled bound (i ∷ []) → AreSpelled bound (new_one o i)
  new_spelled None i p = p
  new_spelled (Some id) i p = AreSpelled-nil bound

  string_spelled : (id : ℕ) (t : List ℕ) → IsIdBelow bound id → IsShortString t → AreSpelled bound (string_line id t ∷ [])
  unfolding row_of
  string_spelled id t p s = record {
    forms = HasForm-tested (string_line id t ∷ []) refl;
    counts = All-from_recursion HasCount (string_line id t ∷ []) (record { count = s.short.count }, tt);
    ids = All-from_recursion (IsIdBelow bound) (flat_map ids_of (string_line id t ∷ [])) (p, tt);
    numbers = All-nil IsWord;
    texts = All-from_recursion IsString (flat_map texts_in (string_line id t ∷ [])) (s.string, tt);
  }

  strings_spelled : (id : ℕ) (ts : List (List ℕ)) → 1 ≤ id → id + length ts ≤ bound → All IsShortString ts → AreSpelled bound (strings_from id ts)
  strings_spelled id [] low h s = AreSpelled-nil bound
  strings_spelled id (t ∷ ts) low h s =
      AreSpelled-append bound (string_line id t ∷ []) (strings_from (id + 1) ts) (string_spelled id t (record { positive = low; below = omega (arith, h) }) (All-head IsShortString t ts s))
      (strings_spelled (id + 1) ts (omega (arith, low)) (omega (arith, h)) (All-tail IsShortString t ts s))

  constant_spelled : (type id n : ℕ) → IsIdBelow bound type → IsIdBelow bound id → IsWord n → AreSpelled bound (constant_line type id n ∷ [])
  unfolding row_of
  constant_spelled type id n p q w = AreSpelled-given bound (constant_line type id n ∷ []) refl refl (p, (q, tt)) (w, tt) tt

  constants_spelled : (type id : ℕ) (ns : List ℕ) → IsIdBelow bound type → 1 ≤ id → id + length ns ≤ bound → AllByRecursion IsWord ns → AreSpelled bound (constants_from type id ns)
  constants_spelled type id [] p low h w = AreSpelled-nil bound
  constants_spelled type id (n ∷ ns) p low h w =
      AreSpelled-append bound (constant_line type id n ∷ []) (constants_from type (id + 1) ns) (constant_spelled type id n p (record { positive = low; below = omega (arith, h) }) w.0)
      (constants_spelled type (id + 1) ns p (omega (arith, low)) (omega (arith, h)) w.1)

  module _ (void set : ℕ) (pv : IsIdBelow bound void) (ps : IsIdBelow bound set) where
    name_spelled : (id text : ℕ) → IsIdBelow bound id → IsIdBelow bound text → AreSpelled bound (extended_line void set id 2 (text ∷ []) ∷ [])
    unfolding row_of
    name_spelled id text p q = AreSpelled-given bound (extended_line void set id 2 (text ∷ []) ∷ []) refl refl (pv, (p, (ps, (q, tt)))) (record { below = omega arith }, tt) tt

    kernel_spelled : (id f text : ℕ) → IsIdBelow bound id → IsIdBelow bound f → IsIdBelow bound text → AreSpelled bound (extended_line void set id 1 (f ∷ text ∷ []) ∷ [])
    unfolding row_of
    kernel_spelled id f text p q s = AreSpelled-given bound (extended_line void set id 1 (f ∷ text ∷ []) ∷ []) refl refl (pv, (p, (ps, (q, (s, tt))))) (record { below = omega arith }, tt) tt

    sizes_spelled : (id x y z : ℕ) → IsIdBelow bound id → IsIdBelow bound x → IsIdBelow bound y → IsIdBelow bound z → AreSpelled bound (extended_line void set id 12 (x ∷ y ∷ z ∷ []) ∷ [])
    unfolding row_of
    sizes_spelled id x y z p q s u = AreSpelled-given bound (extended_line void set id 12 (x ∷ y ∷ z ∷ []) ∷ []) refl refl (pv, (p, (ps, (q, (s, (u, tt)))))) (record { below = omega arith }, tt) tt

    buffer_spelled : (id k x y z name : ℕ) → IsIdBelow bound id → IsIdBelow bound k → IsIdBelow bound x → IsIdBelow bound y → IsIdBelow bound z → IsIdBelow bound name → AreSpelled bound (extended_line void set id 3 (k ∷ x ∷ y ∷ z ∷ name ∷ []) ∷ [])
    unfolding row_of
    buffer_spelled id k x y z name p q s u v w = AreSpelled-given bound (extended_line void set id 3 (k ∷ x ∷ y ∷ z ∷ name ∷ []) ∷ []) refl refl (pv, (p, (ps, (q, (s, (u, (v, (w, tt)))))))) (record { below = omega arith }, tt) tt

    args_spelled : (kernel text number line : ℕ) (as_ : List ArgRow) → IsIdBelow bound kernel → 1 ≤ text → 1 ≤ number → 1 ≤ line → text + length as_ ≤ bound → number + 3 * length as_ ≤ bound → line + 2 * length as_ ≤ bound → AreSpelled bound (lines_of_args void set kernel text number line as_)
    args_spelled kernel text number line [] k lt ln ll ht hn hl = AreSpelled-nil bound
    args_spelled kernel text number line (a ∷ as_) k lt ln ll ht hn hl =
        AreSpelled-append bound (extended_line void set line 2 (text ∷ []) ∷ []) _
        (name_spelled line text (record { positive = ll; below = omega (arith, hl) }) (record { positive = lt; below = omega (arith, ht) }))
        (AreSpelled-append bound (buffer_line void set kernel number line ∷ []) (lines_of_args void set kernel (text + 1) (number + 3) (line + 2) as_)
        (buffer_spelled (line + 1) kernel number (number + 1) (number + 2) line
        (record { positive = omega arith; below = omega (arith, hl) }) k (record { positive = ln; below = omega (arith, hn) }) (record { positive = omega arith; below = omega (arith, hn) }) (record { positive = omega arith; below = omega (arith, hn) }) (record { positive = ll; below = omega (arith, hl) }))
        (args_spelled kernel (text + 1) (number + 3) (line + 2) as_ k (omega arith) (omega arith) (omega arith) (omega (arith, ht)) (omega (arith, hn)) (omega (arith, hl))))

    kernels_spelled : (text number line : ℕ) (ks : List KernelRow) → All (λ k. IsIdBelow bound k.function) ks → 1 ≤ text → 1 ≤ number → 1 ≤ line → text + length ks + args_in ks ≤ bound → number + 3 * args_in ks ≤ bound → line + length ks + 2 * args_in ks ≤ bound → AreSpelled bound (lines_of_kernels void set text number line ks)
    kernels_spelled text number line [] f lt ln ll ht hn hl = AreSpelled-nil bound
    kernels_spelled text number line (k ∷ ks) f lt ln ll ht hn hl =
        let id : IsIdBelow bound line = record { positive = ll; below = omega (arith, hl) } in
        AreSpelled-append bound (extended_line void set line 1 (k.function ∷ text ∷ []) ∷ lines_of_args void set line (text + 1) number (line + 1) k.args) (lines_of_kernels void set (text + 1 + length k.args) (number + 3 * length k.args) (line + 1 + 2 * length k.args) ks)
        (AreSpelled-append bound (extended_line void set line 1 (k.function ∷ text ∷ []) ∷ []) (lines_of_args void set line (text + 1) number (line + 1) k.args)
        (kernel_spelled line k.function text id (All-head (λ (k : KernelRow). IsIdBelow bound k.function) k ks f) (record { positive = lt; below = omega (arith, ht) }))
        (args_spelled line (text + 1) number (line + 1) k.args id (omega arith) ln (omega arith) (omega (arith, ht)) (omega (arith, hn)) (omega (arith, hl))))
        (kernels_spelled (text + 1 + length k.args) (number + 3 * length k.args) (line + 1 + 2 * length k.args) ks (All-tail (λ (k : KernelRow). IsIdBelow bound k.function) k ks f) (omega arith) (omega (arith, ln)) (omega arith) (omega (arith, ht)) (omega (arith, hn)) (omega (arith, hl)))

    size_spelled : (number line : ℕ) (sizes : Option (List ℕ)) → 1 ≤ number → 1 ≤ line → number + 3 * other_rows sizes ≤ bound → line + other_rows sizes ≤ bound → AreSpelled bound (line_of_sizes void set number line sizes)
    size_spelled number line None ln ll hn hl = AreSpelled-nil bound
    size_spelled number line (Some sizes) ln ll hn hl =
        sizes_spelled line number (number + 1) (number + 2) (record { positive = ll; below = omega (arith, hl) }) (record { positive = ln; below = omega (arith, hn) }) (record { positive = omega arith; below = omega (arith, hn) }) (record { positive = omega arith; below = omega (arith, hn) })

-- ---- all of it

larger : (low high n : ℕ) → low ≤ high → IsIdBelow low n → IsIdBelow high n
larger low high n h p = record { positive = p.positive; below = omega (arith, h, p.below) }

few_new : (o : Option ℕ) → count_new o ≤ 1
few_new None = omega arith
few_new (Some id) = omega arith

chosen_below : (old : List Inst) (bound high next : ℕ) (w : Wanted) → All (IsIdBelow bound) (flat_map ids_of old) → bound ≤ high → 1 ≤ next → next + count_new (find_in old w old) ≤ high → IsIdBelow high (or_default (find_in old w old) next)
chosen_below old bound high next w p h low fits = either (find_in old w old) refl fits where
  either : (o : Option ℕ) → find_in old w old ≡ o → next + count_new o ≤ high → IsIdBelow high (or_default o next)
  either None e f = record { positive = low; below = omega (arith, f) }
  either (Some id) e f = let found = find_found old bound w old id p e in larger bound high id h found.id_below

new_spelled_at : (bound : ℕ) (o : Option ℕ) (i : Inst) (id : ℕ) → 1 ≤ id → id + count_new o ≤ bound → (IsIdBelow bound id → AreSpelled bound (i ∷ [])) → AreSpelled bound (new_one o i)
new_spelled_at bound None i id low h f = f (record { positive = low; below = omega (arith, h) })
new_spelled_at bound (Some n) i id low h f = AreSpelled-nil bound

module _ (old : List Inst) (bound : ℕ) (r : Reflection) (spelled : AreSpelled bound old) (low : 1 ≤ bound) (three : AreThree r.sizes) where
  abbrev high : ℕ
  high = new_bound old bound r

  pub higher : bound ≤ new_bound old bound r
  higher = omega arith

  pub not_much : new_bound old bound r ≤ bound + 8 * rows_among r + 16
  not_much =
      omega (arith, few_new (find_in old wanted.Import old), few_new (find_in old wanted.Void old), few_new (find_in old wanted.WordType old), length-texts_of r.kernels, length-numbers_of r three)

  module _ (functions : All (IsFunctionRow old) r.kernels) (names : All IsShortString (texts_of r.kernels)) (words : AllByRecursion IsWord (numbers_of r)) where
    function_below : (k : KernelRow) → IsFunctionRow old k → IsIdBelow high k.function
    function_below k e = larger bound high k.function higher (Parts.function_id old bound spelled k e)

    set_below : IsIdBelow high (Parts.set_id old bound r)
    set_below = chosen_below old bound high bound wanted.Import spelled.ids higher low (omega arith)

    void_below : IsIdBelow high (Parts.void_id old bound r)
    void_below = chosen_below old bound high (Parts.v0 old bound r) wanted.Void spelled.ids higher (omega (arith, low)) (omega arith)

    word_below : IsIdBelow high (Parts.word_id old bound r)
    word_below = chosen_below old bound high (Parts.w0 old bound r) wanted.WordType spelled.ids higher (omega (arith, low)) (omega arith)

    lines_spelled : AreSpelled high (Parts.l_part old bound r)
    lines_spelled =
        let t = length-texts_of r.kernels in
        let n = length-numbers_of r three in
        AreSpelled-append high (lines_of_kernels (Parts.void_id old bound r) (Parts.set_id old bound r) (Parts.t0 old bound r) (Parts.n0 old bound r) (Parts.l0 old bound r) r.kernels) _
        (kernels_spelled high (Parts.void_id old bound r) (Parts.set_id old bound r) void_below set_below (Parts.t0 old bound r) (Parts.n0 old bound r) (Parts.l0 old bound r) r.kernels
        (All-weaker (IsFunctionRow old) (λ (k : KernelRow). IsIdBelow high k.function) function_below r.kernels functions)
        (omega (arith, low)) (omega (arith, low)) (omega (arith, low)) (omega (arith, t)) (omega (arith, n)) (omega arith))
        (size_spelled high (Parts.void_id old bound r) (Parts.set_id old bound r) void_below set_below (Parts.n0 old bound r + 3 * args_in r.kernels) (Parts.l0 old bound r + length r.kernels + 2 * args_in r.kernels) r.sizes
        (omega (arith, low)) (omega (arith, low)) (omega (arith, n)) (omega arith))

    pub body_spelled : AreSpelled high (new_body old bound r)
    body_spelled =
        AreSpelled-append high (Parts.a_part old bound r ++ (Parts.i_part old bound r ++ (Parts.b_part old bound r ++ Parts.s_part old bound r))) _
        (AreSpelled-append high (Parts.a_part old bound r) _ (AreSpelled-larger bound high (Parts.a_part old bound r) higher (Parts.spelled_a old bound r spelled))
        (AreSpelled-append high (Parts.i_part old bound r) _ (new_spelled_at high (find_in old wanted.Import old) (import_line bound) bound low (omega arith) (import_spelled high bound))
        (AreSpelled-append high (Parts.b_part old bound r) (Parts.s_part old bound r) (AreSpelled-larger bound high (Parts.b_part old bound r) higher (Parts.spelled_b old bound r spelled))
        (strings_spelled high (Parts.t0 old bound r) (texts_of r.kernels) (omega (arith, low)) (omega arith) names))))
        (AreSpelled-append high (Parts.c_part old bound r ++ (Parts.v_part old bound r ++ (Parts.w_part old bound r ++ Parts.n_part old bound r))) _
        (AreSpelled-append high (Parts.c_part old bound r) _ (AreSpelled-larger bound high (Parts.c_part old bound r) higher (Parts.spelled_c old bound r spelled))
        (AreSpelled-append high (Parts.v_part old bound r) _ (new_spelled_at high (find_in old wanted.Void old) (void_line (Parts.v0 old bound r)) (Parts.v0 old bound r) (omega (arith, low)) (omega arith) (void_spelled high (Parts.v0 old bound r)))
        (AreSpelled-append high (Parts.w_part old bound r) (Parts.n_part old bound r) (new_spelled_at high (find_in old wanted.WordType old) (word_type_line (Parts.w0 old bound r)) (Parts.w0 old bound r) (omega (arith, low)) (omega arith) (word_spelled high (Parts.w0 old bound r)))
        (constants_spelled high (Parts.word_id old bound r) (Parts.n0 old bound r) (numbers_of r) word_below (omega (arith, low)) (omega arith) words))))
        (AreSpelled-append high (Parts.d_part old bound r) (Parts.l_part old bound r) (AreSpelled-larger bound high (Parts.d_part old bound r) higher (Parts.spelled_d old bound r spelled)) lines_spelled))

-- ---- a module

module _ (m : Module) (r : Reflection) (body : List Inst) (bound : ℕ) (spelled : IsSpelled m) (bare : lines_in m.body m.body ≡ []) (functions : All (IsFunctionRow m.body) r.kernels) (kinds : AreOfBuffers r) (names : All IsShortString (texts_of r.kernels)) (room : m.bound + 8 * rows_among r + 16 ≤ MAX_BOUND) (words : AllByRecursion IsWord (numbers_of r)) (three : AreThree r.sizes) (is_body : body ≡ new_body m.body m.bound r) (is_bound : bound ≡ new_bound m.body m.bound r) where
  pub says_rows : rows_of body ≡ Some r
  says_rows = ap rows_of is_body ∙ Parts.rows_back m.body m.bound r spelled.body bare functions kinds three

  pub keeps_ids : (id : ℕ) → id < m.bound → definition_in body id ≡ definition_in m.body id
  keeps_ids id h = ap (λ (is : List Inst). definition_in is id) is_body ∙ Parts.same m.body m.bound r spelled.body id h

  pub keeps_bound : (m.bound ≤ bound) × (bound ≤ m.bound + 8 * rows_among r + 16)
  keeps_bound = (
    subst (λ n. m.bound ≤ n) (sym is_bound) (higher m.body m.bound r spelled.body spelled.bound_low three),
    subst (λ n. n ≤ m.bound + 8 * rows_among r + 16) (sym is_bound) (not_much m.body m.bound r spelled.body spelled.bound_low three),
  )

  are_spelled : AreSpelled bound body
  are_spelled = subst (λ n. AreSpelled n body) (sym is_bound) (subst (AreSpelled (new_bound m.body m.bound r)) (sym is_body) (body_spelled m.body m.bound r spelled.body spelled.bound_low three functions names words))

  pub stays_spelled : StaysSpelled m (record { version = m.version; generator = m.generator; bound = bound; body = body })
  stays_spelled = record {
    version = refl;
    generator = refl;
    body = are_spelled;
    spelled = λ size. record {
      version = spelled.version;
      generator = spelled.generator;
      bound_low = let h = keeps_bound.0 in omega (arith, h, spelled.bound_low);
      bound_high = let h = keeps_bound.1 in omega (arith, h, room);
      body = are_spelled;
      size = size;
    };
  }
