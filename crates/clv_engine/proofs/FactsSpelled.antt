-- The module of a kernel is one that some bytes stand for, and it's small.
use Rattle.std.proofs.Common.{◌≡◌, ℕ, ◌+◌, ◌*◌, ◌^◌, ◌<◌, ◌≤◌, List, [], ◌∷◌, ◌++◌, length, true, codes, refl, le_trans, arith}
use Rattle.std.specs.Prelude.{All}
use Rattle.std.specs.List.{flat_map}
use Rattle.std.proofs.lemmas.Bool.Decides.{nat_tests}
use Rattle.std.proofs.lemmas.List.Elements.{All-from_recursion, All-head, All-tail}
use Rattle.spv_module.specs.declared.module.Inst.{Inst}
use Rattle.spv_module.specs.declared.module.Operand.TheVariants.{Id, Word}
use Rattle.spv_module.specs.declared.op.TheConstants as op
use Rattle.spv_module.specs.Grammar.{row_of}
use Rattle.spv_module.specs.Words.{IsIdBelow, IsString, AreSpelled, IsSpelled, ids_of, numbers_of, texts_of, body_words, module_words}
use Rattle.spv_module.proofs.Spelling.{AreSpelled-nil, AreSpelled-append, AreSpelled-larger}
use Rattle.spv_module.proofs.Tests.{HasForm-tested, HasCount-tested, IsIdBelow-tested, IsWord-tested, IsString-ascii, AreSpelled-tested, AreSpelled-given}
use Rattle.spv_module.proofs.Lengths.{length-body_words-append, length-module_words}
use Rattle.clv_engine.specs.declared.form.Kernel.{Kernel}
use Rattle.clv_engine.specs.declared.form.Term.{Term}
use Rattle.clv_engine.specs.declared.form.Term.TheVariants.{GlobalId, Literal}
use Rattle.clv_engine.specs.declared.id.TheConstants as id
use Rattle.clv_engine.specs.FirstForm.{is_lower_case, IsTerm, IsKernel}
use Rattle.clv_engine.specs.Emitted.{inst, head, constants_from, function_begin, global_id, term, value, sums_from, sum_from, terms, sum, function_end, reflection, body_of, bound_of, module_of}
use Rattle.clv_engine.proofs.FactsScans.{code_of}

-- ---- what stands in any kernel's module

letter_string : (c : ℕ) → is_lower_case c ≡ true → IsString (c ∷ [])
letter_string c h = IsString-ascii (c ∷ []) (grind (arith, nat_tests))

head_spelled : (k : Kernel) → IsKernel k → AreSpelled id.TERMS (head k)
unfolding row_of
head_spelled k h = record {
  forms = HasForm-tested (head k) refl;
  counts = HasCount-tested (head k) refl;
  ids = IsIdBelow-tested id.TERMS (flat_map ids_of (head k)) refl;
  numbers = IsWord-tested (flat_map numbers_of (head k)) refl;
  texts =
      let name = letter_string k.name h.name in
      let argument = letter_string k.argument h.argument in
      All-from_recursion IsString (flat_map texts_of (head k))
      (IsString-ascii (codes "SPV_KHR_non_semantic_info") refl, (IsString-ascii (codes "NonSemantic.ClspvReflection.1") refl, (name, (name, (argument, tt)))));
}

function_begin_spelled : AreSpelled id.TERMS function_begin
unfolding row_of
function_begin_spelled = AreSpelled-tested id.TERMS function_begin refl

reflection_spelled : AreSpelled id.TERMS reflection
unfolding row_of
reflection_spelled = AreSpelled-tested id.TERMS reflection refl

-- ---- what stands for terms

module _ (bound : ℕ) (more : id.TERMS ≤ bound) where
  function_end_spelled : (result : ℕ) → IsIdBelow bound result → AreSpelled bound (function_end result)
  unfolding row_of
  function_end_spelled result p = AreSpelled-given bound (function_end result) refl refl (omega arith) tt tt

  constant_spelled : (r n : ℕ) → 1 ≤ r → r < bound → n ≤ 2147483647 → AreSpelled bound (inst op.CONSTANT (Id id.UINT ∷ Id r ∷ Word n ∷ []) ∷ [])
  unfolding row_of
  constant_spelled r n p q h = AreSpelled-given bound (inst op.CONSTANT (Id id.UINT ∷ Id r ∷ Word n ∷ []) ∷ []) refl refl (omega arith) (omega arith) tt

  global_id_spelled : (r : ℕ) → 1 ≤ r → r + 1 < bound → AreSpelled bound (global_id r)
  unfolding row_of
  global_id_spelled r p q = AreSpelled-given bound (global_id r) refl refl (omega arith) (omega arith) tt

  add_spelled : (r a b : ℕ) → IsIdBelow bound r → IsIdBelow bound a → IsIdBelow bound b → AreSpelled bound (inst op.I_ADD (Id id.UINT ∷ Id r ∷ Id a ∷ Id b ∷ []) ∷ [])
  unfolding row_of
  add_spelled r a b p q s = AreSpelled-given bound (inst op.I_ADD (Id id.UINT ∷ Id r ∷ Id a ∷ Id b ∷ []) ∷ []) refl refl (omega arith) tt tt

  constants_spelled : (next : ℕ) (ts : List Term) → 1 ≤ next → next + 3 * length ts ≤ bound → All IsTerm ts → AreSpelled bound (constants_from next ts)
  constants_spelled next [] p q h = AreSpelled-nil bound
  constants_spelled next (GlobalId ∷ ts) p q h = constants_spelled (next + 3) ts (omega arith) (omega arith) (All-tail IsTerm GlobalId ts h)
  constants_spelled next (Literal n ∷ ts) p q h =
      AreSpelled-append bound (inst op.CONSTANT (Id id.UINT ∷ Id next ∷ Word n ∷ []) ∷ []) (constants_from (next + 3) ts)
      (constant_spelled next n p (omega arith) (All-head IsTerm (Literal n) ts h))
      (constants_spelled (next + 3) ts (omega arith) (omega arith) (All-tail IsTerm (Literal n) ts h))

  term_spelled : (next : ℕ) (t : Term) → 1 ≤ next → next + 3 ≤ bound → AreSpelled bound (term next t)
  term_spelled next GlobalId p q = global_id_spelled next p (omega arith)
  term_spelled next (Literal n) p q = AreSpelled-nil bound

  value_below : (next : ℕ) (t : Term) → 1 ≤ next → next + 3 ≤ bound → IsIdBelow bound (value next t)
  value_below next GlobalId p q = omega arith
  value_below next (Literal n) p q = omega arith

  sums_spelled : (next so_far : ℕ) (ts : List Term) → 1 ≤ next → next + 3 * length ts ≤ bound → IsIdBelow bound so_far → AreSpelled bound (sums_from next so_far ts)
  sums_spelled next so_far [] p q s = AreSpelled-nil bound
  sums_spelled next so_far (t ∷ ts) p q s =
      AreSpelled-append bound (term next t) (inst op.I_ADD (Id id.UINT ∷ Id (next + 2) ∷ Id so_far ∷ Id (value next t) ∷ []) ∷ sums_from (next + 3) (next + 2) ts)
      (term_spelled next t p (omega arith))
      (AreSpelled-append bound (inst op.I_ADD (Id id.UINT ∷ Id (next + 2) ∷ Id so_far ∷ Id (value next t) ∷ []) ∷ []) (sums_from (next + 3) (next + 2) ts)
      (add_spelled (next + 2) so_far (value next t) (omega arith) s (value_below next t p (omega arith)))
      (sums_spelled (next + 3) (next + 2) ts (omega arith) (omega arith) (omega arith)))

  terms_spelled : (ts : List Term) → id.TERMS + 3 * length ts ≤ bound → AreSpelled bound (terms ts)
  terms_spelled [] h = AreSpelled-nil bound
  terms_spelled (t ∷ ts) h =
      AreSpelled-append bound (term id.TERMS t) (sums_from (id.TERMS + 3) (value id.TERMS t) ts)
      (term_spelled id.TERMS t (omega arith) (omega arith))
      (sums_spelled (id.TERMS + 3) (value id.TERMS t) ts (omega arith) (omega arith) (value_below id.TERMS t (omega arith) (omega arith)))

  sum_from_below : (next so_far : ℕ) (ts : List Term) → next + 3 * length ts ≤ bound → IsIdBelow bound so_far → IsIdBelow bound (sum_from next so_far ts)
  sum_from_below next so_far [] h p = p
  sum_from_below next so_far (t ∷ ts) h p = sum_from_below (next + 3) (next + 2) ts (omega arith) (omega arith)

  sum_below : (ts : List Term) → id.TERMS + 3 * length ts ≤ bound → IsIdBelow bound (sum ts)
  sum_below [] h = omega arith
  sum_below (t ∷ ts) h = sum_from_below (id.TERMS + 3) (value id.TERMS t) ts (omega arith) (value_below id.TERMS t (omega arith) (omega arith))

body_spelled : (k : Kernel) → IsKernel k → AreSpelled (bound_of k) (body_of k)
body_spelled k h =
    let more : id.TERMS ≤ bound_of k = omega arith in
    let all : id.TERMS + 3 * length k.terms ≤ bound_of k = omega arith in
    AreSpelled-append (bound_of k) (head k) _ (AreSpelled-larger id.TERMS (bound_of k) (head k) more (head_spelled k h))
    (AreSpelled-append (bound_of k) (constants_from id.TERMS k.terms) _ (constants_spelled (bound_of k) more id.TERMS k.terms (omega arith) all h.terms)
    (AreSpelled-append (bound_of k) function_begin _ (AreSpelled-larger id.TERMS (bound_of k) function_begin more function_begin_spelled)
    (AreSpelled-append (bound_of k) (global_id id.PLACE) _ (global_id_spelled (bound_of k) more id.PLACE (omega arith) (omega arith))
    (AreSpelled-append (bound_of k) (terms k.terms) _ (terms_spelled (bound_of k) more k.terms all)
    (AreSpelled-append (bound_of k) (function_end (sum k.terms)) reflection (function_end_spelled (bound_of k) more (sum k.terms) (sum_below (bound_of k) more k.terms all))
    (AreSpelled-larger id.TERMS (bound_of k) reflection more reflection_spelled))))))

-- ---- how many words there are

constants_words : (next : ℕ) (ts : List Term) → length (body_words (constants_from next ts)) ≤ 4 * length ts
constants_words next [] = omega arith
constants_words next (GlobalId ∷ ts) = omega (arith, constants_words (next + 3) ts)
constants_words next (Literal n ∷ ts) = omega (arith, constants_words (next + 3) ts)

sums_words : (next so_far : ℕ) (ts : List Term) → length (body_words (sums_from next so_far ts)) ≤ 14 * length ts
sums_words next so_far [] = omega arith
sums_words next so_far (GlobalId ∷ ts) = omega (arith, sums_words (next + 3) (next + 2) ts)
sums_words next so_far (Literal n ∷ ts) = omega (arith, sums_words (next + 3) (next + 2) ts)

terms_words : (ts : List Term) → length (body_words (terms ts)) ≤ 14 * length ts
terms_words [] = omega arith
terms_words (GlobalId ∷ ts) = omega (arith, sums_words (id.TERMS + 3) (id.TERMS + 1) ts)
terms_words (Literal n ∷ ts) = omega (arith, sums_words (id.TERMS + 3) id.TERMS ts)

words_together : (front back : List Inst) (m n : ℕ) → length (body_words front) ≤ m → length (body_words back) ≤ n → length (body_words (front ++ back)) ≤ m + n
words_together front back m n p q = omega (arith, length-body_words-append front back)

code_words : (ts : List Term) → length (body_words (code_of ts)) ≤ 14 * length ts + 100
code_words ts = let p = words_together (terms ts) (function_end (sum ts) ++ reflection) (14 * length ts) 60 (terms_words ts) (omega arith) in omega arith

words_of_body : (k : Kernel) → IsKernel k → length (body_words (body_of k)) ≤ 2080
words_of_body k h =
    let few = h.few in
    let p = words_together (constants_from id.TERMS k.terms) (code_of k.terms) (4 * length k.terms) (14 * length k.terms + 100) (constants_words id.TERMS k.terms) (code_words k.terms) in
    let q : length (body_words (head k)) ≤ 180 = omega arith in
    le_trans (words_together (head k) (constants_from id.TERMS k.terms ++ code_of k.terms) 180 (4 * length k.terms + (14 * length k.terms + 100)) q p) (omega arith)

-- ---- all of it

pub is_spelled : (k : Kernel) → IsKernel k → IsSpelled (module_of k)
is_spelled k h = record {
  version = refl;
  generator = omega arith;
  bound_low = omega arith;
  bound_high = let few = h.few in omega arith;
  body = body_spelled k h;
  size = let e = words_of_body k h in omega (arith, length-module_words (module_of k));
}

pub small : (k : Kernel) → IsKernel k → (4 * length (module_words (module_of k)) ≤ 2 ^ 28) × (bound_of k ≤ 4194303)
small k h = let s = is_spelled k h in (s.size, s.bound_high)
