-- The constants of a kernel's terms: each literal's id has its number.
use Rattle.std.proofs.Common.{◌≡◌, ℕ, ◌+◌, ◌≤◌, List, [], ◌∷◌, ◌++◌, Option, Some, None, Bool, true, false, cond, refl, ap, ◌∙◌, subst, arith, nat_lt, eq-eqb, ltb-true, append_assoc}
use Rattle.spv_module.specs.declared.module.Inst.{Inst}
use Rattle.spv_module.specs.declared.module.Operand.TheVariants.{Id, Word}
use Rattle.spv_module.specs.declared.op.TheConstants as op
use Rattle.clv_engine.specs.declared.form.Kernel.{Kernel}
use Rattle.clv_engine.specs.declared.form.Term.{Term}
use Rattle.clv_engine.specs.declared.form.Term.TheVariants.{GlobalId, Literal}
use Rattle.clv_engine.specs.declared.id.TheConstants as id
use Rattle.spv_module.specs.Instructions.{Constant, result_of, is_result, said, definition_in}
use Rattle.clv_engine.specs.Emitted.{inst, head, constants_from, body_of}
use Rattle.clv_engine.proofs.NumberTests.{other_number}

-- definitions
definition_here : (i : Inst) (is : List Inst) (id : ℕ) → is_result (result_of (said i)) id ≡ true → definition_in (i ∷ is) id ≡ Some (said i)
definition_here i is id e = ap (λ b. cond b (Some (said i)) (definition_in is id)) e

definition_later : (i : Inst) (is : List Inst) (id : ℕ) → is_result (result_of (said i)) id ≡ false → definition_in (i ∷ is) id ≡ definition_in is id
definition_later i is id e = ap (λ b. cond b (Some (said i)) (definition_in is id)) e

-- a term's constant
abbrev uint_constant : ℕ → ℕ → Inst
uint_constant r n = inst op.CONSTANT (Id id.UINT ∷ Id r ∷ Word n ∷ [])

-- each literal's id from `next` on is defined as its number
abbrev pub Finds : List Inst → ℕ → List Term → Type 0
Finds body next [] = Unit {0}
Finds body next (GlobalId ∷ ts) = Finds body (next + 3) ts
Finds body next (Literal n ∷ ts) = (definition_in body next ≡ Some (Constant id.UINT next n)) × Finds body (next + 3) ts

-- a front that defines no id from next on
abbrev Skips : ℕ → List Inst → Type 0
Skips next front = (target : ℕ) → next ≤ target → (rest : List Inst) → definition_in (front ++ rest) target ≡ definition_in rest target

skips_constant : (next n : ℕ) (front : List Inst) → Skips next front → Skips (next + 3) (front ++ uint_constant next n ∷ [])
skips_constant next n front skips target low rest =
    ap (λ l. definition_in l target) (append_assoc front (uint_constant next n ∷ []) rest) ∙ skips target (omega arith) (uint_constant next n ∷ rest) ∙ definition_later (uint_constant next n) rest target (other_number next target (λ e. omega arith))

finds_from : (next : ℕ) (ts : List Term) (front rest : List Inst) → Skips next front → Finds (front ++ (constants_from next ts ++ rest)) next ts
finds_from next [] front rest skips = tt
finds_from next (GlobalId ∷ ts) front rest skips = finds_from (next + 3) ts front rest (λ target low. skips target (omega arith))
finds_from next (Literal n ∷ ts) front rest skips =
    let behind = constants_from (next + 3) ts ++ rest in (
      skips next (omega arith) (uint_constant next n ∷ behind) ∙ definition_here (uint_constant next n) behind next (eq-eqb next next refl),
      subst (λ l. Finds l (next + 3) ts) (append_assoc front (uint_constant next n ∷ []) behind) (finds_from (next + 3) ts (front ++ uint_constant next n ∷ []) rest (skips_constant next n front skips)),
    )

abbrev is_below : ℕ → Option ℕ → Bool
is_below n None = true
is_below n (Some r) = nat_lt r n

abbrev are_below : ℕ → List Inst → Bool
are_below n [] = true
are_below n (i ∷ is) = cond (is_below n (result_of (said i))) (are_below n is) false

other_result : (n target : ℕ) (r : Option ℕ) → is_below n r ≡ true → n ≤ target → is_result r target ≡ false
other_result n target None e low = refl
other_result n target (Some r) e low = let h = ltb-true r n e in other_number r target (λ same. omega arith)

both_true : (a b : Bool) → cond a b false ≡ true → (a ≡ true) × (b ≡ true)
both_true true b e = (refl, e)
both_true false b e = absurd (cc)

skips_below : (n : ℕ) (is : List Inst) → are_below n is ≡ true → Skips n is
skips_below n [] e target low rest = refl
skips_below n (i ∷ is) e target low rest =
    let b = both_true (is_below n (result_of (said i))) (are_below n is) e in
    definition_later i (is ++ rest) target (other_result n target (result_of (said i)) b.0 low) ∙ skips_below n is b.1 target low rest

pub literals_found : (k : Kernel) → Finds (body_of k) id.TERMS k.terms
literals_found k = finds_from id.TERMS k.terms (head k) _ (skips_below id.TERMS (head k) refl)
