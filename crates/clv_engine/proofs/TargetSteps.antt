-- The steps of an invocation, one instruction at a time.
use Rattle.std.proofs.Common.{◌≡◌, ℕ, ◌+◌, List, [], ◌∷◌, Some, None, cond, slice_get, refl, ap, ◌∙◌, eq-eqb}
use Rattle.clv_num.specs.Numbers.{add_of}
use Rattle.spv_module.specs.declared.module.Inst.{Inst}
use Rattle.spv_module.specs.declared.module.Operand.TheVariants.{Id, Word}
use Rattle.spv_module.specs.declared.op.TheConstants as op
use Rattle.clv_engine.specs.declared.id.TheConstants as id
use Rattle.spv_module.specs.Options.{◌>>=◌, or_else}
use Rattle.spv_module.specs.Instructions.{Constant, said, definition_in}
use Rattle.clv_engine.specs.Emitted.{inst}
use Rattle.spv_meaning.specs.declared.trap.TrapKind.TheVariants.{Unreachable}
use Rattle.spv_meaning.specs.Invocation.{Value, Scalars, Run, run, Steps, Given, value_among, constant_by, value_at, scalar_by, scalar_at, input_of, loading, giving, extracted, as_scalar, row_by, said_at, status_by, next_by, invocation}
use Rattle.clv_engine.proofs.NumberTests.{other_number}
use Rattle.clv_steps.proofs.Quiet.{Quietly, stays, goes, and_then}

-- one step, by what the instruction there does
pub step : (g : Given) (f p : ℕ) (part : List ℕ) (vs : List (ℕ × Value)) (i : Inst) (to : Run) → slice_get g.body p ≡ Some i → row_by g f p part vs (Some (said i)) ≡ Steps (λ x. to) → Quietly (invocation g) 1 (run f p part vs) to
step g f p part vs i to e row =
    let here : row_by g f p part vs (said_at g.body p) ≡ Steps (λ x. to) = ap (λ o. row_by g f p part vs (o >>= λ j. Some (said j))) e ∙ row in
    goes 0 (run f p part vs) to to (ap (status_by f) here) (λ x. ap (next_by x) here) (stays to)

-- the newest value, and an older one
pub newest : (g : Given) (r : ℕ) (v : Value) (vs : List (ℕ × Value)) → value_at g ((r, v) ∷ vs) r ≡ Some v
newest g r v vs = ap (λ b. or_else (cond b (Some v) (value_among vs r)) (constant_by g (definition_in g.body r))) (eq-eqb r r refl)

pub older : (g : Given) (r i : ℕ) (v : Value) (vs : List (ℕ × Value)) → (r ≡ i → ⊥) → value_at g ((r, v) ∷ vs) i ≡ value_at g vs i
older g r i v vs h = ap (λ b. or_else (cond b (Some v) (value_among vs i)) (constant_by g (definition_in g.body i))) (other_number r i h)

-- a constant of the module, where the block has no value of its id
pub constant_value : (g : Given) (t r n : ℕ) (vs : List (ℕ × Value)) → value_among vs r ≡ None → definition_in g.body r ≡ Some (Constant t r n) → value_at g vs r ≡ Some (Scalars (n ∷ []))
constant_value g t r n vs e d = ap (λ o. or_else o (constant_by g (definition_in g.body r))) e ∙ ap (constant_by g) d

-- a load of three scalars takes three steps
pub load_runs : (g : Given) (f p r x y z : ℕ) (vs : List (ℕ × Value)) → input_of g (definition_in g.body id.GLOBAL_ID) ≡ Some (x ∷ y ∷ z ∷ []) → slice_get g.body p ≡ Some (inst op.LOAD (Id id.UINT3 ∷ Id r ∷ Id id.GLOBAL_ID ∷ [])) → Quietly (invocation g) 3 (run f p [] vs) (run f (p + 1) [] ((r, Scalars (x ∷ y ∷ z ∷ [])) ∷ vs))
load_runs g f p r x y z vs e h =
    let load = inst op.LOAD (Id id.UINT3 ∷ Id r ∷ Id id.GLOBAL_ID ∷ []) in
    let a = run f p [] vs in
    let b = run f p (x ∷ []) vs in
    let c = run f p (x ∷ y ∷ []) vs in
    let d = run f (p + 1) [] ((r, Scalars (x ∷ y ∷ z ∷ [])) ∷ vs) in
    and_then (invocation g) 1 2 a b d (step g f p [] vs load b h (ap (loading f p [] vs r) e))
    (and_then (invocation g) 1 1 b c d (step g f p (x ∷ []) vs load c h (ap (loading f p (x ∷ []) vs r) e)) (step g f p (x ∷ y ∷ []) vs load d h (ap (loading f p (x ∷ y ∷ []) vs r) e)))

-- its first component is taken out
pub extract_runs : (g : Given) (f p r c x : ℕ) (more : List ℕ) (vs : List (ℕ × Value)) → value_at g vs c ≡ Some (Scalars (x ∷ more)) → slice_get g.body p ≡ Some (inst op.COMPOSITE_EXTRACT (Id id.UINT ∷ Id r ∷ Id c ∷ Word 0 ∷ [])) → Quietly (invocation g) 1 (run f p [] vs) (run f (p + 1) [] ((r, Scalars (x ∷ [])) ∷ vs))
extract_runs g f p r c x more vs e h = step g f p [] vs (inst op.COMPOSITE_EXTRACT (Id id.UINT ∷ Id r ∷ Id c ∷ Word 0 ∷ [])) (run f (p + 1) [] ((r, Scalars (x ∷ [])) ∷ vs)) h (ap (λ o. giving Unreachable f p vs r (extracted o (0 ∷ []))) e)

-- a sum of two numbers
pub add_runs : (g : Given) (f p r a b m n : ℕ) (vs : List (ℕ × Value)) → value_at g vs a ≡ Some (Scalars (m ∷ [])) → value_at g vs b ≡ Some (Scalars (n ∷ [])) → slice_get g.body p ≡ Some (inst op.I_ADD (Id id.UINT ∷ Id r ∷ Id a ∷ Id b ∷ [])) → Quietly (invocation g) 1 (run f p [] vs) (run f (p + 1) [] ((r, Scalars (add_of 32 m n ∷ [])) ∷ vs))
add_runs g f p r a b m n vs d e h =
    step g f p [] vs (inst op.I_ADD (Id id.UINT ∷ Id r ∷ Id a ∷ Id b ∷ [])) (run f (p + 1) [] ((r, Scalars (add_of 32 m n ∷ [])) ∷ vs)) h
    (ap (λ o. giving Unreachable f p vs r (as_scalar (scalar_by o >>= λ k. scalar_at g vs b >>= λ l. Some (add_of 32 k l)))) d ∙ ap (λ o. giving Unreachable f p vs r (as_scalar (scalar_by o >>= λ l. Some (add_of 32 m l)))) e)
