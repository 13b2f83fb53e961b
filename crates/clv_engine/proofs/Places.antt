-- Where the code of a kernel's function stands in its module.
use Rattle.std.proofs.Common.{◌≡◌, ℕ, suc, ◌+◌, List, [], ◌∷◌, ◌++◌, Some, true, false, cond, refl, sym, ap, ◌∙◌, subst, arith, slice_get, append_assoc}
use Rattle.spv_module.specs.declared.module.Inst.{Inst}
use Rattle.spv_module.specs.declared.module.Operand.TheVariants.{Id, Word}
use Rattle.spv_module.specs.declared.op.TheConstants as op
use Rattle.spv_module.specs.declared.enumerant.control.TheConstants as control
use Rattle.clv_engine.specs.declared.form.Kernel.{Kernel}
use Rattle.clv_engine.specs.declared.form.Term.{Term}
use Rattle.clv_engine.specs.declared.form.Term.TheVariants.{GlobalId, Literal}
use Rattle.clv_engine.specs.declared.id.TheConstants as id
use Rattle.spv_module.specs.Instructions.{Said, Function, said}
use Rattle.clv_engine.specs.Emitted.{inst, head, constants_from, global_id, terms, sum, function_end, reflection, body_of}
use Rattle.spv_module.specs.Interface.{function_by, functions_in}
use Rattle.spv_meaning.specs.Invocation.{is_function, place_after}

-- these instructions stand from the place on
abbrev pub Lies : List Inst → ℕ → List Inst → Type 0
Lies body place [] = Unit {0}
Lies body place (i ∷ is) = (slice_get body place ≡ Some i) × Lies body (place + 1) is

one_plus : (n : ℕ) → 1 + n ≡ suc n
one_plus n = omega arith

lies_behind : (i : Inst) (body : List Inst) (place : ℕ) (is : List Inst) → Lies body place is → Lies (i ∷ body) (1 + place) is
lies_behind i body place [] h = tt
lies_behind i body place (j ∷ is) h =
    (ap (slice_get (i ∷ body)) (one_plus place) ∙ h.0, let e : 1 + (place + 1) ≡ 1 + place + 1 = omega arith in subst (λ n. Lies (i ∷ body) n is) e (lies_behind i body (place + 1) is h.1))

lies_all : (body : List Inst) → Lies body 0 body
lies_all [] = tt
lies_all (i ∷ is) = (refl, lies_behind i is 0 is (lies_all is))

no_function : (s : Said) (fs : List ℕ) (function : ℕ) → function_by s fs ≡ [] → (is_function s function ≡ false) × (fs ≡ [])
no_function (Function t r type) fs function e = absurd (cc)
no_function _ fs function e = (refl, e)

-- behind the first line of the only function
lies_after : (front behind : List Inst) (first : Inst) (function : ℕ) → functions_in front ≡ [] → is_function (said first) function ≡ true → Lies (front ++ first ∷ behind) (place_after (front ++ first ∷ behind) function) behind
lies_after [] behind first function e f = subst (λ b. Lies (first ∷ behind) (cond b 1 (1 + place_after behind function)) behind) (sym f) (lies_behind first behind 0 behind (lies_all behind))
lies_after (i ∷ front) behind first function e f =
    let n = no_function (said i) (functions_in front) function e in
    subst (λ b. Lies (i ∷ (front ++ first ∷ behind)) (cond b 1 (1 + place_after (front ++ first ∷ behind) function)) behind) (sym n.0) (lies_behind i (front ++ first ∷ behind) (place_after (front ++ first ∷ behind) function) behind (lies_after front behind first function n.1 f))

functions_constants : (next : ℕ) (ts : List Term) → functions_in (constants_from next ts) ≡ []
functions_constants next [] = refl
functions_constants next (GlobalId ∷ ts) = functions_constants (next + 3) ts
functions_constants next (Literal n ∷ ts) = functions_constants (next + 3) ts

-- the code of the function, behind its first line
abbrev pub code_of : Kernel → List Inst
code_of k = inst op.LABEL (Id id.ENTRY ∷ []) ∷ (global_id id.PLACE ++ (terms k.terms ++ (function_end (sum k.terms) ++ reflection)))

pub lies_found : (k : Kernel) → Lies (body_of k) (place_after (body_of k) id.MAIN) (code_of k)
lies_found k =
    let front = head k ++ constants_from id.TERMS k.terms in
    let first = inst op.FUNCTION (Id id.VOID ∷ Id id.MAIN ∷ Word control.NONE ∷ Id id.MAIN_TYPE ∷ []) in
    subst (λ l. Lies l (place_after l id.MAIN) (code_of k)) (append_assoc (head k) (constants_from id.TERMS k.terms) (first ∷ code_of k)) (lies_after front (code_of k) first id.MAIN (functions_constants id.TERMS k.terms) refl)
