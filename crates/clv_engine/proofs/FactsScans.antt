-- Scans of a kernel's module: most find nothing in the constants and the code of its terms, whose number is open.
use Rattle.std.proofs.Common.{◌≡◌, ℕ, ◌+◌, ◌<◌, List, [], ◌∷◌, ◌++◌, Some, None, cond, refl, ap, ◌∙◌, arith, ne_eqb}
use Rattle.std.specs.Prelude.{Contains}
use Rattle.std.proofs.lemmas.List.Elements.{All-nil, All-cons, All-contains}
use Rattle.spv_module.specs.declared.module.Inst.{Inst}
use Rattle.spv_module.specs.declared.module.Operand.TheVariants.{Id, Word}
use Rattle.spv_module.specs.declared.op.TheConstants as op
use Rattle.clv_engine.specs.declared.form.Term.{Term}
use Rattle.clv_engine.specs.declared.form.Term.TheVariants.{GlobalId, Literal}
use Rattle.clv_engine.specs.declared.id.TheConstants as id
use Rattle.spv_module.specs.Instructions.{Constant, definition_in, decoration_in, member_decoration_in}
use Rattle.spv_module.specs.Interface.{variables_in, functions_in, capabilities_in, memory_models_in, modes_in, entry_points_in}
use Rattle.spv_reflect.specs.Reflection.{lines_in}
use Rattle.clv_engine.specs.Emitted.{inst, constants_from, function_begin, global_id, terms, sums_from, sum, function_end, reflection}

-- all behind the terms' constants
abbrev pub code_of : List Term → List Inst
code_of ts = function_begin ++ (global_id id.PLACE ++ (terms ts ++ (function_end (sum ts) ++ reflection)))

-- a scan that finds nothing in the instructions of terms
pub record Passes {Y : Type 0} (scan : List Inst → Y) : Type 0 where
  pub constant : (r n : ℕ) (rest : List Inst) → scan (inst op.CONSTANT (Id id.UINT ∷ Id r ∷ Word n ∷ []) ∷ rest) ≡ scan rest
  pub load : (r : ℕ) (rest : List Inst) → scan (inst op.LOAD (Id id.UINT3 ∷ Id r ∷ Id id.GLOBAL_ID ∷ []) ∷ rest) ≡ scan rest
  pub extract : (r a : ℕ) (rest : List Inst) → scan (inst op.COMPOSITE_EXTRACT (Id id.UINT ∷ Id r ∷ Id a ∷ Word 0 ∷ []) ∷ rest) ≡ scan rest
  pub add : (r a b : ℕ) (rest : List Inst) → scan (inst op.I_ADD (Id id.UINT ∷ Id r ∷ Id a ∷ Id b ∷ []) ∷ rest) ≡ scan rest

module _ {Y : Type 0} (scan : List Inst → Y) (p : Passes scan) where
  pub past_constants : (next : ℕ) (ts : List Term) (rest : List Inst) → scan (constants_from next ts ++ rest) ≡ scan rest
  past_constants next [] rest = refl
  past_constants next (GlobalId ∷ ts) rest = past_constants (next + 3) ts rest
  past_constants next (Literal n ∷ ts) rest = p.constant next n _ ∙ past_constants (next + 3) ts rest

  past_global_id : (r : ℕ) (rest : List Inst) → scan (inst op.LOAD (Id id.UINT3 ∷ Id r ∷ Id id.GLOBAL_ID ∷ []) ∷ inst op.COMPOSITE_EXTRACT (Id id.UINT ∷ Id (r + 1) ∷ Id r ∷ Word 0 ∷ []) ∷ rest) ≡ scan rest
  past_global_id r rest = p.load r _ ∙ p.extract (r + 1) r rest

  past_sums : (next so_far : ℕ) (ts : List Term) (rest : List Inst) → scan (sums_from next so_far ts ++ rest) ≡ scan rest
  past_sums next so_far [] rest = refl
  past_sums next so_far (GlobalId ∷ ts) rest = past_global_id next _ ∙ p.add (next + 2) so_far (next + 1) _ ∙ past_sums (next + 3) (next + 2) ts rest
  past_sums next so_far (Literal n ∷ ts) rest = p.add (next + 2) so_far next _ ∙ past_sums (next + 3) (next + 2) ts rest

  pub past_terms : (ts : List Term) (rest : List Inst) → scan (terms ts ++ rest) ≡ scan rest
  past_terms [] rest = refl
  past_terms (GlobalId ∷ ts) rest = past_global_id id.TERMS _ ∙ past_sums (id.TERMS + 3) (id.TERMS + 1) ts rest
  past_terms (Literal n ∷ ts) rest = past_sums (id.TERMS + 3) id.TERMS ts rest

-- ---- the scans that do so

pub variables_pass : Passes variables_in
variables_pass = record { constant = λ r n rest. refl; load = λ r rest. refl; extract = λ r a rest. refl; add = λ r a b rest. refl }

pub functions_pass : Passes functions_in
functions_pass = record { constant = λ r n rest. refl; load = λ r rest. refl; extract = λ r a rest. refl; add = λ r a b rest. refl }

pub entry_points_pass : Passes entry_points_in
entry_points_pass = record { constant = λ r n rest. refl; load = λ r rest. refl; extract = λ r a rest. refl; add = λ r a b rest. refl }

pub capabilities_pass : Passes capabilities_in
capabilities_pass = record { constant = λ r n rest. refl; load = λ r rest. refl; extract = λ r a rest. refl; add = λ r a b rest. refl }

pub memory_models_pass : Passes memory_models_in
memory_models_pass = record { constant = λ r n rest. refl; load = λ r rest. refl; extract = λ r a rest. refl; add = λ r a b rest. refl }

pub modes_pass : Passes modes_in
modes_pass = record { constant = λ r n rest. refl; load = λ r rest. refl; extract = λ r a rest. refl; add = λ r a b rest. refl }

decorations_pass : (target wanted : ℕ) → Passes (λ is. decoration_in is target wanted)
decorations_pass target wanted = record { constant = λ r n rest. refl; load = λ r rest. refl; extract = λ r a rest. refl; add = λ r a b rest. refl }

member_decorations_pass : (type member wanted : ℕ) → Passes (λ is. member_decoration_in is type member wanted)
member_decorations_pass type member wanted = record { constant = λ r n rest. refl; load = λ r rest. refl; extract = λ r a rest. refl; add = λ r a b rest. refl }

pub lines_pass : (body : List Inst) → Passes (lines_in body)
lines_pass body = record { constant = λ r n rest. refl; load = λ r rest. refl; extract = λ r a rest. refl; add = λ r a b rest. refl }

-- decorations stand in the head alone
pub none_behind : (target wanted : ℕ) (ts : List Term) → decoration_in (constants_from id.TERMS ts ++ code_of ts) target wanted ≡ None
none_behind target wanted ts =
    let scan = λ (is : List Inst). decoration_in is target wanted in
    past_constants scan (decorations_pass target wanted) id.TERMS ts (code_of ts) ∙ past_terms scan (decorations_pass target wanted) ts (function_end (sum ts) ++ reflection)

pub no_member_behind : (type member wanted : ℕ) (ts : List Term) → member_decoration_in (constants_from id.TERMS ts ++ code_of ts) type member wanted ≡ None
no_member_behind type member wanted ts =
    let scan = λ (is : List Inst). member_decoration_in is type member wanted in
    past_constants scan (member_decorations_pass type member wanted) id.TERMS ts (code_of ts) ∙ past_terms scan (member_decorations_pass type member wanted) ts (function_end (sum ts) ++ reflection)

-- ---- the definition of an id

behind_constant : (r n wanted : ℕ) (rest : List Inst) → wanted < r → definition_in (inst op.CONSTANT (Id id.UINT ∷ Id r ∷ Word n ∷ []) ∷ rest) wanted ≡ definition_in rest wanted
behind_constant r n wanted rest h = ap (λ b. cond b (Some (Constant id.UINT r n)) (definition_in rest wanted)) (ne_eqb r wanted (λ e. omega arith))

-- an id below those of the terms is defined behind their constants, if at all
pub definition_behind : (next wanted : ℕ) (ts : List Term) (rest : List Inst) → wanted < next → definition_in (constants_from next ts ++ rest) wanted ≡ definition_in rest wanted
definition_behind next wanted [] rest h = refl
definition_behind next wanted (GlobalId ∷ ts) rest h = definition_behind (next + 3) wanted ts rest (omega arith)
definition_behind next wanted (Literal n ∷ ts) rest h = behind_constant next n wanted (constants_from (next + 3) ts ++ rest) h ∙ definition_behind (next + 3) wanted ts rest (omega arith)

-- ---- lists of one element

pub Contains-one : {X : Type 0} (x y : X) → Contains (x ∷ []) y → y ≡ x
Contains-one x y c = All-contains (λ z. z ≡ x) (x ∷ []) y (All-cons (λ z. z ≡ x) x [] refl (All-nil (λ z. z ≡ x))) c

pub Contains-first : {X : Type 0} (x : X) (xs : List X) → Contains (x ∷ xs) x
Contains-first x xs = (0, omega arith, refl)
