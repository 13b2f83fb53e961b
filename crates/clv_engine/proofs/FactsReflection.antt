-- The reflection lines of a kernel's module agree with the kernel.
use Rattle.std.proofs.Common.{◌≡◌, ℕ, true, zero, suc, List, [], ◌∷◌, ◌++◌, Option, Some, None, refl, sym, subst, ap, ◌∙◌, arith, slice_get, count_by}
use Rattle.std.specs.Prelude.{All, Contains}
use Rattle.std.proofs.lemmas.List.Elements.{All-nil, All-cons, All-contains}
use Rattle.spv_module.specs.declared.enumerant.storage_class.TheConstants as storage_class
use Rattle.clv_engine.specs.declared.form.Kernel.{Kernel}
use Rattle.clv_engine.specs.declared.id.TheConstants as id
use Rattle.clv_engine.specs.FirstForm.{IsKernel}
use Rattle.spv_module.specs.Options.{◌>>=◌}
use Rattle.spv_module.specs.Instructions.{Said, Function, definition_in}
use Rattle.spv_module.specs.declared.enumerant.execution_model.TheConstants as execution_model
use Rattle.spv_module.specs.Interface.{Entry, entry_points_in, variables_in, is_bound_at, IsBufferVariable}
use Rattle.spv_reflect.specs.declared.rows.ArgKindRow.TheVariants.{Buffer as BufferRow}
use Rattle.spv_reflect.specs.declared.rows.ArgRow.{ArgRow}
use Rattle.spv_reflect.specs.declared.rows.KernelRow.{KernelRow}
use Rattle.clv_engine.specs.KernelRows.{reflection_of, ReflectionAgrees}
use Rattle.spv_reflect.specs.Reflection.{Line, KernelLine, NameLine, BufferLine, SizesLine, function_by, or_wrong, lines_in, rows_by, rows_of, is_row_of, KeepsReflectionRules}
use Rattle.clv_engine.specs.Emitted.{sum, function_end, reflection, body_of}
use Rattle.clv_engine.proofs.FactsScans.{past_constants, past_terms, lines_pass, definition_behind, Contains-one, Contains-first}
use Rattle.clv_engine.proofs.FactsInterface.{the_variables, variables_are, the_entry, functions_are, entry_points_are, buffer_variable, group_size}

-- the lines of a kernel
abbrev pub lines_of : Kernel → List Line
lines_of k =
    KernelLine id.KERNEL_LINE id.MAIN (k.name ∷ [])
    ∷ NameLine id.NAME_LINE (k.argument ∷ [])
    ∷ BufferLine id.BUFFER_LINE id.KERNEL_LINE 0 0 0 id.NAME_LINE
    ∷ SizesLine id.SIZES_LINE 0 1 2
    ∷ []

-- the same, where it's open what defines the function: that stands behind the terms' constants
abbrev lines_with : Kernel → Option Said → List Line
lines_with k main =
    or_wrong id.KERNEL_LINE 1 (function_by main >>= λ function. Some (KernelLine id.KERNEL_LINE function (k.name ∷ [])))
    ∷ NameLine id.NAME_LINE (k.argument ∷ [])
    ∷ BufferLine id.BUFFER_LINE id.KERNEL_LINE 0 0 0 id.NAME_LINE
    ∷ SizesLine id.SIZES_LINE 0 1 2
    ∷ []

module _ (k : Kernel) where
  -- ---- the function

  pub main_is : definition_in (body_of k) id.MAIN ≡ Some (Function id.VOID id.MAIN id.MAIN_TYPE)
  main_is = definition_behind id.TERMS id.MAIN k.terms _ (omega arith)

  -- ---- the lines

  lines_last : lines_in (body_of k) (function_end (sum k.terms) ++ reflection) ≡ lines_of k
  lines_last = ap (lines_with k) main_is

  pub lines_are : lines_in (body_of k) (body_of k) ≡ lines_of k
  lines_are =
      past_constants (lines_in (body_of k)) (lines_pass (body_of k)) id.TERMS k.terms _
      ∙ past_terms (lines_in (body_of k)) (lines_pass (body_of k)) k.terms _
      ∙ lines_last

  pub rows_are : rows_of (body_of k) ≡ Some (reflection_of k id.MAIN)
  rows_are = ap rows_by lines_are

-- ---- the rules

abbrev the_argument : Kernel → ArgRow
the_argument k = record { name = k.argument ∷ []; kind = BufferRow 0 0 }

abbrev the_row : Kernel → KernelRow
the_row k = record { function = id.MAIN; name = k.name ∷ []; args = the_argument k ∷ []; required = None }

-- the entry point that a row wants
abbrev entry_of : KernelRow → Entry
entry_of row = record { model = execution_model.GL_COMPUTE; function = row.function; name = row.name }

set_is : (s b t c : ℕ) → BufferRow s b ≡ BufferRow t c → s ≡ t
set_is s b t c e = cc

binding_is : (s b t c : ℕ) → BufferRow s b ≡ BufferRow t c → b ≡ c
binding_is s b t c e = cc

only_place : {X : Type 0} (x a : X) (n : ℕ) → slice_get (x ∷ []) n ≡ Some a → n ≡ 0
only_place x a zero e = refl
only_place x a (suc n) e = absurd (cc)

-- of the variables one is a buffer
abbrev IsTheBuffer : ℕ × ℕ → Type 0
IsTheBuffer v = v.1 ≡ storage_class.STORAGE_BUFFER → v.0 ≡ id.BUFFER

all_the_buffer : All IsTheBuffer the_variables
all_the_buffer =
    All-cons IsTheBuffer (id.GLOBAL_ID, storage_class.INPUT) ((id.BUFFER, storage_class.STORAGE_BUFFER) ∷ []) (λ e. absurd (omega arith))
    (All-cons IsTheBuffer (id.BUFFER, storage_class.STORAGE_BUFFER) [] (λ e. refl) (All-nil IsTheBuffer))

module _ (k : Kernel) where
  entries : (row : KernelRow) → Contains (the_row k ∷ []) row → Contains (entry_points_in (body_of k)) (entry_of row)
  entries row c =
      subst (λ (r : KernelRow). Contains (entry_points_in (body_of k)) (entry_of r)) (sym (Contains-one (the_row k) row c))
      (subst (λ (es : List Entry). Contains es (the_entry k)) (sym (entry_points_are k)) (Contains-first (the_entry k) []))

  one_row : (e : Entry) → Contains (entry_points_in (body_of k)) e → count_by (is_row_of e.function) (the_row k ∷ []) ≡ 1
  one_row e c =
      subst (λ (f : Entry). count_by (is_row_of f.function) (the_row k ∷ []) ≡ 1)
      (sym (Contains-one (the_entry k) e (subst (λ (es : List Entry). Contains es e) (entry_points_are k) c)))
      refl

  argument_kind : (row : KernelRow) (a : ArgRow) → Contains (the_row k ∷ []) row → Contains row.args a → a.kind ≡ BufferRow 0 0
  argument_kind row a c d =
      ap (λ (b : ArgRow). b.kind)
      (Contains-one (the_argument k) a (subst (λ (r : KernelRow). Contains r.args a) (Contains-one (the_row k) row c) d))

  variables : (row : KernelRow) (a : ArgRow) (set binding : ℕ) → Contains (the_row k ∷ []) row → Contains row.args a → a.kind ≡ BufferRow set binding → (v element stride : ℕ) × (is_bound_at (body_of k) v set binding ≡ true) × IsBufferVariable (body_of k) v element stride
  variables row a set binding c d e =
      let f : BufferRow 0 0 ≡ BufferRow set binding = sym (argument_kind row a c d) ∙ e in
      let g : is_bound_at (body_of k) id.BUFFER set binding ≡ true = rw (← set_is 0 0 set binding f, ← binding_is 0 0 set binding f) in
      (id.BUFFER, id.UINT, 4, g, buffer_variable k)

  pairs : (row : KernelRow) (m n : ℕ) (a b : ArgRow) → Contains (the_row k ∷ []) row → slice_get row.args m ≡ Some a → slice_get row.args n ≡ Some b → a.kind ≡ b.kind → m ≡ n
  pairs row m n a b c d e f =
      let r = Contains-one (the_row k) row c in
      let p = subst (λ (r : KernelRow). slice_get r.args m ≡ Some a) r d in
      let q = subst (λ (r : KernelRow). slice_get r.args n ≡ Some b) r e in
      only_place (the_argument k) a m p ∙ sym (only_place (the_argument k) b n q)

  named : (v : ℕ) → Contains (variables_in (body_of k)) (v, storage_class.STORAGE_BUFFER) → (row : KernelRow) × (a : ArgRow) × (set : ℕ) × (binding : ℕ) × Contains (the_row k ∷ []) row × Contains row.args a × (a.kind ≡ BufferRow set binding) × (is_bound_at (body_of k) v set binding ≡ true)
  named v c =
      let f = All-contains IsTheBuffer the_variables (v, storage_class.STORAGE_BUFFER) all_the_buffer (subst (λ (vs : List (ℕ × ℕ)). Contains vs (v, storage_class.STORAGE_BUFFER)) (variables_are k) c) refl in
      let bound = subst (λ (w : ℕ). is_bound_at (body_of k) w 0 0 ≡ true) (sym f) refl in
      (the_row k, the_argument k, 0, 0, Contains-first (the_row k) [], Contains-first (the_argument k) [], refl, bound)

  keeps_rules : KeepsReflectionRules (body_of k) (reflection_of k id.MAIN)
  keeps_rules = record { entries = entries; one_row = one_row; variables = variables; pairs = pairs; named = named; sizes = (refl, group_size k) }

pub reflection_agrees : (k : Kernel) → IsKernel k → ReflectionAgrees (body_of k) k
reflection_agrees k h = record { function = id.MAIN; functions = functions_are k; rows = rows_are k; rules = keeps_rules k }
