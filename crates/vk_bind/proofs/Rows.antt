-- What the rows of arguments take, one row later, and what a buffer variable takes.
use Rattle.std.proofs.Common.{◌≡◌, List, [], ◌∷◌, ◌++◌, Bool, ℕ, Option, Some, None, refl, sym, ap, ◌∙◌, append_assoc}
use Rattle.std.specs.Option.{option_map}
use Rattle.std.proofs.lemmas.List.{map-append}
use Rattle.spv_module.specs.declared.module.Inst.{Inst}
use Rattle.spv_module.specs.Options.{◌>>=◌, for_each, is_there}
use Rattle.spv_reflect.specs.declared.rows.ArgRow.{ArgRow}
use Rattle.std.proofs.lemmas.Option.{same_Some}
use Rattle.spv_module.specs.declared.enumerant.decoration.TheConstants as decoration
use Rattle.spv_module.specs.Instructions.{decoration_in}
use Rattle.spv_module.specs.Interface.{number_of}
use Rattle.launch_text.specs.Rules.{Parameter, BufferPointer}
use Rattle.vk_bind.specs.declared.parameters.Parameter.{Parameter as Found}
use Rattle.vk_bind.specs.declared.elements.Scalar.{Scalar}
use Rattle.vk_bind.specs.Answers.{scalars_of, parameter_from, parameters_from, stride_and_element, elements_by}
use Rattle.vk_bind.specs.Binding.{array_of, elements_of, pointer_to, parameter_of}
use Rattle.vk_bind.specs.Elements.{element_in, scalars_in}

-- with these before
abbrev onto : List Parameter → Option (List Parameter) → Option (List Parameter)
onto front o = o >>= λ bs. Some (front ++ bs)

-- What was found so far leads, with what the rest takes, to what all rows take.
pub record Leads (body : List Inst) (rows rest : List ArgRow) (found : List Found) : Type 0 where
  pub leads : onto (parameters_from found) (for_each (parameter_of body) rest) ≡ for_each (parameter_of body) rows

onto_none : (o : Option (List Parameter)) → onto [] o ≡ o
onto_none None = refl
onto_none (Some bs) = refl

pub leads_first : (body : List Inst) (rows : List ArgRow) → Leads body rows rows []
leads_first body rows = record { leads = onto_none (for_each (parameter_of body) rows) }

onto_more : (front : List Parameter) (p : Parameter) (o : Option (List Parameter)) → onto (front ++ p ∷ []) o ≡ onto front (o >>= λ bs. Some (p ∷ bs))
onto_more front p None = refl
onto_more front p (Some bs) = ap Some (append_assoc front (p ∷ []) bs)

pub leads_more : (body : List Inst) (rows rest : List ArgRow) (row : ArgRow) (found more : List Found) (p : Found) → Leads body rows (row ∷ rest) found → option_map parameter_from (Some p) ≡ parameter_of body row → more ≡ found ++ p ∷ [] → Leads body rows rest more
leads_more body rows rest row found more p h e push = record {
  leads =
      ap (λ m. onto (parameters_from m) (for_each (parameter_of body) rest)) push
      ∙ ap (λ m. onto m (for_each (parameter_of body) rest)) (map-append parameter_from found (p ∷ []))
      ∙ onto_more (parameters_from found) (parameter_from p) (for_each (parameter_of body) rest)
      ∙ ap (λ o. onto (parameters_from found) (o >>= λ b. for_each (parameter_of body) rest >>= λ bs. Some (b ∷ bs))) e
      ∙ h.leads;
}

pub leads_none : (body : List Inst) (rows rest : List ArgRow) (row : ArgRow) (found : List Found) → Leads body rows (row ∷ rest) found → None ≡ parameter_of body row → None ≡ for_each (parameter_of body) rows
leads_none body rows rest row found h e = ap (λ o. onto (parameters_from found) (o >>= λ b. for_each (parameter_of body) rest >>= λ bs. Some (b ∷ bs))) e ∙ h.leads

append_none : (xs : List Parameter) → xs ++ [] ≡ xs
append_none [] = refl
append_none (x ∷ xs) = ap (λ ys. x ∷ ys) (append_none xs)

pub leads_all : (body : List Inst) (rows rest : List ArgRow) (found : List Found) → Leads body rows rest found → rest ≡ [] → Some (parameters_from found) ≡ for_each (parameter_of body) rows
leads_all body rows rest found h e = ap Some (sym (append_none (parameters_from found))) ∙ ap (λ r. onto (parameters_from found) (for_each (parameter_of body) r)) (sym e) ∙ h.leads

-- ---- a buffer variable

abbrev pair : ℕ → ℕ → ℕ × ℕ
pair a b = (a, b)

pointer_parts : (body : List Inst) (stride element : ℕ) (r : Bool) (s e : Option ℕ) → Some (pair stride element) ≡ (s >>= λ a. e >>= λ b. Some (pair a b)) → Some (BufferPointer (record { size = stride; scalars = scalars_in body element }) r) ≡ ((s >>= λ a. e >>= λ b. Some (record { size = a; scalars = scalars_in body b })) >>= λ x. Some (BufferPointer x r))
pointer_parts body stride element r (Some a) (Some b) h = ap (λ (p : ℕ × ℕ). Some (BufferPointer (record { size = p.0; scalars = scalars_in body p.1 }) r)) (same_Some (pair stride element) (pair a b) h)
pointer_parts body stride element r (Some a) None h = absurd (let never : ⊥ = cc in never)
pointer_parts body stride element r None e h = absurd (let never : ⊥ = cc in never)

pointer_by : (body : List Inst) (stride element : ℕ) (r : Bool) (o : Option ℕ) → Some (pair stride element) ≡ (o >>= stride_and_element body) → Some (BufferPointer (record { size = stride; scalars = scalars_in body element }) r) ≡ (o >>= λ array. elements_of body array >>= λ x. Some (BufferPointer x r))
pointer_by body stride element r None h = absurd (let never : ⊥ = cc in never)
pointer_by body stride element r (Some array) h = pointer_parts body stride element r (number_of (decoration_in body array decoration.ARRAY_STRIDE)) (element_in body array) h

pub pointer_found : (body : List Inst) (v stride element : ℕ) (scalars : List Scalar) (restricted : Bool) → Some (pair stride element) ≡ elements_by body v → scalars_of scalars ≡ scalars_in body element → restricted ≡ is_there (decoration_in body v decoration.RESTRICT) → Some (parameter_from (record { stride = stride; scalars = scalars; restricted = restricted })) ≡ pointer_to body v
pointer_found body v stride element scalars restricted found laid is =
    ap (λ xs. Some (BufferPointer (record { size = stride; scalars = xs }) restricted)) laid
    ∙ ap (λ r. Some (BufferPointer (record { size = stride; scalars = scalars_in body element }) r)) is
    ∙ pointer_by body stride element (is_there (decoration_in body v decoration.RESTRICT)) (array_of body v) found

pub ruleset reading = (leads_first, leads_more, leads_none, leads_all)
