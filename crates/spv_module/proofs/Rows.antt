-- The table of the code has the forms of the table of the grammar.
use Rattle.std.proofs.Common.{◌≡◌, ℕ, ◌==◌, Bool, true, false, cond, List, [], ◌∷◌, map, find, Option, None, Some, refl, sym, ap, ◌∙◌}
use Rattle.std.specs.Prelude.{option_map}
use Rattle.spv_module.specs.declared.forms.Form.{Form}
use Rattle.spv_module.specs.declared.forms.Slot.{Slot}
use Rattle.spv_module.specs.declared.forms.Last.{Last}
use Rattle.spv_module.specs.declared.table.TheConstants.{ROWS}
use Rattle.spv_module.specs.Grammar.{table, row_of, form_of_row, form_of}

-- a row of the code, and its form
abbrev pub Line : Type 0
Line = ℕ × (Bool × Bool) × (ℕ × (Slot × Slot × Slot × Slot × Slot × Slot)) × Last

abbrev pub line_form : Line → Form
line_form l = record { typed = l.1.0; makes = l.1.1; slots = l.2.1.0 ∷ l.2.1.1 ∷ l.2.1.2 ∷ l.2.1.3 ∷ l.2.1.4 ∷ l.2.1.5 ∷ []; count = l.2.0; last = l.3 }

-- the form that stands at a number
abbrev pub form_at : ℕ → List (ℕ × Form) → Option Form
form_at n [] = None
form_at n (p ∷ ps) = cond (p.0 == n) (Some p.1) (form_at n ps)

found_at : {X : Type 0} (number : X → ℕ) (shape : X → Form) (n : ℕ) (xs : List X) → option_map shape (find (λ x. number x == n) xs) ≡ form_at n (map (λ x. (number x, shape x)) xs)
found_at number shape n [] = refl
found_at number shape n (x ∷ xs) =
    elim (number x == n) as (λ b. option_map shape (cond b (Some x) (find (λ y. number y == n) xs)) ≡ cond b (Some (shape x)) (form_at n (map (λ y. (number y, shape y)) xs))) [ true ↦ refl | false ↦ found_at number shape n xs ]

pub same_forms : (n : ℕ) → option_map line_form (find (λ l. l.0 == n) ROWS) ≡ form_of n
unfolding row_of
same_forms n = found_at (λ l. l.0) line_form n ROWS ∙ sym (found_at (λ r. r.opcode) form_of_row n table)

pub no_row : (n : ℕ) → None ≡ find (λ l. l.0 == n) ROWS → None ≡ form_of n
no_row n e = ap (option_map line_form) e ∙ same_forms n

pub some_row : (n : ℕ) (l : Line) → Some l ≡ find (λ l. l.0 == n) ROWS → Some (line_form l) ≡ form_of n
some_row n l e = ap (option_map line_form) e ∙ same_forms n
