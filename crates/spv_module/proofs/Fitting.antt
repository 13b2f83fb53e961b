-- What the operands of an instruction of a right form are.
use Rattle.std.proofs.Common.{◌≡◌, ℕ, true, List, Option, Some, None, refl, ap}
use Rattle.std.specs.Prelude.{option_map}
use Rattle.spv_module.specs.declared.module.Operand.{Operand}
use Rattle.spv_module.specs.Grammar.{Row, row_of, has_form, fits, fits_row, kinds_of, form_of, form_of_row}

-- the opcode has a row, and the operands fit it
pub record HasRow (o : Option Row) (operands : List Operand) : Type 0 where
  pub row : Row
  pub is : o ≡ Some row
  pub fit : fits (kinds_of row) row.rest operands ≡ true

pub HasRow-fits_row : (o : Option Row) (operands : List Operand) → fits_row o operands ≡ true → HasRow o operands
HasRow-fits_row None operands e = absurd (cc)
HasRow-fits_row (Some r) operands e = record { row = r; is = refl; fit = e }

pub HasRow-has_form : (n : ℕ) (operands : List Operand) → has_form n operands ≡ true → HasRow (row_of n) operands
HasRow-has_form n operands e = HasRow-fits_row (row_of n) operands e

-- the form of its row is what `form` answers for the opcode
pub form_of-row : (n : ℕ) (r : Row) → row_of n ≡ Some r → form_of n ≡ Some (form_of_row r)
form_of-row n r e = ap (option_map form_of_row) e
