-- How many texts, numbers and lines there are.
use Rattle.std.proofs.Common.{◌≡◌, ℕ, ◌+◌, ◌*◌, ◌≤◌, ◌<◌, ◌^◌, Option, Some, None, List, [], ◌∷◌, ◌++◌, length, refl, arith, length-append}
use Rattle.spv_reflect.specs.declared.rows.ArgRow.{ArgRow}
use Rattle.spv_reflect.specs.declared.rows.KernelRow.{KernelRow}
use Rattle.spv_reflect.specs.declared.rows.Reflection.{Reflection}
use Rattle.spv_reflect.specs.Writing.{texts_of_args, texts_of, numbers_of_args, numbers_of_kernels, numbers_of_sizes, numbers_of, args_in, other_rows, rows_among, AreThree}

pub length-texts_of_args : (as_ : List ArgRow) → length (texts_of_args as_) ≡ length as_
length-texts_of_args [] = refl
length-texts_of_args (a ∷ as_) = omega (arith, length-texts_of_args as_)

pub length-texts_of : (ks : List KernelRow) → length (texts_of ks) ≡ length ks + args_in ks
length-texts_of [] = refl
length-texts_of (k ∷ ks) = omega (arith, length-append (texts_of_args k.args) (texts_of ks), length-texts_of_args k.args, length-texts_of ks)

pub length-numbers_of_args : (ordinal : ℕ) (as_ : List ArgRow) → length (numbers_of_args ordinal as_) ≡ 3 * length as_
length-numbers_of_args ordinal [] = refl
length-numbers_of_args ordinal (a ∷ as_) = omega (arith, length-numbers_of_args (ordinal + 1) as_)

pub length-numbers_of_kernels : (ks : List KernelRow) → length (numbers_of_kernels ks) ≡ 3 * args_in ks
length-numbers_of_kernels [] = refl
length-numbers_of_kernels (k ∷ ks) = omega (arith, length-append (numbers_of_args 0 k.args) (numbers_of_kernels ks), length-numbers_of_args 0 k.args, length-numbers_of_kernels ks)

length-numbers_of_sizes : (sizes : Option (List ℕ)) → AreThree sizes → length (numbers_of_sizes sizes) ≡ 3 * other_rows sizes
length-numbers_of_sizes None h = refl
length-numbers_of_sizes (Some sizes) h = omega (arith, h)

pub length-numbers_of : (r : Reflection) → AreThree r.sizes → length (numbers_of r) ≡ 3 * args_in r.kernels + 3 * other_rows r.sizes
length-numbers_of r h = omega (arith, length-append (numbers_of_kernels r.kernels) (numbers_of_sizes r.sizes), length-numbers_of_kernels r.kernels, length-numbers_of_sizes r.sizes h)
