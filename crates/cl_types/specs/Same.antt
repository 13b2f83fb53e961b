-- Equality of types, and what of a type is hashed.
use Rattle.std.specs.Prelude.{◌≡◌, ℕ, Bool, true, false, List, [], ◌∷◌, ◌++◌, nat_eq}
use Rattle.std.specs.Cmp.Lexicographic.{pointwise}
use Rattle.std.specs.Hash as fed
use Rattle.std.specs.Ordering.{on, eq_of_both}
use Rattle.cl_types.specs.declared.space.Space.{Space}
use Rattle.cl_types.specs.declared.space.Space.TheVariants.{Global, Constant, Local, Private}
use Rattle.cl_types.specs.declared.types.ClType.{ClType}
use Rattle.cl_types.specs.declared.types.ClType.TheVariants.{Void, Bool as Truth, Int, Vector, Array, Struct, Pointer}
use Rattle.cl_types.specs.declared.types.Member.{Member}

abbrev pub bit : Bool → ℕ
bit true = 1
bit false = 0

abbrev pub space_number : Space → ℕ
space_number Global = 0
space_number Constant = 1
space_number Local = 2
space_number Private = 3

-- which kind of type it is, and its numbers
abbrev pub key : ClType → List ℕ
key Void = 0 ∷ 0 ∷ 0 ∷ 0 ∷ 0 ∷ []
key Truth = 1 ∷ 0 ∷ 0 ∷ 0 ∷ 0 ∷ []
key (Int bits signed) = 2 ∷ bits ∷ bit signed ∷ 0 ∷ 0 ∷ []
key (Vector elem n) = 3 ∷ elem.0 ∷ n ∷ 0 ∷ 0 ∷ []
key (Array elem len) = 4 ∷ elem.0 ∷ len ∷ 0 ∷ 0 ∷ []
key (Struct name members) = 5 ∷ 0 ∷ 0 ∷ 0 ∷ 0 ∷ []
key (Pointer space to readonly restricted) = 6 ∷ space_number space ∷ to.0 ∷ bit readonly ∷ bit restricted ∷ []

-- a struct's name, and its members
abbrev pub name_of : ClType → List ℕ
name_of (Struct name members) = name
name_of _ = []

abbrev pub members_of : ClType → List Member
members_of (Struct name members) = members
members_of _ = []

-- one name, and one type
abbrev pub member_eq : Member → Member → Bool
member_eq = eq_of_both (on (λ m. m.name) (pointwise nat_eq)) (on (λ m. m.ty.0) nat_eq)

-- one kind, with equal numbers, names and members
abbrev pub type_eq : ClType → ClType → Bool
type_eq = eq_of_both (on key (pointwise nat_eq)) (eq_of_both (on name_of (pointwise nat_eq)) (on members_of (pointwise member_eq)))

abbrev pub member_input : Member → List (List ℕ)
member_input m = fed.slice fed.u8 m.name ++ fed.u32 m.ty.0

abbrev pub type_input : ClType → List (List ℕ)
type_input t = fed.slice fed.u32 (key t) ++ (fed.slice fed.u8 (name_of t) ++ fed.slice member_input (members_of t))
