-- Which types of arguments each built-in function takes, and what it answers (OpenCL C 1.2, 6.12).
use Rattle.std.specs.Prelude.{ℕ, suc, ◌*◌, nat_eq, nat_lt, not, ◌&&◌, ◌||◌, Bool, true, false, if◌then◌else◌, List, [], ◌∷◌, length, replicate, fold, Option, Some, None}
use Rattle.std.specs.List.{list_all}
use Rattle.cl_types.specs.declared.space.Space.{Space}
use Rattle.cl_types.specs.declared.space.Space.TheVariants as space
use Rattle.cl_types.specs.Layout.{room_of}
use Rattle.cl_builtins.specs.declared.kind.Gentype.{Gentype}
use Rattle.cl_builtins.specs.declared.kind.Kind.{Kind}
use Rattle.cl_builtins.specs.declared.kind.Kind.TheVariants as kind
use Rattle.cl_builtins.specs.declared.form.Form.{Form}
use Rattle.cl_builtins.specs.declared.name.Rule.{Rule}
use Rattle.cl_builtins.specs.declared.name.Rule.TheVariants as rule
use Rattle.cl_builtins.specs.Kinds.{int, uint, is_same, element_of, unsigned_of, usual, is_scalar, is_type, converts}

abbrev pub these : List Kind → Kind → Form
these params result = record { params = params; result = result }

abbrev pub only : Bool → Form → Option Form
only fits f = if fits then Some f else None

-- ---- the type that arguments have together

-- what an argument stands for: a bool for an int
abbrev pub operand : Kind → Option Gentype
operand kind.Bool = Some int
operand (kind.Integers t) = Some t
operand _ = None

abbrev pub is_operand : Gentype → Kind → Bool
is_operand t kind.Bool = is_same t int
is_operand t (kind.Integers x) = is_same t x
is_operand t _ = false

abbrev pub usual_with : Gentype → Kind → Gentype
usual_with t kind.Bool = usual t int
usual_with t (kind.Integers x) = usual t x
usual_with t _ = t

-- the type to which the usual arithmetic conversions bring scalars
abbrev pub usual_of : List Kind → Gentype
usual_of ks = fold usual_with int ks

-- the one type that all have; or, of scalars, the one to which the usual arithmetic conversions bring them
abbrev pub common_at : Option Gentype → List Kind → Option Gentype
common_at None ks = None
common_at (Some t) ks = if list_all (is_operand t) ks then Some t else if list_all is_scalar ks then Some (usual_of ks) else None

abbrev pub common : List Kind → Option Gentype
common [] = None
common (k ∷ ks) = common_at (operand k) (k ∷ ks)

-- the same, of so many arguments
abbrev pub type_of : ℕ → List Kind → Option Gentype
type_of n ks = if nat_eq (length ks) n then common ks else None

-- ---- the forms

-- n arguments of one type: with a result of that type, of its unsigned form, and where its components have 32 bits
abbrev pub of_type : ℕ → Gentype → Gentype → Form
of_type n t gives = these (replicate n (kind.Integers t)) (kind.Integers gives)

abbrev pub alike_form : ℕ → Option Gentype → Option Form
alike_form n None = None
alike_form n (Some t) = Some (of_type n t t)

abbrev pub unsigned_form : ℕ → Option Gentype → Option Form
unsigned_form n None = None
unsigned_form n (Some t) = Some (of_type n t (unsigned_of t))

abbrev pub narrow_form : ℕ → Option Gentype → Option Form
narrow_form n None = None
narrow_form n (Some t) = only (nat_eq t.bits 32) (of_type n t t)

-- min, max and clamp take besides a vector with scalars of its components' type behind it
abbrev pub has_limits : ℕ → Gentype → List Kind → Bool
has_limits n t ks = not (nat_eq t.count 1) && nat_eq (suc (length ks)) n && list_all (is_type (element_of t)) ks

abbrev pub limited : ℕ → List Kind → Option Form
limited n (kind.Integers t ∷ ks) = if has_limits n t ks then Some (these (kind.Integers t ∷ ks) (kind.Integers t)) else alike_form n (type_of n (kind.Integers t ∷ ks))
limited n ks = alike_form n (type_of n ks)

abbrev pub one_number : List Kind → Kind → Option Form
one_number (d ∷ []) gives = only (converts uint d) (these (kind.Integers uint ∷ []) gives)
one_number _ gives = None

-- upsample joins a high half and the unsigned low half of each component
abbrev pub doubled : Gentype → Gentype
doubled t = record t { bits = 2 * t.bits }

abbrev pub upsampled : Option Gentype → Kind → Option Form
upsampled None low = None
upsampled (Some t) low = only (nat_lt t.bits 64 && converts (unsigned_of t) low) (these (kind.Integers t ∷ kind.Integers (unsigned_of t) ∷ []) (kind.Integers (doubled t)))

abbrev pub upsample : List Kind → Option Form
upsample (high ∷ low ∷ []) = upsampled (operand high) low
upsample _ = None

-- select takes two values of one type, and integers of as many bits and as many components
abbrev pub selected : Option Gentype → Gentype → Option Form
selected None by = None
selected (Some t) by = only (nat_eq by.bits t.bits && nat_eq by.count t.count) (these (kind.Integers t ∷ kind.Integers t ∷ kind.Integers by ∷ []) (kind.Integers t))

abbrev pub selection : List Kind → Option Form
selection (a ∷ b ∷ kind.Integers by ∷ []) = selected (common (a ∷ b ∷ [])) by
selection _ = None

-- convert_R takes as many components; as_R as many bits, but three components only for three (6.2.4.2)
abbrev pub converted : Gentype → List Kind → Option Form
converted to (kind.Integers t ∷ []) = only (nat_eq t.count to.count) (these (kind.Integers t ∷ []) (kind.Integers to))
converted to _ = None

abbrev pub bits_of : Gentype → ℕ
bits_of t = room_of t.count * t.bits

abbrev pub reads_as : Gentype → Gentype → Bool
reads_as t to = nat_eq (bits_of t) (bits_of to) && (not (nat_eq t.count 3) || nat_eq to.count 3)

abbrev pub reread : Gentype → List Kind → Option Form
reread to (kind.Integers t ∷ []) = only (reads_as t to) (these (kind.Integers t ∷ []) (kind.Integers to))
reread to _ = None

-- any and all take signed integers
abbrev pub tested : List Kind → Option Form
tested (kind.Integers t ∷ []) = only t.signed (these (kind.Integers t ∷ []) (kind.Integers int))
tested _ = None

-- a load of a vector from a pointer to its components, and a store through one to memory that can be written
abbrev pub vector_of : Gentype → ℕ → Kind
vector_of t n = kind.Integers (record t { count = n })

abbrev pub loaded : ℕ → List Kind → Option Form
loaded n (at ∷ kind.Pointer own s readonly to ∷ []) = only (converts uint at) (these (kind.Integers uint ∷ kind.Pointer own s readonly to ∷ []) (vector_of to n))
loaded n _ = None

abbrev pub is_constant : Space → Bool
is_constant space.Constant = true
is_constant _ = false

abbrev pub stored : ℕ → List Kind → Option Form
stored n (v ∷ at ∷ kind.Pointer own s readonly to ∷ []) =
    only (not readonly && not (is_constant s) && converts (record to { count = n }) v && converts uint at) (these (vector_of to n ∷ kind.Integers uint ∷ kind.Pointer own s readonly to ∷ []) kind.Void)
stored n _ = None

-- an atomic takes a pointer to int or uint in global or local memory that can be written, and n values for it
abbrev pub is_shared : Space → Bool
is_shared space.Global = true
is_shared space.Local = true
is_shared _ = false

abbrev pub atomic : ℕ → List Kind → Option Form
atomic n (kind.Pointer own s readonly to ∷ ks) =
    only (is_shared s && not readonly && nat_eq to.bits 32 && nat_eq (length ks) n && list_all (converts to) ks) (these (kind.Pointer own s readonly to ∷ replicate n (kind.Integers to)) (kind.Integers to))
atomic n _ = None

abbrev pub form_of : Rule → List Kind → Option Form
form_of rule.Nothing [] = Some (these [] (kind.Integers uint))
form_of rule.Nothing (k ∷ ks) = None
form_of rule.Dimension ks = one_number ks (kind.Integers uint)
form_of rule.Fence ks = one_number ks kind.Void
form_of (rule.Alike n) ks = alike_form n (type_of n ks)
form_of (rule.Unsigned n) ks = unsigned_form n (type_of n ks)
form_of (rule.Narrow n) ks = narrow_form n (type_of n ks)
form_of (rule.Limited n) ks = limited n ks
form_of rule.Upsample ks = upsample ks
form_of (rule.Convert to) ks = converted to ks
form_of (rule.Reread to) ks = reread to ks
form_of rule.Select ks = selection ks
form_of rule.Test ks = tested ks
form_of (rule.Load n) ks = loaded n ks
form_of (rule.Store n) ks = stored n ks
form_of (rule.Atomic n) ks = atomic n ks
