-- The rules of operators and assignments (C99, 6.5; OpenCL C 1.2, 6.3): the offences that each may be, with their codes, and what it makes
-- where it is none. Of several rules that a node breaks the least code counts.
use Rattle.std.specs.Prelude.{ℕ, nat_eq, nat_lt, not, ◌&&◌, ◌||◌, Bool, true, false, if◌then◌else◌, List, [], ◌∷◌, Option, Some, None}
use Rattle.cl_types.specs.declared.space.Space.{Space}
use Rattle.cl_types.specs.declared.operator.UnOp.{UnOp}
use Rattle.cl_types.specs.declared.operator.BinOp.{BinOp}
use Rattle.cl_builtins.specs.declared.kind.Gentype.{Gentype}
use Rattle.cl_builtins.specs.Kinds.{int, usual, is_same}
use Rattle.cl_tree.specs.declared.shape.Shape.{Shape}
use Rattle.cl_tree.specs.Shapes.{is_pointer, is_number, is_vector, is_steppable, promoted, rank, relation_type}
use Rattle.cl_tree.specs.Facts.{is_writable, has_address}
use Rattle.cl_rules.specs.declared.rule.Operand.{Operand}
use Rattle.cl_rules.specs.declared.rule.Want.{Want}
use Rattle.cl_rules.specs.declared.rule.Judged.{Judged}
use Rattle.cl_rules.specs.declared.rule.Judged.TheVariants.{Broken, Makes}
use Rattle.cl_rules.specs.declared.rule.Meeting.{Meeting}
use Rattle.cl_rules.specs.declared.rule.Meeting.TheVariants.{Meet, Unlike, Outranked}
use Rattle.cl_rules.specs.declared.rule.Amount.{Amount}
use Rattle.cl_rules.specs.declared.rule.Amount.TheVariants.{Wanted, NoAmount, TooWide}
use Rattle.cl_rules.specs.declared.rule.Changing.{Changing}
use Rattle.cl_types.specs.declared.space.Space.TheVariants as space
use Rattle.cl_types.specs.declared.operator.UnOp.TheVariants as un
use Rattle.cl_types.specs.declared.operator.BinOp.TheVariants as bin
use Rattle.cl_tree.specs.declared.shape.Shape.TheVariants as shape
use Rattle.cl_rules.specs.declared.rule.Want.TheVariants as want
use Rattle.cl_rules.specs.declared.rule.Head.TheVariants as head
use Rattle.cl_rules.specs.Operands.{unless, value, place, part, integers, seen, to_array, same_target, common, type_of, is_arithmetic, no_value, no_pointer, type_at}

-- ---- operators on one operand

-- 308: no number and no vector
abbrev pub signed : UnOp → Operand → Judged
signed op o =
    unless ((308, not (is_arithmetic o.shape)) ∷ [])
    (value (integers (promoted (type_of o.shape)) ∷ []) (head.Unary op) (integers (promoted (type_of o.shape))))

-- 308: no number
abbrev pub negated : Operand → Judged
negated o = unless ((308, not (is_number o.shape)) ∷ []) (value (want.Own ∷ []) (head.Unary un.LogicalNot) (integers int))

-- 313: no pointer and no array
abbrev pub dereferenced : Operand → Shape → Judged
dereferenced o (shape.Pointer s to readonly restricted) = Makes (place (want.Own ∷ []) (head.Unary un.Deref) (want.Type to) s readonly)
dereferenced o (shape.Array elem len nested) = Makes (part (want.Own ∷ []) (head.Unary un.Deref) (want.Type elem) o)
dereferenced o _ = Broken 313

-- 312: no place, or a component, a bool, an array or a pointer
abbrev pub space_or_private : Option Space → Space
space_or_private None = space.Private
space_or_private (Some s) = s

abbrev pub addressed : Operand → Judged
addressed o =
    unless ((312, not (has_address o.facts o.shape)) ∷ [])
    (value (want.Own ∷ []) (head.Unary un.Address) (want.Of (shape.Pointer (space_or_private o.facts.lies) o.facts.ty o.readonly false)))

-- 308: no number, vector or pointer; 310: no place, a const one, or one in constant memory
abbrev pub is_fixed : Operand → Bool
is_fixed o = o.readonly || not (is_writable o.facts.lies)

abbrev pub stepped : UnOp → Operand → Judged
stepped op o =
    unless ((308, not (is_steppable o.shape)) ∷ (310, is_fixed o) ∷ [])
    (value (want.Own ∷ []) (head.Unary op) (want.Type o.facts.ty))

abbrev pub unary : UnOp → Operand → Option Judged
unary un.Plus o = Some (signed un.Plus o)
unary un.Minus o = Some (signed un.Minus o)
unary un.Not o = Some (signed un.Not o)
unary un.LogicalNot o = Some (negated o)
unary un.Deref o = Some (dereferenced o o.shape)
unary un.Address o = Some (addressed o)
unary un.PreInc o = Some (stepped un.PreInc o)
unary un.PreDec o = Some (stepped un.PreDec o)
unary un.PostInc o = Some (stepped un.PostInc o)
unary un.PostDec o = Some (stepped un.PostDec o)
unary un.Sizeof o = None

-- ---- operators between two operands

-- the type of two operands together
abbrev pub beside : Gentype → Shape → Meeting
beside t s = if nat_lt t.bits (rank s) then Outranked else Meet t

abbrev pub alike_vectors : Gentype → Gentype → Meeting
alike_vectors t x = if is_same t x then Meet t else Unlike

abbrev pub meet : Shape → Shape → Meeting
meet a b =
    if is_number a && is_number b then Meet (usual (type_of a) (type_of b))
    else if is_vector a && is_vector b then alike_vectors (type_of a) (type_of b)
    else if is_vector a && is_number b then beside (type_of a) b
    else if is_number a && is_vector b then beside (type_of b) a
    else Unlike

abbrev pub is_unlike : Meeting → Bool
is_unlike Unlike = true
is_unlike _ = false

abbrev pub is_outranked : Meeting → Bool
is_outranked Outranked = true
is_outranked _ = false

abbrev pub met : Meeting → Gentype
met (Meet t) = t
met _ = int

-- 308: no type together; 309: the scalar beside a vector has the greater rank
abbrev pub meets : Meeting → List (ℕ × Bool)
meets m = (308, is_unlike m) ∷ (309, is_outranked m) ∷ []

abbrev pub both : Want → List Want
both w = w ∷ w ∷ []

abbrev pub own_types : List Want
own_types = want.Own ∷ want.Own ∷ []

abbrev pub calculated : BinOp → Meeting → Judged
calculated op m = unless (meets m) (value (both (integers (met m))) (head.Binary op) (integers (met m)))

-- 303: pointers to arrays; 308: pointers to other types or into other address spaces
abbrev pub pointers_meet : Operand → Operand → List (ℕ × Bool)
pointers_meet a b = (303, to_array a || to_array b) ∷ (308, not (same_target (seen a) (seen b))) ∷ []

abbrev pub apart : BinOp → Operand → Operand → Judged
apart op a b = unless (pointers_meet a b) (value (both (want.Of (common (seen a) (seen b)))) (head.Binary op) (integers int))

abbrev pub compared : BinOp → Meeting → Judged
compared op m = unless (meets m) (value (both (integers (met m))) (head.Binary op) (integers (relation_type (met m))))

abbrev pub related : BinOp → Operand → Operand → Judged
related op a b =
    if is_pointer (seen a) && is_pointer (seen b) then apart op a b
    else compared op (meet a.shape b.shape)

-- 308: an operand that is no number
abbrev pub joined : BinOp → Operand → Operand → Judged
joined op a b = unless ((308, not (is_number a.shape && is_number b.shape)) ∷ []) (value own_types (head.Binary op) (integers int))

-- the amount of a shift

abbrev pub amount_beside : Gentype → Shape → Amount
amount_beside t s = if nat_lt t.bits (rank s) then TooWide else Wanted (integers t)

abbrev pub amount : Shape → Shape → Amount
amount a b =
    if is_number a && is_number b then Wanted (integers (promoted (type_of b)))
    else if is_vector a && is_vector b then (if nat_eq (type_of a).count (type_of b).count then Wanted want.Own else NoAmount)
    else if is_vector a && is_number b then amount_beside (type_of a) b
    else NoAmount

abbrev pub is_none : Amount → Bool
is_none NoAmount = true
is_none _ = false

abbrev pub outranks : Amount → Bool
outranks TooWide = true
outranks _ = false

abbrev pub amount_wanted : Amount → Want
amount_wanted (Wanted w) = w
amount_wanted _ = want.Own

abbrev pub shifted : BinOp → Shape → Shape → Judged
shifted op a b =
    unless ((308, is_none (amount a b)) ∷ (309, outranks (amount a b)) ∷ [])
    (value (integers (promoted (type_of a)) ∷ amount_wanted (amount a b) ∷ []) (head.Binary op) (integers (promoted (type_of a))))

-- 303: an offset from a pointer to an array
abbrev pub moved : BinOp → Operand → List Want → Judged
moved op o wants = unless ((303, to_array o) ∷ []) (value wants (head.Binary op) (want.Of (seen o)))

abbrev pub added : Operand → Operand → Judged
added a b =
    if is_pointer (seen a) && is_number b.shape then moved bin.Add a (want.Of (seen a) ∷ want.Own ∷ [])
    else if is_number a.shape && is_pointer (seen b) then moved bin.Add b (want.Own ∷ want.Of (seen b) ∷ [])
    else calculated bin.Add (meet a.shape b.shape)

abbrev pub subtracted : Operand → Operand → Judged
subtracted a b =
    if is_pointer (seen a) && is_number b.shape then moved bin.Sub a (want.Of (seen a) ∷ want.Own ∷ [])
    else if is_pointer (seen a) && is_pointer (seen b) then apart bin.Sub a b
    else calculated bin.Sub (meet a.shape b.shape)

abbrev pub binary : BinOp → Operand → Operand → Judged
binary bin.Add a b = added a b
binary bin.Sub a b = subtracted a b
binary bin.Shl a b = shifted bin.Shl a.shape b.shape
binary bin.Shr a b = shifted bin.Shr a.shape b.shape
binary bin.Less a b = related bin.Less a b
binary bin.Greater a b = related bin.Greater a b
binary bin.LessEqual a b = related bin.LessEqual a b
binary bin.GreaterEqual a b = related bin.GreaterEqual a b
binary bin.Equal a b = related bin.Equal a b
binary bin.NotEqual a b = related bin.NotEqual a b
binary bin.LogicalAnd a b = joined bin.LogicalAnd a b
binary bin.LogicalOr a b = joined bin.LogicalOr a b
binary bin.Mul a b = calculated bin.Mul (meet a.shape b.shape)
binary bin.Div a b = calculated bin.Div (meet a.shape b.shape)
binary bin.Rem a b = calculated bin.Rem (meet a.shape b.shape)
binary bin.And a b = calculated bin.And (meet a.shape b.shape)
binary bin.Xor a b = calculated bin.Xor (meet a.shape b.shape)
binary bin.Or a b = calculated bin.Or (meet a.shape b.shape)

-- ---- assignments

-- 310: as for `++`; 311 and 333: the value doesn't convert to the place's type
abbrev pub assigned : Operand → Operand → Judged
assigned p v =
    unless ((310, is_fixed p) ∷ (311, no_value v (type_at p)) ∷ (333, no_pointer v (type_at p)) ∷ [])
    (value (want.Own ∷ want.Type p.facts.ty ∷ []) (head.Assign None) (want.Type p.facts.ty))

-- A compound assignment keeps the rules of its operator, and what that gives has to convert back (311).
abbrev pub changing : BinOp → Operand → Changing → Judged
changing op p c =
    unless ((303, c.to_arrays) ∷ (308, c.no_type) ∷ (309, c.outranked) ∷ (310, is_fixed p) ∷ (311, c.no_way_back) ∷ [])
    (value (want.Own ∷ c.wanted ∷ []) (head.Assign (Some op)) (want.Type p.facts.ty))

abbrev pub fits : Want → Changing
fits w = record { no_type = false; to_arrays = false; outranked = false; no_way_back = false; wanted = w }

abbrev pub unfit : Changing
unfit = record (fits want.Own) { no_type = true }

abbrev pub is_back : Meeting → Bool
is_back (Meet t) = not (nat_eq t.count 1)
is_back _ = false

abbrev pub meets_back : Shape → Meeting → Changing
meets_back p m = record { no_type = is_unlike m; to_arrays = false; outranked = is_outranked m; no_way_back = is_number p && is_back m; wanted = integers (met m) }

abbrev pub shifts_back : Shape → Shape → Changing
shifts_back p v = record { no_type = is_none (amount p v); to_arrays = false; outranked = outranks (amount p v); no_way_back = false; wanted = amount_wanted (amount p v) }

-- a pointer moves by a number; the distance of two pointers, and a sum with a pointer, convert back to neither
abbrev pub adds_back : Operand → Operand → Changing
adds_back p v =
    if is_pointer p.shape then (if is_number v.shape then fits want.Own else unfit)
    else if is_number p.shape && is_pointer (seen v) then record (fits want.Own) { to_arrays = to_array v; no_way_back = true }
    else meets_back p.shape (meet p.shape v.shape)

abbrev pub subtracts_back : Operand → Operand → Changing
subtracts_back p v =
    if is_pointer p.shape then
    (if is_number v.shape then fits want.Own
    else if is_pointer (seen v) then
    record { no_type = not (same_target p.shape (seen v)); to_arrays = to_array v; outranked = false; no_way_back = true; wanted = want.Own }
    else unfit)
    else meets_back p.shape (meet p.shape v.shape)

abbrev pub calculates_back : Operand → Operand → Changing
calculates_back p v = meets_back p.shape (meet p.shape v.shape)

abbrev pub changes : BinOp → Operand → Operand → Changing
changes bin.Add p v = adds_back p v
changes bin.Sub p v = subtracts_back p v
changes bin.Shl p v = shifts_back p.shape v.shape
changes bin.Shr p v = shifts_back p.shape v.shape
changes bin.Mul p v = calculates_back p v
changes bin.Div p v = calculates_back p v
changes bin.Rem p v = calculates_back p v
changes bin.And p v = calculates_back p v
changes bin.Xor p v = calculates_back p v
changes bin.Or p v = calculates_back p v
changes _ p v = unfit

abbrev pub assignment : Option BinOp → Operand → Operand → Judged
assignment None p v = assigned p v
assignment (Some op) p v = changing op p (changes op p v)
