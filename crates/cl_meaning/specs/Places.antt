-- Where the object of a name stands among the private objects, and what is set in it.
use Rattle.std.specs.Prelude.{ℕ, suc, if◌then◌else◌, List, [], ◌∷◌, Option, Some, None}
use Rattle.cl_meaning.specs.declared.memory.Private.{Private}
use Rattle.cl_meaning.specs.Values.{Name, same_name, Pointer, Scalar, Points}

-- how many objects stand before the first of a name, or how many there are
abbrev pub place_in : List Private → Name → ℕ
place_in [] n = 0
place_in (o ∷ os) n = if same_name o.name n then 0 else suc (place_in os n)

-- the pointer that is all of a value
abbrev pub lone_pointer : List Scalar → Option Pointer
lone_pointer (Points p ∷ []) = Some p
lone_pointer _ = None
