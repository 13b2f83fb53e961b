-- Operands taken from the left.
use Rattle.std.specs.Prelude.{ℕ, List, [], ◌∷◌, ◌++◌}
use Rattle.cl_types.specs.declared.types.TypeId.{TypeId}
use Rattle.cl_tree.specs.declared.constant.Constancy.{Constancy}
use Rattle.cl_tree.specs.declared.constant.Constancy.TheVariants.{Varies, Divides, Is}
use Rattle.cl_tree.specs.declared.constant.Operands.{Operands}
use Rattle.cl_tree.specs.declared.constant.Operands.TheVariants.{Vary, Divide, Are}

-- operands with the next one
abbrev pub and_next : Operands → TypeId → Constancy → Operands
and_next Vary t c = Vary
and_next (Divide p) t Varies = Vary
and_next (Divide p) t (Divides q) = Divide p
and_next (Divide p) t (Is ns) = Divide p
and_next (Are ts nss) t Varies = Vary
and_next (Are ts nss) t (Divides q) = Divide q
and_next (Are ts nss) t (Is ns) = Are (ts ++ t ∷ []) (nss ++ ns ∷ [])
