-- Nodes that rules make are typed by their operands, each converted to what is wanted of it.
use Rattle.std.specs.Prelude.{◌≡◌, ◌≢◌, true, List, [], ◌∷◌, Option, Some, slice_get}
use Rattle.cl_types.specs.declared.types.TypeId.{TypeId}
use Rattle.cl_tree.specs.declared.expression.Facts.{Facts}
use Rattle.cl_tree.specs.Facts.{Lists, value, named, variable, converted, converts_to, unary_at, binary_at, assigned, chosen, vector, called, built_in, indexed, member, selected, comma, filled}
use Rattle.cl_tree.specs.Shapes.{shape_of}
use Rattle.cl_rules.specs.declared.rule.Want.{Want}
use Rattle.cl_rules.specs.declared.rule.Want.TheVariants as want
use Rattle.cl_rules.specs.declared.rule.Head.{Head}
use Rattle.cl_rules.specs.declared.rule.Head.TheVariants as head
use Rattle.cl_rules.specs.declared.rule.Made.{Made}
use Rattle.cl_make.specs.Wanted.{IsWanted}

-- what a node of this type is by what its operands are
abbrev pub node_facts : Head → Lists → TypeId → List Facts → Option Facts
node_facts (head.Param k) l ty fs = named ty (slice_get l.params k)
node_facts (head.Var k) l ty fs = variable l ty (slice_get l.vars k)
node_facts (head.Constant k) l ty fs = named ty (slice_get l.constants k)
node_facts head.Convert l ty fs = converted l ty fs
node_facts (head.Unary op) l ty fs = unary_at op l ty fs
node_facts (head.Binary op) l ty fs = binary_at op l ty fs
node_facts (head.Assign op) l ty fs = assigned op l ty fs
node_facts head.Cond l ty fs = chosen l ty fs
node_facts head.Vector l ty fs = vector l ty fs
node_facts (head.Call f) l ty fs = called l ty (slice_get l.functions f) fs
node_facts (head.Builtin b) l ty fs = built_in b l ty fs
node_facts head.Index l ty fs = indexed l ty fs
node_facts (head.Member k) l ty fs = member k l ty fs
node_facts (head.Components at) l ty fs = selected at l ty fs
node_facts head.Comma l ty fs = comma l ty fs
node_facts head.Fill l ty fs = filled l ty fs

-- what an operand is behind its conversion, which is none where its type is the one wanted
pub data IsAfter (l : Lists) : Want → Facts → Facts → Type 0 where
  unasked : (f : Facts) → IsAfter l want.Own f f
  fitting : (w : Want) (f : Facts) → IsWanted l.types w f.ty → IsAfter l w f f
  changed : (w : Want) (f : Facts) (ty : TypeId) → IsWanted l.types w ty → IsAfter l w f (value ty)

pub data AreAfter (l : Lists) : List Want → List Facts → List Facts → Type 0 where
  none : AreAfter l [] [] []
  more : (w : Want) (ws : List Want) (f g : Facts) (fs gs : List Facts) → IsAfter l w f g → AreAfter l ws fs gs → AreAfter l (w ∷ ws) (f ∷ fs) (g ∷ gs)

-- An operand of another type than the one wanted converts to it.
abbrev pub IsConvertible : Lists → Want → Facts → Type 0
IsConvertible l want.Own f = Unit {0}
IsConvertible l w f = (ty : TypeId) → IsWanted l.types w ty → f.ty ≢ ty → converts_to l f ty (shape_of l.types ty) ≡ true

pub data AreConvertible (l : Lists) : List Want → List Facts → Type 0 where
  none_converts : AreConvertible l [] []
  more_convert : (w : Want) (ws : List Want) (f : Facts) (fs : List Facts) → IsConvertible l w f → AreConvertible l ws fs → AreConvertible l (w ∷ ws) (f ∷ fs)

-- what a rule makes of operands that are this is typed by them
pub record RuleFits (l : Lists) (m : Made) (fs : List Facts) : Type 0 where
  pub converts : AreConvertible l m.wants fs
  pub gives : (gs : List Facts) (ty : TypeId) → AreAfter l m.wants fs gs → IsWanted l.types m.gives ty → node_facts m.head l ty gs ≡ Some (record { ty = ty; lies = m.lies; component = m.component })
