-- Typed nodes, from what a rule makes and from the typed operands.
use Rattle.std.specs.Global.{Vec}
use Rattle.std.specs.Prelude.{◌≡◌, ◌≢◌, ℕ, ◌%◌, ◌^◌, nat_eq, true, false, if◌then◌else◌, List, [], ◌∷◌, Option, Some, None}
use Rattle.clv_num.specs.declared.Bits.{Bits}
use Rattle.clv_place.specs.declared.place.Place.{Place}
use Rattle.cl_types.specs.declared.types.ClType.{ClType}
use Rattle.cl_types.specs.declared.types.TypeId.{TypeId}
use Rattle.cl_builtins.specs.declared.kind.Gentype.{Gentype}
use Rattle.cl_builtins.specs.Kinds.{int, uint}
use Rattle.cl_tree.specs.declared.shape.Shape.TheVariants as shape
use Rattle.cl_tree.specs.Shapes.{shape_of}
use Rattle.cl_tree.specs.declared.expression.TExpr.{TExpr}
use Rattle.cl_tree.specs.declared.expression.TNode.{TNode}
use Rattle.cl_tree.specs.declared.expression.TNode.TheVariants as tnode
use Rattle.cl_tree.specs.declared.expression.TNode.TheViews.{out-TExpr}
use Rattle.cl_rules.specs.declared.rule.Operand.{Operand}
use Rattle.cl_rules.specs.declared.rule.Want.{Want}
use Rattle.cl_rules.specs.declared.rule.Want.TheVariants as want
use Rattle.cl_rules.specs.declared.rule.Head.{Head}
use Rattle.cl_rules.specs.declared.rule.Head.TheVariants as head
use Rattle.cl_rules.specs.declared.rule.Made.{Made}
use Rattle.cl_scope.specs.declared.scope.Declared.{Declared}
use Rattle.cl_scope.specs.declared.scope.DeclaredKind.{DeclaredKind}
use Rattle.cl_scope.specs.declared.scope.DeclaredKind.TheVariants as kind
use Rattle.cl_make.specs.Wanted.{IsWanted}

-- a typed expression with this type, place and node
pub record IsTyped (t : TExpr) (ty : TypeId) (place : Place) (node : TNode) : Type 0 where
  pub has : (out-TExpr t).ty ≡ ty
  pub at : (out-TExpr t).place ≡ place
  pub is : (out-TExpr t).node ≡ node

abbrev pub node_of : Head → Vec TExpr → TNode
node_of (head.Param k) args = tnode.Param k
node_of (head.Var k) args = tnode.Var k
node_of (head.Constant k) args = tnode.Constant k
node_of head.Convert args = tnode.Convert args
node_of (head.Unary op) args = tnode.Unary op args
node_of (head.Binary op) args = tnode.Binary op args
node_of (head.Assign op) args = tnode.Assign op args
node_of head.Cond args = tnode.Cond args
node_of head.Vector args = tnode.Vector args
node_of (head.Call f) args = tnode.Call f args
node_of (head.Builtin b) args = tnode.Builtin b args
node_of head.Index args = tnode.Index args
node_of (head.Member k) args = tnode.Member k args
node_of (head.Components at) args = tnode.Components at args
node_of head.Comma args = tnode.Comma args
node_of head.Fill args = tnode.Fill args

-- a node with these operands
pub record IsNode (t : TExpr) (ty : TypeId) (place : Place) (h : Head) (operands : List TExpr) : Type 0 where
  pub args : Vec TExpr
  pub has : args.items ≡ operands
  pub is : IsTyped t ty place (node_of h args)

-- a tree of this type: by one conversion exactly where its own type is another
pub data IsFitted (ty : TypeId) : TExpr → TExpr → Type 0 where
  as_it_is : (t : TExpr) → (out-TExpr t).ty ≡ ty → IsFitted ty t t
  by_node : (t u : TExpr) → (out-TExpr t).ty ≢ ty → IsNode u ty (out-TExpr t).place head.Convert (t ∷ []) → IsFitted ty t u

-- An operand, converted to the type that is wanted: by one node exactly where its type is another. That node has the operand's place.
pub data IsConverted (cs : List ClType) : Want → TExpr → TExpr → Type 0 where
  unasked : (t : TExpr) → IsConverted cs want.Own t t
  fitting : (w : Want) (t : TExpr) → IsWanted cs w (out-TExpr t).ty → IsConverted cs w t t
  converted : (w : Want) (ty : TypeId) (t u : TExpr) → IsWanted cs w ty → (out-TExpr t).ty ≢ ty → IsNode u ty (out-TExpr t).place head.Convert (t ∷ []) → IsConverted cs w t u

pub data AreConverted (cs : List ClType) : List Want → List TExpr → List TExpr → Type 0 where
  none : AreConverted cs [] [] []
  more : (w : Want) (ws : List Want) (t u : TExpr) (ts us : List TExpr) → IsConverted cs w t u → AreConverted cs ws ts us → AreConverted cs (w ∷ ws) (t ∷ ts) (u ∷ us)

-- what a parent has to know of a node that was made
abbrev pub operand_of : List ClType → TypeId → Made → Operand
operand_of cs ty m = record { facts = record { ty = ty; lies = m.lies; component = m.component }; shape = shape_of cs ty; readonly = m.readonly; complete = true }

abbrev pub value_of : List ClType → TypeId → Operand
value_of cs ty = record { facts = record { ty = ty; lies = None; component = false }; shape = shape_of cs ty; readonly = false; complete = true }

-- the node that a rule makes at a place of typed operands
pub record IsMade (cs : List ClType) (m : Made) (place : Place) (ts : List TExpr) (t : TExpr) (o : Operand) : Type 0 where
  pub ty : TypeId
  pub operands : List TExpr
  pub gives : IsWanted cs m.gives ty
  pub converts : AreConverted cs m.wants ts operands
  pub is : IsNode t ty place m.head operands
  pub known : o ≡ operand_of cs ty m

-- ---- numbers and names

-- int, uint, long or ulong, by its number in the syntax tree; no text has another number
abbrev pub number_type : ℕ → Gentype
number_type ty =
    if nat_eq ty 0 then int else if nat_eq ty 1 then uint
    else record { bits = 64; signed = nat_eq ty 2; count = 1 }

pub record IsNumber (cs : List ClType) (g : Gentype) (n : ℕ) (place : Place) (t : TExpr) (o : Operand) : Type 0 where
  pub ty : TypeId
  pub bits : Bits
  pub gives : IsWanted cs (want.Of (shape.Integers g)) ty
  pub width : bits.width ≡ g.bits
  pub pattern : bits.value ≡ n % 2 ^ g.bits
  pub is : IsTyped t ty place (tnode.Number bits)
  pub known : o ≡ value_of cs ty

-- what the name of a parameter, a variable or a constant is in a tree; a typedef's name and a tag are no value
abbrev pub name_head : DeclaredKind → Option Head
name_head (kind.Param k) = Some (head.Param k)
name_head (kind.Var k) = Some (head.Var k)
name_head (kind.Constant k) = Some (head.Constant k)
name_head kind.Typedef = None
name_head kind.Tag = None

abbrev pub operand_named : List ClType → Declared → Operand
operand_named cs d = record { facts = record { ty = d.ty; lies = Some d.space; component = false }; shape = shape_of cs d.ty; readonly = d.readonly; complete = d.complete }
