-- The bytes of a constant of the unit, from its typed initialiser (C99, 6.7.8; little-endian). What no item fills, and padding, is 0.
use Rattle.std.specs.Global.{Vec}
use Rattle.std.specs.Prelude.{◌≡◌, ℕ, zero, suc, ◌-◌, ◌/◌, ◌%◌, Bool, false, if◌then◌else◌, List, [], ◌∷◌, ◌++◌, length, replicate}
use Rattle.cl_types.specs.declared.types.ClType.{ClType}
use Rattle.cl_types.specs.declared.types.Member.{Member}
use Rattle.cl_types.specs.declared.types.TypeId.{TypeId}
use Rattle.cl_types.specs.Layout.{size_of, align_of, up}
use Rattle.cl_types.specs.Table.{tree_of}
use Rattle.cl_tree.specs.declared.shape.Shape.{Shape}
use Rattle.cl_tree.specs.declared.shape.Shape.TheVariants as shape
use Rattle.cl_tree.specs.declared.expression.TExpr.{TExpr}
use Rattle.cl_tree.specs.declared.expression.TNode.{TNode}
use Rattle.cl_tree.specs.declared.expression.TNode.TheVariants as tnode
use Rattle.cl_tree.specs.declared.expression.TNode.TheViews.{out-TExpr}
use Rattle.cl_tree.specs.declared.constant.Constancy.{Constancy}
use Rattle.cl_tree.specs.declared.constant.Constancy.TheVariants.{Is}
use Rattle.cl_tree.specs.Constants.{constancy_of}
use Rattle.cl_tree.specs.Shapes.{shape_of, same_type, members_of}
use Rattle.cl_variables.specs.declared.image.Piece.{Piece}

-- so many bytes of a number, the low one first
abbrev pub little : ℕ → ℕ → List ℕ
little zero n = []
little (suc k) n = n % 256 ∷ little k (n / 256)

abbrev pub size_at : List ClType → TypeId → ℕ
size_at cs t = size_of (tree_of cs t.0)

abbrev pub align_at : List ClType → TypeId → ℕ
align_at cs t = align_of (tree_of cs t.0)

-- the bytes of components, of so many bytes each
abbrev pub packed : ℕ → List ℕ → List ℕ
packed w [] = []
packed w (n ∷ ns) = little w n ++ packed w ns

abbrev pub component_bytes : Shape → ℕ
component_bytes (shape.Integers t) = t.bits / 8
component_bytes s = 1

-- bytes, filled up with 0 to a length
abbrev pub padded : ℕ → List ℕ → List ℕ
padded n bs = bs ++ replicate (n - length bs) 0

abbrev pub patterns : Constancy → List ℕ
patterns (Is ns) = ns
patterns _ = []

-- bytes of a part, and the pieces that are left
abbrev pub Filled : Type 0
Filled = List ℕ × List Piece

abbrev pub is_whole : TypeId → List Piece → Bool
is_whole t [] = false
is_whole t (p ∷ ps) = same_type t p.ty

abbrev pub first_bytes : List Piece → List ℕ
first_bytes [] = []
first_bytes (p ∷ ps) = p.bytes

abbrev pub behind : List Piece → List Piece
behind [] = []
behind (p ∷ ps) = ps

abbrev pub before : List ℕ → Filled → Filled
before bs f = (bs ++ f.0, f.1)

-- n elements, one behind the other
abbrev pub elements : (List Piece → Filled) → ℕ → List Piece → Filled
elements one zero ps = ([], ps)
elements one (suc n) ps = before (one ps).0 (elements one n (one ps).1)

-- members at their offsets, behind what is there so far
abbrev pub members : List ClType → (TypeId → List Piece → Filled) → List Member → List ℕ → List Piece → Filled
members cs one [] bs ps = (bs, ps)
members cs one (m ∷ ms) bs ps = members cs one ms (padded (up (align_at cs m.ty) (length bs)) bs ++ (one m.ty ps).0) (one m.ty ps).1

-- a part of this type: by a piece of its own, by the pieces of its parts, or 0
abbrev pub inside : List ClType → (TypeId → List Piece → Filled) → TypeId → Shape → List Piece → Filled
inside cs one t (shape.Array elem len nested) ps = elements (one elem) len ps
inside cs one t shape.Struct ps = members cs one (members_of cs t) [] ps
inside cs one t s ps = ([], ps)

abbrev pub whole : ℕ → Filled → Filled
whole n f = (padded n f.0, f.1)

abbrev pub part : ℕ → List ClType → TypeId → List Piece → Filled
part zero cs t ps = (padded (size_at cs t) (first_bytes ps), behind ps)
part (suc deep) cs t ps = if is_whole t ps then (padded (size_at cs t) (first_bytes ps), behind ps) else whole (size_at cs t) (inside cs (part deep cs) t (shape_of cs t) ps)

abbrev pub list_bytes : List ClType → TypeId → Shape → List Piece → List ℕ
list_bytes cs t (shape.Array elem len nested) ps = padded (size_at cs t) (inside cs (part 16 cs) t (shape.Array elem len nested) ps).0
list_bytes cs t shape.Struct ps = padded (size_at cs t) (inside cs (part 16 cs) t shape.Struct ps).0
list_bytes cs t s ps = padded (size_at cs t) (first_bytes ps)

abbrev pub value_bytes : List ClType → TypeId → List ℕ → List ℕ
value_bytes cs t ns = padded (size_at cs t) (packed (component_bytes (shape_of cs t)) ns)

-- no list in braces
abbrev pub IsValueNode : TNode → Type 0
IsValueNode n = (args : Vec TExpr) → n ≡ tnode.Fill args → ⊥

mutual
  -- A value has the bytes of its components, and a list those of its parts. What isn't constant, as no constant of a unit is, is 0.
  pub data HasBytes (cs : List ClType) : TExpr → List ℕ → Type 0 where
    value : (t : TExpr) (bs : List ℕ) → IsValueNode (out-TExpr t).node → bs ≡ value_bytes cs (out-TExpr t).ty (patterns (constancy_of cs t)) → HasBytes cs t bs
    list : (t : TExpr) (args : Vec TExpr) (ps : List Piece) (bs : List ℕ) → (out-TExpr t).node ≡ tnode.Fill args → HavePieces cs args.items ps → bs ≡ list_bytes cs (out-TExpr t).ty (shape_of cs (out-TExpr t).ty) ps → HasBytes cs t bs

  pub data HavePieces (cs : List ClType) : List TExpr → List Piece → Type 0 where
    none : HavePieces cs [] []
    more : (t : TExpr) (ts : List TExpr) (bs : List ℕ) (ps : List Piece) → HasBytes cs t bs → HavePieces cs ts ps → HavePieces cs (t ∷ ts) (record { ty = (out-TExpr t).ty; bytes = bs } ∷ ps)
