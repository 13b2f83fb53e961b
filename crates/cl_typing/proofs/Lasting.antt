-- The bytes of constants stay in each longer table.
use Rattle.std.specs.Global.{Vec}
use Rattle.std.proofs.Common.{◌≡◌, ℕ, zero, suc, Bool, if◌then◌else◌, List, [], ◌∷◌, ◌++◌, length, Some, refl, sym, ap, ◌∙◌, subst}
use Rattle.clv_place.specs.declared.place.Place.{Place}
use Rattle.cl_types.specs.declared.types.ClType.{ClType}
use Rattle.cl_types.specs.declared.types.Member.{Member}
use Rattle.cl_types.specs.declared.types.TypeId.{TypeId}
use Rattle.cl_types.specs.declared.space.Space.{Space}
use Rattle.cl_types.specs.Layout.{size_of, align_of, up}
use Rattle.cl_types.specs.Table.{IsTable}
use Rattle.cl_ast.specs.declared.declaration.InitDeclor.{InitDeclor}
use Rattle.cl_builtins.specs.Found.{IsKnown, IsGrown}
use Rattle.cl_tree.specs.declared.expression.TExpr.{TExpr}
use Rattle.cl_tree.specs.declared.expression.TNode.TheVariants as tnode
use Rattle.cl_tree.specs.declared.expression.TNode.TheVariants.{rolls-Param, rolls-Var, rolls-Constant, rolls-Number, rolls-Convert, rolls-Unary, rolls-Binary, rolls-Assign, rolls-Cond, rolls-Vector, rolls-Call, rolls-Builtin, rolls-Index, rolls-Member, rolls-Components, rolls-Fill, rolls-Comma}
use Rattle.cl_tree.specs.declared.expression.TNode.TheOpen as layer
use Rattle.cl_tree.specs.declared.expression.TNode.TheViews.{out-TExpr, out-TNode, out-roll-TNode}
use Rattle.cl_tree.specs.declared.shape.Shape.{Shape}
use Rattle.cl_tree.specs.declared.shape.Shape.TheVariants as shape
use Rattle.cl_tree.specs.Constants.{constancy_of}
use Rattle.cl_tree.specs.Shapes.{shape_of, members_of}
use Rattle.cl_rules.specs.declared.rule.Head.{Head}
use Rattle.cl_rules.specs.declared.rule.Head.TheVariants as head
use Rattle.cl_rules.specs.declared.rule.Qualified.{Qualified}
use Rattle.cl_scope.specs.declared.scope.DeclaredKind.{DeclaredKind}
use Rattle.cl_scope.specs.Names.{Env}
use Rattle.cl_make.specs.Building.{node_of}
use Rattle.cl_make.specs.Ready.{IsStable}
use Rattle.cl_make.proofs.Growing.{FitsTable, MembersKnown, known_fits, known_members, shape_stays, members_stay, layout_stays}
use Rattle.cl_make.proofs.Stays.{constancy_stays}
use Rattle.cl_make.proofs.Trees.{root_is}
use Rattle.cl_variables.specs.declared.declaring.Where.{Where}
use Rattle.cl_variables.specs.declared.image.Piece.{Piece}
use Rattle.cl_variables.specs.Answers.{IsLasting}
use Rattle.cl_variables.specs.Bytes.{Filled, HasBytes, HavePieces, value, list, none, more, size_at, align_at, padded, packed, patterns, component_bytes, first_bytes, behind, before, is_whole, elements, members, inside, whole, part, list_bytes, value_bytes}
use Rattle.cl_variables.specs.Declarations.{IsVariable}
use Rattle.cl_typing.proofs.DeepTrees.{IsDeep, deep_node, deep_number, AreDeep, none_deep, more_deep, deep_stable, declared_known, tree_deep}

-- ---- the operands of a list in braces

view_fill : (args : Vec TExpr) → out-TNode (tnode.Fill args) ≡ layer.Fill args
view_fill args = ap out-TNode (sym (rolls-Fill args)) ∙ out-roll-TNode (layer.Fill args)

fill_args : (h : Head) (args own : Vec TExpr) → node_of h args ≡ tnode.Fill own → args ≡ own
fill_args (head.Param k) args own e = let d : layer.Param k ≡ layer.Fill own = sym (out-roll-TNode (layer.Param k)) ∙ ap out-TNode (rolls-Param k ∙ e) ∙ view_fill own in absurd cc
fill_args (head.Var k) args own e = let d : layer.Var k ≡ layer.Fill own = sym (out-roll-TNode (layer.Var k)) ∙ ap out-TNode (rolls-Var k ∙ e) ∙ view_fill own in absurd cc
fill_args (head.Constant k) args own e = let d : layer.Constant k ≡ layer.Fill own = sym (out-roll-TNode (layer.Constant k)) ∙ ap out-TNode (rolls-Constant k ∙ e) ∙ view_fill own in absurd cc
fill_args head.Convert args own e = let d : layer.Convert args ≡ layer.Fill own = sym (out-roll-TNode (layer.Convert args)) ∙ ap out-TNode (rolls-Convert args ∙ e) ∙ view_fill own in absurd cc
fill_args (head.Unary op) args own e = let d : layer.Unary op args ≡ layer.Fill own = sym (out-roll-TNode (layer.Unary op args)) ∙ ap out-TNode (rolls-Unary op args ∙ e) ∙ view_fill own in absurd cc
fill_args (head.Binary op) args own e = let d : layer.Binary op args ≡ layer.Fill own = sym (out-roll-TNode (layer.Binary op args)) ∙ ap out-TNode (rolls-Binary op args ∙ e) ∙ view_fill own in absurd cc
fill_args (head.Assign op) args own e = let d : layer.Assign op args ≡ layer.Fill own = sym (out-roll-TNode (layer.Assign op args)) ∙ ap out-TNode (rolls-Assign op args ∙ e) ∙ view_fill own in absurd cc
fill_args head.Cond args own e = let d : layer.Cond args ≡ layer.Fill own = sym (out-roll-TNode (layer.Cond args)) ∙ ap out-TNode (rolls-Cond args ∙ e) ∙ view_fill own in absurd cc
fill_args head.Vector args own e = let d : layer.Vector args ≡ layer.Fill own = sym (out-roll-TNode (layer.Vector args)) ∙ ap out-TNode (rolls-Vector args ∙ e) ∙ view_fill own in absurd cc
fill_args (head.Call f) args own e = let d : layer.Call f args ≡ layer.Fill own = sym (out-roll-TNode (layer.Call f args)) ∙ ap out-TNode (rolls-Call f args ∙ e) ∙ view_fill own in absurd cc
fill_args (head.Builtin f) args own e = let d : layer.Builtin f args ≡ layer.Fill own = sym (out-roll-TNode (layer.Builtin f args)) ∙ ap out-TNode (rolls-Builtin f args ∙ e) ∙ view_fill own in absurd cc
fill_args head.Index args own e = let d : layer.Index args ≡ layer.Fill own = sym (out-roll-TNode (layer.Index args)) ∙ ap out-TNode (rolls-Index args ∙ e) ∙ view_fill own in absurd cc
fill_args (head.Member k) args own e = let d : layer.Member k args ≡ layer.Fill own = sym (out-roll-TNode (layer.Member k args)) ∙ ap out-TNode (rolls-Member k args ∙ e) ∙ view_fill own in absurd cc
fill_args (head.Components at) args own e = let d : layer.Components at args ≡ layer.Fill own = sym (out-roll-TNode (layer.Components at args)) ∙ ap out-TNode (rolls-Components at args ∙ e) ∙ view_fill own in absurd cc
fill_args head.Comma args own e = let d : layer.Comma args ≡ layer.Fill own = sym (out-roll-TNode (layer.Comma args)) ∙ ap out-TNode (rolls-Comma args ∙ e) ∙ view_fill own in absurd cc
fill_args head.Fill args own e = let d : layer.Fill args ≡ layer.Fill own = sym (view_fill args) ∙ ap out-TNode e ∙ view_fill own in cc

fill_deep : (cs : List ClType) (t : TExpr) (own : Vec TExpr) → IsDeep cs t → (out-TExpr t).node ≡ tnode.Fill own → AreDeep cs own.items
fill_deep cs t own (deep_node _ ty p h args k n d) e = subst (λ v. AreDeep cs v.items) (fill_args h args own (sym n.is ∙ e)) d
fill_deep cs t own (deep_number _ ty p bits k n) e =
    let d : layer.Number bits ≡ layer.Fill own = sym (out-roll-TNode (layer.Number bits)) ∙ ap out-TNode (rolls-Number bits ∙ sym n.is ∙ e) ∙ view_fill own in absurd cc

-- ---- parts

elements_same : (one two : List Piece → Filled) → ((ps : List Piece) → one ps ≡ two ps) → (n : ℕ) (ps : List Piece) → elements one n ps ≡ elements two n ps
elements_same one two h zero ps = refl
elements_same one two h (suc n) ps = ap (λ f. before f.0 (elements one n f.1)) (h ps) ∙ ap (before (two ps).0) (elements_same one two h n (two ps).1)

module _ (cs more_types : List ClType) (b : IsTable cs) (g : IsGrown cs more_types) where
  size_stays : (t : TypeId) → IsKnown cs t → size_at more_types t ≡ size_at cs t
  size_stays t k = ap size_of (layout_stays cs more_types t g k)

  align_stays : (t : TypeId) → IsKnown cs t → align_at more_types t ≡ align_at cs t
  align_stays t k = ap align_of (layout_stays cs more_types t g k)

  module _ (one two : TypeId → List Piece → Filled) (same : (t : TypeId) (ps : List Piece) → IsKnown cs t → one t ps ≡ two t ps) where
    members_same : (ms : List Member) (bs : List ℕ) (ps : List Piece) → MembersKnown cs ms → members more_types one ms bs ps ≡ members cs two ms bs ps
    members_same [] bs ps k = refl
    members_same (m ∷ ms) bs ps k =
        (λ i. members more_types one ms (padded (up (align_stays m.ty k.0 i) (length bs)) bs ++ (same m.ty ps k.0 i).0) (same m.ty ps k.0 i).1)
        ∙ members_same ms (padded (up (align_at cs m.ty) (length bs)) bs ++ (two m.ty ps).0) (two m.ty ps).1 k.1

    inside_same : (t : TypeId) (s : Shape) (ps : List Piece) → IsKnown cs t → FitsTable cs s → inside more_types one t s ps ≡ inside cs two t s ps
    inside_same t shape.Void ps k f = refl
    inside_same t shape.Bool ps k f = refl
    inside_same t (shape.Integers u) ps k f = refl
    inside_same t (shape.Array elem len nested) ps k f = elements_same (one elem) (two elem) (λ qs. same elem qs f.0) len ps
    inside_same t shape.Struct ps k f = ap (λ ms. members more_types one ms [] ps) (members_stay cs more_types t g k) ∙ members_same (members_of cs t) [] ps (known_members cs t b k)
    inside_same t (shape.Pointer space to readonly restricted) ps k f = refl

    inside_stays : (t : TypeId) (ps : List Piece) → IsKnown cs t → inside more_types one t (shape_of more_types t) ps ≡ inside cs two t (shape_of cs t) ps
    inside_stays t ps k = ap (λ s. inside more_types one t s ps) (shape_stays cs more_types t b g k) ∙ inside_same t (shape_of cs t) ps k (known_fits cs t b k)

  part_stays : (deep : ℕ) (t : TypeId) (ps : List Piece) → IsKnown cs t → part deep more_types t ps ≡ part deep cs t ps
  part_stays zero t ps k = ap (λ n. (padded n (first_bytes ps), behind ps)) (size_stays t k)
  part_stays (suc deep) t ps k = λ i. if is_whole t ps then (padded (size_stays t k i) (first_bytes ps), behind ps) else whole (size_stays t k i) (inside_stays (part deep more_types) (part deep cs) (part_stays deep) t ps k i)

  list_same : (t : TypeId) (s : Shape) (ps : List Piece) → IsKnown cs t → FitsTable cs s → list_bytes more_types t s ps ≡ list_bytes cs t s ps
  list_same t shape.Void ps k f = ap (λ n. padded n (first_bytes ps)) (size_stays t k)
  list_same t shape.Bool ps k f = ap (λ n. padded n (first_bytes ps)) (size_stays t k)
  list_same t (shape.Integers u) ps k f = ap (λ n. padded n (first_bytes ps)) (size_stays t k)
  list_same t (shape.Array elem len nested) ps k f = λ i. padded (size_stays t k i) (inside_same (part 16 more_types) (part 16 cs) (part_stays 16) t (shape.Array elem len nested) ps k f i).0
  list_same t shape.Struct ps k f = λ i. padded (size_stays t k i) (inside_same (part 16 more_types) (part 16 cs) (part_stays 16) t shape.Struct ps k f i).0
  list_same t (shape.Pointer space to readonly restricted) ps k f = ap (λ n. padded n (first_bytes ps)) (size_stays t k)

  list_stays : (t : TypeId) (ps : List Piece) → IsKnown cs t → list_bytes more_types t (shape_of more_types t) ps ≡ list_bytes cs t (shape_of cs t) ps
  list_stays t ps k = ap (λ s. list_bytes more_types t s ps) (shape_stays cs more_types t b g k) ∙ list_same t (shape_of cs t) ps k (known_fits cs t b k)

  value_stays : (t : TypeId) (ns : List ℕ) → IsKnown cs t → value_bytes more_types t ns ≡ value_bytes cs t ns
  value_stays t ns k = λ i. padded (size_stays t k i) (packed (component_bytes (shape_stays cs more_types t b g k i)) ns)

  -- ---- trees

  own_known : (t : TExpr) → IsStable cs t → IsKnown cs (out-TExpr t).ty
  own_known t s = subst (IsKnown cs) (root_is t cs) s.known

  mutual
    bytes_stay : (t : TExpr) (bs : List ℕ) → IsDeep cs t → HasBytes cs t bs → HasBytes more_types t bs
    bytes_stay t bs d (value _ _ alone is) =
        let s : IsStable cs t = deep_stable cs t b d in
        value t bs alone (is ∙ sym (ap (λ c. value_bytes more_types (out-TExpr t).ty (patterns c)) (constancy_stays cs more_types t g s.steady) ∙ value_stays (out-TExpr t).ty (patterns (constancy_of cs t)) (own_known t s)))
    bytes_stay t bs d (list _ args ps _ node pieces is) =
        let s : IsStable cs t = deep_stable cs t b d in
        list t args ps bs node (pieces_stay args.items ps (fill_deep cs t args d node) pieces) (is ∙ sym (list_stays (out-TExpr t).ty ps (own_known t s)))

    pieces_stay : (ts : List TExpr) (ps : List Piece) → AreDeep cs ts → HavePieces cs ts ps → HavePieces more_types ts ps
    pieces_stay _ _ none_deep none = none
    pieces_stay _ _ (more_deep _ _ d ds) (more t ts bs ps h hs) = more t ts bs ps (bytes_stay t bs d h) (pieces_stay ts ps ds hs)

pub variable_lasts : (cs : List ClType) (w : Where) (kind : DeclaredKind) (again : Env → List ℕ → Bool) (env : Env) (q : Qualified) (d : InitDeclor) (after : Env) (name : List ℕ) (place : Place) (ty : TypeId) (own : Space) (t : TExpr) → IsTable cs → IsVariable cs w kind again env q d after name place ty own (Some t) → IsLasting cs t
variable_lasts cs w kind again env q d after name place ty own t b h bs has more_types g =
    bytes_stay cs more_types b g t bs (tree_deep cs b _ _ _ _ h.first h.behind t h.n h.tally (declared_known cs _ 1 h.first h.of) h.initialised) has
