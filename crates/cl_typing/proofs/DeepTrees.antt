-- Typed trees of which the type of each node is in the table.
use Rattle.std.specs.Global.{Vec}
use Rattle.std.proofs.Common.{◌≡◌, ℕ, Bool, List, [], ◌∷◌, ◌++◌, Option, Some, None, sym, subst}
use Rattle.clv_num.specs.declared.Bits.{Bits}
use Rattle.clv_place.specs.declared.place.Place.{Place}
use Rattle.cl_types.specs.declared.types.ClType.{ClType}
use Rattle.cl_types.specs.declared.types.Member.{Member}
use Rattle.cl_types.specs.declared.types.TypeId.{TypeId}
use Rattle.cl_types.specs.Table.{IsTable}
use Rattle.cl_ast.specs.declared.declaration.Init.{Init}
use Rattle.cl_ast.specs.declared.expression.Expr.{Expr}
use Rattle.cl_builtins.specs.declared.kind.Gentype.{Gentype}
use Rattle.cl_builtins.specs.Found.{IsKnown}
use Rattle.cl_builtins.proofs.Growth.{at_known}
use Rattle.cl_tree.specs.declared.expression.TExpr.{TExpr}
use Rattle.cl_tree.specs.declared.expression.TNode.TheVariants as tnode
use Rattle.cl_tree.specs.declared.expression.TNode.TheViews.{out-TExpr}
use Rattle.cl_tree.specs.declared.shape.Shape.TheVariants as shape
use Rattle.cl_tree.specs.Shapes.{shape_of}
use Rattle.cl_rules.specs.declared.rule.Head.{Head}
use Rattle.cl_rules.specs.declared.rule.Head.TheVariants as head
use Rattle.cl_rules.specs.declared.rule.Made.{Made}
use Rattle.cl_rules.specs.declared.rule.Operand.{Operand}
use Rattle.cl_rules.specs.declared.rule.Want.{Want}
use Rattle.cl_scope.specs.Names.{Env}
use Rattle.cl_words.specs.declared.naming.Sketch.{Sketch}
use Rattle.cl_words.specs.Words.{numbers}
use Rattle.cl_make.specs.Building.{IsTyped, IsNode, IsConverted, unasked, fitting, converted, AreConverted, none, more, IsMade, IsNumber, node_of}
use Rattle.cl_make.specs.Ready.{IsStable, AreStable}
use Rattle.cl_make.specs.Wanted.{IsArrayOf, no_array, array, IsDeclaredAs}
use Rattle.cl_make.proofs.Growing.{FitsTable, MembersKnown, known_fits, known_members}
use Rattle.cl_make.proofs.Stays.{wanted_known}
use Rattle.cl_make.proofs.Trees.{made_stable, number_stable}
use Rattle.cl_type_expr.specs.Expressions.{Types, AreTyped, arrow, built_in, cast, component_at, literal_number, more_operands, name, no_operand, operation, size_of_type, size_of_value, vector_literal}
use Rattle.cl_variables.specs.declared.tally.Tally.{Tally}
use Rattle.cl_variables.specs.Declarations.{IsInitialised, init_list, init_open_list, init_over_list, init_value, init_wrong_value, no_init}
use Rattle.cl_variables.specs.Initialisers.{FillsPart, FillsParts, FillsElements, FillsMembers, FillsBraces, IsList, FillsAll, by_list, by_parts, by_value, by_wrong_value, elements_ended, elements_full, filled, its_elements, its_members, its_parts, itself, members_ended, members_full, more_elements, more_members, all_ended, more_all}

mutual
  pub data IsDeep (cs : List ClType) : TExpr → Type 0 where
    deep_node : (t : TExpr) (ty : TypeId) (p : Place) (h : Head) (args : Vec TExpr) → IsKnown cs ty → IsTyped t ty p (node_of h args) → AreDeep cs args.items → IsDeep cs t
    deep_number : (t : TExpr) (ty : TypeId) (p : Place) (bits : Bits) → IsKnown cs ty → IsTyped t ty p (tnode.Number bits) → IsDeep cs t

  pub data AreDeep (cs : List ClType) : List TExpr → Type 0 where
    none_deep : AreDeep cs []
    more_deep : (t : TExpr) (ts : List TExpr) → IsDeep cs t → AreDeep cs ts → AreDeep cs (t ∷ ts)

mutual
  pub deep_stable : (cs : List ClType) (t : TExpr) → IsTable cs → IsDeep cs t → IsStable cs t
  deep_stable cs t b (deep_node _ ty p h args k n d) = made_stable cs t ty p h args b k (all_deep_stable cs args.items b d) n
  deep_stable cs t b (deep_number _ ty p bits k n) = number_stable cs t ty p bits k n

  all_deep_stable : (cs : List ClType) (ts : List TExpr) → IsTable cs → AreDeep cs ts → AreStable cs ts
  all_deep_stable cs [] b none_deep = tt
  all_deep_stable cs (t ∷ ts) b (more_deep _ _ h d) = (deep_stable cs t b h, all_deep_stable cs ts b d)

deep_append : (cs : List ClType) (ts us : List TExpr) → AreDeep cs ts → AreDeep cs us → AreDeep cs (ts ++ us)
deep_append cs [] us none_deep k = k
deep_append cs (t ∷ ts) us (more_deep _ _ h d) k = more_deep t (ts ++ us) h (deep_append cs ts us d k)

first_deep : (cs : List ClType) (t : TExpr) (ts : List TExpr) → AreDeep cs (t ∷ ts) → IsDeep cs t
first_deep cs t ts (more_deep _ _ h d) = h

one_deep : (cs : List ClType) (t : TExpr) → IsDeep cs t → AreDeep cs (t ∷ [])
one_deep cs t h = more_deep t [] h none_deep

node_deep : (cs : List ClType) (t : TExpr) (ty : TypeId) (p : Place) (h : Head) (ts : List TExpr) → IsNode t ty p h ts → IsKnown cs ty → AreDeep cs ts → IsDeep cs t
node_deep cs t ty p h ts n k d = deep_node t ty p h n.args k n.is (subst (AreDeep cs) (sym n.has) d)

converted_deep : (cs : List ClType) (w : Want) (t u : TExpr) → IsConverted cs w t u → IsDeep cs t → IsDeep cs u
converted_deep cs _ _ _ (unasked t) d = d
converted_deep cs _ _ _ (fitting w t h) d = d
converted_deep cs _ _ _ (converted w ty t u h other n) d = node_deep cs u ty (out-TExpr t).place head.Convert (t ∷ []) n (wanted_known cs w ty h) (one_deep cs t d)

all_converted_deep : (cs : List ClType) (ws : List Want) (ts us : List TExpr) → AreConverted cs ws ts us → AreDeep cs ts → AreDeep cs us
all_converted_deep cs _ _ _ none d = none_deep
all_converted_deep cs _ _ _ (more w ws t u ts us h hs) (more_deep _ _ d ds) = more_deep u us (converted_deep cs w t u h d) (all_converted_deep cs ws ts us hs ds)

made_deep : (cs : List ClType) (m : Made) (p : Place) (ts : List TExpr) (t : TExpr) (o : Operand) → IsMade cs m p ts t o → AreDeep cs ts → IsDeep cs t
made_deep cs m p ts t o h d = node_deep cs t h.ty p m.head h.operands h.is (wanted_known cs m.gives h.ty h.gives) (all_converted_deep cs m.wants ts h.operands h.converts d)

number_deep : (cs : List ClType) (g : Gentype) (n : ℕ) (p : Place) (t : TExpr) (o : Operand) → IsNumber cs g n p t o → IsDeep cs t
number_deep cs g n p t o h = deep_number t h.ty p h.bits (wanted_known cs _ h.ty h.gives) h.is

-- ---- expressions

mutual
  pub types_deep : (cs : List ClType) (env : Env) (left : Bool) (e : Expr) (after : Env) (t : TExpr) (o : Operand) → Types cs env left e after t o → IsDeep cs t
  types_deep cs _ _ _ _ _ _ (name env after left e place text args ts os d h t h0 h1 h2 h3 h4 h5) = node_deep cs t d.ty place h [] h5 h4 none_deep
  types_deep cs _ _ _ _ _ _ (literal_number env after left e place n ty args ts os t o h0 h1 h2) = number_deep cs _ _ place t o h2
  types_deep cs _ _ _ _ _ _ (operation env after left e place n args ts os m t o h0 h1 h2 h3) = made_deep cs m place ts t o h3 (are_typed_deep cs _ _ _ _ _ _ h1)
  types_deep cs _ _ _ _ _ _ (arrow env after left e place text args t u v o p q m k h0 h1 h2 h3 h4 h5) = made_deep cs k place (u ∷ []) v q h5 (one_deep cs u (made_deep cs m place (t ∷ []) u p h3 (are_typed_deep cs _ _ _ _ _ _ h1)))
  types_deep cs _ _ _ _ _ _ (component_at env after left e place args t i u o p q k h0 h1 h2 h3 h4) = made_deep cs _ place (t ∷ []) u q h4 (one_deep cs t (first_deep cs t (i ∷ []) (are_typed_deep cs _ _ _ _ _ _ h1)))
  types_deep cs _ _ _ _ _ _ (size_of_value env after left e place args t u o p h0 h1 h2 h3) = number_deep cs _ _ place u p h3
  types_deep cs _ _ _ _ _ _ (size_of_type env after left e place term args q star t o h0 h1 h2 h3) = number_deep cs _ _ place t o h3
  types_deep cs _ _ _ _ _ _ (cast env middle after left e place term args q star ts os m t o h0 h1 h2 h3 h4) = made_deep cs m place ts t o h4 (are_typed_deep cs _ _ _ _ _ _ h2)
  types_deep cs _ _ _ _ _ _ (vector_literal env middle after left e place term args q star ts os m t o h0 h1 h2 h3 h4) = made_deep cs m place ts t o h4 (are_typed_deep cs _ _ _ _ _ _ h2)
  types_deep cs _ _ _ _ _ _ (built_in env after left e place text args ts os tys found t o h0 h1 h2 h3 h4 h5 h6) = made_deep cs _ place ts t o h6 (are_typed_deep cs _ _ _ _ _ _ h1)

  are_typed_deep : (cs : List ClType) (env : Env) (left : Bool) (es : List Expr) (after : Env) (ts : List TExpr) (os : List Operand) → AreTyped cs env left es after ts os → AreDeep cs ts
  are_typed_deep cs _ _ _ _ _ _ (no_operand env left) = none_deep
  are_typed_deep cs _ _ _ _ _ _ (more_operands env middle after left e es t ts o os h0 h1) = more_deep t ts (types_deep cs _ _ _ _ _ _ h0) (are_typed_deep cs _ _ _ _ _ _ h1)

-- ---- types of declared names

array_known : (cs : List ClType) (elem : TypeId) (ns : List ℕ) (t : TypeId) → IsKnown cs elem → IsArrayOf cs elem ns t → IsKnown cs t
array_known cs _ _ _ k (no_array t) = k
array_known cs _ _ _ k (array elem t u n ns h at) = at_known cs _ u at

pub declared_known : (cs : List ClType) (k : Sketch) (n : ℕ) (t : TypeId) → IsDeclaredAs cs k n t → IsKnown cs t
declared_known cs k n t h = array_known cs h.elem (numbers n k.lengths) t (wanted_known cs k.of h.elem h.wanted) h.arrays

element_known : (cs : List ClType) (t elem : TypeId) (len : ℕ) (nested : Bool) → IsTable cs → IsKnown cs t → shape_of cs t ≡ shape.Array elem len nested → IsKnown cs elem
element_known cs t elem len nested b k e = let f : FitsTable cs (shape.Array elem len nested) = subst (FitsTable cs) e (known_fits cs t b k) in f.0

-- ---- initialisers

module _ (cs : List ClType) (b : IsTable cs) (constant : Bool) where
  mutual
    fills_part_deep : (env : Env) (items : List Init) (ty : TypeId) (after : Env) (left : List Init) (ts : List TExpr) (tally : Tally) → IsKnown cs ty → FillsPart cs constant env items ty after left ts tally → AreDeep cs ts
    fills_part_deep _ _ _ _ _ _ _ k (by_list env after place items rest ty t varies h0) = one_deep cs t (is_list_deep _ _ _ _ _ _ _ k h0)
    fills_part_deep _ _ _ _ _ _ _ k (by_value env after e rest ty t u o varies tally h0 h1 h2 h3 h4) = one_deep cs u (converted_deep cs _ t u h4 (types_deep cs _ _ _ _ _ _ h0.types))
    fills_part_deep _ _ _ _ _ _ _ k (by_wrong_value env after e rest ty t o varies tally h0 h1 h2 h3) = none_deep
    fills_part_deep _ _ _ _ _ _ _ k (by_parts env seen after e rest left ty t ts o varies tally h0 h1 h2) = fills_parts_deep _ _ _ _ _ _ _ k h2

    fills_parts_deep : (env : Env) (items : List Init) (ty : TypeId) (after : Env) (left : List Init) (ts : List TExpr) (tally : Tally) → IsKnown cs ty → FillsParts cs constant env items ty after left ts tally → AreDeep cs ts
    fills_parts_deep _ _ _ _ _ _ _ k (its_elements env after items left ty elem len nested ts tally h0 h1) = fills_elements_deep _ _ _ _ _ _ _ _ (element_known cs ty elem len nested b k h0) h1
    fills_parts_deep _ _ _ _ _ _ _ k (its_members env after items left ty ts tally h0 h1) = fills_members_deep _ _ _ _ _ _ _ (known_members cs ty b k) h1

    fills_elements_deep : (env : Env) (items : List Init) (elem : TypeId) (n : ℕ) (after : Env) (left : List Init) (ts : List TExpr) (tally : Tally) → IsKnown cs elem → FillsElements cs constant env items elem n after left ts tally → AreDeep cs ts
    fills_elements_deep _ _ _ _ _ _ _ _ k (elements_full env items elem) = none_deep
    fills_elements_deep _ _ _ _ _ _ _ _ k (elements_ended env elem n) = none_deep
    fills_elements_deep _ _ _ _ _ _ _ _ k (more_elements env middle after i items between left elem n ts us a c h0 h1) = deep_append cs ts us (fills_part_deep _ _ _ _ _ _ _ k h0) (fills_elements_deep _ _ _ _ _ _ _ _ k h1)

    fills_members_deep : (env : Env) (items : List Init) (ms : List Member) (after : Env) (left : List Init) (ts : List TExpr) (tally : Tally) → MembersKnown cs ms → FillsMembers cs constant env items ms after left ts tally → AreDeep cs ts
    fills_members_deep _ _ _ _ _ _ _ k (members_full env items) = none_deep
    fills_members_deep _ _ _ _ _ _ _ k (members_ended env m ms) = none_deep
    fills_members_deep _ _ _ _ _ _ _ k (more_members env middle after i items between left m ms ts us a c h0 h1) = deep_append cs ts us (fills_part_deep _ _ _ _ _ _ _ k.0 h0) (fills_members_deep _ _ _ _ _ _ _ k.1 h1)

    fills_braces_deep : (env : Env) (items : List Init) (ty : TypeId) (after : Env) (left : List Init) (ts : List TExpr) (tally : Tally) → IsKnown cs ty → FillsBraces cs constant env items ty after left ts tally → AreDeep cs ts
    fills_braces_deep _ _ _ _ _ _ _ k (its_parts env after items left ty ts tally h0 h1) = fills_parts_deep _ _ _ _ _ _ _ k h1
    fills_braces_deep _ _ _ _ _ _ _ k (itself env after e left ty ts tally h0 h1) = fills_part_deep _ _ _ _ _ _ _ k h1

    is_list_deep : (env : Env) (place : Place) (items : List Init) (ty : TypeId) (after : Env) (t : TExpr) (varies : Bool) → IsKnown cs ty → IsList cs constant env place items ty after t varies → IsDeep cs t
    is_list_deep _ _ _ _ _ _ _ k (filled env after place items ty ts t tally h0 h1 h2) = node_deep cs t ty place head.Fill ts h2 k (fills_braces_deep _ _ _ _ _ _ _ k h0)

  fills_all_deep : (env : Env) (items : List Init) (elem : TypeId) (n : ℕ) (after : Env) (ts : List TExpr) (tally : Tally) → IsKnown cs elem → FillsAll cs constant env items elem n after ts tally → AreDeep cs ts
  fills_all_deep _ _ _ _ _ _ _ k (all_ended env elem) = none_deep
  fills_all_deep _ _ _ _ _ _ _ k (more_all env middle after i items between elem n ts us a c h0 h1) = deep_append cs ts us (fills_part_deep _ _ _ _ _ _ _ k h0) (fills_all_deep _ _ _ _ _ _ _ k h1)

  abbrev IsDeepTree : Option TExpr → Type 0
  IsDeepTree None = Unit {0}
  IsDeepTree (Some t) = IsDeep cs t

  initialised_deep : (env : Env) (i : Option Init) (k : Sketch) (ty : TypeId) (after : Env) (t : Option TExpr) (n : ℕ) (tally : Tally) → IsKnown cs ty → IsInitialised cs constant env i k ty after t n tally → IsDeepTree t
  initialised_deep _ _ _ _ _ _ _ _ own (no_init env k ty) = tt
  initialised_deep _ _ _ _ _ _ _ _ own (init_value env after e k ty t u o varies tally h0 h1 h2 h3) = converted_deep cs _ t u h3 (types_deep cs _ _ _ _ _ _ h0.types)
  initialised_deep _ _ _ _ _ _ _ _ own (init_wrong_value env after e k ty t o varies tally h0 h1 h2) = tt
  initialised_deep _ _ _ _ _ _ _ _ own (init_list env after place items k ty t varies h0 h1) = is_list_deep _ _ _ _ _ _ _ own h1
  initialised_deep _ _ _ _ _ _ _ _ own (init_open_list env after place items k ty elem whole len n nested ts t varies h0 h1 h2 h3 h4) =
      node_deep cs t whole place head.Fill ts h4 (declared_known cs k n whole h3) (fills_all_deep _ _ _ _ _ _ _ (element_known cs ty elem len nested b own h1) h2.fills)
  initialised_deep _ _ _ _ _ _ _ _ own (init_over_list env after place items k ty elem len n nested ts varies h0 h1 h2 h3) = tt

  pub tree_deep : (env : Env) (i : Option Init) (k : Sketch) (ty : TypeId) (after : Env) (t : TExpr) (n : ℕ) (tally : Tally) → IsKnown cs ty → IsInitialised cs constant env i k ty after (Some t) n tally → IsDeep cs t
  tree_deep env i k ty after t n tally own h = initialised_deep env i k ty after (Some t) n tally own h
