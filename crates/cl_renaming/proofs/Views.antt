-- What a typing derivation says of a node of each kind.
use Rattle.std.specs.Global.{Vec}
use Rattle.std.proofs.Common.{◌≡◌, ℕ, List, [], ◌∷◌, refl, sym, ap, ◌∙◌, subst, Bool, true, false, ◌⊎◌, inl, inr, Option, Some, None}
use Rattle.clv_place.specs.declared.place.Place.{Place}
use Rattle.cl_types.specs.declared.types.ClType.{ClType}
use Rattle.cl_types.specs.declared.types.ClType.TheVariants as ty
use Rattle.cl_types.specs.declared.types.Member.{Member}
use Rattle.cl_types.specs.declared.types.TypeId.{TypeId}
use Rattle.cl_types.specs.declared.operator.UnOp.TheVariants as un
use Rattle.cl_types.specs.Layout.{size_of}
use Rattle.cl_types.specs.Table.{tree_of}
use Rattle.cl_builtins.specs.declared.call.Found.{Found}
use Rattle.cl_builtins.specs.Kinds.{uint, element_of}
use Rattle.cl_builtins.specs.Found.{IsKnown, Means}
use Rattle.cl_builtins.specs.Tables.{IsAt}
use Rattle.cl_ast.specs.declared.expression.Base.{Base}
use Rattle.cl_ast.specs.declared.expression.Base.TheVariants as base
use Rattle.cl_ast.specs.declared.expression.Base.TheVariants.{rolls-Void, rolls-Bool, rolls-Int, rolls-Vector, rolls-Sized, rolls-Named, rolls-Struct}
use Rattle.cl_ast.specs.declared.expression.Base.TheOpen.{Base-F}
use Rattle.cl_ast.specs.declared.expression.Base.TheOpen as layer
use Rattle.cl_ast.specs.declared.expression.Base.TheViews.{out-Expr, out-Base, out-roll-Base}
use Rattle.cl_ast.specs.declared.expression.Expr.{Expr}
use Rattle.cl_ast.specs.declared.expression.ExprNode.{ExprNode}
use Rattle.cl_ast.specs.declared.expression.ExprNode.TheVariants as node
use Rattle.cl_ast.specs.declared.expression.Field.{Field}
use Rattle.cl_ast.specs.declared.expression.TypeTerm.{TypeTerm}
use Rattle.cl_tree.specs.declared.shape.Shape.{Shape}
use Rattle.cl_tree.specs.declared.shape.Shape.TheVariants as shape
use Rattle.cl_tree.specs.declared.expression.TExpr.{TExpr}
use Rattle.cl_tree.specs.Shapes.{is_vector, members_of}
use Rattle.cl_rules.specs.declared.rule.Head.{Head}
use Rattle.cl_rules.specs.declared.rule.Head.TheVariants as head
use Rattle.cl_rules.specs.declared.rule.Judged.TheVariants.{Makes}
use Rattle.cl_rules.specs.declared.rule.Made.{Made}
use Rattle.cl_rules.specs.declared.rule.Operand.{Operand}
use Rattle.cl_rules.specs.declared.rule.Qualified.{Qualified}
use Rattle.cl_rules.specs.declared.rule.Want.TheVariants as want
use Rattle.cl_rules.specs.Calls.{cast_rule, literal, no_size, size_tests, wants_of}
use Rattle.cl_rules.specs.Operands.{first_broken, integers, type_of, component, value}
use Rattle.cl_rules.specs.Operators.{dereferenced}
use Rattle.cl_rules.specs.Parts.{member}
use Rattle.cl_scope.specs.declared.scope.Declared.{Declared}
use Rattle.cl_scope.specs.declared.scope.DeclaredKind.TheVariants as kind
use Rattle.cl_scope.specs.Names.{Env, find}
use Rattle.cl_words.specs.Words.{word_shape, is_sized, plain, named_type, struct_tests, name_or_none}
use Rattle.cl_make.specs.Building.{IsMade, IsNode, IsNumber, number_type, name_head, operand_named}
use Rattle.cl_make.specs.Wanted.{IsWanted, target}
use Rattle.cl_type_expr.specs.Expressions.{first_left, tagged, is_tag_again, tag_of, term_size, component_of, flags_fit, AreArguments, Types, AreTyped, IsTermOf, IsBase, AreMembers, arrow, built_in, cast, component_at, literal_number, name, named, operation, size_of_type, size_of_value, struct_members, struct_tag, vector_literal, word}
use Rattle.cl_type_expr.specs.Judging.{judge}
use Rattle.cl_type_expr.specs.Syntax.{items_of, IsExpr, IsStruct}

-- ---- nodes

pub record Operated (cs : List ClType) (env : Env) (left : Bool) (after : Env) (place : Place) (n : ExprNode) (args : List Expr) (t : TExpr) (o : Operand) : Type 0 where
  pub trees : List TExpr
  pub operands : List Operand
  pub made : Made
  pub typed : AreTyped cs env (first_left left n) args after trees operands
  pub judged : judge cs after left n operands ≡ Some (Makes made)
  pub makes : IsMade cs made place trees t o

pub record NameIs (cs : List ClType) (env after : Env) (place : Place) (text : List ℕ) (args : List Expr) (t : TExpr) (o : Operand) : Type 0 where
  pub trees : List TExpr
  pub operands : List Operand
  pub declared : Declared
  pub of : Head
  pub typed : AreTyped cs env false args after trees operands
  pub found : find after text ≡ Some declared
  pub heads : name_head declared.kind ≡ Some of
  pub known : IsKnown cs declared.ty
  pub root : IsNode t declared.ty place of []
  pub is : o ≡ operand_named cs declared

pub record NumberIs (cs : List ClType) (env after : Env) (place : Place) (n ty : ℕ) (args : List Expr) (t : TExpr) (o : Operand) : Type 0 where
  pub trees : List TExpr
  pub operands : List Operand
  pub typed : AreTyped cs env false args after trees operands
  pub is : IsNumber cs (number_type ty) n place t o

pub record ArrowIs (cs : List ClType) (env : Env) (left : Bool) (after : Env) (place : Place) (text : List ℕ) (args : List Expr) (t : TExpr) (o : Operand) : Type 0 where
  pub tree : TExpr
  pub operand : Operand
  pub whole : TExpr
  pub of : Operand
  pub pointed : Made
  pub made : Made
  pub typed : AreTyped cs env false args after (tree ∷ []) (operand ∷ [])
  pub points : dereferenced operand operand.shape ≡ Makes pointed
  pub leads : IsMade cs pointed place (tree ∷ []) whole of
  pub judged : member left (members_of cs of.facts.ty) text of ≡ Makes made
  pub makes : IsMade cs made place (whole ∷ []) t o

pub record ComponentIs (cs : List ClType) (env : Env) (left : Bool) (after : Env) (place : Place) (args : List Expr) (t : TExpr) (o : Operand) : Type 0 where
  pub tree : TExpr
  pub index : TExpr
  pub operand : Operand
  pub other : Operand
  pub number : ℕ
  pub typed : AreTyped cs env left args after (tree ∷ index ∷ []) (operand ∷ other ∷ [])
  pub vector : is_vector operand.shape ≡ true
  pub which : component_of cs operand index ≡ Some number
  pub makes : IsMade cs (component (head.Components (number ∷ [])) (integers (element_of (type_of operand.shape))) operand) place (tree ∷ []) t o

pub record SizeIs (cs : List ClType) (env after : Env) (place : Place) (args : List Expr) (t : TExpr) (o : Operand) : Type 0 where
  pub tree : TExpr
  pub operand : Operand
  pub typed : AreTyped cs env false args after (tree ∷ []) (operand ∷ [])
  pub sized : no_size operand ≡ false
  pub is : IsNumber cs uint (size_of (tree_of cs operand.facts.ty.0)) place t o

pub record TypeSizeIs (cs : List ClType) (env after : Env) (place : Place) (term : TypeTerm) (t : TExpr) (o : Operand) : Type 0 where
  pub of : Qualified
  pub star : Option Bool
  pub says : IsTermOf cs env term after of star
  pub sized : first_broken (size_tests of star) ≡ None
  pub is : IsNumber cs uint (term_size cs of star) place t o

pub record CastIs (cs : List ClType) (env after : Env) (place : Place) (term : TypeTerm) (args : List Expr) (t : TExpr) (o : Operand) : Type 0 where
  pub middle : Env
  pub of : Qualified
  pub star : Option Bool
  pub trees : List TExpr
  pub operands : List Operand
  pub made : Made
  pub says : IsTermOf cs env term middle of star
  pub typed : AreTyped cs middle false args after trees operands
  pub judged : cast_rule of star operands ≡ Makes made
  pub makes : IsMade cs made place trees t o

pub record LiteralIs (cs : List ClType) (env after : Env) (place : Place) (term : TypeTerm) (args : List Expr) (t : TExpr) (o : Operand) : Type 0 where
  pub middle : Env
  pub of : Qualified
  pub star : Option Bool
  pub trees : List TExpr
  pub operands : List Operand
  pub made : Made
  pub says : IsTermOf cs env term middle of star
  pub typed : AreTyped cs middle false args after trees operands
  pub judged : literal of star operands ≡ Makes made
  pub makes : IsMade cs made place trees t o

pub record BuiltInIs (cs : List ClType) (env : Env) (left : Bool) (after : Env) (place : Place) (text : List ℕ) (args : List Expr) (t : TExpr) (o : Operand) : Type 0 where
  pub trees : List TExpr
  pub operands : List Operand
  pub types : List TypeId
  pub found : Found
  pub typed : AreTyped cs env false args after trees operands
  pub judged : judge cs after left (node.Call text) operands ≡ None
  pub arguments : AreArguments cs operands types
  pub means : Means text cs types cs found
  pub flags : flags_fit cs text trees ≡ true
  pub makes : IsMade cs (value (wants_of found.params) (head.Builtin found.builtin) (want.Type found.result)) place trees t o

-- a node with a rule of its own
abbrev pub Other : List ClType → Env → Bool → Env → Place → List Expr → TExpr → Operand → ExprNode → Type 0
Other cs env left after place args t o (node.Name text) = NameIs cs env after place text args t o
Other cs env left after place args t o (node.Number n ty) = NumberIs cs env after place n ty args t o
Other cs env left after place args t o (node.Unary op) = (op ≡ un.Sizeof) × SizeIs cs env after place args t o
Other cs env left after place args t o node.Index = ComponentIs cs env left after place args t o
Other cs env left after place args t o (node.Member text pointed) = (pointed ≡ true) × ArrowIs cs env left after place text args t o
Other cs env left after place args t o (node.SizeofType' quals said star) = TypeSizeIs cs env after place (record { spec = record { quals = quals; base = said }; star = star }) t o
Other cs env left after place args t o (node.Cast' quals said star) = CastIs cs env after place (record { spec = record { quals = quals; base = said }; star = star }) args t o
Other cs env left after place args t o (node.Vector' quals said star) = LiteralIs cs env after place (record { spec = record { quals = quals; base = said }; star = star }) args t o
Other cs env left after place args t o (node.Call text) = BuiltInIs cs env left after place text args t o
Other cs env left after place args t o _ = ⊥

abbrev pub By : List ClType → Env → Bool → Env → TExpr → Operand → Place → ExprNode → List Expr → Type 0
By cs env left after t o place n args = Operated cs env left after place n args t o ⊎ Other cs env left after place args t o n

module _ (cs : List ClType) (env : Env) (left : Bool) (after : Env) (t : TExpr) (o : Operand) (e : Expr) (place : Place) (n : ExprNode) (args : List Expr) (h : IsExpr e place n args) where
  to_own : By cs env left after t o place n args → By cs env left after t o (out-Expr e).place (out-Expr e).node (out-Expr e).args.items
  to_own x =
      subst (λ z. By cs env left after t o z (out-Expr e).node (out-Expr e).args.items) (sym h.at)
      (subst (λ z. By cs env left after t o place z (out-Expr e).args.items) (sym h.is) (subst (λ z. By cs env left after t o place n z) (sym h.has) x))

  from_own : By cs env left after t o (out-Expr e).place (out-Expr e).node (out-Expr e).args.items → By cs env left after t o place n args
  from_own x =
      subst (λ z. By cs env left after t o z n args) h.at
      (subst (λ z. By cs env left after t o (out-Expr e).place z args) h.is (subst (λ z. By cs env left after t o (out-Expr e).place (out-Expr e).node z) h.has x))

own_view : (cs : List ClType) (i0 : Env) (i1 : Bool) (i2 : Expr) (i3 : Env) (i4 : TExpr) (i5 : Operand) → Types cs i0 i1 i2 i3 i4 i5 → By cs i0 i1 i3 i4 i5 (out-Expr i2).place (out-Expr i2).node (out-Expr i2).args.items
own_view cs _ _ _ _ _ _ (name env after left e place text args ts os d h t h0 h1 h2 h3 h4 h5) =
    to_own cs env left after t (operand_named cs d) e place (node.Name text) args h0
    (inr (record { trees = ts; operands = os; declared = d; of = h; typed = h1; found = h2; heads = h3; known = h4; root = h5; is = refl }))
own_view cs _ _ _ _ _ _ (literal_number env after left e place n ty args ts os t o h0 h1 h2) =
    to_own cs env left after t o e place (node.Number n ty) args h0 (inr (record { trees = ts; operands = os; typed = h1; is = h2 }))
own_view cs _ _ _ _ _ _ (operation env after left e place n args ts os m t o h0 h1 h2 h3) =
    to_own cs env left after t o e place n args h0 (inl (record { trees = ts; operands = os; made = m; typed = h1; judged = h2; makes = h3 }))
own_view cs _ _ _ _ _ _ (arrow env after left e place text args t u v o p q m k h0 h1 h2 h3 h4 h5) =
    to_own cs env left after v q e place (node.Member text true) args h0
    (inr (refl, record { tree = t; operand = o; whole = u; of = p; pointed = m; made = k; typed = h1; points = h2; leads = h3; judged = h4; makes = h5 }))
own_view cs _ _ _ _ _ _ (component_at env after left e place args t i u o p q k h0 h1 h2 h3 h4) =
    to_own cs env left after u q e place node.Index args h0
    (inr (record { tree = t; index = i; operand = o; other = p; number = k; typed = h1; vector = h2; which = h3; makes = h4 }))
own_view cs _ _ _ _ _ _ (size_of_value env after left e place args t u o p h0 h1 h2 h3) =
    to_own cs env left after u p e place (node.Unary un.Sizeof) args h0 (inr (refl, record { tree = t; operand = o; typed = h1; sized = h2; is = h3 }))
own_view cs _ _ _ _ _ _ (size_of_type env after left e place term args q star t o h0 h1 h2 h3) =
    to_own cs env left after t o e place (node.SizeofType term) args h0 (inr (record { of = q; star = star; says = h1; sized = h2; is = h3 }))
own_view cs _ _ _ _ _ _ (cast env middle after left e place term args q star ts os m t o h0 h1 h2 h3 h4) =
    to_own cs env left after t o e place (node.Cast term) args h0
    (inr (record { middle = middle; of = q; star = star; trees = ts; operands = os; made = m; says = h1; typed = h2; judged = h3; makes = h4 }))
own_view cs _ _ _ _ _ _ (vector_literal env middle after left e place term args q star ts os m t o h0 h1 h2 h3 h4) =
    to_own cs env left after t o e place (node.Vector term) args h0
    (inr (record { middle = middle; of = q; star = star; trees = ts; operands = os; made = m; says = h1; typed = h2; judged = h3; makes = h4 }))
own_view cs _ _ _ _ _ _ (built_in env after left e place text args ts os tys found t o h0 h1 h2 h3 h4 h5 h6) =
    to_own cs env left after t o e place (node.Call text) args h0
    (inr (record { trees = ts; operands = os; types = tys; found = found; typed = h1; judged = h2; arguments = h3; means = h4; flags = h5; makes = h6 }))

pub viewed : (cs : List ClType) (env : Env) (left : Bool) (e : Expr) (after : Env) (t : TExpr) (o : Operand) (place : Place) (n : ExprNode) (args : List Expr) → IsExpr e place n args → Types cs env left e after t o → By cs env left after t o place n args
viewed cs env left e after t o place n args h x = from_own cs env left after t o e place n args h (own_view cs env left e after t o x)

-- ---- words of types

pub record WordIs (cs : List ClType) (env : Env) (b : Base) (after : Env) (q : Qualified) : Type 0 where
  pub means : Shape
  pub type : TypeId
  pub says : word_shape b ≡ Some means
  pub wanted : IsWanted cs (want.Of means) type
  pub same : after ≡ env
  pub is : q ≡ plain (target cs type) (is_sized b)

pub record NamedIs (cs : List ClType) (env : Env) (b : Base) (after : Env) (q : Qualified) : Type 0 where
  pub text : List ℕ
  pub place : Place
  pub declared : Declared
  pub names : b ≡ base.Named text place
  pub found : find env text ≡ Some declared
  pub typedef : declared.kind ≡ kind.Typedef
  pub known : IsKnown cs declared.ty
  pub same : after ≡ env
  pub is : q ≡ named_type (target cs declared.ty) declared.readonly declared.space

pub record TagIs (cs : List ClType) (env : Env) (b : Base) (after : Env) (q : Qualified) : Type 0 where
  pub text : Option (List ℕ)
  pub place : Place
  pub declared : Declared
  pub struct : IsStruct b text place None
  pub found : tag_of env text ≡ Some declared
  pub complete : declared.complete ≡ true
  pub known : IsKnown cs declared.ty
  pub same : after ≡ env
  pub is : q ≡ plain (target cs declared.ty) false

pub record StructIs (cs : List ClType) (env : Env) (b : Base) (after : Env) (q : Qualified) : Type 0 where
  pub text : Option (List ℕ)
  pub place : Place
  pub fields : List Field
  pub members : List Member
  pub void : TypeId
  pub type : TypeId
  pub behind : Env
  pub struct : IsStruct b text place (Some fields)
  pub wanted : IsWanted cs (want.Of shape.Void) void
  pub all : AreMembers cs (tagged text void false env) [] fields behind members
  pub fits : first_broken (struct_tests cs members (is_tag_again env text)) ≡ None
  pub at : IsAt cs (ty.Struct (name_or_none text) members) type
  pub same : after ≡ tagged text type true behind
  pub is : q ≡ plain (target cs type) false

abbrev pub ByWords : List ClType → Env → Base → Env → Qualified → Type 0
ByWords cs env b after q = (WordIs cs env b after q ⊎ NamedIs cs env b after q) ⊎ (TagIs cs env b after q ⊎ StructIs cs env b after q)

pub words_viewed : (cs : List ClType) (i0 : Env) (i1 : Base) (i2 : Env) (i3 : Qualified) → IsBase cs i0 i1 i2 i3 → ByWords cs i0 i1 i2 i3
words_viewed cs _ _ _ _ (word env b s t h0 h1) = inl (inl (record { means = s; type = t; says = h0; wanted = h1; same = refl; is = refl }))
words_viewed cs _ _ _ _ (named env text place d h0 h1 h2) = inl (inr (record { text = text; place = place; declared = d; names = refl; found = h0; typedef = h1; known = h2; same = refl; is = refl }))
words_viewed cs _ _ _ _ (struct_tag env b text place d h0 h1 h2 h3) = inr (inl (record { text = text; place = place; declared = d; struct = h0; found = h1; complete = h2; known = h3; same = refl; is = refl }))
words_viewed cs _ _ _ _ (struct_members env after b text place fields members void t h0 h1 h2 h3 h4) =
    inr (inr (record { text = text; place = place; fields = fields; members = members; void = void; type = t; behind = after; struct = h0; wanted = h1; all = h2; fits = h3; at = h4; same = refl; is = refl }))

-- which of these a base is
abbrev kind_in : {A B C D E F G : Type 0} → Base-F A B C D E F G → ℕ
kind_in (layer.Named text place) = 1
kind_in (layer.Struct text place None) = 2
kind_in (layer.Struct text place (Some fields)) = 3
kind_in _ = 0

abbrev text_in : {A B C D E F G : Type 0} → Base-F A B C D E F G → Option (Option (List ℕ))
text_in (layer.Struct text place fields) = Some text
text_in _ = None

abbrev place_in : {A B C D E F G : Type 0} → Base-F A B C D E F G → Option Place
place_in (layer.Struct text place fields) = Some place
place_in _ = None

abbrev fields_in : {A B C D E F G : Type 0} → Base-F A B C D E F G → Option (Option (Vec E))
fields_in (layer.Struct text place fields) = Some fields
fields_in _ = None

abbrev pub base_kind : Base → ℕ
base_kind b = kind_in (out-Base b)

some_none : {A : Type 0} {x : A} → Some x ≡ None → ⊥
some_none e = cc

pub word_kind : (b : Base) (s : Shape) → word_shape b ≡ Some s → base_kind b ≡ 0
word_kind base.Void s e = ap (λ b. kind_in (out-Base b)) (sym rolls-Void) ∙ ap kind_in (out-roll-Base layer.Void)
word_kind base.Bool s e = ap (λ b. kind_in (out-Base b)) (sym rolls-Bool) ∙ ap kind_in (out-roll-Base layer.Bool)
word_kind (base.Int bits signed) s e = ap (λ b. kind_in (out-Base b)) (sym (rolls-Int bits signed)) ∙ ap kind_in (out-roll-Base (layer.Int bits signed))
word_kind (base.Vector bits signed n) s e = ap (λ b. kind_in (out-Base b)) (sym (rolls-Vector bits signed n)) ∙ ap kind_in (out-roll-Base _)
word_kind (base.Sized signed) s e = ap (λ b. kind_in (out-Base b)) (sym (rolls-Sized signed)) ∙ ap kind_in (out-roll-Base (layer.Sized signed))
word_kind _ s e = absurd (some_none (sym e))

pub named_kind : (text : List ℕ) (place : Place) → base_kind (base.Named text place) ≡ 1
named_kind text place = ap (λ b. kind_in (out-Base b)) (sym (rolls-Named text place)) ∙ ap kind_in (out-roll-Base (layer.Named text place))

struct_out : (text : Option (List ℕ)) (place : Place) (d : Option (Vec Field)) → out-Base (base.Struct text place d) ≡ layer.Struct text place d
struct_out text place d = ap out-Base (sym (rolls-Struct text place d)) ∙ out-roll-Base (layer.Struct text place d)

pub tag_kind : (b : Base) (text : Option (List ℕ)) (place : Place) → IsStruct b text place None → base_kind b ≡ 2
tag_kind b text place h = by h.declared h.is h.has
  where
    by : (d : Option (Vec Field)) → b ≡ base.Struct text place d → items_of d ≡ None → base_kind b ≡ 2
    by None e f = ap (λ z. kind_in (out-Base z)) e ∙ ap kind_in (struct_out text place None)
    by (Some v) e f = absurd (some_none f)

pub struct_kind : (b : Base) (text : Option (List ℕ)) (place : Place) (fields : List Field) → IsStruct b text place (Some fields) → base_kind b ≡ 3
struct_kind b text place fields h = by h.declared h.is h.has
  where
    by : (d : Option (Vec Field)) → b ≡ base.Struct text place d → items_of d ≡ Some fields → base_kind b ≡ 3
    by None e f = absurd (some_none (sym f))
    by (Some v) e f = ap (λ z. kind_in (out-Base z)) e ∙ ap kind_in (struct_out text place (Some v))

-- a base is one struct
pub text_same : (text text2 : Option (List ℕ)) (place place2 : Place) (d d2 : Option (Vec Field)) → base.Struct text2 place2 d2 ≡ base.Struct text place d → text2 ≡ text
text_same text text2 place place2 d d2 e =
    let f : Some text2 ≡ Some text = sym (ap text_in (struct_out text2 place2 d2)) ∙ ap (λ z. text_in (out-Base z)) e ∙ ap text_in (struct_out text place d) in
    cc

pub fields_same : (text text2 : Option (List ℕ)) (place place2 : Place) (d d2 : Option (Vec Field)) → base.Struct text2 place2 d2 ≡ base.Struct text place d → d2 ≡ d
fields_same text text2 place place2 d d2 e =
    let f : Some d2 ≡ Some d = sym (ap fields_in (struct_out text2 place2 d2)) ∙ ap (λ z. fields_in (out-Base z)) e ∙ ap fields_in (struct_out text place d) in
    cc

pub place_same : (text text2 : Option (List ℕ)) (place place2 : Place) (d d2 : Option (Vec Field)) → base.Struct text2 place2 d2 ≡ base.Struct text place d → place2 ≡ place
place_same text text2 place place2 d d2 e =
    let f : Some place2 ≡ Some place = sym (ap place_in (struct_out text2 place2 d2)) ∙ ap (λ z. place_in (out-Base z)) e ∙ ap place_in (struct_out text place d) in
    cc
