-- Two trees that say the same are typed alike: expressions, and the types in them.
use Rattle.std.proofs.Common.{◌≡◌, List, [], ◌∷◌, map, sym, subst, Bool, true, Option, Some, None}
use Rattle.clv_place.specs.declared.stop.Offence.{Offence}
use Rattle.cl_types.specs.declared.types.ClType.{ClType}
use Rattle.cl_types.specs.declared.types.Member.{Member}
use Rattle.cl_types.specs.declared.operator.UnOp.TheVariants as un
use Rattle.cl_ast.specs.declared.expression.Base.{Base}
use Rattle.cl_ast.specs.declared.expression.Declor.{Declor}
use Rattle.cl_ast.specs.declared.expression.Expr.{Expr}
use Rattle.cl_ast.specs.declared.expression.ExprNode.TheVariants as node
use Rattle.cl_ast.specs.declared.expression.Field.{Field}
use Rattle.cl_ast.specs.declared.expression.Spec.{Spec}
use Rattle.cl_ast.specs.declared.expression.TypeTerm.{TypeTerm}
use Rattle.cl_tree.specs.declared.expression.TExpr.{TExpr}
use Rattle.cl_rules.specs.declared.rule.Judged.TheVariants.{Broken, Makes}
use Rattle.cl_rules.specs.declared.rule.Operand.{Operand}
use Rattle.cl_rules.specs.declared.rule.Qualified.{Qualified}
use Rattle.cl_scope.specs.Names.{Env}
use Rattle.cl_words.specs.Words.{is_sized, plain, named_type}
use Rattle.cl_words.specs.declared.naming.Length.{Length}
use Rattle.cl_make.specs.Wanted.{target}
use Rattle.cl_type_expr.specs.Expressions.{Types, AreTyped, IsTermOf, IsSpecified, IsBase, AreMembers, AreNamed, AreLengths}
use Rattle.cl_type_expr.specs.Expressions as typing
use Rattle.cl_type_expr.specs.Offences.{at, Offends, SomeOffends, TermOffends, WordsOffend, BaseOffends, SomeMemberOffends, SomeNameOffends, LengthOffends}
use Rattle.cl_type_expr.specs.Offences as offence
use Rattle.cl_plain.specs.Plain.{plain_expr, plain_term, plain_spec, plain_base, plain_field, plain_declor, in_option}
use Rattle.cl_verdicts.proofs.PlainNodes.{name_untyped, number_untyped, unary_untyped, index_untyped, member_untyped, call_untyped, judged_untyped, holds_untyped, node_as, cast_as, vector_as, size_as, term_as, spec_as, field_as, word_as, named_as, tag_as, struct_as}
pub use Rattle.cl_verdicts.proofs.PlainNodes.{IsDeclorAs, declor_plain}

module _ (cs : List ClType) where
  mutual
    pub types_plain : (env : Env) (left : Bool) (e : Expr) (after : Env) (t : TExpr) (o : Operand) → Types cs env left e after t o → (e2 : Expr) → plain_expr e2 ≡ plain_expr e → Types cs env left e2 after t o
    types_plain _ _ _ _ _ _ (typing.name env after left e place text args ts os d h t h0 h1 h2 h3 h4 h5) x2 says =
        let parts = node_as e place (node.Name text) args h0 (name_untyped text) x2 says in
        typing.name env after left x2 place text parts.operands ts os d h t parts.is (are_typed_plain _ _ _ _ _ _ h1 parts.operands parts.same) h2 h3 h4 h5
    types_plain _ _ _ _ _ _ (typing.literal_number env after left e place n ty args ts os t o h0 h1 h2) x2 says =
        let parts = node_as e place (node.Number n ty) args h0 (number_untyped n ty) x2 says in
        typing.literal_number env after left x2 place n ty parts.operands ts os t o parts.is (are_typed_plain _ _ _ _ _ _ h1 parts.operands parts.same) h2
    types_plain _ _ _ _ _ _ (typing.operation env after left e place n args ts os m t o h0 h1 h2 h3) x2 says =
        let parts = node_as e place n args h0 (judged_untyped cs after left n os (Makes m) h2) x2 says in
        typing.operation env after left x2 place n parts.operands ts os m t o parts.is (are_typed_plain _ _ _ _ _ _ h1 parts.operands parts.same) h2 h3
    types_plain _ _ _ _ _ _ (typing.arrow env after left e place text args t u v o p q m k h0 h1 h2 h3 h4 h5) x2 says =
        let parts = node_as e place (node.Member text true) args h0 (member_untyped text true) x2 says in
        typing.arrow env after left x2 place text parts.operands t u v o p q m k parts.is (are_typed_plain _ _ _ _ _ _ h1 parts.operands parts.same) h2 h3 h4 h5
    types_plain _ _ _ _ _ _ (typing.component_at env after left e place args t i u o p q k h0 h1 h2 h3 h4) x2 says =
        let parts = node_as e place node.Index args h0 index_untyped x2 says in
        typing.component_at env after left x2 place parts.operands t i u o p q k parts.is (are_typed_plain _ _ _ _ _ _ h1 parts.operands parts.same) h2 h3 h4
    types_plain _ _ _ _ _ _ (typing.size_of_value env after left e place args t u o p h0 h1 h2 h3) x2 says =
        let parts = node_as e place (node.Unary un.Sizeof) args h0 (unary_untyped un.Sizeof) x2 says in
        typing.size_of_value env after left x2 place parts.operands t u o p parts.is (are_typed_plain _ _ _ _ _ _ h1 parts.operands parts.same) h2 h3
    types_plain _ _ _ _ _ _ (typing.size_of_type env after left e place term args q star t o h0 h1 h2 h3) x2 says =
        let parts = size_as e place term args h0 x2 says in
        typing.size_of_type env after left x2 place parts.holds parts.operands q star t o parts.is (term_plain _ _ _ _ _ h1 parts.holds parts.said) h2 h3
    types_plain _ _ _ _ _ _ (typing.cast env middle after left e place term args q star ts os m t o h0 h1 h2 h3 h4) x2 says =
        let parts = cast_as e place term args h0 x2 says in
        typing.cast env middle after left x2 place parts.holds parts.operands q star ts os m t o parts.is (term_plain _ _ _ _ _ h1 parts.holds parts.said) (are_typed_plain _ _ _ _ _ _ h2 parts.operands parts.same) h3 h4
    types_plain _ _ _ _ _ _ (typing.vector_literal env middle after left e place term args q star ts os m t o h0 h1 h2 h3 h4) x2 says =
        let parts = vector_as e place term args h0 x2 says in
        typing.vector_literal env middle after left x2 place parts.holds parts.operands q star ts os m t o parts.is (term_plain _ _ _ _ _ h1 parts.holds parts.said) (are_typed_plain _ _ _ _ _ _ h2 parts.operands parts.same) h3 h4
    types_plain _ _ _ _ _ _ (typing.built_in env after left e place text args ts os tys found t o h0 h1 h2 h3 h4 h5 h6) x2 says =
        let parts = node_as e place (node.Call text) args h0 (call_untyped text) x2 says in
        typing.built_in env after left x2 place text parts.operands ts os tys found t o parts.is (are_typed_plain _ _ _ _ _ _ h1 parts.operands parts.same) h2 h3 h4 h5 h6

    pub are_typed_plain : (env : Env) (left : Bool) (es : List Expr) (after : Env) (ts : List TExpr) (os : List Operand) → AreTyped cs env left es after ts os → (es2 : List Expr) → map plain_expr es2 ≡ map plain_expr es → AreTyped cs env left es2 after ts os
    are_typed_plain _ _ _ _ _ _ (typing.no_operand env left) [] says = typing.no_operand env left
    are_typed_plain _ _ _ _ _ _ (typing.no_operand env left) (x2 ∷ xs2) says = absurd cc
    are_typed_plain _ _ _ _ _ _ (typing.more_operands env middle after left e es t ts o os h0 h1) (x2 ∷ xs2) says =
        let first : plain_expr x2 ≡ plain_expr e = cc in
        let rest : map plain_expr xs2 ≡ map plain_expr es = cc in
        typing.more_operands env middle after left x2 xs2 t ts o os (types_plain _ _ _ _ _ _ h0 x2 first) (are_typed_plain _ _ _ _ _ _ h1 xs2 rest)
    are_typed_plain _ _ _ _ _ _ (typing.more_operands env middle after left e es t ts o os h0 h1) [] says = absurd cc

    pub term_plain : (env : Env) (term : TypeTerm) (after : Env) (q : Qualified) (star : Option Bool) → IsTermOf cs env term after q star → (term2 : TypeTerm) → plain_term term2 ≡ plain_term term → IsTermOf cs env term2 after q star
    term_plain _ _ _ _ _ (typing.in_brackets env after term s star q h0 h1) x2 says =
        let parts = term_as term s star h0 x2 says in
        typing.in_brackets env after x2 parts.spec star q parts.is (specified_plain _ _ _ _ h1 parts.spec parts.same)

    pub specified_plain : (env : Env) (s : Spec) (after : Env) (q : Qualified) → IsSpecified cs env s after q → (s2 : Spec) → plain_spec s2 ≡ plain_spec s → IsSpecified cs env s2 after q
    specified_plain _ _ _ _ (typing.words env after s quals b q h0 h1) x2 says =
        let parts = spec_as s quals b h0 x2 says in
        typing.words env after x2 quals parts.base q parts.is (base_plain _ _ _ _ h1 parts.base parts.same)

    pub base_plain : (env : Env) (b : Base) (after : Env) (q : Qualified) → IsBase cs env b after q → (b2 : Base) → plain_base b2 ≡ plain_base b → IsBase cs env b2 after q
    base_plain _ _ _ _ (typing.word env b s t h0 h1) x2 says = subst (λ z. IsBase cs env z env (plain (target cs t) (is_sized b))) (sym (word_as b s h0 x2 says)) (typing.word env b s t h0 h1)
    base_plain _ _ _ _ (typing.named env text place d h0 h1 h2) x2 says =
        subst (λ z. IsBase cs env z env (named_type (target cs d.ty) d.readonly d.space)) (sym (named_as text place x2 says)) (typing.named env text place d h0 h1 h2)
    base_plain _ _ _ _ (typing.struct_tag env b text place d h0 h1 h2 h3) x2 says =
        let parts = tag_as b text place h0 x2 says in
        typing.struct_tag env x2 text place d parts h1 h2 h3
    base_plain _ _ _ _ (typing.struct_members env after b text place fields members void t h0 h1 h2 h3 h4) x2 says =
        let parts = struct_as b text place fields h0 x2 says in
        typing.struct_members env after x2 text place parts.members members void t parts.is h1 (members_plain _ _ _ _ _ h2 parts.members parts.same) h3 h4

    pub members_plain : (env : Env) (before : List Member) (fs : List Field) (after : Env) (members : List Member) → AreMembers cs env before fs after members → (fs2 : List Field) → map plain_field fs2 ≡ map plain_field fs → AreMembers cs env before fs2 after members
    members_plain _ _ _ _ _ (typing.no_field env before) [] says = typing.no_field env before
    members_plain _ _ _ _ _ (typing.no_field env before) (x2 ∷ xs2) says = absurd cc
    members_plain _ _ _ _ _ (typing.more_fields env typed middle after before between members f fs s names q h0 h1 h2 h3) (x2 ∷ xs2) says =
        let first : plain_field x2 ≡ plain_field f = cc in
        let rest : map plain_field xs2 ≡ map plain_field fs = cc in
        let parts = field_as f s names h0 x2 first in
        typing.more_fields env typed middle after before between members x2 xs2 parts.spec parts.declared q parts.is (specified_plain _ _ _ _ h1 parts.spec parts.said) (named_plain _ _ _ _ _ _ h2 parts.declared parts.same) (members_plain _ _ _ _ _ h3 xs2 rest)
    members_plain _ _ _ _ _ (typing.more_fields env typed middle after before between members f fs s names q h0 h1 h2 h3) [] says = absurd cc

    pub named_plain : (env : Env) (q : Qualified) (before : List Member) (ds : List Declor) (after : Env) (members : List Member) → AreNamed cs env q before ds after members → (ds2 : List Declor) → map plain_declor ds2 ≡ map plain_declor ds → AreNamed cs env q before ds2 after members
    named_plain _ _ _ _ _ _ (typing.no_name env q before) [] says = typing.no_name env q before
    named_plain _ _ _ _ _ _ (typing.no_name env q before) (x2 ∷ xs2) says = absurd cc
    named_plain _ _ _ _ _ _ (typing.more_names env middle after q before members d ds star text place es ls t h0 h1 h2 h3 h4) (x2 ∷ xs2) says =
        let first : plain_declor x2 ≡ plain_declor d = cc in
        let rest : map plain_declor xs2 ≡ map plain_declor ds = cc in
        let parts = declor_plain d star text place es h0 x2 first in
        typing.more_names env middle after q before members x2 xs2 star text place parts.lengths ls t parts.is (lengths_plain _ _ _ _ _ h1 parts.lengths parts.same) h2 h3 (named_plain _ _ _ _ _ _ h4 xs2 rest)
    named_plain _ _ _ _ _ _ (typing.more_names env middle after q before members d ds star text place es ls t h0 h1 h2 h3 h4) [] says = absurd cc

    pub lengths_plain : (env : Env) (may_miss : Bool) (es : List (Option Expr)) (after : Env) (ls : List Length) → AreLengths cs env may_miss es after ls → (es2 : List (Option Expr)) → map (in_option plain_expr) es2 ≡ map (in_option plain_expr) es → AreLengths cs env may_miss es2 after ls
    lengths_plain _ _ _ _ _ (typing.no_length env may_miss) [] says = typing.no_length env may_miss
    lengths_plain _ _ _ _ _ (typing.no_length env may_miss) (x2 ∷ xs2) says = absurd cc
    lengths_plain _ _ _ _ _ (typing.missing env after may_miss es ls h0) (None ∷ xs2) says =
        let rest : map (in_option plain_expr) xs2 ≡ map (in_option plain_expr) es = cc in
        typing.missing env after may_miss xs2 ls (lengths_plain _ _ _ _ _ h0 xs2 rest)
    lengths_plain _ _ _ _ _ (typing.missing env after may_miss es ls h0) (Some x2 ∷ xs2) says = absurd cc
    lengths_plain _ _ _ _ _ (typing.missing env after may_miss es ls h0) [] says = absurd cc
    lengths_plain _ _ _ _ _ (typing.given env middle after may_miss e es t o n ls h0 h1 h2 h3) (Some x2 ∷ xs2) says =
        let first : plain_expr x2 ≡ plain_expr e = cc in
        let rest : map (in_option plain_expr) xs2 ≡ map (in_option plain_expr) es = cc in
        typing.given env middle after may_miss x2 xs2 t o n ls (types_plain _ _ _ _ _ _ h0 x2 first) h1 h2 (lengths_plain _ _ _ _ _ h3 xs2 rest)
    lengths_plain _ _ _ _ _ (typing.given env middle after may_miss e es t o n ls h0 h1 h2 h3) (None ∷ xs2) says = absurd cc
    lengths_plain _ _ _ _ _ (typing.given env middle after may_miss e es t o n ls h0 h1 h2 h3) [] says = absurd cc

  mutual
    pub offends_plain : (env : Env) (left : Bool) (e : Expr) (o : Offence) → Offends cs env left e o → (e2 : Expr) → plain_expr e2 ≡ plain_expr e → Offends cs env left e2 o
    offends_plain _ _ _ _ (offence.unknown env after left e place text args ts os h0 h1 h2) x2 says =
        let parts = node_as e place (node.Name text) args h0 (name_untyped text) x2 says in
        offence.unknown env after left x2 place text parts.operands ts os parts.is (are_typed_plain _ _ _ _ _ _ h1 parts.operands parts.same) h2
    offends_plain _ _ _ _ (offence.in_operands env left e place n args o h0 h1 h2) x2 says =
        let parts = node_as e place n args h0 (holds_untyped n h1) x2 says in
        offence.in_operands env left x2 place n parts.operands o parts.is h1 (some_offends_plain _ _ _ _ h2 parts.operands parts.same)
    offends_plain _ _ _ _ (offence.operation env after left e place n args ts os code h0 h1 h2) x2 says =
        let parts = node_as e place n args h0 (judged_untyped cs after left n os (Broken code) h2) x2 says in
        offence.operation env after left x2 place n parts.operands ts os code parts.is (are_typed_plain _ _ _ _ _ _ h1 parts.operands parts.same) h2
    offends_plain _ _ _ _ (offence.no_pointer env after left e place text args t o code h0 h1 h2) x2 says =
        let parts = node_as e place (node.Member text true) args h0 (member_untyped text true) x2 says in
        offence.no_pointer env after left x2 place text parts.operands t o code parts.is (are_typed_plain _ _ _ _ _ _ h1 parts.operands parts.same) h2
    offends_plain _ _ _ _ (offence.no_member env after left e place text args t u o p m code h0 h1 h2 h3 h4) x2 says =
        let parts = node_as e place (node.Member text true) args h0 (member_untyped text true) x2 says in
        offence.no_member env after left x2 place text parts.operands t u o p m code parts.is (are_typed_plain _ _ _ _ _ _ h1 parts.operands parts.same) h2 h3 h4
    offends_plain _ _ _ _ (offence.index_divides env after left e place p args t i o q h0 h1 h2 h3) x2 says =
        let parts = node_as e place node.Index args h0 index_untyped x2 says in
        offence.index_divides env after left x2 place p parts.operands t i o q parts.is (are_typed_plain _ _ _ _ _ _ h1 parts.operands parts.same) h2 h3
    offends_plain _ _ _ _ (offence.no_component env after left e place args t i o q h0 h1 h2 h3 h4) x2 says =
        let parts = node_as e place node.Index args h0 index_untyped x2 says in
        offence.no_component env after left x2 place parts.operands t i o q parts.is (are_typed_plain _ _ _ _ _ _ h1 parts.operands parts.same) h2 h3 h4
    offends_plain _ _ _ _ (offence.no_size_of_value env after left e place args t o h0 h1 h2) x2 says =
        let parts = node_as e place (node.Unary un.Sizeof) args h0 (unary_untyped un.Sizeof) x2 says in
        offence.no_size_of_value env after left x2 place parts.operands t o parts.is (are_typed_plain _ _ _ _ _ _ h1 parts.operands parts.same) h2
    offends_plain _ _ _ _ (offence.in_size env left e place term args o h0 h1) x2 says =
        let parts = size_as e place term args h0 x2 says in
        offence.in_size env left x2 place parts.holds parts.operands o parts.is (term_offends_plain _ _ _ h1 parts.holds parts.said)
    offends_plain _ _ _ _ (offence.in_cast env left e place term args o h0 h1) x2 says =
        let parts = cast_as e place term args h0 x2 says in
        offence.in_cast env left x2 place parts.holds parts.operands o parts.is (term_offends_plain _ _ _ h1 parts.holds parts.said)
    offends_plain _ _ _ _ (offence.in_vector env left e place term args o h0 h1) x2 says =
        let parts = vector_as e place term args h0 x2 says in
        offence.in_vector env left x2 place parts.holds parts.operands o parts.is (term_offends_plain _ _ _ h1 parts.holds parts.said)
    offends_plain _ _ _ _ (offence.no_size_of_type env after left e place term args q star code h0 h1 h2) x2 says =
        let parts = size_as e place term args h0 x2 says in
        offence.no_size_of_type env after left x2 place parts.holds parts.operands q star code parts.is (term_plain _ _ _ _ _ h1 parts.holds parts.said) h2
    offends_plain _ _ _ _ (offence.in_cast_operands env middle left e place term args q star o h0 h1 h2) x2 says =
        let parts = cast_as e place term args h0 x2 says in
        offence.in_cast_operands env middle left x2 place parts.holds parts.operands q star o parts.is (term_plain _ _ _ _ _ h1 parts.holds parts.said) (some_offends_plain _ _ _ _ h2 parts.operands parts.same)
    offends_plain _ _ _ _ (offence.in_vector_operands env middle left e place term args q star o h0 h1 h2) x2 says =
        let parts = vector_as e place term args h0 x2 says in
        offence.in_vector_operands env middle left x2 place parts.holds parts.operands q star o parts.is (term_plain _ _ _ _ _ h1 parts.holds parts.said) (some_offends_plain _ _ _ _ h2 parts.operands parts.same)
    offends_plain _ _ _ _ (offence.no_cast env middle after left e place term args q star ts os code h0 h1 h2 h3) x2 says =
        let parts = cast_as e place term args h0 x2 says in
        offence.no_cast env middle after left x2 place parts.holds parts.operands q star ts os code parts.is (term_plain _ _ _ _ _ h1 parts.holds parts.said) (are_typed_plain _ _ _ _ _ _ h2 parts.operands parts.same) h3
    offends_plain _ _ _ _ (offence.no_vector env middle after left e place term args q star ts os code h0 h1 h2 h3) x2 says =
        let parts = vector_as e place term args h0 x2 says in
        offence.no_vector env middle after left x2 place parts.holds parts.operands q star ts os code parts.is (term_plain _ _ _ _ _ h1 parts.holds parts.said) (are_typed_plain _ _ _ _ _ _ h2 parts.operands parts.same) h3
    offends_plain _ _ _ _ (offence.flag_out env after left e place p text args ts os h0 h1 h2 h3) x2 says =
        let parts = node_as e place (node.Call text) args h0 (call_untyped text) x2 says in
        offence.flag_out env after left x2 place p text parts.operands ts os parts.is (are_typed_plain _ _ _ _ _ _ h1 parts.operands parts.same) h2 h3
    offends_plain _ _ _ _ (offence.no_function env after left e place text args ts os h0 h1 h2 h3) x2 says =
        let parts = node_as e place (node.Call text) args h0 (call_untyped text) x2 says in
        offence.no_function env after left x2 place text parts.operands ts os parts.is (are_typed_plain _ _ _ _ _ _ h1 parts.operands parts.same) h2 h3
    offends_plain _ _ _ _ (offence.no_form env after left e place text args ts os tys h0 h1 h2 h3 h4 h5) x2 says =
        let parts = node_as e place (node.Call text) args h0 (call_untyped text) x2 says in
        offence.no_form env after left x2 place text parts.operands ts os tys parts.is (are_typed_plain _ _ _ _ _ _ h1 parts.operands parts.same) h2 h3 h4 h5
    offends_plain _ _ _ _ (offence.no_flag env after left e place text args ts os tys found h0 h1 h2 h3 h4 h5 h6) x2 says =
        let parts = node_as e place (node.Call text) args h0 (call_untyped text) x2 says in
        offence.no_flag env after left x2 place text parts.operands ts os tys found parts.is (are_typed_plain _ _ _ _ _ _ h1 parts.operands parts.same) h2 h3 h4 h5 h6

    pub some_offends_plain : (env : Env) (left : Bool) (es : List Expr) (o : Offence) → SomeOffends cs env left es o → (es2 : List Expr) → map plain_expr es2 ≡ map plain_expr es → SomeOffends cs env left es2 o
    some_offends_plain _ _ _ _ (offence.in_first env left e es o h0) (x2 ∷ xs2) says =
        let first : plain_expr x2 ≡ plain_expr e = cc in
        let rest : map plain_expr xs2 ≡ map plain_expr es = cc in
        offence.in_first env left x2 xs2 o (offends_plain _ _ _ _ h0 x2 first)
    some_offends_plain _ _ _ _ (offence.in_first env left e es o h0) [] says = absurd cc
    some_offends_plain _ _ _ _ (offence.in_rest env middle left e es t p o h0 h1) (x2 ∷ xs2) says =
        let first : plain_expr x2 ≡ plain_expr e = cc in
        let rest : map plain_expr xs2 ≡ map plain_expr es = cc in
        offence.in_rest env middle left x2 xs2 t p o (types_plain _ _ _ _ _ _ h0 x2 first) (some_offends_plain _ _ _ _ h1 xs2 rest)
    some_offends_plain _ _ _ _ (offence.in_rest env middle left e es t p o h0 h1) [] says = absurd cc

    pub term_offends_plain : (env : Env) (term : TypeTerm) (o : Offence) → TermOffends cs env term o → (term2 : TypeTerm) → plain_term term2 ≡ plain_term term → TermOffends cs env term2 o
    term_offends_plain _ _ _ (offence.in_type_words env term s star o h0 h1) x2 says =
        let parts = term_as term s star h0 x2 says in
        offence.in_type_words env x2 parts.spec star o parts.is (words_offend_plain _ _ _ h1 parts.spec parts.same)

    pub words_offend_plain : (env : Env) (s : Spec) (o : Offence) → WordsOffend cs env s o → (s2 : Spec) → plain_spec s2 ≡ plain_spec s → WordsOffend cs env s2 o
    words_offend_plain _ _ _ (offence.in_base env s quals b o h0 h1) x2 says =
        let parts = spec_as s quals b h0 x2 says in
        offence.in_base env x2 quals parts.base o parts.is (base_offends_plain _ _ _ h1 parts.base parts.same)

    pub base_offends_plain : (env : Env) (b : Base) (o : Offence) → BaseOffends cs env b o → (b2 : Base) → plain_base b2 ≡ plain_base b → BaseOffends cs env b2 o
    base_offends_plain _ _ _ (offence.no_type env text place h0) x2 says = subst (λ z. BaseOffends cs env z (at 301 place)) (sym (named_as text place x2 says)) (offence.no_type env text place h0)
    base_offends_plain _ _ _ (offence.no_struct env b text place h0 h1) x2 says =
        let parts = tag_as b text place h0 x2 says in
        offence.no_struct env x2 text place parts h1
    base_offends_plain _ _ _ (offence.in_members env b text place fields void o h0 h1 h2) x2 says =
        let parts = struct_as b text place fields h0 x2 says in
        offence.in_members env x2 text place parts.members void o parts.is h1 (some_member_offends_plain _ _ _ _ h2 parts.members parts.same)
    base_offends_plain _ _ _ (offence.broken_struct env after b text place fields members void code h0 h1 h2 h3) x2 says =
        let parts = struct_as b text place fields h0 x2 says in
        offence.broken_struct env after x2 text place parts.members members void code parts.is h1 (members_plain _ _ _ _ _ h2 parts.members parts.same) h3

    pub some_member_offends_plain : (env : Env) (before : List Member) (fs : List Field) (o : Offence) → SomeMemberOffends cs env before fs o → (fs2 : List Field) → map plain_field fs2 ≡ map plain_field fs → SomeMemberOffends cs env before fs2 o
    some_member_offends_plain _ _ _ _ (offence.in_field_words env before f fs s names o h0 h1) (x2 ∷ xs2) says =
        let first : plain_field x2 ≡ plain_field f = cc in
        let rest : map plain_field xs2 ≡ map plain_field fs = cc in
        let parts = field_as f s names h0 x2 first in
        offence.in_field_words env before x2 xs2 parts.spec parts.declared o parts.is (words_offend_plain _ _ _ h1 parts.spec parts.said)
    some_member_offends_plain _ _ _ _ (offence.in_field_words env before f fs s names o h0 h1) [] says = absurd cc
    some_member_offends_plain _ _ _ _ (offence.in_field_names env typed before f fs s names q o h0 h1 h2) (x2 ∷ xs2) says =
        let first : plain_field x2 ≡ plain_field f = cc in
        let rest : map plain_field xs2 ≡ map plain_field fs = cc in
        let parts = field_as f s names h0 x2 first in
        offence.in_field_names env typed before x2 xs2 parts.spec parts.declared q o parts.is (specified_plain _ _ _ _ h1 parts.spec parts.said) (some_name_offends_plain _ _ _ _ _ h2 parts.declared parts.same)
    some_member_offends_plain _ _ _ _ (offence.in_field_names env typed before f fs s names q o h0 h1 h2) [] says = absurd cc
    some_member_offends_plain _ _ _ _ (offence.in_other_fields env typed middle before between f fs s names q o h0 h1 h2 h3) (x2 ∷ xs2) says =
        let first : plain_field x2 ≡ plain_field f = cc in
        let rest : map plain_field xs2 ≡ map plain_field fs = cc in
        let parts = field_as f s names h0 x2 first in
        offence.in_other_fields env typed middle before between x2 xs2 parts.spec parts.declared q o parts.is (specified_plain _ _ _ _ h1 parts.spec parts.said) (named_plain _ _ _ _ _ _ h2 parts.declared parts.same) (some_member_offends_plain _ _ _ _ h3 xs2 rest)
    some_member_offends_plain _ _ _ _ (offence.in_other_fields env typed middle before between f fs s names q o h0 h1 h2 h3) [] says = absurd cc

    pub some_name_offends_plain : (env : Env) (q : Qualified) (before : List Member) (ds : List Declor) (o : Offence) → SomeNameOffends cs env q before ds o → (ds2 : List Declor) → map plain_declor ds2 ≡ map plain_declor ds → SomeNameOffends cs env q before ds2 o
    some_name_offends_plain _ _ _ _ _ (offence.in_lengths env q before d ds star text place es o h0 h1) (x2 ∷ xs2) says =
        let first : plain_declor x2 ≡ plain_declor d = cc in
        let rest : map plain_declor xs2 ≡ map plain_declor ds = cc in
        let parts = declor_plain d star text place es h0 x2 first in
        offence.in_lengths env q before x2 xs2 star text place parts.lengths o parts.is (length_offends_plain _ _ _ _ h1 parts.lengths parts.same)
    some_name_offends_plain _ _ _ _ _ (offence.in_lengths env q before d ds star text place es o h0 h1) [] says = absurd cc
    some_name_offends_plain _ _ _ _ _ (offence.broken_member env after q before d ds star text place es ls code h0 h1 h2) (x2 ∷ xs2) says =
        let first : plain_declor x2 ≡ plain_declor d = cc in
        let rest : map plain_declor xs2 ≡ map plain_declor ds = cc in
        let parts = declor_plain d star text place es h0 x2 first in
        offence.broken_member env after q before x2 xs2 star text place parts.lengths ls code parts.is (lengths_plain _ _ _ _ _ h1 parts.lengths parts.same) h2
    some_name_offends_plain _ _ _ _ _ (offence.broken_member env after q before d ds star text place es ls code h0 h1 h2) [] says = absurd cc
    some_name_offends_plain _ _ _ _ _ (offence.in_other_names env middle q before d ds star text place es ls t o h0 h1 h2 h3 h4) (x2 ∷ xs2) says =
        let first : plain_declor x2 ≡ plain_declor d = cc in
        let rest : map plain_declor xs2 ≡ map plain_declor ds = cc in
        let parts = declor_plain d star text place es h0 x2 first in
        offence.in_other_names env middle q before x2 xs2 star text place parts.lengths ls t o parts.is (lengths_plain _ _ _ _ _ h1 parts.lengths parts.same) h2 h3 (some_name_offends_plain _ _ _ _ _ h4 xs2 rest)
    some_name_offends_plain _ _ _ _ _ (offence.in_other_names env middle q before d ds star text place es ls t o h0 h1 h2 h3 h4) [] says = absurd cc

    pub length_offends_plain : (env : Env) (may_miss : Bool) (es : List (Option Expr)) (o : Offence) → LengthOffends cs env may_miss es o → (es2 : List (Option Expr)) → map (in_option plain_expr) es2 ≡ map (in_option plain_expr) es → LengthOffends cs env may_miss es2 o
    length_offends_plain _ _ _ _ (offence.in_length env may_miss e es o h0) (Some x2 ∷ xs2) says =
        let first : plain_expr x2 ≡ plain_expr e = cc in
        let rest : map (in_option plain_expr) xs2 ≡ map (in_option plain_expr) es = cc in
        offence.in_length env may_miss x2 xs2 o (offends_plain _ _ _ _ h0 x2 first)
    length_offends_plain _ _ _ _ (offence.in_length env may_miss e es o h0) (None ∷ xs2) says = absurd cc
    length_offends_plain _ _ _ _ (offence.in_length env may_miss e es o h0) [] says = absurd cc
    length_offends_plain _ _ _ _ (offence.length_divides env after may_miss e es t o p h0 h1) (Some x2 ∷ xs2) says =
        let first : plain_expr x2 ≡ plain_expr e = cc in
        let rest : map (in_option plain_expr) xs2 ≡ map (in_option plain_expr) es = cc in
        offence.length_divides env after may_miss x2 xs2 t o p (types_plain _ _ _ _ _ _ h0 x2 first) h1
    length_offends_plain _ _ _ _ (offence.length_divides env after may_miss e es t o p h0 h1) (None ∷ xs2) says = absurd cc
    length_offends_plain _ _ _ _ (offence.length_divides env after may_miss e es t o p h0 h1) [] says = absurd cc
    length_offends_plain _ _ _ _ (offence.behind_missing env may_miss es o h0) (None ∷ xs2) says =
        let rest : map (in_option plain_expr) xs2 ≡ map (in_option plain_expr) es = cc in
        offence.behind_missing env may_miss xs2 o (length_offends_plain _ _ _ _ h0 xs2 rest)
    length_offends_plain _ _ _ _ (offence.behind_missing env may_miss es o h0) (Some x2 ∷ xs2) says = absurd cc
    length_offends_plain _ _ _ _ (offence.behind_missing env may_miss es o h0) [] says = absurd cc
    length_offends_plain _ _ _ _ (offence.behind_given env middle may_miss e es t p o h0 h1 h2) (Some x2 ∷ xs2) says =
        let first : plain_expr x2 ≡ plain_expr e = cc in
        let rest : map (in_option plain_expr) xs2 ≡ map (in_option plain_expr) es = cc in
        offence.behind_given env middle may_miss x2 xs2 t p o (types_plain _ _ _ _ _ _ h0 x2 first) h1 (length_offends_plain _ _ _ _ h2 xs2 rest)
    length_offends_plain _ _ _ _ (offence.behind_given env middle may_miss e es t p o h0 h1 h2) (None ∷ xs2) says = absurd cc
    length_offends_plain _ _ _ _ (offence.behind_given env middle may_miss e es t p o h0 h1 h2) [] says = absurd cc
