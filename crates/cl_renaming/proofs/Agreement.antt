-- One expression typed in two tables: its typed trees, what they are, and what is declared behind it are one but for the numbers of types.
use Rattle.std.proofs.Common.{◌≡◌, ℕ, List, [], ◌∷◌, ◌++◌, map, refl, sym, ap, ◌∙◌, subst, arith, Bool, true, false, true≢false, not, nat_eq, ◌&&◌, ◌||◌, if◌then◌else◌, inl, inr, Option, Some, None}
use Rattle.std.specs.Prelude.{is_some}
use Rattle.std.specs.Cmp.{first_so, second_so}
use Rattle.std.specs.Option.{option_map}
use Rattle.std.proofs.lemmas.List.{map-append}
use Rattle.clv_place.specs.declared.place.Place.{Place}
use Rattle.cl_types.specs.declared.types.ClType.{ClType}
use Rattle.cl_types.specs.declared.types.ClType.TheVariants as ty
use Rattle.cl_types.specs.declared.types.Member.{Member}
use Rattle.cl_types.specs.declared.types.TypeId.{TypeId}
use Rattle.cl_types.specs.declared.operator.UnOp.TheVariants as un
use Rattle.cl_types.specs.Layout.{size_of, is_width, is_count}
use Rattle.cl_types.specs.Table.{tree_of, AreBuilt}
use Rattle.cl_builtins.specs.Kinds.{uint, element_of}
use Rattle.cl_builtins.specs.declared.call.Found.{Found}
use Rattle.cl_builtins.specs.Found.{Means}
use Rattle.cl_builtins.specs.Tables.{IsAt}
use Rattle.cl_ast.specs.declared.expression.Base.{Base}
use Rattle.cl_ast.specs.declared.expression.Base.TheVariants as base
use Rattle.cl_ast.specs.declared.expression.Declor.{Declor}
use Rattle.cl_ast.specs.declared.expression.Expr.{Expr}
use Rattle.cl_ast.specs.declared.expression.ExprNode.{ExprNode}
use Rattle.cl_ast.specs.declared.expression.ExprNode.TheVariants as node
use Rattle.cl_ast.specs.declared.expression.Field.{Field}
use Rattle.cl_ast.specs.declared.expression.Qual.{Qual}
use Rattle.cl_ast.specs.declared.expression.Spec.{Spec}
use Rattle.cl_ast.specs.declared.expression.TypeTerm.{TypeTerm}
use Rattle.cl_tree.specs.declared.shape.Shape.{Shape}
use Rattle.cl_tree.specs.declared.shape.Shape.TheVariants as shape
use Rattle.cl_tree.specs.declared.expression.TExpr.{TExpr}
use Rattle.cl_tree.specs.Constants.{number_of}
use Rattle.cl_tree.specs.Shapes.{is_struct, is_vector, is_array, is_pointer, members_of}
use Rattle.cl_rules.specs.declared.rule.Head.{Head}
use Rattle.cl_rules.specs.declared.rule.Head.TheVariants as head
use Rattle.cl_rules.specs.declared.rule.Judged.{Judged}
use Rattle.cl_rules.specs.declared.rule.Judged.TheVariants.{Broken, Makes}
use Rattle.cl_rules.specs.declared.rule.Made.{Made}
use Rattle.cl_rules.specs.declared.rule.Operand.{Operand}
use Rattle.cl_rules.specs.declared.rule.Qualified.{Qualified}
use Rattle.cl_rules.specs.declared.rule.Want.TheVariants as want
use Rattle.cl_rules.specs.Calls.{cast_rule, literal, wants_of}
use Rattle.cl_rules.specs.Operands.{seen, to_array, integers, type_of, component, value}
use Rattle.cl_rules.specs.Operators.{dereferenced}
use Rattle.cl_rules.specs.Parts.{at_index, indexed, member as member_rule_of}
use Rattle.cl_scope.specs.declared.scope.Declared.{Declared}
use Rattle.cl_scope.specs.declared.scope.Signature.{Signature}
use Rattle.cl_scope.specs.Names.{Env, find, find_function}
use Rattle.cl_words.specs.declared.naming.Length.{Length}
use Rattle.cl_words.specs.declared.naming.Length.TheVariants.{Open, Wrong}
use Rattle.cl_words.specs.Words.{integers as word_integers, word_shape, is_sized, plain, named_type, qualify, length_from, restrict_behind, sketch, name_or_none}
use Rattle.cl_make.proofs.Growing.{none_some, some_same}
use Rattle.cl_make.specs.Building.{IsMade, IsNode, IsNumber, number_type, name_head, operand_named}
use Rattle.cl_make.specs.Wanted.{IsWanted, IsDeclaredAs, target}
use Rattle.cl_type_expr.specs.Expressions.{first_left, tagged, tag_of, term_size, component_in, component_of, decays, argument_want, AreArguments, Types, AreTyped, IsTermOf, IsSpecified, IsBase, AreMembers, AreNamed, AreLengths, none as no_argument, more as more_arguments, arrow, built_in, cast, component_at, given, in_brackets, literal_number, missing, more_fields, more_names, more_operands, name, named, no_field, no_length, no_name, no_operand, operation, size_of_type, size_of_value, struct_members, struct_tag, vector_literal, word, words}
use Rattle.cl_type_expr.specs.Judging.{call_at, unary_rule, judge}
use Rattle.cl_type_expr.specs.Syntax.{items_of, IsStruct}
use Rattle.cl_renaming.specs.Renaming.{type_id, member, shape_as, want_as, operand_as, made_as, judged_as, qualified_as, sketch_as, declared_as, env_as, IsRenaming, AreTypes, IsOneType, AsksOneType}
use Rattle.cl_renaming.specs.Trees.{IsTreeAs, node as same_node, AreTreesAs, none, more}
use Rattle.cl_renaming.proofs.Shapes.{is_array_as, is_seen_as, seen_as, to_array_as, type_of_as, shape_of_as}
use Rattle.cl_renaming.proofs.Operators.{if_as, dereferenced_as}
use Rattle.cl_renaming.proofs.Calls.{cast_rule_as, literal_as, wants_of_as}
use Rattle.cl_renaming.proofs.Layouts.{tree_of_as}
use Rattle.cl_renaming.proofs.Words.{word_plain, qualify_as, sketch_of_as, target_of_as}
use Rattle.cl_renaming.proofs.Scopes.{find_as, find_tag_as}
use Rattle.cl_renaming.proofs.Wants.{wanted_one, at_one, declared_one}
use Rattle.cl_renaming.proofs.Nodes.{made_one, number_one}
use Rattle.cl_renaming.proofs.Values.{number_of_as, positive_of_as}
use Rattle.cl_renaming.proofs.Means.{means_one}
use Rattle.cl_renaming.proofs.Single.{AsksIf, asks_made, asks_made_if, by_test, unary_asks, dereferenced_asks, binary_asks, assignment_asks, chosen_asks, indexed_asks, comma_asks, component_asks, member_asks, numbers_one, call_asks, cast_asks, literal_asks}
use Rattle.cl_renaming.proofs.Judging.{judge_as, member_of_as}
use Rattle.cl_renaming.proofs.Views.{Other, By, viewed, ByWords, words_viewed, base_kind, word_kind, named_kind, tag_kind, struct_kind, text_same, fields_same}

-- ---- what rules ask for

odd_makes : {A : Type 0} (code : ℕ) (m : Made) → Some (Broken code) ≡ Some (Makes m) → A
odd_makes code m e = cc

nothing_makes : {A : Type 0} (j : Judged) → None ≡ Some j → A
nothing_makes j e = absurd (none_some e)

call_at_asks : (cs : List ClType) (os : List Operand) (f : Option Signature) → AsksIf (call_at cs os f)
call_at_asks cs os None = tt
call_at_asks cs os (Some f) = call_asks os (map (target cs) f.params) f

judge_asks : (cs : List ClType) (env : Env) (left : Bool) (n : ExprNode) (os : List Operand) → AsksIf (judge cs env left n os)
judge_asks cs env left (node.Unary op) [] = tt
judge_asks cs env left (node.Unary op) (o ∷ []) = unary_asks op o
judge_asks cs env left (node.Unary op) (o ∷ p ∷ os) = tt
judge_asks cs env left (node.Binary op) [] = tt
judge_asks cs env left (node.Binary op) (o ∷ []) = tt
judge_asks cs env left (node.Binary op) (o ∷ p ∷ []) = binary_asks op o p
judge_asks cs env left (node.Binary op) (o ∷ p ∷ q ∷ os) = tt
judge_asks cs env left (node.Assign op) [] = tt
judge_asks cs env left (node.Assign op) (o ∷ []) = tt
judge_asks cs env left (node.Assign op) (o ∷ p ∷ []) = assignment_asks op o p
judge_asks cs env left (node.Assign op) (o ∷ p ∷ q ∷ os) = tt
judge_asks cs env left node.Cond [] = tt
judge_asks cs env left node.Cond (o ∷ []) = tt
judge_asks cs env left node.Cond (o ∷ p ∷ []) = tt
judge_asks cs env left node.Cond (o ∷ p ∷ q ∷ []) = chosen_asks o p q
judge_asks cs env left node.Cond (o ∷ p ∷ q ∷ x ∷ os) = tt
judge_asks cs env left node.Index [] = tt
judge_asks cs env left node.Index (o ∷ []) = tt
judge_asks cs env left node.Index (o ∷ p ∷ []) = indexed_asks o p
judge_asks cs env left node.Index (o ∷ p ∷ q ∷ os) = tt
judge_asks cs env left (node.Member text pointed) [] = tt
judge_asks cs env left (node.Member text pointed) (o ∷ []) =
    by_test AsksIf pointed None (Some (member_rule_of left (members_of cs o.facts.ty) text o)) (λ h. tt) (λ h. member_asks left (members_of cs o.facts.ty) text o)
judge_asks cs env left (node.Member text pointed) (o ∷ p ∷ os) = tt
judge_asks cs env left node.Comma [] = tt
judge_asks cs env left node.Comma (o ∷ os) = comma_asks (o ∷ os)
judge_asks cs env left (node.Call text) os = by_test AsksIf (is_some (find env text)) (Some (Broken 314)) (call_at cs os (find_function env text)) (λ h. tt) (λ h. call_at_asks cs os (find_function env text))
judge_asks cs env left _ os = tt

sizeof_makes : {A : Type 0} (os : List Operand) (m : Made) → unary_rule un.Sizeof os ≡ Some (Makes m) → A
sizeof_makes [] m e = odd_makes 308 m e
sizeof_makes (o ∷ []) m e = nothing_makes (Makes m) e
sizeof_makes (o ∷ p ∷ os) m e = odd_makes 308 m e

arrow_makes : {A : Type 0} (cs : List ClType) (env : Env) (left : Bool) (text : List ℕ) (os : List Operand) (m : Made) → judge cs env left (node.Member text true) os ≡ Some (Makes m) → A
arrow_makes cs env left text [] m e = odd_makes 308 m e
arrow_makes cs env left text (o ∷ []) m e = nothing_makes (Makes m) e
arrow_makes cs env left text (o ∷ p ∷ os) m e = odd_makes 308 m e

pub vector_unjudged : (p i : Operand) → is_vector p.shape ≡ true → indexed p i ≡ None
vector_unjudged p i h = ap (λ b. if b then None else Some (at_index p p.shape i.shape)) h

pointer_one : (z : Shape) → is_pointer z ≡ true → is_struct z ≡ false
pointer_one (shape.Pointer space to readonly restricted) k = refl
pointer_one shape.Struct k = absurd (true≢false (sym k))
pointer_one _ k = refl

argument_one : (o : Operand) → IsOneType (argument_want o)
argument_one o =
    by_test IsOneType (decays o) (want.Of (seen o)) (want.Type o.facts.ty)
    (λ h. pointer_one (seen o) (second_so (is_array o.shape) (is_pointer (seen o)) (first_so (is_array o.shape && is_pointer (seen o)) (not (to_array o)) h)))
    (λ h. tt)

-- ---- trees and operands

trees_first : (r : ℕ → ℕ) (t u : TExpr) (ts us : List TExpr) → AreTreesAs r (t ∷ ts) (u ∷ us) → IsTreeAs r t u
trees_first r t u ts us (more x y xs ys a s) = a

trees_rest : (r : ℕ → ℕ) (t u : TExpr) (ts us : List TExpr) → AreTreesAs r (t ∷ ts) (u ∷ us) → AreTreesAs r ts us
trees_rest r t u ts us (more x y xs ys a s) = s

one_tree : (r : ℕ → ℕ) (t u : TExpr) → IsTreeAs r t u → AreTreesAs r (t ∷ []) (u ∷ [])
one_tree r t u s = more t u [] [] s none

heads_same : {A : Type 0} (x y : A) (xs ys : List A) → x ∷ xs ≡ y ∷ ys → x ≡ y
heads_same x y xs ys e = cc

flag_off : (left : Bool) → (left && not true) ≡ false
flag_off true = refl
flag_off false = refl

makes_same : (m k : Made) → Makes m ≡ Makes k → m ≡ k
makes_same m k e = cc

-- what is typed, in the one table and in the other
abbrev pub Same : (ℕ → ℕ) → Env → Env → TExpr → TExpr → Operand → Operand → Type 0
Same r after after2 t t2 o o2 = (after2 ≡ env_as r after) × (o2 ≡ operand_as r o) × IsTreeAs r t t2

abbrev pub AllSame : (ℕ → ℕ) → Env → Env → List TExpr → List TExpr → List Operand → List Operand → Type 0
AllSame r after after2 ts ts2 os os2 = (after2 ≡ env_as r after) × (os2 ≡ map (operand_as r) os) × AreTreesAs r ts ts2

abbrev pub WordsSame : (ℕ → ℕ) → Env → Env → Qualified → Qualified → Type 0
WordsSame r after after2 q q2 = (after2 ≡ env_as r after) × (q2 ≡ qualified_as r q)

module _ (cs ds : List ClType) (r : ℕ → ℕ) (e : IsRenaming cs ds r) (bc : AreBuilt [] cs) (b : AreTypes ds) where
  -- ---- rules

  judged_there : (after after2 : Env) (left : Bool) (n : ExprNode) (os os2 : List Operand) → after2 ≡ env_as r after → os2 ≡ map (operand_as r) os → judge ds after2 left n os2 ≡ option_map (judged_as r) (judge cs after left n os)
  judged_there after after2 left n os os2 f g = (λ i. judge ds (f i) left n (g i)) ∙ judge_as cs ds r e after left n os

  judged_one : (after after2 : Env) (left : Bool) (n : ExprNode) (os os2 : List Operand) (m k : Made) → after2 ≡ env_as r after → os2 ≡ map (operand_as r) os → judge cs after left n os ≡ Some (Makes m) → judge ds after2 left n os2 ≡ Some (Makes k) → k ≡ made_as r m
  judged_one after after2 left n os os2 m k f g x y =
      let h : Some (Makes k) ≡ Some (Makes (made_as r m)) = sym y ∙ judged_there after after2 left n os os2 f g ∙ ap (option_map (judged_as r)) x in
      cc

  unjudged_there : {A : Type 0} (after after2 : Env) (left : Bool) (n : ExprNode) (os os2 : List Operand) (m : Made) → after2 ≡ env_as r after → os2 ≡ map (operand_as r) os → judge cs after left n os ≡ Some (Makes m) → judge ds after2 left n os2 ≡ None → A
  unjudged_there after after2 left n os os2 m f g x y = absurd (none_some (sym y ∙ judged_there after after2 left n os os2 f g ∙ ap (option_map (judged_as r)) x))

  unjudged_here : {A : Type 0} (after after2 : Env) (left : Bool) (n : ExprNode) (os os2 : List Operand) (m : Made) → after2 ≡ env_as r after → os2 ≡ map (operand_as r) os → judge cs after left n os ≡ None → judge ds after2 left n os2 ≡ Some (Makes m) → A
  unjudged_here after after2 left n os os2 m f g x y = absurd (none_some (sym (sym y ∙ judged_there after after2 left n os os2 f g ∙ ap (option_map (judged_as r)) x)))

  made_same : (m k : Made) (place : Place) (ts us : List TExpr) (t u : TExpr) (o p : Operand) → AsksOneType m → AreTreesAs r ts us → k ≡ made_as r m → IsMade cs m place ts t o → IsMade ds k place us u p → (p ≡ operand_as r o) × IsTreeAs r t u
  made_same m k place ts us t u o p n s f x y = made_one cs ds r e b m place ts us t u o p n s x (subst (λ z. IsMade ds z place us u p) f y)

  -- ---- one node, of which the operands were compared before

  module _ (env2 after after2 : Env) (left : Bool) (place : Place) (args : List Expr) (t t2 : TExpr) (o o2 : Operand) where
    -- what its operands in the other table are
    abbrev Operands : Bool → List TExpr → List Operand → Type 0
    Operands flag ts os = (j : Env) (us : List TExpr) (ps : List Operand) → AreTyped ds env2 flag args j us ps → AllSame r after j ts us os ps

    operation_other : (n : ExprNode) (ts : List TExpr) (os : List Operand) (m : Made) → Operands (first_left left n) ts os → judge cs after left n os ≡ Some (Makes m) → Other ds env2 left after2 place args t2 o2 n → Same r after after2 t t2 o o2
    operation_other (node.Name text) ts os m ih j y = nothing_makes (Makes m) j
    operation_other (node.Number n k) ts os m ih j y = nothing_makes (Makes m) j
    operation_other (node.Unary op) ts os m ih j y = sizeof_makes os m (subst (λ z. unary_rule z os ≡ Some (Makes m)) y.0 j)
    operation_other node.Index ts os m ih j y =
        let a = ih after2 (y.tree ∷ y.index ∷ []) (y.operand ∷ y.other ∷ []) y.typed in
        unjudged_there after after2 left node.Index os (y.operand ∷ y.other ∷ []) m a.0 a.1 j (vector_unjudged y.operand y.other y.vector)
    operation_other (node.Member text pointed) ts os m ih j y = arrow_makes cs after left text os m (subst (λ z. judge cs after left (node.Member text z) os ≡ Some (Makes m)) y.0 j)
    operation_other (node.SizeofType' quals said star) ts os m ih j y = nothing_makes (Makes m) j
    operation_other (node.Cast' quals said star) ts os m ih j y = nothing_makes (Makes m) j
    operation_other (node.Vector' quals said star) ts os m ih j y = nothing_makes (Makes m) j
    operation_other (node.Call text) ts os m ih j y =
        let a = ih after2 y.trees y.operands y.typed in
        unjudged_there after after2 left (node.Call text) os y.operands m a.0 a.1 j y.judged
    operation_other _ ts os m ih j y = absurd y

    operation_same : (n : ExprNode) (ts : List TExpr) (os : List Operand) (m : Made) → Operands (first_left left n) ts os → judge cs after left n os ≡ Some (Makes m) → IsMade cs m place ts t o → By ds env2 left after2 t2 o2 place n args → Same r after after2 t t2 o o2
    operation_same n ts os m ih j x (inl y) =
        let a = ih after2 y.trees y.operands y.typed in
        let k = judged_one after after2 left n os y.operands m y.made a.0 a.1 j y.judged in
        let s = made_same m y.made place ts y.trees t t2 o o2 (asks_made_if (judge cs after left n os) m j (judge_asks cs after left n os)) a.2 k x y.makes in
        (a.0, s.0, s.1)
    operation_same n ts os m ih j x (inr y) = operation_other n ts os m ih j y

    name_same : (text : List ℕ) (ts : List TExpr) (os : List Operand) (d : Declared) (h : Head) → Operands false ts os → find after text ≡ Some d → name_head d.kind ≡ Some h → IsNode t d.ty place h [] → o ≡ operand_named cs d → By ds env2 left after2 t2 o2 place (node.Name text) args → Same r after after2 t t2 o o2
    name_same text ts os d h ih found heads root is (inl y) = nothing_makes (Makes y.made) y.judged
    name_same text ts os d h ih found heads root is (inr y) =
        let a = ih after2 y.trees y.operands y.typed in
        let f : y.declared ≡ declared_as r d = some_same y.declared (declared_as r d) (sym y.found ∙ ap (λ z. find z text) a.0 ∙ find_as r after text ∙ ap (option_map (declared_as r)) found) in
        let g : y.of ≡ h = some_same y.of h (sym y.heads ∙ ap (λ z. name_head z.kind) f ∙ heads) in
        let k : IsNode t2 (type_id r d.ty) place h [] = subst (λ z. IsNode t2 (type_id r d.ty) place z []) g (subst (λ z. IsNode t2 z.ty place y.of []) f y.root) in
        let v : operand_named ds (declared_as r d) ≡ operand_as r (operand_named cs d) = ap (λ z. record (operand_as r (operand_named cs d)) { shape = z }) (shape_of_as cs ds r e d.ty) in
        (a.0, y.is ∙ ap (operand_named ds) f ∙ v ∙ ap (operand_as r) (sym is), same_node t t2 d.ty place h [] [] root k none)

    literal_same : (n k : ℕ) (ts : List TExpr) (os : List Operand) → Operands false ts os → IsNumber cs (number_type k) n place t o → By ds env2 left after2 t2 o2 place (node.Number n k) args → Same r after after2 t t2 o o2
    literal_same n k ts os ih x (inl y) = nothing_makes (Makes y.made) y.judged
    literal_same n k ts os ih x (inr y) =
        let a = ih after2 y.trees y.operands y.typed in
        let s = number_one cs ds r e b (number_type k) n n place t t2 o o2 refl x y.is in
        (a.0, s.0, s.1)

    arrow_same : (text : List ℕ) (s whole : TExpr) (p w : Operand) (m k : Made) → Operands false (s ∷ []) (p ∷ []) → dereferenced p p.shape ≡ Makes m → IsMade cs m place (s ∷ []) whole w → member_rule_of left (members_of cs w.facts.ty) text w ≡ Makes k → IsMade cs k place (whole ∷ []) t o → By ds env2 left after2 t2 o2 place (node.Member text true) args → Same r after after2 t t2 o o2
    arrow_same text s whole p w m k ih points leads judged makes (inl y) = arrow_makes ds after2 left text y.operands y.made y.judged
    arrow_same text s whole p w m k ih points leads judged makes (inr z) =
        let y = z.1 in
        let a = ih after2 (y.tree ∷ []) (y.operand ∷ []) y.typed in
        let f : y.operand ≡ operand_as r p = heads_same y.operand (operand_as r p) [] [] a.1 in
        let g : y.pointed ≡ made_as r m = makes_same y.pointed (made_as r m) (sym y.points ∙ ap (λ x. dereferenced x x.shape) f ∙ dereferenced_as r p p.shape ∙ ap (judged_as r) points) in
        let u = made_same m y.pointed place (s ∷ []) (y.tree ∷ []) whole y.whole w y.of (asks_made (dereferenced p p.shape) m points (dereferenced_asks p p.shape)) a.2 g leads y.leads in
        let h : y.made ≡ made_as r k = makes_same y.made (made_as r k) (sym y.judged ∙ ap (λ x. member_rule_of left (members_of ds x.facts.ty) text x) u.0 ∙ member_of_as cs ds r e left text w ∙ ap (judged_as r) judged) in
        let v = made_same k y.made place (whole ∷ []) (y.whole ∷ []) t t2 o o2 (asks_made (member_rule_of left (members_of cs w.facts.ty) text w) k judged (member_asks left (members_of cs w.facts.ty) text w)) (one_tree r whole y.whole u.1) h makes y.makes in
        (a.0, v.0, v.1)

    component_same : (s i : TExpr) (p q : Operand) (k : ℕ) → Operands left (s ∷ i ∷ []) (p ∷ q ∷ []) → is_vector p.shape ≡ true → component_of cs p i ≡ Some k → IsMade cs (component (head.Components (k ∷ [])) (integers (element_of (type_of p.shape))) p) place (s ∷ []) t o → By ds env2 left after2 t2 o2 place node.Index args → Same r after after2 t t2 o o2
    component_same s i p q k ih v which makes (inl y) =
        let a = ih after2 y.trees y.operands y.typed in
        unjudged_here after after2 left node.Index (p ∷ q ∷ []) y.operands y.made a.0 a.1 (vector_unjudged p q v) y.judged
    component_same s i p q k ih v which makes (inr y) =
        let a = ih after2 (y.tree ∷ y.index ∷ []) (y.operand ∷ y.other ∷ []) y.typed in
        let f : y.operand ≡ operand_as r p = heads_same y.operand (operand_as r p) (y.other ∷ []) (operand_as r q ∷ []) a.1 in
        let st = trees_first r s y.tree (i ∷ []) (y.index ∷ []) a.2 in
        let si = trees_first r i y.index [] [] (trees_rest r s y.tree (i ∷ []) (y.index ∷ []) a.2) in
        let g : y.number ≡ k =
        some_same y.number k
        (sym y.which ∙ (λ j. component_in (type_of (f j).shape).count (number_of_as cs ds r e i y.index si j)) ∙ (λ j. component_in (type_of_as r p.shape j).count (number_of cs i)) ∙ which) in
        let h : component (head.Components (y.number ∷ [])) (integers (element_of (type_of y.operand.shape))) y.operand ≡ made_as r (component (head.Components (k ∷ [])) (integers (element_of (type_of p.shape))) p) =
        (λ j. component (head.Components (g j ∷ [])) (integers (element_of (type_of (f j).shape))) (f j))
        ∙ (λ j. component (head.Components (k ∷ [])) (integers (element_of (type_of_as r p.shape j))) (operand_as r p)) in
        let u = made_same (component (head.Components (k ∷ [])) (integers (element_of (type_of p.shape))) p) (component (head.Components (y.number ∷ [])) (integers (element_of (type_of y.operand.shape))) y.operand) place (s ∷ []) (y.tree ∷ []) t t2 o o2 (component_asks (head.Components (k ∷ [])) (element_of (type_of p.shape)) p) (one_tree r s y.tree st) h makes y.makes in
        (a.0, u.0, u.1)

    size_same : (s : TExpr) (p : Operand) → Operands false (s ∷ []) (p ∷ []) → IsNumber cs uint (size_of (tree_of cs p.facts.ty.0)) place t o → By ds env2 left after2 t2 o2 place (node.Unary un.Sizeof) args → Same r after after2 t t2 o o2
    size_same s p ih x (inl y) = sizeof_makes y.operands y.made y.judged
    size_same s p ih x (inr z) =
        let y = z.1 in
        let a = ih after2 (y.tree ∷ []) (y.operand ∷ []) y.typed in
        let f : y.operand ≡ operand_as r p = heads_same y.operand (operand_as r p) [] [] a.1 in
        let n : size_of (tree_of ds y.operand.facts.ty.0) ≡ size_of (tree_of cs p.facts.ty.0) = ap (λ z. size_of (tree_of ds z.facts.ty.0)) f ∙ ap size_of (tree_of_as cs ds r bc b.built e p.facts.ty.0) in
        let u = number_one cs ds r e b uint (size_of (tree_of cs p.facts.ty.0)) (size_of (tree_of ds y.operand.facts.ty.0)) place t t2 o o2 n x y.is in
        (a.0, u.0, u.1)

    -- ---- nodes that hold a type

    abbrev Term : TypeTerm → Env → Qualified → Option Bool → Type 0
    Term term middle q star = (j : Env) (p : Qualified) (s : Option Bool) → IsTermOf ds env2 term j p s → (j ≡ env_as r middle) × (p ≡ qualified_as r q) × (s ≡ star)

    abbrev Behind : Env → List TExpr → List Operand → Type 0
    Behind middle ts os = (j0 : Env) → j0 ≡ env_as r middle → (j : Env) (us : List TExpr) (ps : List Operand) → AreTyped ds j0 false args j us ps → AllSame r after j ts us os ps

    term_size_as : (q : Qualified) (star : Option Bool) → term_size ds (qualified_as r q) star ≡ term_size cs q star
    term_size_as q None = ap size_of (tree_of_as cs ds r bc b.built e q.ty.0)
    term_size_as q (Some restricted) = refl

    type_size_same : (term : TypeTerm) (q : Qualified) (star : Option Bool) → Term term after q star → IsNumber cs uint (term_size cs q star) place t o → By ds env2 left after2 t2 o2 place (node.SizeofType term) args → Same r after after2 t t2 o o2
    type_size_same term q star ih x (inl y) = nothing_makes (Makes y.made) y.judged
    type_size_same term q star ih x (inr y) =
        let a = ih after2 y.of y.star y.says in
        let u = number_one cs ds r e b uint (term_size cs q star) (term_size ds y.of y.star) place t t2 o o2 ((λ i. term_size ds (a.1 i) (a.2 i)) ∙ term_size_as q star) x y.is in
        (a.0, u.0, u.1)

    cast_same : (term : TypeTerm) (middle : Env) (q : Qualified) (star : Option Bool) (ts : List TExpr) (os : List Operand) (m : Made) → Term term middle q star → Behind middle ts os → cast_rule q star os ≡ Makes m → IsMade cs m place ts t o → By ds env2 left after2 t2 o2 place (node.Cast term) args → Same r after after2 t t2 o o2
    cast_same term middle q star ts os m it ih j x (inl y) = nothing_makes (Makes y.made) y.judged
    cast_same term middle q star ts os m it ih j x (inr y) =
        let w = it y.middle y.of y.star y.says in
        let a = ih y.middle w.0 after2 y.trees y.operands y.typed in
        let k : y.made ≡ made_as r m = makes_same y.made (made_as r m) (sym y.judged ∙ (λ i. cast_rule (w.1 i) (w.2 i) (a.1 i)) ∙ cast_rule_as r e.differ q star os ∙ ap (judged_as r) j) in
        let u = made_same m y.made place ts y.trees t t2 o o2 (asks_made (cast_rule q star os) m j (cast_asks q star os)) a.2 k x y.makes in
        (a.0, u.0, u.1)

    vector_same : (term : TypeTerm) (middle : Env) (q : Qualified) (star : Option Bool) (ts : List TExpr) (os : List Operand) (m : Made) → Term term middle q star → Behind middle ts os → literal q star os ≡ Makes m → IsMade cs m place ts t o → By ds env2 left after2 t2 o2 place (node.Vector term) args → Same r after after2 t t2 o o2
    vector_same term middle q star ts os m it ih j x (inl y) = nothing_makes (Makes y.made) y.judged
    vector_same term middle q star ts os m it ih j x (inr y) =
        let w = it y.middle y.of y.star y.says in
        let a = ih y.middle w.0 after2 y.trees y.operands y.typed in
        let k : y.made ≡ made_as r m = makes_same y.made (made_as r m) (sym y.judged ∙ (λ i. literal (w.1 i) (w.2 i) (a.1 i)) ∙ literal_as r q star os ∙ ap (judged_as r) j) in
        let u = made_same m y.made place ts y.trees t t2 o o2 (asks_made (literal q star os) m j (literal_asks q star os)) a.2 k x y.makes in
        (a.0, u.0, u.1)

  -- ---- calls of built-in functions

  decays_as : (o : Operand) → decays (operand_as r o) ≡ decays o
  decays_as o = λ i. is_array_as r o.shape i && is_seen_as r o i && not (to_array_as r o i)

  argument_as : (o : Operand) → argument_want (operand_as r o) ≡ want_as r (argument_want o)
  argument_as o = if_as (want_as r) _ _ _ _ _ _ (decays_as o) (ap want.Of (seen_as r o)) refl

  pub arguments_same : (os ps : List Operand) (ts us : List TypeId) → ps ≡ map (operand_as r) os → AreArguments cs os ts → AreArguments ds ps us → us ≡ map (type_id r) ts
  arguments_same os ps ts us f no_argument no_argument = refl
  arguments_same os ps ts us f no_argument (more_arguments p qs u vs w s) = absurd (let k : p ∷ qs ≡ [] = f in cc)
  arguments_same os ps ts us f (more_arguments o qs t vs w s) no_argument = absurd (let k : [] ≡ operand_as r o ∷ map (operand_as r) qs = f in cc)
  arguments_same os ps ts us f (more_arguments o os1 t ts1 w s) (more_arguments p ps1 u us1 x y) =
      let g : p ≡ operand_as r o = (let k : p ∷ ps1 ≡ operand_as r o ∷ map (operand_as r) os1 = f in cc) in
      let h : ps1 ≡ map (operand_as r) os1 = (let k : p ∷ ps1 ≡ operand_as r o ∷ map (operand_as r) os1 = f in cc) in
      let v : u ≡ type_id r t = wanted_one cs ds r e b (argument_want o) t u (argument_one o) w (subst (λ z. IsWanted ds z u) (ap argument_want g ∙ argument_as o) x) in
      let rest = arguments_same os1 ps1 ts1 us1 h s y in
      λ i. v i ∷ rest i

  module _ (env2 after after2 : Env) (left : Bool) (place : Place) (args : List Expr) (t t2 : TExpr) (o o2 : Operand) where
    built_same : (text : List ℕ) (ts : List TExpr) (os : List Operand) (types : List TypeId) (found : Found) → ((j : Env) (us : List TExpr) (ps : List Operand) → AreTyped ds env2 false args j us ps → AllSame r after j ts us os ps) → judge cs after left (node.Call text) os ≡ None → AreArguments cs os types → Means text cs types cs found → IsMade cs (value (wants_of found.params) (head.Builtin found.builtin) (want.Type found.result)) place ts t o → By ds env2 left after2 t2 o2 place (node.Call text) args → Same r after after2 t t2 o o2
    built_same text ts os types found ih j args_are means x (inl y) =
        let a = ih after2 y.trees y.operands y.typed in
        unjudged_here after after2 left (node.Call text) os y.operands y.made a.0 a.1 j y.judged
    built_same text ts os types found ih j args_are means x (inr y) =
        let a = ih after2 y.trees y.operands y.typed in
        let w = arguments_same os y.operands types y.types a.1 args_are y.arguments in
        let f = means_one cs ds r e b text types y.types found y.found w means y.means in
        let m = value (wants_of found.params) (head.Builtin found.builtin) (want.Type found.result) in
        let k : value (wants_of y.found.params) (head.Builtin y.found.builtin) (want.Type y.found.result) ≡ made_as r m =
        (λ i. value (wants_of (f.1 i)) (head.Builtin (f.0 i)) (want.Type (f.2 i))) ∙ (λ i. value (wants_of_as r found.params i) (head.Builtin found.builtin) (want.Type (type_id r found.result))) in
        let u = made_same m (value (wants_of y.found.params) (head.Builtin y.found.builtin) (want.Type y.found.result)) place ts y.trees t t2 o o2 (record { wants = numbers_one found.params; gives = tt }) a.2 k x y.makes in
        (a.0, u.0, u.1)

  -- ---- words of types

  pub tag_of_as : (text : Option (List ℕ)) (env : Env) → tag_of (env_as r env) text ≡ option_map (declared_as r) (tag_of env text)
  tag_of_as None env = refl
  tag_of_as (Some text) env = find_tag_as r env text

  tagged_as : (text : Option (List ℕ)) (t : TypeId) (complete : Bool) (env : Env) → tagged text (type_id r t) complete (env_as r env) ≡ env_as r (tagged text t complete env)
  tagged_as None t complete env = refl
  tagged_as (Some text) t complete env = refl

  pub tagged_same : (text text2 : Option (List ℕ)) (t t2 : TypeId) (complete : Bool) (env env2 : Env) → text2 ≡ text → t2 ≡ type_id r t → env2 ≡ env_as r env → tagged text2 t2 complete env2 ≡ env_as r (tagged text t complete env)
  tagged_same text text2 t t2 complete env env2 f g h = (λ i. tagged (f i) (g i) complete (h i)) ∙ tagged_as text t complete env

  integers_one : (bits : ℕ) (signed : Bool) (n : ℕ) → is_struct (word_integers bits signed n) ≡ false
  integers_one bits signed n = by_test (λ z. is_struct z ≡ false) (is_width bits && (nat_eq n 1 || is_count n)) _ _ (λ h. refl) (λ h. refl)

  word_one : (w : Base) (s : Shape) → word_shape w ≡ Some s → is_struct s ≡ false
  word_one base.Void s f = ap is_struct (sym (some_same shape.Void s f))
  word_one base.Bool s f = ap is_struct (sym (some_same shape.Bool s f))
  word_one (base.Int bits signed) s f = ap is_struct (sym (some_same (word_integers bits signed 1) s f)) ∙ integers_one bits signed 1
  word_one (base.Vector bits signed n) s f = ap is_struct (sym (some_same (word_integers bits signed n) s f)) ∙ integers_one bits signed n
  word_one (base.Sized signed) s f = ap is_struct (sym (some_same (word_integers 32 signed 1) s f)) ∙ integers_one 32 signed 1
  word_one _ s f = absurd (none_some f)

  word_same : (w : Base) (s : Shape) → word_shape w ≡ Some s → s ≡ shape_as r s
  word_same w s f = some_same s (shape_as r s) (sym f ∙ sym (word_plain r w) ∙ ap (option_map (shape_as r)) f)

  clash : {A : Type 0} (n m k : ℕ) → k ≡ n → k ≡ m → (n ≡ m → ⊥) → A
  clash n m k f g h = absurd (h (sym f ∙ g))

  plain_there : (t : TypeId) (sized : Bool) → plain (target ds (type_id r t)) sized ≡ qualified_as r (plain (target cs t) sized)
  plain_there t sized = ap (λ z. plain z sized) (target_of_as cs ds r e t)

  module _ (env env2 : Env) (f : env2 ≡ env_as r env) (w : Base) (after2 : Env) (q2 : Qualified) where
    words_word : (s : Shape) (t : TypeId) → word_shape w ≡ Some s → IsWanted cs (want.Of s) t → ByWords ds env2 w after2 q2 → WordsSame r env after2 (plain (target cs t) (is_sized w)) q2
    words_word s t h0 h1 (inl (inl y)) =
        let g : y.means ≡ shape_as r s = some_same y.means s (sym y.says ∙ h0) ∙ word_same w s h0 in
        let k : y.type ≡ type_id r t = wanted_one cs ds r e b (want.Of s) t y.type (word_one w s h0) h1 (subst (λ z. IsWanted ds (want.Of z) y.type) g y.wanted) in
        (y.same ∙ f, y.is ∙ ap (λ z. plain (target ds z) (is_sized w)) k ∙ plain_there t (is_sized w))
    words_word s t h0 h1 (inl (inr y)) = clash 0 1 (base_kind w) (word_kind w s h0) (ap base_kind y.names ∙ named_kind y.text y.place) (λ z. omega arith)
    words_word s t h0 h1 (inr (inl y)) = clash 0 2 (base_kind w) (word_kind w s h0) (tag_kind w y.text y.place y.struct) (λ z. omega arith)
    words_word s t h0 h1 (inr (inr y)) = clash 0 3 (base_kind w) (word_kind w s h0) (struct_kind w y.text y.place y.fields y.struct) (λ z. omega arith)

    words_named : (text : List ℕ) (place : Place) (d : Declared) → w ≡ base.Named text place → find env text ≡ Some d → ByWords ds env2 w after2 q2 → WordsSame r env after2 (named_type (target cs d.ty) d.readonly d.space) q2
    words_named text place d n h0 (inl (inl y)) = clash 1 0 (base_kind w) (ap base_kind n ∙ named_kind text place) (word_kind w y.means y.says) (λ z. omega arith)
    words_named text place d n h0 (inl (inr y)) =
        let g : y.text ≡ text = (let k : base.Named y.text y.place ≡ base.Named text place = sym y.names ∙ n in cc) in
        let k : y.declared ≡ declared_as r d = some_same y.declared (declared_as r d) (sym y.found ∙ (λ i. find (f i) (g i)) ∙ find_as r env text ∙ ap (option_map (declared_as r)) h0) in
        (y.same ∙ f, y.is ∙ ap (λ z. named_type (target ds z.ty) z.readonly z.space) k ∙ ap (λ z. named_type z d.readonly d.space) (target_of_as cs ds r e d.ty))
    words_named text place d n h0 (inr (inl y)) = clash 1 2 (base_kind w) (ap base_kind n ∙ named_kind text place) (tag_kind w y.text y.place y.struct) (λ z. omega arith)
    words_named text place d n h0 (inr (inr y)) = clash 1 3 (base_kind w) (ap base_kind n ∙ named_kind text place) (struct_kind w y.text y.place y.fields y.struct) (λ z. omega arith)

    words_tag : (text : Option (List ℕ)) (place : Place) (d : Declared) → IsStruct w text place None → tag_of env text ≡ Some d → ByWords ds env2 w after2 q2 → WordsSame r env after2 (plain (target cs d.ty) false) q2
    words_tag text place d n h0 (inl (inl y)) = clash 2 0 (base_kind w) (tag_kind w text place n) (word_kind w y.means y.says) (λ z. omega arith)
    words_tag text place d n h0 (inl (inr y)) = clash 2 1 (base_kind w) (tag_kind w text place n) (ap base_kind y.names ∙ named_kind y.text y.place) (λ z. omega arith)
    words_tag text place d n h0 (inr (inl y)) =
        let g : y.text ≡ text = text_same text y.text place y.place n.declared y.struct.declared (sym y.struct.is ∙ n.is) in
        let k : y.declared ≡ declared_as r d = some_same y.declared (declared_as r d) (sym y.found ∙ (λ i. tag_of (f i) (g i)) ∙ tag_of_as text env ∙ ap (option_map (declared_as r)) h0) in
        (y.same ∙ f, y.is ∙ ap (λ z. plain (target ds z.ty) false) k ∙ plain_there d.ty false)
    words_tag text place d n h0 (inr (inr y)) = clash 2 3 (base_kind w) (tag_kind w text place n) (struct_kind w y.text y.place y.fields y.struct) (λ z. omega arith)

    words_struct : (text : Option (List ℕ)) (place : Place) (fields : List Field) (members : List Member) (void t : TypeId) (behind : Env) → IsStruct w text place (Some fields) → IsWanted cs (want.Of shape.Void) void → ((j0 : Env) → j0 ≡ env_as r (tagged text void false env) → (j : Env) (ms : List Member) → AreMembers ds j0 [] fields j ms → (j ≡ env_as r behind) × (ms ≡ map (member r) members)) → IsAt cs (ty.Struct (name_or_none text) members) t → ByWords ds env2 w after2 q2 → WordsSame r (tagged text t true behind) after2 (plain (target cs t) false) q2
    words_struct text place fields members void t behind n h1 ih h4 (inl (inl y)) = clash 3 0 (base_kind w) (struct_kind w text place fields n) (word_kind w y.means y.says) (λ z. omega arith)
    words_struct text place fields members void t behind n h1 ih h4 (inl (inr y)) = clash 3 1 (base_kind w) (struct_kind w text place fields n) (ap base_kind y.names ∙ named_kind y.text y.place) (λ z. omega arith)
    words_struct text place fields members void t behind n h1 ih h4 (inr (inl y)) = clash 3 2 (base_kind w) (struct_kind w text place fields n) (tag_kind w y.text y.place y.struct) (λ z. omega arith)
    words_struct text place fields members void t behind n h1 ih h4 (inr (inr y)) =
        let same : base.Struct y.text y.place y.struct.declared ≡ base.Struct text place n.declared = sym y.struct.is ∙ n.is in
        let g : y.text ≡ text = text_same text y.text place y.place n.declared y.struct.declared same in
        let h : y.struct.declared ≡ n.declared = fields_same text y.text place y.place n.declared y.struct.declared same in
        let fs : y.fields ≡ fields = some_same y.fields fields (sym y.struct.has ∙ ap items_of h ∙ n.has) in
        let v : y.void ≡ type_id r void = wanted_one cs ds r e b (want.Of shape.Void) void y.void refl h1 y.wanted in
        let a = ih (tagged y.text y.void false env2) (tagged_same text y.text void y.void false env env2 g v f) y.behind y.members (subst (λ z. AreMembers ds (tagged y.text y.void false env2) [] z y.behind y.members) fs y.all) in
        let k : y.type ≡ type_id r t = at_one cs ds r e b (ty.Struct (name_or_none text) members) t y.type h4 (subst (λ z. IsAt ds z y.type) (λ i. ty.Struct (name_or_none (g i)) (a.1 i)) y.at) in
        (y.same ∙ tagged_same text y.text t y.type true behind y.behind g k a.0, y.is ∙ ap (λ z. plain (target ds z) false) k ∙ plain_there t false)

  -- ---- expressions

  pub sketch_one : (q : Qualified) (star : Option (List Qual)) (ls : List Length) → IsOneType (sketch q star ls).of
  sketch_one q None ls = tt
  sketch_one q (Some qs) ls = refl

  mutual
    pub types_same : (i0 : Env) (i1 : Bool) (i2 : Expr) (i3 : Env) (i4 : TExpr) (i5 : Operand) → Types cs i0 i1 i2 i3 i4 i5 → (j0 j3 : Env) (j4 : TExpr) (j5 : Operand) → j0 ≡ env_as r i0 → Types ds j0 i1 i2 j3 j4 j5 → Same r i3 j3 i4 j4 i5 j5
    types_same _ _ _ _ _ _ (name env after left x place text args ts os d h t h0 h1 h2 h3 h4 h5) j0 j3 j4 j5 f z =
        name_same j0 after j3 left place args t j4 (operand_named cs d) j5 text ts os d h (λ j us ps y. are_typed_same _ _ _ _ _ _ h1 j0 j us ps f y) h2 h3 h5 refl (viewed ds j0 left x j3 j4 j5 place (node.Name text) args h0 z)
    types_same _ _ _ _ _ _ (literal_number env after left x place n k args ts os t o h0 h1 h2) j0 j3 j4 j5 f z =
        literal_same j0 after j3 left place args t j4 o j5 n k ts os (λ j us ps y. are_typed_same _ _ _ _ _ _ h1 j0 j us ps f y) h2 (viewed ds j0 left x j3 j4 j5 place (node.Number n k) args h0 z)
    types_same _ _ _ _ _ _ (operation env after left x place n args ts os m t o h0 h1 h2 h3) j0 j3 j4 j5 f z =
        operation_same j0 after j3 left place args t j4 o j5 n ts os m (λ j us ps y. are_typed_same _ _ _ _ _ _ h1 j0 j us ps f y) h2 h3 (viewed ds j0 left x j3 j4 j5 place n args h0 z)
    types_same _ _ _ _ _ _ (arrow env after left x place text args t u v o p q m k h0 h1 h2 h3 h4 h5) j0 j3 j4 j5 f z =
        arrow_same j0 after j3 left place args v j4 q j5 text t u o p m k (λ j us ps y. are_typed_same _ _ _ _ _ _ h1 j0 j us ps f y) h2 h3 h4 h5 (viewed ds j0 left x j3 j4 j5 place (node.Member text true) args h0 z)
    types_same _ _ _ _ _ _ (component_at env after left x place args t i u o p q k h0 h1 h2 h3 h4) j0 j3 j4 j5 f z =
        component_same j0 after j3 left place args u j4 q j5 t i o p k (λ j us ps y. are_typed_same _ _ _ _ _ _ h1 j0 j us ps f y) h2 h3 h4 (viewed ds j0 left x j3 j4 j5 place node.Index args h0 z)
    types_same _ _ _ _ _ _ (size_of_value env after left x place args t u o p h0 h1 h2 h3) j0 j3 j4 j5 f z =
        size_same j0 after j3 left place args u j4 p j5 t o (λ j us ps y. are_typed_same _ _ _ _ _ _ h1 j0 j us ps f y) h3 (viewed ds j0 left x j3 j4 j5 place (node.Unary un.Sizeof) args h0 z)
    types_same _ _ _ _ _ _ (size_of_type env after left x place term args q star t o h0 h1 h2 h3) j0 j3 j4 j5 f z =
        type_size_same j0 after j3 left place args t j4 o j5 term q star (λ j p s y. is_term_same _ _ _ _ _ h1 j0 j p s f y) h3 (viewed ds j0 left x j3 j4 j5 place (node.SizeofType term) args h0 z)
    types_same _ _ _ _ _ _ (cast env middle after left x place term args q star ts os m t o h0 h1 h2 h3 h4) j0 j3 j4 j5 f z =
        cast_same j0 after j3 left place args t j4 o j5 term middle q star ts os m (λ j p s y. is_term_same _ _ _ _ _ h1 j0 j p s f y) (λ k0 g j us ps y. are_typed_same _ _ _ _ _ _ h2 k0 j us ps g y) h3 h4 (viewed ds j0 left x j3 j4 j5 place (node.Cast term) args h0 z)
    types_same _ _ _ _ _ _ (vector_literal env middle after left x place term args q star ts os m t o h0 h1 h2 h3 h4) j0 j3 j4 j5 f z =
        vector_same j0 after j3 left place args t j4 o j5 term middle q star ts os m (λ j p s y. is_term_same _ _ _ _ _ h1 j0 j p s f y) (λ k0 g j us ps y. are_typed_same _ _ _ _ _ _ h2 k0 j us ps g y) h3 h4 (viewed ds j0 left x j3 j4 j5 place (node.Vector term) args h0 z)
    types_same _ _ _ _ _ _ (built_in env after left x place text args ts os types found t o h0 h1 h2 h3 h4 h5 h6) j0 j3 j4 j5 f z =
        built_same j0 after j3 left place args t j4 o j5 text ts os types found (λ j us ps y. are_typed_same _ _ _ _ _ _ h1 j0 j us ps f y) h2 h3 h4 h6 (viewed ds j0 left x j3 j4 j5 place (node.Call text) args h0 z)

    pub are_typed_same : (i0 : Env) (i1 : Bool) (i2 : List Expr) (i3 : Env) (i4 : List TExpr) (i5 : List Operand) → AreTyped cs i0 i1 i2 i3 i4 i5 → (j0 j3 : Env) (j4 : List TExpr) (j5 : List Operand) → j0 ≡ env_as r i0 → AreTyped ds j0 i1 i2 j3 j4 j5 → AllSame r i3 j3 i4 j4 i5 j5
    are_typed_same _ _ _ _ _ _ (no_operand env left) _ _ _ _ f (no_operand env2 left2) = (f, refl, none)
    are_typed_same _ _ _ _ _ _ (more_operands env middle after left x es t ts o os h0 h1) _ _ _ _ f (more_operands env2 middle2 after2 left2 x2 es2 t2 ts2 o2 os2 k0 k1) =
        let a = types_same _ _ _ _ _ _ h0 env2 middle2 t2 o2 f k0 in
        let s = are_typed_same _ _ _ _ _ _ h1 middle2 after2 ts2 os2 a.0 k1 in
        (s.0, (λ i. a.1 i ∷ s.1 i), more t t2 ts ts2 a.2 s.2)

    pub is_term_same : (i0 : Env) (i1 : TypeTerm) (i2 : Env) (i3 : Qualified) (i4 : Option Bool) → IsTermOf cs i0 i1 i2 i3 i4 → (j0 j2 : Env) (j3 : Qualified) (j4 : Option Bool) → j0 ≡ env_as r i0 → IsTermOf ds j0 i1 j2 j3 j4 → (j2 ≡ env_as r i2) × (j3 ≡ qualified_as r i3) × (j4 ≡ i4)
    is_term_same _ _ _ _ _ (in_brackets env after term s star q h0 h1) _ _ _ _ f (in_brackets env2 after2 term2 s2 star2 q2 k0 k1) =
        let g : s2 ≡ s = sym k0.is ∙ h0.is in
        let h : star2 ≡ star = sym k0.has ∙ h0.has in
        let a = is_specified_same _ _ _ _ h1 env2 after2 q2 f (subst (λ z. IsSpecified ds env2 z after2 q2) g k1) in
        (a.0, a.1, ap restrict_behind h)

    pub is_specified_same : (i0 : Env) (i1 : Spec) (i2 : Env) (i3 : Qualified) → IsSpecified cs i0 i1 i2 i3 → (j0 j2 : Env) (j3 : Qualified) → j0 ≡ env_as r i0 → IsSpecified ds j0 i1 j2 j3 → WordsSame r i2 j2 i3 j3
    is_specified_same _ _ _ _ (words env after s quals w q h0 h1) _ _ _ f (words env2 after2 s2 quals2 w2 q2 k0 k1) =
        let g : quals2 ≡ quals = sym k0.has ∙ h0.has in
        let h : w2 ≡ w = sym k0.is ∙ h0.is in
        let a = is_base_same _ _ _ _ h1 env2 after2 q2 f (subst (λ z. IsBase ds env2 z after2 q2) h k1) in
        (a.0, (λ i. qualify (g i) (a.1 i)) ∙ qualify_as r quals q)

    pub is_base_same : (i0 : Env) (i1 : Base) (i2 : Env) (i3 : Qualified) → IsBase cs i0 i1 i2 i3 → (j0 j2 : Env) (j3 : Qualified) → j0 ≡ env_as r i0 → IsBase ds j0 i1 j2 j3 → WordsSame r i2 j2 i3 j3
    is_base_same _ _ _ _ (word env w s t h0 h1) j0 j2 j3 f z = words_word env j0 f w j2 j3 s t h0 h1 (words_viewed ds j0 w j2 j3 z)
    is_base_same _ _ _ _ (named env text place d h0 h1 h2) j0 j2 j3 f z = words_named env j0 f (base.Named text place) j2 j3 text place d refl h0 (words_viewed ds j0 (base.Named text place) j2 j3 z)
    is_base_same _ _ _ _ (struct_tag env w text place d h0 h1 h2 h3) j0 j2 j3 f z = words_tag env j0 f w j2 j3 text place d h0 h1 (words_viewed ds j0 w j2 j3 z)
    is_base_same _ _ _ _ (struct_members env after w text place fields members void t h0 h1 h2 h3 h4) j0 j2 j3 f z =
        words_struct env j0 f w j2 j3 text place fields members void t after h0 h1 (λ k0 g j ms y. are_members_same _ _ _ _ _ h2 k0 [] j ms g refl y) h4 (words_viewed ds j0 w j2 j3 z)

    pub are_members_same : (i0 : Env) (i1 : List Member) (i2 : List Field) (i3 : Env) (i4 : List Member) → AreMembers cs i0 i1 i2 i3 i4 → (j0 : Env) (j1 : List Member) (j3 : Env) (j4 : List Member) → j0 ≡ env_as r i0 → j1 ≡ map (member r) i1 → AreMembers ds j0 j1 i2 j3 j4 → (j3 ≡ env_as r i3) × (j4 ≡ map (member r) i4)
    are_members_same _ _ _ _ _ (no_field env before) _ _ _ _ f g (no_field env2 before2) = (f, g)
    are_members_same _ _ _ _ _ (more_fields env typed middle after before between members x fs s names q h0 h1 h2 h3) _ _ _ _ f g (more_fields env2 typed2 middle2 after2 before2 between2 members2 x2 fs2 s2 names2 q2 k0 k1 k2 k3) =
        let u : s2 ≡ s = sym k0.is ∙ h0.is in
        let v : names2 ≡ names = sym k0.has ∙ h0.has in
        let a = is_specified_same _ _ _ _ h1 env2 typed2 q2 f (subst (λ z. IsSpecified ds env2 z typed2 q2) u k1) in
        let c = are_named_same _ _ _ _ _ _ h2 typed2 q2 before2 middle2 between2 a.0 a.1 g (subst (λ z. AreNamed ds typed2 q2 before2 z middle2 between2) v k2) in
        are_members_same _ _ _ _ _ h3 middle2 between2 after2 members2 c.0 c.1 k3

    pub are_named_same : (i0 : Env) (i1 : Qualified) (i2 : List Member) (i3 : List Declor) (i4 : Env) (i5 : List Member) → AreNamed cs i0 i1 i2 i3 i4 i5 → (j0 : Env) (j1 : Qualified) (j2 : List Member) (j4 : Env) (j5 : List Member) → j0 ≡ env_as r i0 → j1 ≡ qualified_as r i1 → j2 ≡ map (member r) i2 → AreNamed ds j0 j1 j2 i3 j4 j5 → (j4 ≡ env_as r i4) × (j5 ≡ map (member r) i5)
    are_named_same _ _ _ _ _ _ (no_name env q before) _ _ _ _ _ f p g (no_name env2 q2 before2) = (f, g)
    are_named_same _ _ _ _ _ _ (more_names env middle after q before members x xs star text place es ls t h0 h1 h2 h3 h4) _ _ _ _ _ f p g (more_names env2 middle2 after2 q2 before2 members2 x2 xs2 star2 text2 place2 es2 ls2 t2 k0 k1 k2 k3 k4) =
        let u : star2 ≡ star = sym k0.behind ∙ h0.behind in
        let v : text2 ≡ text = sym k0.is ∙ h0.is in
        let w : es2 ≡ es = sym k0.has ∙ h0.has in
        let a = are_lengths_same _ _ _ _ _ h1 env2 middle2 ls2 f (subst (λ z. AreLengths ds env2 false z middle2 ls2) w k1) in
        let k : sketch q2 star2 ls2 ≡ sketch_as r (sketch q star ls) = (λ i. sketch (p i) (u i) (a.1 i)) ∙ sketch_of_as r q star ls in
        let l : t2 ≡ type_id r t = declared_one cs ds r e b (sketch q star ls) 1 t t2 (sketch_one q star ls) h3 (subst (λ z. IsDeclaredAs ds z 1 t2) k k3) in
        let n : before2 ++ record { name = text2; ty = t2 } ∷ [] ≡ map (member r) (before ++ record { name = text; ty = t } ∷ []) =
        (λ i. g i ++ record { name = v i; ty = l i } ∷ []) ∙ sym (map-append (member r) before (record { name = text; ty = t } ∷ [])) in
        are_named_same _ _ _ _ _ _ h4 middle2 q2 (before2 ++ record { name = text2; ty = t2 } ∷ []) after2 members2 a.0 p n k4

    pub are_lengths_same : (i0 : Env) (i1 : Bool) (i2 : List (Option Expr)) (i3 : Env) (i4 : List Length) → AreLengths cs i0 i1 i2 i3 i4 → (j0 j3 : Env) (j4 : List Length) → j0 ≡ env_as r i0 → AreLengths ds j0 i1 i2 j3 j4 → (j3 ≡ env_as r i3) × (j4 ≡ i4)
    are_lengths_same _ _ _ _ _ (no_length env may_miss) _ _ _ f (no_length env2 may_miss2) = (f, refl)
    are_lengths_same _ _ _ _ _ (missing env after may_miss es ls h0) _ _ _ f (missing env2 after2 may_miss2 es2 ls2 k0) =
        let a = are_lengths_same _ _ _ _ _ h0 env2 after2 ls2 f k0 in
        (a.0, ap (λ z. (if may_miss then Open else Wrong) ∷ z) a.1)
    are_lengths_same _ _ _ _ _ (given env middle after may_miss x es t o n ls h0 h1 h2 h3) _ _ _ f (given env2 middle2 after2 may_miss2 x2 es2 t2 o2 n2 ls2 k0 k1 k2 k3) =
        let a = types_same _ _ _ _ _ _ h0 env2 middle2 t2 o2 f k0 in
        let g : n2 ≡ n = sym k2 ∙ positive_of_as cs ds r e t t2 a.2 ∙ h2 in
        let s = are_lengths_same _ _ _ _ _ h3 middle2 after2 ls2 a.0 k3 in
        (s.0, (λ i. length_from (g i) ∷ s.1 i))
