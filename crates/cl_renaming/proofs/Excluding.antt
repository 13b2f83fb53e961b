-- An expression that has an offence in one table is typed in no other, wherever its declarations are one but for the numbers of types.
use Rattle.std.proofs.Common.{◌≡◌, ℕ, List, [], ◌∷◌, ◌++◌, map, refl, sym, ap, ◌∙◌, subst, Bool, true, false, true≢false, inl, inr, Option, Some, None}
use Rattle.std.proofs.lemmas.List.{map-append}
use Rattle.clv_place.specs.declared.place.Place.{Place}
use Rattle.clv_place.specs.declared.stop.Offence.{Offence}
use Rattle.cl_types.specs.declared.types.ClType.{ClType}
use Rattle.cl_types.specs.declared.types.Member.{Member}
use Rattle.cl_types.specs.declared.operator.UnOp.TheVariants as un
use Rattle.cl_types.specs.Table.{AreBuilt}
use Rattle.cl_builtins.specs.Names.{lookup, entries}
use Rattle.cl_ast.specs.declared.expression.Base.{Base}
use Rattle.cl_ast.specs.declared.expression.Base.TheVariants as base
use Rattle.cl_ast.specs.declared.expression.Declor.{Declor}
use Rattle.cl_ast.specs.declared.expression.Expr.{Expr}
use Rattle.cl_ast.specs.declared.expression.ExprNode.{ExprNode}
use Rattle.cl_ast.specs.declared.expression.ExprNode.TheVariants as node
use Rattle.cl_ast.specs.declared.expression.Field.{Field}
use Rattle.cl_ast.specs.declared.expression.Spec.{Spec}
use Rattle.cl_ast.specs.declared.expression.TypeTerm.{TypeTerm}
use Rattle.cl_tree.specs.declared.shape.Shape.TheVariants as shape
use Rattle.cl_tree.specs.declared.expression.TExpr.{TExpr}
use Rattle.cl_tree.specs.Constants.{divides}
use Rattle.cl_rules.specs.declared.rule.Judged.TheVariants.{Broken, Makes}
use Rattle.cl_rules.specs.declared.rule.Made.{Made}
use Rattle.cl_rules.specs.declared.rule.Operand.{Operand}
use Rattle.cl_rules.specs.declared.rule.Qualified.{Qualified}
use Rattle.cl_rules.specs.declared.rule.Want.TheVariants as want
use Rattle.cl_rules.specs.Calls.{cast_rule, literal, size_tests}
use Rattle.cl_rules.specs.Operands.{first_broken}
use Rattle.cl_scope.specs.Names.{Env}
use Rattle.cl_words.specs.declared.naming.Length.{Length}
use Rattle.cl_words.specs.Words.{has_member, sketch, member_tests, struct_tests}
use Rattle.cl_make.proofs.Growing.{none_some}
use Rattle.cl_make.specs.Wanted.{IsDeclaredAs}
use Rattle.cl_type_expr.specs.Expressions.{tagged, is_tag_again, is_complete, component_of, Types, AreTyped, IsTermOf, IsSpecified, IsBase, AreMembers, AreNamed, AreLengths, given, in_brackets, missing, more_fields, more_names, more_operands, words}
use Rattle.cl_type_expr.specs.Offences.{at, Offends, SomeOffends, TermOffends, WordsOffend, BaseOffends, SomeMemberOffends, SomeNameOffends, LengthOffends, unknown, in_operands, operation as broken_rule, no_pointer, no_member, index_divides, no_component, no_size_of_value, in_size, in_cast, in_vector, no_size_of_type, in_cast_operands, in_vector_operands, no_cast, no_vector, flag_out, no_function, no_form, no_flag, in_first, in_rest, in_type_words, in_base, no_type, no_struct, in_members, broken_struct, in_field_words, in_field_names, in_other_fields, in_lengths, broken_member, in_other_names, in_length, length_divides, behind_missing, behind_given}
use Rattle.cl_type_expr.specs.Syntax.{IsExpr}
use Rattle.cl_renaming.specs.Renaming.{type_id, member, judged_as, qualified_as, sketch_as, env_as, IsRenaming, AreTypes}
use Rattle.cl_renaming.proofs.Calls.{cast_rule_as, literal_as, size_tests_as}
use Rattle.cl_renaming.proofs.Wants.{wanted_one, declared_one}
use Rattle.cl_renaming.proofs.Words.{sketch_of_as}
use Rattle.cl_renaming.proofs.Values.{constancy_as}
use Rattle.cl_renaming.proofs.Agreement.{types_same, are_typed_same, is_term_same, is_specified_same, are_members_same, are_named_same, are_lengths_same, tagged_same, sketch_one}
use Rattle.cl_renaming.proofs.Views.{viewed, words_viewed, text_same}
use Rattle.cl_renaming.proofs.Comes.{judged_verdict, index_verdict, call_verdict}
use Rattle.cl_renaming.proofs.Excluded.{Behind, TermFree, holds_free, judged_free, typed_comes, unknown_comes, broken_comes, called_comes, no_fence_divides, pointer_comes, index_comes, size_comes, size_view, cast_view, vector_view, named_view, tag_view, struct_view, fields_of, behind_same, typedef_there, complete_there, struct_tests_there, member_tests_there, some_none}

-- ---- where an offence is, nothing is typed

module _ (cs ds : List ClType) (r : ℕ → ℕ) (e : IsRenaming cs ds r) (bc : AreBuilt [] cs) (b : AreTypes ds) where
  offence_behind : {A : Type 0} (env env2 : Env) (left : Bool) (x : Expr) (after : Env) (t : TExpr) (p : Operand) (place : Place) (n : ExprNode) (args : List Expr) (o : Offence) → env2 ≡ env_as r env → Types ds env2 left x after t p → IsExpr x place n args → TermFree n → Behind cs env left place n args (Some o) → A
  offence_behind env env2 left x after t p place n args o f d h free y =
      absurd (none_some (behind_same cs ds r e bc b env env2 left place n args (Some o) None f y (typed_comes ds env2 left after t p place args n free (viewed ds env2 left x after t p place n args h d))))

  kept_broken : {A : Type 0} (xs ys : List (ℕ × Bool)) (code : ℕ) → ys ≡ xs → first_broken xs ≡ Some code → first_broken ys ≡ None → A
  kept_broken xs ys code f x y = absurd (none_some (sym y ∙ ap first_broken f ∙ x))

  not_made : (r : ℕ → ℕ) (code : ℕ) (m : Made) → Makes m ≡ judged_as r (Broken code) → ⊥
  not_made r code m e = cc

  mutual
    pub offence_no_type : (j0 : Env) (j1 : Bool) (j2 : Expr) (j3 : Offence) → Offends cs j0 j1 j2 j3 → (i0 i3 : Env) (i4 : TExpr) (i5 : Operand) → i0 ≡ env_as r j0 → Types ds i0 j1 j2 i3 i4 i5 → ⊥
    offence_no_type _ _ _ _ (unknown env after left x place text args ts os h0 h1 h2) i0 i3 i4 i5 f d =
        offence_behind env i0 left x i3 i4 i5 place (node.Name text) args (at 301 place) f d h0 tt (unknown_comes cs env after left place args ts os text h1 h2)
    offence_no_type _ _ _ _ (in_operands env left x place n args o h0 h1 h2) i0 i3 i4 i5 f d =
        let k = typed_comes ds i0 left i3 i4 i5 place args n (holds_free n h1) (viewed ds i0 left x i3 i4 i5 place n args h0 d) in
        offence_no_operands _ _ _ _ h2 i0 k.after k.trees k.operands f k.typed
    offence_no_type _ _ _ _ (broken_rule env after left x place n args ts os code h0 h1 h2) i0 i3 i4 i5 f d =
        offence_behind env i0 left x i3 i4 i5 place n args (at code place) f d h0 (judged_free cs after left n os (Broken code) h2) (broken_comes cs env after left place args ts os n code h1 h2)
    offence_no_type _ _ _ _ (no_pointer env after left x place text args t o code h0 h1 h2) i0 i3 i4 i5 f d =
        offence_behind env i0 left x i3 i4 i5 place (node.Member text true) args (at code place) f d h0 tt
        (pointer_comes cs env after left place args text t o (Some (at code place)) h1 (inl (record { code = code; points = h2; is = refl })))
    offence_no_type _ _ _ _ (no_member env after left x place text args t u o p m code h0 h1 h2 h3 h4) i0 i3 i4 i5 f d =
        offence_behind env i0 left x i3 i4 i5 place (node.Member text true) args (at code place) f d h0 tt
        (pointer_comes cs env after left place args text t o (Some (at code place)) h1 (inr (record { pointed = m; whole = u; of = p; points = h2; leads = h3; is = sym (ap (judged_verdict place) h4) })))
    offence_no_type _ _ _ _ (index_divides env after left x place p args t i o q h0 h1 h2 h3) i0 i3 i4 i5 f d =
        offence_behind env i0 left x i3 i4 i5 place node.Index args (at 334 p) f d h0 tt
        (index_comes cs env after left place args t i o q (Some (at 334 p)) h1 h2 (sym (ap (λ z. index_verdict place z (component_of cs o i)) h3)))
    offence_no_type _ _ _ _ (no_component env after left x place args t i o q h0 h1 h2 h3 h4) i0 i3 i4 i5 f d =
        offence_behind env i0 left x i3 i4 i5 place node.Index args (at 307 place) f d h0 tt
        (index_comes cs env after left place args t i o q (Some (at 307 place)) h1 h2 (sym (λ j. index_verdict place (h3 j) (h4 j))))
    offence_no_type _ _ _ _ (no_size_of_value env after left x place args t o h0 h1 h2) i0 i3 i4 i5 f d =
        offence_behind env i0 left x i3 i4 i5 place (node.Unary un.Sizeof) args (at 303 place) f d h0 tt (size_comes cs env after left place args t o h1 h2)
    offence_no_type _ _ _ _ (in_size env left x place term args o h0 h1) i0 i3 i4 i5 f d =
        let y = size_view ds i0 left i3 i4 i5 place args term (viewed ds i0 left x i3 i4 i5 place (node.SizeofType term) args h0 d) in
        offence_no_term _ _ _ h1 i0 i3 y.of y.star f y.says
    offence_no_type _ _ _ _ (in_cast env left x place term args o h0 h1) i0 i3 i4 i5 f d =
        let y = cast_view ds i0 left i3 i4 i5 place args term (viewed ds i0 left x i3 i4 i5 place (node.Cast term) args h0 d) in
        offence_no_term _ _ _ h1 i0 y.middle y.of y.star f y.says
    offence_no_type _ _ _ _ (in_vector env left x place term args o h0 h1) i0 i3 i4 i5 f d =
        let y = vector_view ds i0 left i3 i4 i5 place args term (viewed ds i0 left x i3 i4 i5 place (node.Vector term) args h0 d) in
        offence_no_term _ _ _ h1 i0 y.middle y.of y.star f y.says
    offence_no_type _ _ _ _ (no_size_of_type env after left x place term args q star code h0 h1 h2) i0 i3 i4 i5 f d =
        let y = size_view ds i0 left i3 i4 i5 place args term (viewed ds i0 left x i3 i4 i5 place (node.SizeofType term) args h0 d) in
        let a = is_term_same cs ds r e bc b _ _ _ _ _ h1 i0 i3 y.of y.star f y.says in
        kept_broken (size_tests q star) (size_tests y.of y.star) code ((λ i. size_tests (a.1 i) (a.2 i)) ∙ size_tests_as r q star) h2 y.sized
    offence_no_type _ _ _ _ (in_cast_operands env middle left x place term args q star o h0 h1 h2) i0 i3 i4 i5 f d =
        let y = cast_view ds i0 left i3 i4 i5 place args term (viewed ds i0 left x i3 i4 i5 place (node.Cast term) args h0 d) in
        let a = is_term_same cs ds r e bc b _ _ _ _ _ h1 i0 y.middle y.of y.star f y.says in
        offence_no_operands _ _ _ _ h2 y.middle i3 y.trees y.operands a.0 y.typed
    offence_no_type _ _ _ _ (in_vector_operands env middle left x place term args q star o h0 h1 h2) i0 i3 i4 i5 f d =
        let y = vector_view ds i0 left i3 i4 i5 place args term (viewed ds i0 left x i3 i4 i5 place (node.Vector term) args h0 d) in
        let a = is_term_same cs ds r e bc b _ _ _ _ _ h1 i0 y.middle y.of y.star f y.says in
        offence_no_operands _ _ _ _ h2 y.middle i3 y.trees y.operands a.0 y.typed
    offence_no_type _ _ _ _ (no_cast env middle after left x place term args q star ts os code h0 h1 h2 h3) i0 i3 i4 i5 f d =
        let y = cast_view ds i0 left i3 i4 i5 place args term (viewed ds i0 left x i3 i4 i5 place (node.Cast term) args h0 d) in
        let a = is_term_same cs ds r e bc b _ _ _ _ _ h1 i0 y.middle y.of y.star f y.says in
        let s = are_typed_same cs ds r e bc b _ _ _ _ _ _ h2 y.middle i3 y.trees y.operands a.0 y.typed in
        not_made r code y.made (sym y.judged ∙ (λ i. cast_rule (a.1 i) (a.2 i) (s.1 i)) ∙ cast_rule_as r e.differ q star os ∙ ap (judged_as r) h3)
    offence_no_type _ _ _ _ (no_vector env middle after left x place term args q star ts os code h0 h1 h2 h3) i0 i3 i4 i5 f d =
        let y = vector_view ds i0 left i3 i4 i5 place args term (viewed ds i0 left x i3 i4 i5 place (node.Vector term) args h0 d) in
        let a = is_term_same cs ds r e bc b _ _ _ _ _ h1 i0 y.middle y.of y.star f y.says in
        let s = are_typed_same cs ds r e bc b _ _ _ _ _ _ h2 y.middle i3 y.trees y.operands a.0 y.typed in
        not_made r code y.made (sym y.judged ∙ (λ i. literal (a.1 i) (a.2 i) (s.1 i)) ∙ literal_as r q star os ∙ ap (judged_as r) h3)
    offence_no_type _ _ _ _ (flag_out env after left x place p text args ts os h0 h1 h2 h3) i0 i3 i4 i5 f d =
        offence_behind env i0 left x i3 i4 i5 place (node.Call text) args (at 334 p) f d h0 tt
        (called_comes cs env after left place args ts os text None (Some (at 334 p)) h1 h2 (sym (ap (λ z. call_verdict place z (lookup entries text) None) h3)) (λ entry g k. some_none (sym h3 ∙ g)))
    offence_no_type _ _ _ _ (no_function env after left x place text args ts os h0 h1 h2 h3) i0 i3 i4 i5 f d =
        offence_behind env i0 left x i3 i4 i5 place (node.Call text) args (at 301 place) f d h0 tt
        (called_comes cs env after left place args ts os text None (Some (at 301 place)) h1 h2 (sym (λ i. call_verdict place (no_fence_divides cs text ts h3 i) (h3 i) None)) (λ entry g k. absurd (none_some (sym h3 ∙ k))))
    offence_no_type _ _ _ _ (no_form env after left x place text args ts os tys h0 h1 h2 h3 h4 h5) i0 i3 i4 i5 f d =
        offence_behind env i0 left x i3 i4 i5 place (node.Call text) args (at 329 place) f d h0 tt
        (called_comes cs env after left place args ts os text None (Some (at 329 place)) h1 h2 (sym (λ i. call_verdict place (h3 i) (h5.named i) None)) (λ entry g k. record { types = tys; arguments = h4; fits = h5 }))
    offence_no_type _ _ _ _ (no_flag env after left x place text args ts os tys found h0 h1 h2 h3 h4 h5 h6) i0 i3 i4 i5 f d =
        offence_behind env i0 left x i3 i4 i5 place (node.Call text) args (at 330 place) f d h0 tt
        (called_comes cs env after left place args ts os text (Some false) (Some (at 330 place)) h1 h2 (sym (λ i. call_verdict place (h3 i) (h5.named i) (Some false))) (λ entry g k. record { types = tys; arguments = h4; fits = (found, h5, sym h6) }))

    pub offence_no_operands : (j0 : Env) (j1 : Bool) (j2 : List Expr) (j3 : Offence) → SomeOffends cs j0 j1 j2 j3 → (i0 i3 : Env) (i4 : List TExpr) (i5 : List Operand) → i0 ≡ env_as r j0 → AreTyped ds i0 j1 j2 i3 i4 i5 → ⊥
    offence_no_operands _ _ _ _ (in_first env left x es o h0) _ _ _ _ f (more_operands env1 middle1 after1 left1 x1 es1 t1 ts1 o1 os1 k0 k1) = offence_no_type _ _ _ _ h0 env1 middle1 t1 o1 f k0
    offence_no_operands _ _ _ _ (in_rest env middle left x es t p o h0 h1) _ _ _ _ f (more_operands env1 middle1 after1 left1 x1 es1 t1 ts1 o1 os1 k0 k1) =
        let a = types_same cs ds r e bc b _ _ _ _ _ _ h0 env1 middle1 t1 o1 f k0 in
        offence_no_operands _ _ _ _ h1 middle1 after1 ts1 os1 a.0 k1

    pub offence_no_term : (j0 : Env) (j1 : TypeTerm) (j2 : Offence) → TermOffends cs j0 j1 j2 → (i0 i2 : Env) (i3 : Qualified) (i4 : Option Bool) → i0 ≡ env_as r j0 → IsTermOf ds i0 j1 i2 i3 i4 → ⊥
    offence_no_term _ _ _ (in_type_words env term s star o h0 h1) _ _ _ _ f (in_brackets env1 after1 term1 s1 star1 q1 k0 k1) =
        let g : s1 ≡ s = sym k0.is ∙ h0.is in
        offence_no_words _ _ _ h1 env1 after1 q1 f (subst (λ z. IsSpecified ds env1 z after1 q1) g k1)

    pub offence_no_words : (j0 : Env) (j1 : Spec) (j2 : Offence) → WordsOffend cs j0 j1 j2 → (i0 i2 : Env) (i3 : Qualified) → i0 ≡ env_as r j0 → IsSpecified ds i0 j1 i2 i3 → ⊥
    offence_no_words _ _ _ (in_base env s quals w o h0 h1) _ _ _ f (words env1 after1 s1 quals1 w1 q1 k0 k1) =
        let g : w1 ≡ w = sym k0.is ∙ h0.is in
        offence_no_base _ _ _ h1 env1 after1 q1 f (subst (λ z. IsBase ds env1 z after1 q1) g k1)

    pub offence_no_base : (j0 : Env) (j1 : Base) (j2 : Offence) → BaseOffends cs j0 j1 j2 → (i0 i2 : Env) (i3 : Qualified) → i0 ≡ env_as r j0 → IsBase ds i0 j1 i2 i3 → ⊥
    offence_no_base _ _ _ (no_type env text place h0) i0 i2 i3 f d =
        true≢false (sym (named_view ds i0 i2 i3 text place (words_viewed ds i0 (base.Named text place) i2 i3 d)) ∙ typedef_there cs ds r e bc b env i0 text f ∙ h0)
    offence_no_base _ _ _ (no_struct env w text place h0 h1) i0 i2 i3 f d =
        let y = tag_view ds i0 i2 i3 w text place h0 (words_viewed ds i0 w i2 i3 d) in
        let g : y.text ≡ text = text_same text y.text place y.place h0.declared y.struct.declared (sym y.struct.is ∙ h0.is) in
        true≢false (sym (ap is_complete y.found ∙ y.complete) ∙ complete_there cs ds r e bc b env i0 text y.text g f ∙ h1)
    offence_no_base _ _ _ (in_members env w text place fields void o h0 h1 h2) i0 i2 i3 f d =
        let y = struct_view ds i0 i2 i3 w text place fields h0 (words_viewed ds i0 w i2 i3 d) in
        let g : y.text ≡ text = text_same text y.text place y.place h0.declared y.struct.declared (sym y.struct.is ∙ h0.is) in
        let k = fields_of w text y.text place y.place fields y.fields h0 y.struct in
        let v : y.void ≡ type_id r void = wanted_one cs ds r e b (want.Of shape.Void) void y.void refl h1 y.wanted in
        offence_no_members _ _ _ _ h2 (tagged y.text y.void false i0) [] y.behind y.members (tagged_same cs ds r e bc b text y.text void y.void false env i0 g v f) refl (subst (λ z. AreMembers ds (tagged y.text y.void false i0) [] z y.behind y.members) k y.all)
    offence_no_base _ _ _ (broken_struct env after w text place fields members void code h0 h1 h2 h3) i0 i2 i3 f d =
        let y = struct_view ds i0 i2 i3 w text place fields h0 (words_viewed ds i0 w i2 i3 d) in
        let g : y.text ≡ text = text_same text y.text place y.place h0.declared y.struct.declared (sym y.struct.is ∙ h0.is) in
        let k = fields_of w text y.text place y.place fields y.fields h0 y.struct in
        let v : y.void ≡ type_id r void = wanted_one cs ds r e b (want.Of shape.Void) void y.void refl h1 y.wanted in
        let a = are_members_same cs ds r e bc b _ _ _ _ _ h2 (tagged y.text y.void false i0) [] y.behind y.members (tagged_same cs ds r e bc b text y.text void y.void false env i0 g v f) refl (subst (λ z. AreMembers ds (tagged y.text y.void false i0) [] z y.behind y.members) k y.all) in
        kept_broken (struct_tests cs members (is_tag_again env text)) (struct_tests ds y.members (is_tag_again i0 y.text)) code (struct_tests_there cs ds r e bc b env i0 text y.text members y.members g f a.1) h3 y.fits

    pub offence_no_members : (j0 : Env) (j1 : List Member) (j2 : List Field) (j3 : Offence) → SomeMemberOffends cs j0 j1 j2 j3 → (i0 : Env) (i1 : List Member) (i3 : Env) (i4 : List Member) → i0 ≡ env_as r j0 → i1 ≡ map (member r) j1 → AreMembers ds i0 i1 j2 i3 i4 → ⊥
    offence_no_members _ _ _ _ (in_field_words env before x fs s names o h0 h1) _ _ _ _ f g (more_fields env1 typed1 middle1 after1 before1 between1 members1 x1 fs1 s1 names1 q1 k0 k1 k2 k3) =
        let u : s1 ≡ s = sym k0.is ∙ h0.is in
        offence_no_words _ _ _ h1 env1 typed1 q1 f (subst (λ z. IsSpecified ds env1 z typed1 q1) u k1)
    offence_no_members _ _ _ _ (in_field_names env typed before x fs s names q o h0 h1 h2) _ _ _ _ f g (more_fields env1 typed1 middle1 after1 before1 between1 members1 x1 fs1 s1 names1 q1 k0 k1 k2 k3) =
        let u : s1 ≡ s = sym k0.is ∙ h0.is in
        let v : names1 ≡ names = sym k0.has ∙ h0.has in
        let a = is_specified_same cs ds r e bc b _ _ _ _ h1 env1 typed1 q1 f (subst (λ z. IsSpecified ds env1 z typed1 q1) u k1) in
        offence_no_names _ _ _ _ _ h2 typed1 q1 before1 middle1 between1 a.0 a.1 g (subst (λ z. AreNamed ds typed1 q1 before1 z middle1 between1) v k2)
    offence_no_members _ _ _ _ (in_other_fields env typed middle before between x fs s names q o h0 h1 h2 h3) _ _ _ _ f g (more_fields env1 typed1 middle1 after1 before1 between1 members1 x1 fs1 s1 names1 q1 k0 k1 k2 k3) =
        let u : s1 ≡ s = sym k0.is ∙ h0.is in
        let v : names1 ≡ names = sym k0.has ∙ h0.has in
        let a = is_specified_same cs ds r e bc b _ _ _ _ h1 env1 typed1 q1 f (subst (λ z. IsSpecified ds env1 z typed1 q1) u k1) in
        let c = are_named_same cs ds r e bc b _ _ _ _ _ _ h2 typed1 q1 before1 middle1 between1 a.0 a.1 g (subst (λ z. AreNamed ds typed1 q1 before1 z middle1 between1) v k2) in
        offence_no_members _ _ _ _ h3 middle1 between1 after1 members1 c.0 c.1 k3

    pub offence_no_names : (j0 : Env) (j1 : Qualified) (j2 : List Member) (j3 : List Declor) (j4 : Offence) → SomeNameOffends cs j0 j1 j2 j3 j4 → (i0 : Env) (i1 : Qualified) (i2 : List Member) (i4 : Env) (i5 : List Member) → i0 ≡ env_as r j0 → i1 ≡ qualified_as r j1 → i2 ≡ map (member r) j2 → AreNamed ds i0 i1 i2 j3 i4 i5 → ⊥
    offence_no_names _ _ _ _ _ (in_lengths env q before x xs star text place es o h0 h1) _ _ _ _ _ f p g (more_names env1 middle1 after1 q1 before1 members1 x1 xs1 star1 text1 place1 es1 ls1 t1 k0 k1 k2 k3 k4) =
        let w : es1 ≡ es = sym k0.has ∙ h0.has in
        offence_no_lengths _ _ _ _ h1 env1 middle1 ls1 f (subst (λ z. AreLengths ds env1 false z middle1 ls1) w k1)
    offence_no_names _ _ _ _ _ (broken_member env after q before x xs star text place es ls code h0 h1 h2) _ _ _ _ _ f p g (more_names env1 middle1 after1 q1 before1 members1 x1 xs1 star1 text1 place1 es1 ls1 t1 k0 k1 k2 k3 k4) =
        let u : star1 ≡ star = sym k0.behind ∙ h0.behind in
        let v : text1 ≡ text = sym k0.is ∙ h0.is in
        let w : es1 ≡ es = sym k0.has ∙ h0.has in
        let a = are_lengths_same cs ds r e bc b _ _ _ _ _ h1 env1 middle1 ls1 f (subst (λ z. AreLengths ds env1 false z middle1 ls1) w k1) in
        kept_broken (member_tests cs (sketch q star ls) (has_member text before)) (member_tests ds (sketch q1 star1 ls1) (has_member text1 before1)) code (member_tests_there cs ds r e bc b q q1 star star1 ls ls1 text text1 before before1 p u a.1 v g) h2 k2
    offence_no_names _ _ _ _ _ (in_other_names env middle q before x xs star text place es ls t o h0 h1 h2 h3 h4) _ _ _ _ _ f p g (more_names env1 middle1 after1 q1 before1 members1 x1 xs1 star1 text1 place1 es1 ls1 t1 k0 k1 k2 k3 k4) =
        let u : star1 ≡ star = sym k0.behind ∙ h0.behind in
        let v : text1 ≡ text = sym k0.is ∙ h0.is in
        let w : es1 ≡ es = sym k0.has ∙ h0.has in
        let a = are_lengths_same cs ds r e bc b _ _ _ _ _ h1 env1 middle1 ls1 f (subst (λ z. AreLengths ds env1 false z middle1 ls1) w k1) in
        let k : sketch q1 star1 ls1 ≡ sketch_as r (sketch q star ls) = (λ i. sketch (p i) (u i) (a.1 i)) ∙ sketch_of_as r q star ls in
        let l : t1 ≡ type_id r t = declared_one cs ds r e b (sketch q star ls) 1 t t1 (sketch_one cs ds r e bc b q star ls) h3 (subst (λ z. IsDeclaredAs ds z 1 t1) k k3) in
        let n : before1 ++ record { name = text1; ty = t1 } ∷ [] ≡ map (member r) (before ++ record { name = text; ty = t } ∷ []) =
        (λ i. g i ++ record { name = v i; ty = l i } ∷ []) ∙ sym (map-append (member r) before (record { name = text; ty = t } ∷ [])) in
        offence_no_names _ _ _ _ _ h4 middle1 q1 (before1 ++ record { name = text1; ty = t1 } ∷ []) after1 members1 a.0 p n k4

    pub offence_no_lengths : (j0 : Env) (j1 : Bool) (j2 : List (Option Expr)) (j3 : Offence) → LengthOffends cs j0 j1 j2 j3 → (i0 i3 : Env) (i4 : List Length) → i0 ≡ env_as r j0 → AreLengths ds i0 j1 j2 i3 i4 → ⊥
    offence_no_lengths _ _ _ _ (in_length env may_miss x es o h0) _ _ _ f (given env1 middle1 after1 may1 x1 es1 t1 o1 n1 ls1 k0 k1 k2 k3) = offence_no_type _ _ _ _ h0 env1 middle1 t1 o1 f k0
    offence_no_lengths _ _ _ _ (length_divides env after may_miss x es t o p h0 h1) _ _ _ f (given env1 middle1 after1 may1 x1 es1 t1 o1 n1 ls1 k0 k1 k2 k3) =
        let a = types_same cs ds r e bc b _ _ _ _ _ _ h0 env1 middle1 t1 o1 f k0 in
        none_some (sym k1 ∙ ap divides (constancy_as cs ds r e t t1 a.2) ∙ h1)
    offence_no_lengths _ _ _ _ (behind_missing env may_miss es o h0) _ _ _ f (missing env1 after1 may1 es1 ls1 k0) = offence_no_lengths _ _ _ _ h0 env1 after1 ls1 f k0
    offence_no_lengths _ _ _ _ (behind_given env middle may_miss x es t p o h0 h1 h2) _ _ _ f (given env1 middle1 after1 may1 x1 es1 t1 o1 n1 ls1 k0 k1 k2 k3) =
        let a = types_same cs ds r e bc b _ _ _ _ _ _ h0 env1 middle1 t1 o1 f k0 in
        offence_no_lengths _ _ _ _ h2 middle1 after1 ls1 a.0 k3
