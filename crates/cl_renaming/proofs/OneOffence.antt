-- An expression has one first offence, whatever numbers types have in the tables in which it is judged.
use Rattle.std.proofs.Common.{◌≡◌, ℕ, List, [], ◌∷◌, ◌++◌, map, refl, sym, ap, ◌∙◌, subst, arith, Bool, true, false, ◌⊎◌, inl, inr, Option, Some, None}
use Rattle.std.proofs.lemmas.List.{map-append}
use Rattle.clv_place.specs.declared.place.Place.{Place}
use Rattle.clv_place.specs.declared.stop.Offence.{Offence}
use Rattle.cl_types.specs.declared.types.ClType.{ClType}
use Rattle.cl_types.specs.declared.types.Member.{Member}
use Rattle.cl_types.specs.declared.types.TypeId.{TypeId}
use Rattle.cl_types.specs.declared.operator.UnOp.TheVariants as un
use Rattle.cl_types.specs.Table.{AreBuilt}
use Rattle.cl_builtins.specs.Names.{lookup, entries}
use Rattle.cl_ast.specs.declared.expression.Base.{Base}
use Rattle.cl_ast.specs.declared.expression.Base.TheVariants as base
use Rattle.cl_ast.specs.declared.expression.Declor.{Declor}
use Rattle.cl_ast.specs.declared.expression.Expr.{Expr}
use Rattle.cl_ast.specs.declared.expression.ExprNode.{ExprNode}
use Rattle.cl_ast.specs.declared.expression.ExprNode.TheVariants as node
use Rattle.cl_ast.specs.declared.expression.Field.{Field}
use Rattle.cl_ast.specs.declared.expression.Spec.{Spec}
use Rattle.cl_ast.specs.declared.expression.TypeTerm.{TypeTerm}
use Rattle.cl_tree.specs.declared.shape.Shape.TheVariants as shape
use Rattle.cl_tree.specs.declared.expression.TExpr.{TExpr}
use Rattle.cl_tree.specs.Constants.{divides}
use Rattle.cl_rules.specs.declared.rule.Judged.{Judged}
use Rattle.cl_rules.specs.declared.rule.Judged.TheVariants.{Broken}
use Rattle.cl_rules.specs.declared.rule.Operand.{Operand}
use Rattle.cl_rules.specs.declared.rule.Qualified.{Qualified}
use Rattle.cl_rules.specs.declared.rule.Want.TheVariants as want
use Rattle.cl_rules.specs.Calls.{cast_rule, literal, size_tests}
use Rattle.cl_rules.specs.Operands.{first_broken}
use Rattle.cl_scope.specs.Names.{Env}
use Rattle.cl_words.specs.Words.{has_member, sketch, member_tests, struct_tests}
use Rattle.cl_make.proofs.Growing.{none_some, some_same}
use Rattle.cl_make.specs.Wanted.{IsWanted, IsDeclaredAs}
use Rattle.cl_type_expr.specs.Expressions.{first_left, tagged, is_tag_again, component_of, AreTyped, IsTermOf, IsSpecified, AreMembers, AreNamed, AreLengths}
use Rattle.cl_type_expr.specs.Offences.{at, Offends, SomeOffends, TermOffends, WordsOffend, BaseOffends, SomeMemberOffends, SomeNameOffends, LengthOffends, unknown, in_operands, operation as broken_rule, no_pointer, no_member, index_divides, no_component, no_size_of_value, in_size, in_cast, in_vector, no_size_of_type, in_cast_operands, in_vector_operands, no_cast, no_vector, flag_out, no_function, no_form, no_flag, in_first, in_rest, in_type_words, in_base, no_type, no_struct, in_members, broken_struct, in_field_words, in_field_names, in_other_fields, in_lengths, broken_member, in_other_names, in_length, length_divides, behind_missing, behind_given}
use Rattle.cl_type_expr.specs.Syntax.{IsExpr, IsStruct}
use Rattle.cl_renaming.specs.Renaming.{type_id, member, judged_as, qualified_as, sketch_as, env_as, IsRenaming, AreTypes}
use Rattle.cl_renaming.proofs.Calls.{cast_rule_as, literal_as, size_tests_as}
use Rattle.cl_renaming.proofs.Wants.{wanted_one, declared_one}
use Rattle.cl_renaming.proofs.Words.{sketch_of_as}
use Rattle.cl_renaming.proofs.Values.{constancy_as}
use Rattle.cl_renaming.proofs.Agreement.{types_same, are_typed_same, is_term_same, is_specified_same, are_members_same, are_named_same, are_lengths_same, tagged_same, sketch_one}
use Rattle.cl_renaming.proofs.Views.{base_kind, named_kind, tag_kind, struct_kind, text_same, place_same}
use Rattle.cl_renaming.proofs.Comes.{judged_verdict, index_verdict, call_verdict}
use Rattle.cl_ast.specs.declared.expression.Base.TheViews.{out-Expr}
use Rattle.cl_renaming.proofs.Excluded.{Behind, TermFree, holds_free, judged_free, unknown_comes, broken_comes, called_comes, no_fence_divides, pointer_comes, index_comes, size_comes, fields_of, behind_same, struct_tests_there, member_tests_there, typed_no_offence, operands_no_offence, term_no_offence, words_no_offence, members_no_offence, names_no_offence, lengths_no_offence}
use Rattle.cl_renaming.proofs.Excluding.{offence_no_type, offence_no_operands, offence_no_term, offence_no_words, offence_no_members, offence_no_names, offence_no_lengths}

-- ---- offences by the kind of node

record SizeBroken (cs : List ClType) (env : Env) (place : Place) (term : TypeTerm) (o : Offence) : Type 0 where
  after : Env
  of : Qualified
  star : Option Bool
  code : ℕ
  says : IsTermOf cs env term after of star
  broken : first_broken (size_tests of star) ≡ Some code
  is : o ≡ at code place

record OperandsBehind (cs : List ClType) (env : Env) (term : TypeTerm) (args : List Expr) (o : Offence) : Type 0 where
  middle : Env
  of : Qualified
  star : Option Bool
  says : IsTermOf cs env term middle of star
  offends : SomeOffends cs middle false args o

record RuleBroken (cs : List ClType) (env : Env) (place : Place) (term : TypeTerm) (args : List Expr) (rule : Qualified → Option Bool → List Operand → Judged) (o : Offence) : Type 0 where
  middle : Env
  after : Env
  of : Qualified
  star : Option Bool
  trees : List TExpr
  operands : List Operand
  code : ℕ
  says : IsTermOf cs env term middle of star
  typed : AreTyped cs middle false args after trees operands
  judged : rule of star operands ≡ Broken code
  is : o ≡ at code place

abbrev TermOff : List ClType → Env → Place → TypeTerm → List Expr → (Qualified → Option Bool → List Operand → Judged) → Offence → Type 0
TermOff cs env place term args rule o = TermOffends cs env term o ⊎ (OperandsBehind cs env term args o ⊎ RuleBroken cs env place term args rule o)

abbrev NodeOff : List ClType → Env → Bool → Place → ExprNode → List Expr → Offence → Type 0
NodeOff cs env left place n args o = SomeOffends cs env (first_left left n) args o ⊎ Behind cs env left place n args (Some o)

abbrev OffBy : List ClType → Env → Bool → Place → List Expr → Offence → ExprNode → Type 0
OffBy cs env left place args o (node.SizeofType' quals said star) = TermOffends cs env (record { spec = record { quals = quals; base = said }; star = star }) o ⊎ SizeBroken cs env place (record { spec = record { quals = quals; base = said }; star = star }) o
OffBy cs env left place args o (node.Cast' quals said star) = TermOff cs env place (record { spec = record { quals = quals; base = said }; star = star }) args cast_rule o
OffBy cs env left place args o (node.Vector' quals said star) = TermOff cs env place (record { spec = record { quals = quals; base = said }; star = star }) args literal o
OffBy cs env left place args o n = NodeOff cs env left place n args o

free_off : (cs : List ClType) (env : Env) (left : Bool) (place : Place) (args : List Expr) (o : Offence) (n : ExprNode) → TermFree n → NodeOff cs env left place n args o → OffBy cs env left place args o n
free_off cs env left place args o (node.SizeofType' quals said star) f x = absurd f
free_off cs env left place args o (node.Cast' quals said star) f x = absurd f
free_off cs env left place args o (node.Vector' quals said star) f x = absurd f
free_off cs env left place args o _ f x = x

off_free : (cs : List ClType) (env : Env) (left : Bool) (place : Place) (args : List Expr) (o : Offence) (n : ExprNode) → TermFree n → OffBy cs env left place args o n → NodeOff cs env left place n args o
off_free cs env left place args o (node.SizeofType' quals said star) f x = absurd f
off_free cs env left place args o (node.Cast' quals said star) f x = absurd f
off_free cs env left place args o (node.Vector' quals said star) f x = absurd f
off_free cs env left place args o _ f x = x

module _ (cs : List ClType) (env : Env) (left : Bool) (o : Offence) (e : Expr) (place : Place) (n : ExprNode) (args : List Expr) (h : IsExpr e place n args) where
  off_own : OffBy cs env left place args o n → OffBy cs env left (out-Expr e).place (out-Expr e).args.items o (out-Expr e).node
  off_own x =
      subst (λ z. OffBy cs env left z (out-Expr e).args.items o (out-Expr e).node) (sym h.at)
      (subst (λ z. OffBy cs env left place (out-Expr e).args.items o z) (sym h.is) (subst (λ z. OffBy cs env left place z o n) (sym h.has) x))

  own_off : OffBy cs env left (out-Expr e).place (out-Expr e).args.items o (out-Expr e).node → OffBy cs env left place args o n
  own_off x =
      subst (λ z. OffBy cs env left z args o n) h.at
      (subst (λ z. OffBy cs env left (out-Expr e).place args o z) h.is (subst (λ z. OffBy cs env left (out-Expr e).place z o (out-Expr e).node) h.has x))

own_offence : (cs : List ClType) (i0 : Env) (i1 : Bool) (i2 : Expr) (i3 : Offence) → Offends cs i0 i1 i2 i3 → OffBy cs i0 i1 (out-Expr i2).place (out-Expr i2).args.items i3 (out-Expr i2).node
own_offence cs _ _ _ _ (unknown env after left x place text args ts os h0 h1 h2) =
    off_own cs env left (at 301 place) x place (node.Name text) args h0 (inr (unknown_comes cs env after left place args ts os text h1 h2))
own_offence cs _ _ _ _ (in_operands env left x place n args o h0 h1 h2) = off_own cs env left o x place n args h0 (free_off cs env left place args o n (holds_free n h1) (inl h2))
own_offence cs _ _ _ _ (broken_rule env after left x place n args ts os code h0 h1 h2) =
    off_own cs env left (at code place) x place n args h0 (free_off cs env left place args (at code place) n (judged_free cs after left n os (Broken code) h2) (inr (broken_comes cs env after left place args ts os n code h1 h2)))
own_offence cs _ _ _ _ (no_pointer env after left x place text args t o code h0 h1 h2) =
    off_own cs env left (at code place) x place (node.Member text true) args h0 (inr (pointer_comes cs env after left place args text t o (Some (at code place)) h1 (inl (record { code = code; points = h2; is = refl }))))
own_offence cs _ _ _ _ (no_member env after left x place text args t u o p m code h0 h1 h2 h3 h4) =
    off_own cs env left (at code place) x place (node.Member text true) args h0
    (inr (pointer_comes cs env after left place args text t o (Some (at code place)) h1 (inr (record { pointed = m; whole = u; of = p; points = h2; leads = h3; is = sym (ap (judged_verdict place) h4) }))))
own_offence cs _ _ _ _ (index_divides env after left x place p args t i o q h0 h1 h2 h3) =
    off_own cs env left (at 334 p) x place node.Index args h0 (inr (index_comes cs env after left place args t i o q (Some (at 334 p)) h1 h2 (sym (ap (λ z. index_verdict place z (component_of cs o i)) h3))))
own_offence cs _ _ _ _ (no_component env after left x place args t i o q h0 h1 h2 h3 h4) =
    off_own cs env left (at 307 place) x place node.Index args h0 (inr (index_comes cs env after left place args t i o q (Some (at 307 place)) h1 h2 (sym (λ j. index_verdict place (h3 j) (h4 j)))))
own_offence cs _ _ _ _ (no_size_of_value env after left x place args t o h0 h1 h2) =
    off_own cs env left (at 303 place) x place (node.Unary un.Sizeof) args h0 (inr (size_comes cs env after left place args t o h1 h2))
own_offence cs _ _ _ _ (in_size env left x place term args o h0 h1) = off_own cs env left o x place (node.SizeofType term) args h0 (inl h1)
own_offence cs _ _ _ _ (in_cast env left x place term args o h0 h1) = off_own cs env left o x place (node.Cast term) args h0 (inl h1)
own_offence cs _ _ _ _ (in_vector env left x place term args o h0 h1) = off_own cs env left o x place (node.Vector term) args h0 (inl h1)
own_offence cs _ _ _ _ (no_size_of_type env after left x place term args q star code h0 h1 h2) =
    off_own cs env left (at code place) x place (node.SizeofType term) args h0 (inr (record { after = after; of = q; star = star; code = code; says = h1; broken = h2; is = refl }))
own_offence cs _ _ _ _ (in_cast_operands env middle left x place term args q star o h0 h1 h2) =
    off_own cs env left o x place (node.Cast term) args h0 (inr (inl (record { middle = middle; of = q; star = star; says = h1; offends = h2 })))
own_offence cs _ _ _ _ (in_vector_operands env middle left x place term args q star o h0 h1 h2) =
    off_own cs env left o x place (node.Vector term) args h0 (inr (inl (record { middle = middle; of = q; star = star; says = h1; offends = h2 })))
own_offence cs _ _ _ _ (no_cast env middle after left x place term args q star ts os code h0 h1 h2 h3) =
    off_own cs env left (at code place) x place (node.Cast term) args h0
    (inr (inr (record { middle = middle; after = after; of = q; star = star; trees = ts; operands = os; code = code; says = h1; typed = h2; judged = h3; is = refl })))
own_offence cs _ _ _ _ (no_vector env middle after left x place term args q star ts os code h0 h1 h2 h3) =
    off_own cs env left (at code place) x place (node.Vector term) args h0
    (inr (inr (record { middle = middle; after = after; of = q; star = star; trees = ts; operands = os; code = code; says = h1; typed = h2; judged = h3; is = refl })))
own_offence cs _ _ _ _ (flag_out env after left x place p text args ts os h0 h1 h2 h3) =
    off_own cs env left (at 334 p) x place (node.Call text) args h0
    (inr (called_comes cs env after left place args ts os text None (Some (at 334 p)) h1 h2 (sym (ap (λ z. call_verdict place z (lookup entries text) None) h3)) (λ entry g k. absurd (none_some (sym (sym h3 ∙ g))))))
own_offence cs _ _ _ _ (no_function env after left x place text args ts os h0 h1 h2 h3) =
    off_own cs env left (at 301 place) x place (node.Call text) args h0
    (inr (called_comes cs env after left place args ts os text None (Some (at 301 place)) h1 h2 (sym (λ i. call_verdict place (no_fence_divides cs text ts h3 i) (h3 i) None)) (λ entry g k. absurd (none_some (sym h3 ∙ k)))))
own_offence cs _ _ _ _ (no_form env after left x place text args ts os tys h0 h1 h2 h3 h4 h5) =
    off_own cs env left (at 329 place) x place (node.Call text) args h0
    (inr (called_comes cs env after left place args ts os text None (Some (at 329 place)) h1 h2 (sym (λ i. call_verdict place (h3 i) (h5.named i) None)) (λ entry g k. record { types = tys; arguments = h4; fits = h5 })))
own_offence cs _ _ _ _ (no_flag env after left x place text args ts os tys found h0 h1 h2 h3 h4 h5 h6) =
    off_own cs env left (at 330 place) x place (node.Call text) args h0
    (inr (called_comes cs env after left place args ts os text (Some false) (Some (at 330 place)) h1 h2 (sym (λ i. call_verdict place (h3 i) (h5.named i) (Some false))) (λ entry g k. record { types = tys; arguments = h4; fits = (found, h5, sym h6) })))

off_viewed : (cs : List ClType) (env : Env) (left : Bool) (x : Expr) (o : Offence) (place : Place) (n : ExprNode) (args : List Expr) → IsExpr x place n args → Offends cs env left x o → OffBy cs env left place args o n
off_viewed cs env left x o place n args h d = own_off cs env left o x place n args h (own_offence cs env left x o d)

-- ---- offences by the kind of base

record NoTypeOff (w : Base) (o : Offence) : Type 0 where
  text : List ℕ
  place : Place
  names : w ≡ base.Named text place
  is : o ≡ at 301 place

record NoStructOff (w : Base) (o : Offence) : Type 0 where
  text : Option (List ℕ)
  place : Place
  struct : IsStruct w text place None
  is : o ≡ at 305 place

record MembersOff (cs : List ClType) (env : Env) (w : Base) (o : Offence) : Type 0 where
  text : Option (List ℕ)
  place : Place
  fields : List Field
  void : TypeId
  struct : IsStruct w text place (Some fields)
  wanted : IsWanted cs (want.Of shape.Void) void
  offends : SomeMemberOffends cs (tagged text void false env) [] fields o

record StructOff (cs : List ClType) (env : Env) (w : Base) (o : Offence) : Type 0 where
  after : Env
  text : Option (List ℕ)
  place : Place
  fields : List Field
  members : List Member
  void : TypeId
  code : ℕ
  struct : IsStruct w text place (Some fields)
  wanted : IsWanted cs (want.Of shape.Void) void
  all : AreMembers cs (tagged text void false env) [] fields after members
  broken : first_broken (struct_tests cs members (is_tag_again env text)) ≡ Some code
  is : o ≡ at code place

abbrev BaseOff : List ClType → Env → Base → Offence → Type 0
BaseOff cs env w o = (NoTypeOff w o ⊎ NoStructOff w o) ⊎ (MembersOff cs env w o ⊎ StructOff cs env w o)

base_off : (cs : List ClType) (i0 : Env) (i1 : Base) (i2 : Offence) → BaseOffends cs i0 i1 i2 → BaseOff cs i0 i1 i2
base_off cs _ _ _ (no_type env text place h0) = inl (inl (record { text = text; place = place; names = refl; is = refl }))
base_off cs _ _ _ (no_struct env w text place h0 h1) = inl (inr (record { text = text; place = place; struct = h0; is = refl }))
base_off cs _ _ _ (in_members env w text place fields void o h0 h1 h2) = inr (inl (record { text = text; place = place; fields = fields; void = void; struct = h0; wanted = h1; offends = h2 }))
base_off cs _ _ _ (broken_struct env after w text place fields members void code h0 h1 h2 h3) =
    inr (inr (record { after = after; text = text; place = place; fields = fields; members = members; void = void; code = code; struct = h0; wanted = h1; all = h2; broken = h3; is = refl }))

other_kind : {A : Type 0} (n m k : ℕ) → k ≡ n → k ≡ m → (n ≡ m → ⊥) → A
other_kind n m k f g h = absurd (h (sym f ∙ g))

named_off : (cs : List ClType) (env : Env) (text : List ℕ) (place : Place) (o : Offence) → BaseOff cs env (base.Named text place) o → o ≡ at 301 place
named_off cs env text place o (inl (inl y)) =
    let g : y.place ≡ place = (let k : base.Named text place ≡ base.Named y.text y.place = y.names in cc) in
    y.is ∙ ap (at 301) g
named_off cs env text place o (inl (inr y)) = other_kind 2 1 (base_kind (base.Named text place)) (tag_kind (base.Named text place) y.text y.place y.struct) (named_kind text place) (λ z. omega arith)
named_off cs env text place o (inr (inl y)) = other_kind 3 1 (base_kind (base.Named text place)) (struct_kind (base.Named text place) y.text y.place y.fields y.struct) (named_kind text place) (λ z. omega arith)
named_off cs env text place o (inr (inr y)) = other_kind 3 1 (base_kind (base.Named text place)) (struct_kind (base.Named text place) y.text y.place y.fields y.struct) (named_kind text place) (λ z. omega arith)

tag_off : (cs : List ClType) (env : Env) (w : Base) (text : Option (List ℕ)) (place : Place) (o : Offence) → IsStruct w text place None → BaseOff cs env w o → o ≡ at 305 place
tag_off cs env w text place o h (inl (inl y)) = other_kind 1 2 (base_kind w) (ap base_kind y.names ∙ named_kind y.text y.place) (tag_kind w text place h) (λ z. omega arith)
tag_off cs env w text place o h (inl (inr y)) = y.is ∙ ap (at 305) (place_same text y.text place y.place h.declared y.struct.declared (sym y.struct.is ∙ h.is))
tag_off cs env w text place o h (inr (inl y)) = other_kind 3 2 (base_kind w) (struct_kind w y.text y.place y.fields y.struct) (tag_kind w text place h) (λ z. omega arith)
tag_off cs env w text place o h (inr (inr y)) = other_kind 3 2 (base_kind w) (struct_kind w y.text y.place y.fields y.struct) (tag_kind w text place h) (λ z. omega arith)

struct_off : (cs : List ClType) (env : Env) (w : Base) (text : Option (List ℕ)) (place : Place) (fields : List Field) (o : Offence) → IsStruct w text place (Some fields) → BaseOff cs env w o → MembersOff cs env w o ⊎ StructOff cs env w o
struct_off cs env w text place fields o h (inl (inl y)) = other_kind 1 3 (base_kind w) (ap base_kind y.names ∙ named_kind y.text y.place) (struct_kind w text place fields h) (λ z. omega arith)
struct_off cs env w text place fields o h (inl (inr y)) = other_kind 2 3 (base_kind w) (tag_kind w y.text y.place y.struct) (struct_kind w text place fields h) (λ z. omega arith)
struct_off cs env w text place fields o h (inr y) = y

two : {A B R : Type 0} → A ⊎ B → (A → R) → (B → R) → R
two (inl a) f g = f a
two (inr b) f g = g b

codes_one : (xs ys : List (ℕ × Bool)) (c d : ℕ) → ys ≡ xs → first_broken xs ≡ Some c → first_broken ys ≡ Some d → d ≡ c
codes_one xs ys c d f x y = some_same d c (sym y ∙ ap first_broken f ∙ x)

broken_same : (c d : ℕ) → Broken c ≡ Broken d → c ≡ d
broken_same c d e = cc

-- ---- one offence

module _ (cs ds : List ClType) (r : ℕ → ℕ) (e : IsRenaming cs ds r) (bc : AreBuilt [] cs) (b : AreTypes ds) where
  behind_one : (env env2 : Env) (left : Bool) (x : Expr) (place : Place) (n : ExprNode) (args : List Expr) (o o2 : Offence) → env2 ≡ env_as r env → IsExpr x place n args → TermFree n → Behind cs env left place n args (Some o) → Offends ds env2 left x o2 → o2 ≡ o
  behind_one env env2 left x place n args o o2 f h free y d =
      two (off_free ds env2 left place args o2 n free (off_viewed ds env2 left x o2 place n args h d))
      (λ s. absurd (operands_no_offence cs ds r e bc b _ _ _ _ s env y.after y.trees y.operands f y.typed))
      (λ z. some_same o2 o (behind_same cs ds r e bc b env env2 left place n args (Some o) (Some o2) f y z))

  mutual
    pub offences_one : (j0 : Env) (j1 : Bool) (j2 : Expr) (j3 : Offence) → Offends cs j0 j1 j2 j3 → (i0 : Env) (p : Offence) → i0 ≡ env_as r j0 → Offends ds i0 j1 j2 p → p ≡ j3
    offences_one _ _ _ _ (unknown env after left x place text args ts os h0 h1 h2) i0 p f d =
        behind_one env i0 left x place (node.Name text) args (at 301 place) p f h0 tt (unknown_comes cs env after left place args ts os text h1 h2) d
    offences_one _ _ _ _ (in_operands env left x place n args o h0 h1 h2) i0 p f d =
        two (off_free ds i0 left place args p n (holds_free n h1) (off_viewed ds i0 left x p place n args h0 d))
        (λ s. operands_one _ _ _ _ h2 i0 p f s)
        (λ z. absurd (offence_no_operands cs ds r e bc b _ _ _ _ h2 i0 z.after z.trees z.operands f z.typed))
    offences_one _ _ _ _ (broken_rule env after left x place n args ts os code h0 h1 h2) i0 p f d =
        behind_one env i0 left x place n args (at code place) p f h0 (judged_free cs after left n os (Broken code) h2) (broken_comes cs env after left place args ts os n code h1 h2) d
    offences_one _ _ _ _ (no_pointer env after left x place text args t o code h0 h1 h2) i0 p f d =
        behind_one env i0 left x place (node.Member text true) args (at code place) p f h0 tt
        (pointer_comes cs env after left place args text t o (Some (at code place)) h1 (inl (record { code = code; points = h2; is = refl }))) d
    offences_one _ _ _ _ (no_member env after left x place text args t u o s m code h0 h1 h2 h3 h4) i0 p f d =
        behind_one env i0 left x place (node.Member text true) args (at code place) p f h0 tt
        (pointer_comes cs env after left place args text t o (Some (at code place)) h1 (inr (record { pointed = m; whole = u; of = s; points = h2; leads = h3; is = sym (ap (judged_verdict place) h4) }))) d
    offences_one _ _ _ _ (index_divides env after left x place s args t i o q h0 h1 h2 h3) i0 p f d =
        behind_one env i0 left x place node.Index args (at 334 s) p f h0 tt (index_comes cs env after left place args t i o q (Some (at 334 s)) h1 h2 (sym (ap (λ z. index_verdict place z (component_of cs o i)) h3))) d
    offences_one _ _ _ _ (no_component env after left x place args t i o q h0 h1 h2 h3 h4) i0 p f d =
        behind_one env i0 left x place node.Index args (at 307 place) p f h0 tt (index_comes cs env after left place args t i o q (Some (at 307 place)) h1 h2 (sym (λ j. index_verdict place (h3 j) (h4 j)))) d
    offences_one _ _ _ _ (no_size_of_value env after left x place args t o h0 h1 h2) i0 p f d =
        behind_one env i0 left x place (node.Unary un.Sizeof) args (at 303 place) p f h0 tt (size_comes cs env after left place args t o h1 h2) d
    offences_one _ _ _ _ (in_size env left x place term args o h0 h1) i0 p f d =
        two (off_viewed ds i0 left x p place (node.SizeofType term) args h0 d) (λ t. term_one _ _ _ h1 i0 p f t) (λ y. absurd (offence_no_term cs ds r e bc b _ _ _ h1 i0 y.after y.of y.star f y.says))
    offences_one _ _ _ _ (in_cast env left x place term args o h0 h1) i0 p f d =
        two (off_viewed ds i0 left x p place (node.Cast term) args h0 d) (λ t. term_one _ _ _ h1 i0 p f t)
        (λ z. two z (λ y. absurd (offence_no_term cs ds r e bc b _ _ _ h1 i0 y.middle y.of y.star f y.says)) (λ y. absurd (offence_no_term cs ds r e bc b _ _ _ h1 i0 y.middle y.of y.star f y.says)))
    offences_one _ _ _ _ (in_vector env left x place term args o h0 h1) i0 p f d =
        two (off_viewed ds i0 left x p place (node.Vector term) args h0 d) (λ t. term_one _ _ _ h1 i0 p f t)
        (λ z. two z (λ y. absurd (offence_no_term cs ds r e bc b _ _ _ h1 i0 y.middle y.of y.star f y.says)) (λ y. absurd (offence_no_term cs ds r e bc b _ _ _ h1 i0 y.middle y.of y.star f y.says)))
    offences_one _ _ _ _ (no_size_of_type env after left x place term args q star code h0 h1 h2) i0 p f d =
        two (off_viewed ds i0 left x p place (node.SizeofType term) args h0 d) (λ t. absurd (term_no_offence cs ds r e bc b _ _ _ t env after q star f h1))
        (λ y.
        let a = is_term_same cs ds r e bc b _ _ _ _ _ h1 i0 y.after y.of y.star f y.says in
        y.is ∙ ap (λ c. at c place) (codes_one (size_tests q star) (size_tests y.of y.star) code y.code ((λ i. size_tests (a.1 i) (a.2 i)) ∙ size_tests_as r q star) h2 y.broken))
    offences_one _ _ _ _ (in_cast_operands env middle left x place term args q star o h0 h1 h2) i0 p f d =
        two (off_viewed ds i0 left x p place (node.Cast term) args h0 d) (λ t. absurd (term_no_offence cs ds r e bc b _ _ _ t env middle q star f h1))
        (λ z.
        two z (λ y. operands_one _ _ _ _ h2 y.middle p (is_term_same cs ds r e bc b _ _ _ _ _ h1 i0 y.middle y.of y.star f y.says).0 y.offends)
        (λ y. absurd (offence_no_operands cs ds r e bc b _ _ _ _ h2 y.middle y.after y.trees y.operands (is_term_same cs ds r e bc b _ _ _ _ _ h1 i0 y.middle y.of y.star f y.says).0 y.typed)))
    offences_one _ _ _ _ (in_vector_operands env middle left x place term args q star o h0 h1 h2) i0 p f d =
        two (off_viewed ds i0 left x p place (node.Vector term) args h0 d) (λ t. absurd (term_no_offence cs ds r e bc b _ _ _ t env middle q star f h1))
        (λ z.
        two z (λ y. operands_one _ _ _ _ h2 y.middle p (is_term_same cs ds r e bc b _ _ _ _ _ h1 i0 y.middle y.of y.star f y.says).0 y.offends)
        (λ y. absurd (offence_no_operands cs ds r e bc b _ _ _ _ h2 y.middle y.after y.trees y.operands (is_term_same cs ds r e bc b _ _ _ _ _ h1 i0 y.middle y.of y.star f y.says).0 y.typed)))
    offences_one _ _ _ _ (no_cast env middle after left x place term args q star ts os code h0 h1 h2 h3) i0 p f d =
        two (off_viewed ds i0 left x p place (node.Cast term) args h0 d) (λ t. absurd (term_no_offence cs ds r e bc b _ _ _ t env middle q star f h1))
        (λ z.
        two z (λ y. absurd (operands_no_offence cs ds r e bc b _ _ _ _ y.offends middle after ts os (is_term_same cs ds r e bc b _ _ _ _ _ h1 i0 y.middle y.of y.star f y.says).0 h2))
        (λ y.
        let a = is_term_same cs ds r e bc b _ _ _ _ _ h1 i0 y.middle y.of y.star f y.says in
        let s = are_typed_same cs ds r e bc b _ _ _ _ _ _ h2 y.middle y.after y.trees y.operands a.0 y.typed in
        y.is ∙ ap (λ c. at c place) (broken_same y.code code (sym y.judged ∙ (λ i. cast_rule (a.1 i) (a.2 i) (s.1 i)) ∙ cast_rule_as r e.differ q star os ∙ ap (judged_as r) h3))))
    offences_one _ _ _ _ (no_vector env middle after left x place term args q star ts os code h0 h1 h2 h3) i0 p f d =
        two (off_viewed ds i0 left x p place (node.Vector term) args h0 d) (λ t. absurd (term_no_offence cs ds r e bc b _ _ _ t env middle q star f h1))
        (λ z.
        two z (λ y. absurd (operands_no_offence cs ds r e bc b _ _ _ _ y.offends middle after ts os (is_term_same cs ds r e bc b _ _ _ _ _ h1 i0 y.middle y.of y.star f y.says).0 h2))
        (λ y.
        let a = is_term_same cs ds r e bc b _ _ _ _ _ h1 i0 y.middle y.of y.star f y.says in
        let s = are_typed_same cs ds r e bc b _ _ _ _ _ _ h2 y.middle y.after y.trees y.operands a.0 y.typed in
        y.is ∙ ap (λ c. at c place) (broken_same y.code code (sym y.judged ∙ (λ i. literal (a.1 i) (a.2 i) (s.1 i)) ∙ literal_as r q star os ∙ ap (judged_as r) h3))))
    offences_one _ _ _ _ (flag_out env after left x place s text args ts os h0 h1 h2 h3) i0 p f d =
        behind_one env i0 left x place (node.Call text) args (at 334 s) p f h0 tt
        (called_comes cs env after left place args ts os text None (Some (at 334 s)) h1 h2 (sym (ap (λ z. call_verdict place z (lookup entries text) None) h3)) (λ entry g k. absurd (none_some (sym (sym h3 ∙ g))))) d
    offences_one _ _ _ _ (no_function env after left x place text args ts os h0 h1 h2 h3) i0 p f d =
        behind_one env i0 left x place (node.Call text) args (at 301 place) p f h0 tt
        (called_comes cs env after left place args ts os text None (Some (at 301 place)) h1 h2 (sym (λ i. call_verdict place (no_fence_divides cs text ts h3 i) (h3 i) None)) (λ entry g k. absurd (none_some (sym h3 ∙ k)))) d
    offences_one _ _ _ _ (no_form env after left x place text args ts os tys h0 h1 h2 h3 h4 h5) i0 p f d =
        behind_one env i0 left x place (node.Call text) args (at 329 place) p f h0 tt
        (called_comes cs env after left place args ts os text None (Some (at 329 place)) h1 h2 (sym (λ i. call_verdict place (h3 i) (h5.named i) None)) (λ entry g k. record { types = tys; arguments = h4; fits = h5 })) d
    offences_one _ _ _ _ (no_flag env after left x place text args ts os tys found h0 h1 h2 h3 h4 h5 h6) i0 p f d =
        behind_one env i0 left x place (node.Call text) args (at 330 place) p f h0 tt
        (called_comes cs env after left place args ts os text (Some false) (Some (at 330 place)) h1 h2 (sym (λ i. call_verdict place (h3 i) (h5.named i) (Some false))) (λ entry g k. record { types = tys; arguments = h4; fits = (found, h5, sym h6) })) d

    pub operands_one : (j0 : Env) (j1 : Bool) (j2 : List Expr) (j3 : Offence) → SomeOffends cs j0 j1 j2 j3 → (i0 : Env) (p : Offence) → i0 ≡ env_as r j0 → SomeOffends ds i0 j1 j2 p → p ≡ j3
    operands_one _ _ _ _ (in_first env left x es o h0) _ _ f (in_first env1 left1 x1 es1 o1 k0) = offences_one _ _ _ _ h0 env1 o1 f k0
    operands_one _ _ _ _ (in_first env left x es o h0) _ _ f (in_rest env1 middle1 left1 x1 es1 t1 p1 o1 k0 k1) = absurd (offence_no_type cs ds r e bc b _ _ _ _ h0 env1 middle1 t1 p1 f k0)
    operands_one _ _ _ _ (in_rest env middle left x es t p o h0 h1) _ _ f (in_first env1 left1 x1 es1 o1 k0) = absurd (typed_no_offence cs ds r e bc b _ _ _ _ k0 env middle t p f h0)
    operands_one _ _ _ _ (in_rest env middle left x es t p o h0 h1) _ _ f (in_rest env1 middle1 left1 x1 es1 t1 p1 o1 k0 k1) =
        operands_one _ _ _ _ h1 middle1 o1 (types_same cs ds r e bc b _ _ _ _ _ _ h0 env1 middle1 t1 p1 f k0).0 k1

    pub term_one : (j0 : Env) (j1 : TypeTerm) (j2 : Offence) → TermOffends cs j0 j1 j2 → (i0 : Env) (p : Offence) → i0 ≡ env_as r j0 → TermOffends ds i0 j1 p → p ≡ j2
    term_one _ _ _ (in_type_words env term s star o h0 h1) _ _ f (in_type_words env1 term1 s1 star1 o1 k0 k1) =
        let g : s1 ≡ s = sym k0.is ∙ h0.is in
        words_one _ _ _ h1 env1 o1 f (subst (λ z. WordsOffend ds env1 z o1) g k1)

    pub words_one : (j0 : Env) (j1 : Spec) (j2 : Offence) → WordsOffend cs j0 j1 j2 → (i0 : Env) (p : Offence) → i0 ≡ env_as r j0 → WordsOffend ds i0 j1 p → p ≡ j2
    words_one _ _ _ (in_base env s quals w o h0 h1) _ _ f (in_base env1 s1 quals1 w1 o1 k0 k1) =
        let g : w1 ≡ w = sym k0.is ∙ h0.is in
        base_one _ _ _ h1 env1 o1 f (subst (λ z. BaseOffends ds env1 z o1) g k1)

    pub base_one : (j0 : Env) (j1 : Base) (j2 : Offence) → BaseOffends cs j0 j1 j2 → (i0 : Env) (p : Offence) → i0 ≡ env_as r j0 → BaseOffends ds i0 j1 p → p ≡ j2
    base_one _ _ _ (no_type env text place h0) i0 p f d = named_off ds i0 text place p (base_off ds i0 (base.Named text place) p d)
    base_one _ _ _ (no_struct env w text place h0 h1) i0 p f d = tag_off ds i0 w text place p h0 (base_off ds i0 w p d)
    base_one _ _ _ (in_members env w text place fields void o h0 h1 h2) i0 p f d =
        two (struct_off ds i0 w text place fields p h0 (base_off ds i0 w p d))
        (λ y.
        let g : y.text ≡ text = text_same text y.text place y.place h0.declared y.struct.declared (sym y.struct.is ∙ h0.is) in
        let v : y.void ≡ type_id r void = wanted_one cs ds r e b (want.Of shape.Void) void y.void refl h1 y.wanted in
        members_one _ _ _ _ h2 (tagged y.text y.void false i0) [] p (tagged_same cs ds r e bc b text y.text void y.void false env i0 g v f) refl
        (subst (λ z. SomeMemberOffends ds (tagged y.text y.void false i0) [] z p) (fields_of w text y.text place y.place fields y.fields h0 y.struct) y.offends))
        (λ y.
        let g : y.text ≡ text = text_same text y.text place y.place h0.declared y.struct.declared (sym y.struct.is ∙ h0.is) in
        let v : y.void ≡ type_id r void = wanted_one cs ds r e b (want.Of shape.Void) void y.void refl h1 y.wanted in
        absurd (offence_no_members cs ds r e bc b _ _ _ _ h2 (tagged y.text y.void false i0) [] y.after y.members (tagged_same cs ds r e bc b text y.text void y.void false env i0 g v f) refl
        (subst (λ z. AreMembers ds (tagged y.text y.void false i0) [] z y.after y.members) (fields_of w text y.text place y.place fields y.fields h0 y.struct) y.all)))
    base_one _ _ _ (broken_struct env after w text place fields members void code h0 h1 h2 h3) i0 p f d =
        two (struct_off ds i0 w text place fields p h0 (base_off ds i0 w p d))
        (λ y.
        let g : y.text ≡ text = text_same text y.text place y.place h0.declared y.struct.declared (sym y.struct.is ∙ h0.is) in
        let v : y.void ≡ type_id r void = wanted_one cs ds r e b (want.Of shape.Void) void y.void refl h1 y.wanted in
        absurd (members_no_offence cs ds r e bc b _ _ _ _ y.offends (tagged text void false env) [] after members (tagged_same cs ds r e bc b text y.text void y.void false env i0 g v f) refl
        (subst (λ z. AreMembers cs (tagged text void false env) [] z after members) (sym (fields_of w text y.text place y.place fields y.fields h0 y.struct)) h2)))
        (λ y.
        let g : y.text ≡ text = text_same text y.text place y.place h0.declared y.struct.declared (sym y.struct.is ∙ h0.is) in
        let v : y.void ≡ type_id r void = wanted_one cs ds r e b (want.Of shape.Void) void y.void refl h1 y.wanted in
        let a =
        are_members_same cs ds r e bc b _ _ _ _ _ h2 (tagged y.text y.void false i0) [] y.after y.members (tagged_same cs ds r e bc b text y.text void y.void false env i0 g v f) refl
        (subst (λ z. AreMembers ds (tagged y.text y.void false i0) [] z y.after y.members) (fields_of w text y.text place y.place fields y.fields h0 y.struct) y.all) in
        let c = codes_one (struct_tests cs members (is_tag_again env text)) (struct_tests ds y.members (is_tag_again i0 y.text)) code y.code (struct_tests_there cs ds r e bc b env i0 text y.text members y.members g f a.1) h3 y.broken in
        let l = place_same text y.text place y.place h0.declared y.struct.declared (sym y.struct.is ∙ h0.is) in
        y.is ∙ (λ i. at (c i) (l i)))

    pub members_one : (j0 : Env) (j1 : List Member) (j2 : List Field) (j3 : Offence) → SomeMemberOffends cs j0 j1 j2 j3 → (i0 : Env) (i1 : List Member) (p : Offence) → i0 ≡ env_as r j0 → i1 ≡ map (member r) j1 → SomeMemberOffends ds i0 i1 j2 p → p ≡ j3
    members_one _ _ _ _ (in_field_words env before x fs s names o h0 h1) _ _ _ f g (in_field_words env1 before1 x1 fs1 s1 names1 o1 k0 k1) =
        words_one _ _ _ h1 env1 o1 f (subst (λ z. WordsOffend ds env1 z o1) (sym k0.is ∙ h0.is) k1)
    members_one _ _ _ _ (in_field_words env before x fs s names o h0 h1) _ _ _ f g (in_field_names env1 typed1 before1 x1 fs1 s1 names1 q1 o1 k0 k1 k2) =
        absurd (offence_no_words cs ds r e bc b _ _ _ h1 env1 typed1 q1 f (subst (λ z. IsSpecified ds env1 z typed1 q1) (sym k0.is ∙ h0.is) k1))
    members_one _ _ _ _ (in_field_words env before x fs s names o h0 h1) _ _ _ f g (in_other_fields env1 typed1 middle1 before1 between1 x1 fs1 s1 names1 q1 o1 k0 k1 k2 k3) =
        absurd (offence_no_words cs ds r e bc b _ _ _ h1 env1 typed1 q1 f (subst (λ z. IsSpecified ds env1 z typed1 q1) (sym k0.is ∙ h0.is) k1))
    members_one _ _ _ _ (in_field_names env typed before x fs s names q o h0 h1 h2) _ _ _ f g (in_field_words env1 before1 x1 fs1 s1 names1 o1 k0 k1) =
        absurd (words_no_offence cs ds r e bc b _ _ _ (subst (λ z. WordsOffend ds env1 z o1) (sym k0.is ∙ h0.is) k1) env typed q f h1)
    members_one _ _ _ _ (in_field_names env typed before x fs s names q o h0 h1 h2) _ _ _ f g (in_field_names env1 typed1 before1 x1 fs1 s1 names1 q1 o1 k0 k1 k2) =
        let a = is_specified_same cs ds r e bc b _ _ _ _ h1 env1 typed1 q1 f (subst (λ z. IsSpecified ds env1 z typed1 q1) (sym k0.is ∙ h0.is) k1) in
        names_one _ _ _ _ _ h2 typed1 q1 before1 o1 a.0 a.1 g (subst (λ z. SomeNameOffends ds typed1 q1 before1 z o1) (sym k0.has ∙ h0.has) k2)
    members_one _ _ _ _ (in_field_names env typed before x fs s names q o h0 h1 h2) _ _ _ f g (in_other_fields env1 typed1 middle1 before1 between1 x1 fs1 s1 names1 q1 o1 k0 k1 k2 k3) =
        let a = is_specified_same cs ds r e bc b _ _ _ _ h1 env1 typed1 q1 f (subst (λ z. IsSpecified ds env1 z typed1 q1) (sym k0.is ∙ h0.is) k1) in
        absurd (offence_no_names cs ds r e bc b _ _ _ _ _ h2 typed1 q1 before1 middle1 between1 a.0 a.1 g (subst (λ z. AreNamed ds typed1 q1 before1 z middle1 between1) (sym k0.has ∙ h0.has) k2))
    members_one _ _ _ _ (in_other_fields env typed middle before between x fs s names q o h0 h1 h2 h3) _ _ _ f g (in_field_words env1 before1 x1 fs1 s1 names1 o1 k0 k1) =
        absurd (words_no_offence cs ds r e bc b _ _ _ (subst (λ z. WordsOffend ds env1 z o1) (sym k0.is ∙ h0.is) k1) env typed q f h1)
    members_one _ _ _ _ (in_other_fields env typed middle before between x fs s names q o h0 h1 h2 h3) _ _ _ f g (in_field_names env1 typed1 before1 x1 fs1 s1 names1 q1 o1 k0 k1 k2) =
        let a = is_specified_same cs ds r e bc b _ _ _ _ h1 env1 typed1 q1 f (subst (λ z. IsSpecified ds env1 z typed1 q1) (sym k0.is ∙ h0.is) k1) in
        absurd (names_no_offence cs ds r e bc b _ _ _ _ _ (subst (λ z. SomeNameOffends ds typed1 q1 before1 z o1) (sym k0.has ∙ h0.has) k2) typed q before middle between a.0 a.1 g h2)
    members_one _ _ _ _ (in_other_fields env typed middle before between x fs s names q o h0 h1 h2 h3) _ _ _ f g (in_other_fields env1 typed1 middle1 before1 between1 x1 fs1 s1 names1 q1 o1 k0 k1 k2 k3) =
        let a = is_specified_same cs ds r e bc b _ _ _ _ h1 env1 typed1 q1 f (subst (λ z. IsSpecified ds env1 z typed1 q1) (sym k0.is ∙ h0.is) k1) in
        let c = are_named_same cs ds r e bc b _ _ _ _ _ _ h2 typed1 q1 before1 middle1 between1 a.0 a.1 g (subst (λ z. AreNamed ds typed1 q1 before1 z middle1 between1) (sym k0.has ∙ h0.has) k2) in
        members_one _ _ _ _ h3 middle1 between1 o1 c.0 c.1 k3

    pub names_one : (j0 : Env) (j1 : Qualified) (j2 : List Member) (j3 : List Declor) (j4 : Offence) → SomeNameOffends cs j0 j1 j2 j3 j4 → (i0 : Env) (i1 : Qualified) (i2 : List Member) (p : Offence) → i0 ≡ env_as r j0 → i1 ≡ qualified_as r j1 → i2 ≡ map (member r) j2 → SomeNameOffends ds i0 i1 i2 j3 p → p ≡ j4
    names_one _ _ _ _ _ (in_lengths env q before x xs star text place es o h0 h1) _ _ _ _ f p g (in_lengths env1 q1 before1 x1 xs1 star1 text1 place1 es1 o1 k0 k1) =
        lengths_one _ _ _ _ h1 env1 o1 f (subst (λ z. LengthOffends ds env1 false z o1) (sym k0.has ∙ h0.has) k1)
    names_one _ _ _ _ _ (in_lengths env q before x xs star text place es o h0 h1) _ _ _ _ f p g (broken_member env1 after1 q1 before1 x1 xs1 star1 text1 place1 es1 ls1 code1 k0 k1 k2) =
        absurd (offence_no_lengths cs ds r e bc b _ _ _ _ h1 env1 after1 ls1 f (subst (λ z. AreLengths ds env1 false z after1 ls1) (sym k0.has ∙ h0.has) k1))
    names_one _ _ _ _ _ (in_lengths env q before x xs star text place es o h0 h1) _ _ _ _ f p g (in_other_names env1 middle1 q1 before1 x1 xs1 star1 text1 place1 es1 ls1 t1 o1 k0 k1 k2 k3 k4) =
        absurd (offence_no_lengths cs ds r e bc b _ _ _ _ h1 env1 middle1 ls1 f (subst (λ z. AreLengths ds env1 false z middle1 ls1) (sym k0.has ∙ h0.has) k1))
    names_one _ _ _ _ _ (broken_member env after q before x xs star text place es ls code h0 h1 h2) _ _ _ _ f p g (in_lengths env1 q1 before1 x1 xs1 star1 text1 place1 es1 o1 k0 k1) =
        absurd (lengths_no_offence cs ds r e bc b _ _ _ _ (subst (λ z. LengthOffends ds env1 false z o1) (sym k0.has ∙ h0.has) k1) env after ls f h1)
    names_one _ _ _ _ _ (broken_member env after q before x xs star text place es ls code h0 h1 h2) _ _ _ _ f p g (broken_member env1 after1 q1 before1 x1 xs1 star1 text1 place1 es1 ls1 code1 k0 k1 k2) =
        let a = are_lengths_same cs ds r e bc b _ _ _ _ _ h1 env1 after1 ls1 f (subst (λ z. AreLengths ds env1 false z after1 ls1) (sym k0.has ∙ h0.has) k1) in
        let m = member_tests_there cs ds r e bc b q q1 star star1 ls ls1 text text1 before before1 p (sym k0.behind ∙ h0.behind) a.1 (sym k0.is ∙ h0.is) g in
        let c = codes_one (member_tests cs (sketch q star ls) (has_member text before)) (member_tests ds (sketch q1 star1 ls1) (has_member text1 before1)) code code1 m h2 k2 in
        let l : place1 ≡ place = sym k0.at ∙ h0.at in
        λ i. at (c i) (l i)
    names_one _ _ _ _ _ (broken_member env after q before x xs star text place es ls code h0 h1 h2) _ _ _ _ f p g (in_other_names env1 middle1 q1 before1 x1 xs1 star1 text1 place1 es1 ls1 t1 o1 k0 k1 k2 k3 k4) =
        let a = are_lengths_same cs ds r e bc b _ _ _ _ _ h1 env1 middle1 ls1 f (subst (λ z. AreLengths ds env1 false z middle1 ls1) (sym k0.has ∙ h0.has) k1) in
        let m = member_tests_there cs ds r e bc b q q1 star star1 ls ls1 text text1 before before1 p (sym k0.behind ∙ h0.behind) a.1 (sym k0.is ∙ h0.is) g in
        absurd (none_some (sym k2 ∙ ap first_broken m ∙ h2))
    names_one _ _ _ _ _ (in_other_names env middle q before x xs star text place es ls t o h0 h1 h2 h3 h4) _ _ _ _ f p g (in_lengths env1 q1 before1 x1 xs1 star1 text1 place1 es1 o1 k0 k1) =
        absurd (lengths_no_offence cs ds r e bc b _ _ _ _ (subst (λ z. LengthOffends ds env1 false z o1) (sym k0.has ∙ h0.has) k1) env middle ls f h1)
    names_one _ _ _ _ _ (in_other_names env middle q before x xs star text place es ls t o h0 h1 h2 h3 h4) _ _ _ _ f p g (broken_member env1 after1 q1 before1 x1 xs1 star1 text1 place1 es1 ls1 code1 k0 k1 k2) =
        let a = are_lengths_same cs ds r e bc b _ _ _ _ _ h1 env1 after1 ls1 f (subst (λ z. AreLengths ds env1 false z after1 ls1) (sym k0.has ∙ h0.has) k1) in
        let m = member_tests_there cs ds r e bc b q q1 star star1 ls ls1 text text1 before before1 p (sym k0.behind ∙ h0.behind) a.1 (sym k0.is ∙ h0.is) g in
        absurd (none_some (sym h2 ∙ ap first_broken (sym m) ∙ k2))
    names_one _ _ _ _ _ (in_other_names env middle q before x xs star text place es ls t o h0 h1 h2 h3 h4) _ _ _ _ f p g (in_other_names env1 middle1 q1 before1 x1 xs1 star1 text1 place1 es1 ls1 t1 o1 k0 k1 k2 k3 k4) =
        let u : star1 ≡ star = sym k0.behind ∙ h0.behind in
        let v : text1 ≡ text = sym k0.is ∙ h0.is in
        let a = are_lengths_same cs ds r e bc b _ _ _ _ _ h1 env1 middle1 ls1 f (subst (λ z. AreLengths ds env1 false z middle1 ls1) (sym k0.has ∙ h0.has) k1) in
        let k : sketch q1 star1 ls1 ≡ sketch_as r (sketch q star ls) = (λ i. sketch (p i) (u i) (a.1 i)) ∙ sketch_of_as r q star ls in
        let l : t1 ≡ type_id r t = declared_one cs ds r e b (sketch q star ls) 1 t t1 (sketch_one cs ds r e bc b q star ls) h3 (subst (λ z. IsDeclaredAs ds z 1 t1) k k3) in
        let n : before1 ++ record { name = text1; ty = t1 } ∷ [] ≡ map (member r) (before ++ record { name = text; ty = t } ∷ []) =
        (λ i. g i ++ record { name = v i; ty = l i } ∷ []) ∙ sym (map-append (member r) before (record { name = text; ty = t } ∷ [])) in
        names_one _ _ _ _ _ h4 middle1 q1 (before1 ++ record { name = text1; ty = t1 } ∷ []) o1 a.0 p n k4

    pub lengths_one : (j0 : Env) (j1 : Bool) (j2 : List (Option Expr)) (j3 : Offence) → LengthOffends cs j0 j1 j2 j3 → (i0 : Env) (p : Offence) → i0 ≡ env_as r j0 → LengthOffends ds i0 j1 j2 p → p ≡ j3
    lengths_one _ _ _ _ (in_length env may_miss x es o h0) _ _ f (in_length env1 may1 x1 es1 o1 k0) = offences_one _ _ _ _ h0 env1 o1 f k0
    lengths_one _ _ _ _ (in_length env may_miss x es o h0) _ _ f (length_divides env1 after1 may1 x1 es1 t1 o1 p1 k0 k1) = absurd (offence_no_type cs ds r e bc b _ _ _ _ h0 env1 after1 t1 o1 f k0)
    lengths_one _ _ _ _ (in_length env may_miss x es o h0) _ _ f (behind_given env1 middle1 may1 x1 es1 t1 p1 o1 k0 k1 k2) = absurd (offence_no_type cs ds r e bc b _ _ _ _ h0 env1 middle1 t1 p1 f k0)
    lengths_one _ _ _ _ (length_divides env after may_miss x es t o p h0 h1) _ _ f (in_length env1 may1 x1 es1 o1 k0) = absurd (typed_no_offence cs ds r e bc b _ _ _ _ k0 env after t o f h0)
    lengths_one _ _ _ _ (length_divides env after may_miss x es t o p h0 h1) _ _ f (length_divides env1 after1 may1 x1 es1 t1 o1 p1 k0 k1) =
        let a = types_same cs ds r e bc b _ _ _ _ _ _ h0 env1 after1 t1 o1 f k0 in
        ap (at 334) (some_same p1 p (sym k1 ∙ ap divides (constancy_as cs ds r e t t1 a.2) ∙ h1))
    lengths_one _ _ _ _ (length_divides env after may_miss x es t o p h0 h1) _ _ f (behind_given env1 middle1 may1 x1 es1 t1 p1 o1 k0 k1 k2) =
        let a = types_same cs ds r e bc b _ _ _ _ _ _ h0 env1 middle1 t1 p1 f k0 in
        absurd (none_some (sym k1 ∙ ap divides (constancy_as cs ds r e t t1 a.2) ∙ h1))
    lengths_one _ _ _ _ (behind_missing env may_miss es o h0) _ _ f (behind_missing env1 may1 es1 o1 k0) = lengths_one _ _ _ _ h0 env1 o1 f k0
    lengths_one _ _ _ _ (behind_given env middle may_miss x es t p o h0 h1 h2) _ _ f (in_length env1 may1 x1 es1 o1 k0) = absurd (typed_no_offence cs ds r e bc b _ _ _ _ k0 env middle t p f h0)
    lengths_one _ _ _ _ (behind_given env middle may_miss x es t p o h0 h1 h2) _ _ f (length_divides env1 after1 may1 x1 es1 t1 o1 p1 k0 k1) =
        let a = types_same cs ds r e bc b _ _ _ _ _ _ h0 env1 after1 t1 o1 f k0 in
        absurd (none_some (sym h1 ∙ ap divides (sym (constancy_as cs ds r e t t1 a.2)) ∙ k1))
    lengths_one _ _ _ _ (behind_given env middle may_miss x es t p o h0 h1 h2) _ _ f (behind_given env1 middle1 may1 x1 es1 t1 p1 o1 k0 k1 k2) =
        lengths_one _ _ _ _ h2 middle1 o1 (types_same cs ds r e bc b _ _ _ _ _ _ h0 env1 middle1 t1 p1 f k0).0 k2
