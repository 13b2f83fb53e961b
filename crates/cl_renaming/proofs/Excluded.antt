-- An expression that is typed in one table has no offence in another, wherever its declarations are one but for the numbers of types.
use Rattle.std.proofs.Common.{◌≡◌, ℕ, List, [], ◌∷◌, ◌++◌, map, refl, sym, ap, ◌∙◌, subst, arith, Bool, true, false, true≢false, not, ◌&&◌, ◌||◌, if◌then◌else◌, ◌⊎◌, inl, inr, Option, Some, None}
use Rattle.std.specs.Prelude.{is_some}
use Rattle.std.specs.Cmp.{first_so, second_so}
use Rattle.std.specs.Option.{option_map}
use Rattle.std.proofs.lemmas.List.{map-append}
use Rattle.clv_place.specs.declared.place.Place.{Place}
use Rattle.clv_place.specs.declared.stop.Offence.{Offence}
use Rattle.cl_types.specs.declared.types.ClType.{ClType}
use Rattle.cl_types.specs.declared.types.Member.{Member}
use Rattle.cl_types.specs.declared.operator.UnOp.TheVariants as un
use Rattle.cl_types.specs.Table.{AreBuilt}
use Rattle.cl_builtins.specs.Names.{Entry, lookup, entries}
use Rattle.cl_ast.specs.declared.expression.Base.{Base}
use Rattle.cl_ast.specs.declared.expression.Base.TheVariants as base
use Rattle.cl_ast.specs.declared.expression.Declor.{Declor}
use Rattle.cl_ast.specs.declared.expression.Expr.{Expr}
use Rattle.cl_ast.specs.declared.expression.ExprNode.{ExprNode}
use Rattle.cl_ast.specs.declared.expression.ExprNode.TheVariants as node
use Rattle.cl_ast.specs.declared.expression.Field.{Field}
use Rattle.cl_ast.specs.declared.expression.Qual.{Qual}
use Rattle.cl_ast.specs.declared.expression.Spec.{Spec}
use Rattle.cl_ast.specs.declared.expression.TypeTerm.{TypeTerm}
use Rattle.cl_tree.specs.declared.shape.Shape.{Shape}
use Rattle.cl_tree.specs.declared.shape.Shape.TheVariants as shape
use Rattle.cl_tree.specs.declared.expression.TExpr.{TExpr}
use Rattle.cl_tree.specs.declared.constant.Constancy.{Constancy}
use Rattle.cl_tree.specs.declared.constant.Constancy.TheVariants.{Varies, Divides, Is}
use Rattle.cl_tree.specs.Constants.{divides, constancy_of, number_in, number_of, known_of}
use Rattle.cl_tree.specs.Shapes.{shape_of, is_vector}
use Rattle.cl_rules.specs.declared.rule.Judged.{Judged}
use Rattle.cl_rules.specs.declared.rule.Judged.TheVariants.{Broken, Makes}
use Rattle.cl_rules.specs.declared.rule.Made.{Made}
use Rattle.cl_rules.specs.declared.rule.Operand.{Operand}
use Rattle.cl_rules.specs.declared.rule.Qualified.{Qualified}
use Rattle.cl_rules.specs.declared.rule.Want.TheVariants as want
use Rattle.cl_rules.specs.Calls.{cast_rule, literal, no_size, size_tests}
use Rattle.cl_rules.specs.Operands.{first_broken, type_of}
use Rattle.cl_scope.specs.declared.scope.Declared.{Declared}
use Rattle.cl_scope.specs.Names.{Env, find}
use Rattle.cl_words.specs.declared.naming.Length.{Length}
use Rattle.cl_words.specs.Words.{has_member, sketch, member_tests, struct_tests}
use Rattle.cl_make.proofs.Growing.{none_some, some_same}
use Rattle.cl_make.specs.Wanted.{IsDeclaredAs}
use Rattle.cl_type_expr.specs.Expressions.{first_left, is_step, tagged, is_tag_again, tag_of, is_value, is_type_name, is_typedef, is_complete, component_in, component_of, is_fence, is_flag, are_flags, flags_fit, or_later, first_divides, flag_divides, Types, AreTyped, IsTermOf, IsSpecified, IsBase, AreMembers, AreNamed, AreLengths, given, in_brackets, missing, more_fields, more_names, more_operands, words}
use Rattle.cl_type_expr.specs.Judging.{judge}
use Rattle.cl_type_expr.specs.Offences.{at, HoldsNoType, Offends, SomeOffends, TermOffends, WordsOffend, BaseOffends, SomeMemberOffends, SomeNameOffends, LengthOffends, unknown, in_operands, operation as broken_rule, no_pointer, no_member, index_divides, no_component, no_size_of_value, in_size, in_cast, in_vector, no_size_of_type, in_cast_operands, in_vector_operands, no_cast, no_vector, flag_out, no_function, no_form, no_flag, in_first, in_rest, in_type_words, in_base, no_type, no_struct, in_members, broken_struct, in_field_words, in_field_names, in_other_fields, in_lengths, broken_member, in_other_names, in_length, length_divides, behind_missing, behind_given}
use Rattle.cl_type_expr.specs.Syntax.{items_of, IsExpr, IsStruct}
use Rattle.cl_renaming.specs.Renaming.{type_id, member, judged_as, qualified_as, sketch_as, declared_as, env_as, IsRenaming, AreTypes}
use Rattle.cl_renaming.proofs.Calls.{cast_rule_as, literal_as, size_tests_as}
use Rattle.cl_renaming.proofs.Scopes.{find_as, is_tagged_as}
use Rattle.cl_renaming.proofs.Wants.{wanted_one, declared_one}
use Rattle.cl_renaming.proofs.Words.{sketch_of_as, has_member_as, member_tests_as, struct_tests_as}
use Rattle.cl_renaming.proofs.Values.{constancy_as}
use Rattle.cl_renaming.proofs.Agreement.{types_same, are_typed_same, is_term_same, is_specified_same, are_members_same, are_named_same, are_lengths_same, tag_of_as, tagged_same, sketch_one}
use Rattle.cl_renaming.proofs.Views.{Other, TypeSizeIs, CastIs, LiteralIs, TagIs, StructIs, By, viewed, ByWords, words_viewed, base_kind, word_kind, named_kind, tag_kind, struct_kind, text_same, fields_same}
use Rattle.cl_renaming.proofs.Comes.{Fitting, judged_verdict, value_verdict, size_verdict, index_verdict, call_verdict, LeadsTo, NoPointer, Comes, no_fence, comes_same}

pub some_none : {A B : Type 0} {x : A} → Some x ≡ None → B
some_none e = absurd (none_some (sym e))

-- ---- nodes that hold no type

abbrev pub TermFree : ExprNode → Type 0
TermFree (node.SizeofType' quals said star) = ⊥
TermFree (node.Cast' quals said star) = ⊥
TermFree (node.Vector' quals said star) = ⊥
TermFree _ = Unit {0}

pub holds_free : (n : ExprNode) → HoldsNoType n → TermFree n
holds_free (node.SizeofType' quals said star) h = h.no_size (record { spec = record { quals = quals; base = said }; star = star }) refl
holds_free (node.Cast' quals said star) h = h.no_cast (record { spec = record { quals = quals; base = said }; star = star }) refl
holds_free (node.Vector' quals said star) h = h.no_vector (record { spec = record { quals = quals; base = said }; star = star }) refl
holds_free _ h = tt

pub judged_free : (cs : List ClType) (env : Env) (left : Bool) (n : ExprNode) (os : List Operand) (j : Judged) → judge cs env left n os ≡ Some j → TermFree n
judged_free cs env left (node.SizeofType' quals said star) os j e = none_some e
judged_free cs env left (node.Cast' quals said star) os j e = none_some e
judged_free cs env left (node.Vector' quals said star) os j e = none_some e
judged_free cs env left _ os j e = tt

-- what such a node comes to behind its typed operands
pub record Behind (cs : List ClType) (env : Env) (left : Bool) (place : Place) (n : ExprNode) (args : List Expr) (v : Option Offence) : Type 0 where
  pub after : Env
  pub trees : List TExpr
  pub operands : List Operand
  pub typed : AreTyped cs env (first_left left n) args after trees operands
  pub comes : Comes cs after left place n trees operands v

flag_off : (left : Bool) → (left && not true) ≡ false
flag_off true = refl
flag_off false = refl

number_whole : (s : Shape) (c : Constancy) (k : ℕ) → number_in s c ≡ Some k → divides c ≡ None
number_whole s Varies k e = refl
number_whole s (Divides p) k e = absurd (none_some e)
number_whole s (Is ns) k e = refl

component_whole : (n : ℕ) (o : Option ℕ) (k : ℕ) → component_in n o ≡ Some k → (j : ℕ) × (o ≡ Some j)
component_whole n None k e = absurd (none_some e)
component_whole n (Some j) k e = (j, refl)

flag_whole : (cs : List ClType) (t : TExpr) → is_flag (number_of cs t) ≡ true → divides (constancy_of cs t) ≡ None
flag_whole cs t h = by (number_of cs t) refl h
  where
    by : (o : Option ℕ) → number_of cs t ≡ o → is_flag o ≡ true → divides (constancy_of cs t) ≡ None
    by None e f = absurd (true≢false (sym f))
    by (Some k) e f = number_whole (shape_of cs (known_of t cs).ty) (constancy_of cs t) k e

flags_whole : (cs : List ClType) (ts : List TExpr) → are_flags cs ts ≡ true → first_divides cs ts ≡ None
flags_whole cs [] h = refl
flags_whole cs (t ∷ ts) h =
    (λ i. or_later (flag_whole cs t (first_so (is_flag (number_of cs t)) (are_flags cs ts) h) i) (first_divides cs ts)) ∙ flags_whole cs ts (second_so (is_flag (number_of cs t)) (are_flags cs ts) h)

fitting_whole : (cs : List ClType) (text : List ℕ) (ts : List TExpr) → flags_fit cs text ts ≡ true → flag_divides cs text ts ≡ None
fitting_whole cs text ts h = by (is_fence text) h
  where
    by : (f : Bool) → (not f || are_flags cs ts) ≡ true → (if f then first_divides cs ts else None) ≡ None
    by true k = flags_whole cs ts k
    by false k = refl

module _ (cs : List ClType) (env : Env) (left : Bool) (after : Env) (t : TExpr) (o : Operand) (place : Place) (args : List Expr) where
  pub typed_comes : (n : ExprNode) → TermFree n → By cs env left after t o place n args → Behind cs env left place n args None
  typed_comes n free (inl y) = record { after = after; trees = y.trees; operands = y.operands; typed = y.typed; comes = inl (record { rule = Makes y.made; judged = y.judged; is = refl }) }
  typed_comes n free (inr y) = own_comes n free y
    where
      own_comes : (n : ExprNode) → TermFree n → Other cs env left after place args t o n → Behind cs env left place n args None
      own_comes (node.Name text) f x = record {
        after = after;
        trees = x.trees;
        operands = x.operands;
        typed = x.typed;
        comes = inr (sym (ap (λ z. value_verdict place (is_value z)) x.found ∙ ap (λ z. value_verdict place (is_some z)) x.heads));
      }
      own_comes (node.Number n k) f x = record { after = after; trees = x.trees; operands = x.operands; typed = x.typed; comes = inr refl }
      own_comes (node.Unary op) f z =
          let x = z.1 in
          record {
            after = after;
            trees = x.tree ∷ [];
            operands = x.operand ∷ [];
            typed = subst (λ w. AreTyped cs env (is_step w) args after (x.tree ∷ []) (x.operand ∷ [])) (sym z.0) x.typed;
            comes = inr (z.0, record { operand = x.operand; has = refl; is = sym (ap (size_verdict place) x.sized) });
          }
      own_comes node.Index f x =
          let k = component_whole (type_of x.operand.shape).count (number_of cs x.index) x.number x.which in
          let d = number_whole (shape_of cs (known_of x.index cs).ty) (constancy_of cs x.index) k.0 k.1 in
          record {
            after = after;
            trees = x.tree ∷ x.index ∷ [];
            operands = x.operand ∷ x.other ∷ [];
            typed = x.typed;
            comes =
                inr (record {
                  tree = x.tree;
                  index = x.index;
                  operand = x.operand;
                  other = x.other;
                  trees = refl;
                  has = refl;
                  vector = x.vector;
                  is = sym (λ i. index_verdict place (d i) (x.which i));
                });
          }
      own_comes (node.Member text pointed) f z =
          let x = z.1 in
          record {
            after = after;
            trees = x.tree ∷ [];
            operands = x.operand ∷ [];
            typed = subst (λ w. AreTyped cs env (left && not w) args after (x.tree ∷ []) (x.operand ∷ [])) (sym z.0) (subst (λ w. AreTyped cs env w args after (x.tree ∷ []) (x.operand ∷ [])) (sym (flag_off left)) x.typed);
            comes =
                inr (
                  z.0,
                  record {
                    tree = x.tree;
                    operand = x.operand;
                    trees = refl;
                    has = refl;
                    to = inr (record { pointed = x.pointed; whole = x.whole; of = x.of; points = x.points; leads = x.leads; is = sym (ap (judged_verdict place) x.judged) });
                  },
                );
          }
      own_comes (node.Call text) f x = record {
        after = after;
        trees = x.trees;
        operands = x.operands;
        typed = x.typed;
        comes =
            inr (record {
              fit = Some true;
              unjudged = x.judged;
              is = sym (λ i. call_verdict place (fitting_whole cs text x.trees x.flags i) (x.means.named i) (Some true));
              fitting = λ entry h k. record { types = x.types; arguments = x.arguments; fits = (x.found, x.means, sym x.flags) };
            });
      }
      own_comes (node.SizeofType' quals said star) f x = absurd f
      own_comes (node.Cast' quals said star) f x = absurd f
      own_comes (node.Vector' quals said star) f x = absurd f
      own_comes _ f x = absurd x

-- what a node with an offence of its own comes to
module _ (cs : List ClType) (env after : Env) (left : Bool) (place : Place) (args : List Expr) (ts : List TExpr) (os : List Operand) where
  pub unknown_comes : (text : List ℕ) → AreTyped cs env false args after ts os → is_value (find after text) ≡ false → Behind cs env left place (node.Name text) args (Some (at 301 place))
  unknown_comes text x h = record { after = after; trees = ts; operands = os; typed = x; comes = inr (sym (ap (value_verdict place) h)) }

  pub broken_comes : (n : ExprNode) (code : ℕ) → AreTyped cs env (first_left left n) args after ts os → judge cs after left n os ≡ Some (Broken code) → Behind cs env left place n args (Some (at code place))
  broken_comes n code x h = record { after = after; trees = ts; operands = os; typed = x; comes = inl (record { rule = Broken code; judged = h; is = refl }) }

  pub called_comes : (text : List ℕ) (fit : Option Bool) (v : Option Offence) → AreTyped cs env false args after ts os → judge cs after left (node.Call text) os ≡ None → v ≡ call_verdict place (flag_divides cs text ts) (lookup entries text) fit → ((entry : Entry) → flag_divides cs text ts ≡ None → lookup entries text ≡ Some entry → Fitting cs text ts os fit) → Behind cs env left place (node.Call text) args v
  called_comes text fit v x j h f = record { after = after; trees = ts; operands = os; typed = x; comes = inr (record { fit = fit; unjudged = j; is = h; fitting = f }) }

pub no_fence_divides : (cs : List ClType) (text : List ℕ) (ts : List TExpr) → lookup entries text ≡ None → flag_divides cs text ts ≡ None
no_fence_divides cs text ts h = ap (λ f. if f then first_divides cs ts else None) (no_fence text h)

module _ (cs : List ClType) (env after : Env) (left : Bool) (place : Place) (args : List Expr) where
  pub pointer_comes : (text : List ℕ) (t : TExpr) (o : Operand) (v : Option Offence) → AreTyped cs env false args after (t ∷ []) (o ∷ []) → NoPointer place o v ⊎ LeadsTo cs left place text t o v → Behind cs env left place (node.Member text true) args v
  pointer_comes text t o v x to = record {
    after = after;
    trees = t ∷ [];
    operands = o ∷ [];
    typed = subst (λ w. AreTyped cs env w args after (t ∷ []) (o ∷ [])) (sym (flag_off left)) x;
    comes = inr (refl, record { tree = t; operand = o; trees = refl; has = refl; to = to });
  }

  pub index_comes : (t i : TExpr) (o q : Operand) (v : Option Offence) → AreTyped cs env left args after (t ∷ i ∷ []) (o ∷ q ∷ []) → is_vector o.shape ≡ true → v ≡ index_verdict place (divides (constancy_of cs i)) (component_of cs o i) → Behind cs env left place node.Index args v
  index_comes t i o q v x h f = record {
    after = after;
    trees = t ∷ i ∷ [];
    operands = o ∷ q ∷ [];
    typed = x;
    comes = inr (record { tree = t; index = i; operand = o; other = q; trees = refl; has = refl; vector = h; is = f });
  }

  pub size_comes : (t : TExpr) (o : Operand) → AreTyped cs env false args after (t ∷ []) (o ∷ []) → no_size o ≡ true → Behind cs env left place (node.Unary un.Sizeof) args (Some (at 303 place))
  size_comes t o x h = record {
    after = after;
    trees = t ∷ [];
    operands = o ∷ [];
    typed = x;
    comes = inr (refl, record { operand = o; has = refl; is = sym (ap (size_verdict place) h) });
  }

-- ---- nodes and words that hold a type

module _ (cs : List ClType) (env : Env) (left : Bool) (after : Env) (t : TExpr) (o : Operand) (place : Place) (args : List Expr) where
  pub size_view : (term : TypeTerm) → By cs env left after t o place (node.SizeofType term) args → TypeSizeIs cs env after place term t o
  size_view term (inl y) = absurd (none_some y.judged)
  size_view term (inr y) = y

  pub cast_view : (term : TypeTerm) → By cs env left after t o place (node.Cast term) args → CastIs cs env after place term args t o
  cast_view term (inl y) = absurd (none_some y.judged)
  cast_view term (inr y) = y

  pub vector_view : (term : TypeTerm) → By cs env left after t o place (node.Vector term) args → LiteralIs cs env after place term args t o
  vector_view term (inl y) = absurd (none_some y.judged)
  vector_view term (inr y) = y

other_kind : {A : Type 0} (n m k : ℕ) → k ≡ n → k ≡ m → (n ≡ m → ⊥) → A
other_kind n m k f g h = absurd (h (sym f ∙ g))

module _ (cs : List ClType) (env after : Env) (q : Qualified) where
  pub named_view : (text : List ℕ) (place : Place) → ByWords cs env (base.Named text place) after q → is_typedef (find env text) ≡ true
  named_view text place (inl (inl y)) = other_kind 0 1 (base_kind (base.Named text place)) (word_kind (base.Named text place) y.means y.says) (named_kind text place) (λ z. omega arith)
  named_view text place (inl (inr y)) =
      let g : text ≡ y.text = (let k : base.Named text place ≡ base.Named y.text y.place = y.names in cc) in
      ap (λ z. is_typedef (find env z)) g ∙ ap is_typedef y.found ∙ ap is_type_name y.typedef
  named_view text place (inr (inl y)) = other_kind 2 1 (base_kind (base.Named text place)) (tag_kind (base.Named text place) y.text y.place y.struct) (named_kind text place) (λ z. omega arith)
  named_view text place (inr (inr y)) = other_kind 3 1 (base_kind (base.Named text place)) (struct_kind (base.Named text place) y.text y.place y.fields y.struct) (named_kind text place) (λ z. omega arith)

  pub tag_view : (w : Base) (text : Option (List ℕ)) (place : Place) → IsStruct w text place None → ByWords cs env w after q → TagIs cs env w after q
  tag_view w text place h (inl (inl y)) = other_kind 0 2 (base_kind w) (word_kind w y.means y.says) (tag_kind w text place h) (λ z. omega arith)
  tag_view w text place h (inl (inr y)) = other_kind 1 2 (base_kind w) (ap base_kind y.names ∙ named_kind y.text y.place) (tag_kind w text place h) (λ z. omega arith)
  tag_view w text place h (inr (inl y)) = y
  tag_view w text place h (inr (inr y)) = other_kind 3 2 (base_kind w) (struct_kind w y.text y.place y.fields y.struct) (tag_kind w text place h) (λ z. omega arith)

  pub struct_view : (w : Base) (text : Option (List ℕ)) (place : Place) (fields : List Field) → IsStruct w text place (Some fields) → ByWords cs env w after q → StructIs cs env w after q
  struct_view w text place fields h (inl (inl y)) = other_kind 0 3 (base_kind w) (word_kind w y.means y.says) (struct_kind w text place fields h) (λ z. omega arith)
  struct_view w text place fields h (inl (inr y)) = other_kind 1 3 (base_kind w) (ap base_kind y.names ∙ named_kind y.text y.place) (struct_kind w text place fields h) (λ z. omega arith)
  struct_view w text place fields h (inr (inl y)) = other_kind 2 3 (base_kind w) (tag_kind w y.text y.place y.struct) (struct_kind w text place fields h) (λ z. omega arith)
  struct_view w text place fields h (inr (inr y)) = y

pub fields_of : (w : Base) (text text2 : Option (List ℕ)) (place place2 : Place) (fields fields2 : List Field) → IsStruct w text place (Some fields) → IsStruct w text2 place2 (Some fields2) → fields2 ≡ fields
fields_of w text text2 place place2 fields fields2 x y = some_same fields2 fields (sym y.has ∙ ap items_of (fields_same text text2 place place2 x.declared y.declared (sym y.is ∙ x.is)) ∙ x.has)

not_broken : (r : ℕ → ℕ) (code : ℕ) (m : Made) → Broken code ≡ judged_as r (Makes m) → ⊥
not_broken r code m e = cc

-- ---- no offence where an expression is typed

typedef_as : (r : ℕ → ℕ) (d : Option Declared) → is_typedef (option_map (declared_as r) d) ≡ is_typedef d
typedef_as r None = refl
typedef_as r (Some d) = refl

complete_as : (r : ℕ → ℕ) (d : Option Declared) → is_complete (option_map (declared_as r) d) ≡ is_complete d
complete_as r None = refl
complete_as r (Some d) = refl

module _ (cs ds : List ClType) (r : ℕ → ℕ) (e : IsRenaming cs ds r) (bc : AreBuilt [] cs) (b : AreTypes ds) where
  -- nodes compared behind their operands
  pub behind_same : (env env2 : Env) (left : Bool) (place : Place) (n : ExprNode) (args : List Expr) (v w : Option Offence) → env2 ≡ env_as r env → Behind cs env left place n args v → Behind ds env2 left place n args w → w ≡ v
  behind_same env env2 left place n args v w f x y =
      let a = are_typed_same cs ds r e bc b _ _ _ _ _ _ x.typed env2 y.after y.trees y.operands f y.typed in
      comes_same cs ds r e bc b x.after y.after left place x.trees y.trees x.operands y.operands a v w n x.comes y.comes

  typed_behind : {A : Type 0} (env env2 : Env) (left : Bool) (x : Expr) (after : Env) (t : TExpr) (p : Operand) (place : Place) (n : ExprNode) (args : List Expr) (o : Offence) → env2 ≡ env_as r env → Types cs env left x after t p → IsExpr x place n args → TermFree n → Behind ds env2 left place n args (Some o) → A
  typed_behind env env2 left x after t p place n args o f d h free y =
      some_none (behind_same env env2 left place n args None (Some o) f (typed_comes cs env left after t p place args n free (viewed cs env left x after t p place n args h d)) y)

  pub typedef_there : (env env2 : Env) (text : List ℕ) → env2 ≡ env_as r env → is_typedef (find env2 text) ≡ is_typedef (find env text)
  typedef_there env env2 text f = ap (λ z. is_typedef (find z text)) f ∙ ap is_typedef (find_as r env text) ∙ typedef_as r (find env text)

  pub complete_there : (env env2 : Env) (text text2 : Option (List ℕ)) → text2 ≡ text → env2 ≡ env_as r env → is_complete (tag_of env2 text2) ≡ is_complete (tag_of env text)
  complete_there env env2 text text2 g f = (λ i. is_complete (tag_of (f i) (g i))) ∙ ap is_complete (tag_of_as cs ds r e bc b text env) ∙ complete_as r (tag_of env text)

  again_as : (env : Env) (text : Option (List ℕ)) → is_tag_again (env_as r env) text ≡ is_tag_again env text
  again_as env None = refl
  again_as env (Some text) = is_tagged_as r env text

  pub struct_tests_there : (env env2 : Env) (text text2 : Option (List ℕ)) (ms ms2 : List Member) → text2 ≡ text → env2 ≡ env_as r env → ms2 ≡ map (member r) ms → struct_tests ds ms2 (is_tag_again env2 text2) ≡ struct_tests cs ms (is_tag_again env text)
  struct_tests_there env env2 text text2 ms ms2 g f h = (λ i. struct_tests ds (h i) (is_tag_again (f i) (g i))) ∙ ap (struct_tests ds (map (member r) ms)) (again_as env text) ∙ struct_tests_as cs ds r bc b.built e ms (is_tag_again env text)

  pub member_tests_there : (q q2 : Qualified) (star star2 : Option (List Qual)) (ls ls2 : List Length) (text text2 : List ℕ) (ms ms2 : List Member) → q2 ≡ qualified_as r q → star2 ≡ star → ls2 ≡ ls → text2 ≡ text → ms2 ≡ map (member r) ms → member_tests ds (sketch q2 star2 ls2) (has_member text2 ms2) ≡ member_tests cs (sketch q star ls) (has_member text ms)
  member_tests_there q q2 star star2 ls ls2 text text2 ms ms2 f g h k l =
      (λ i. member_tests ds (sketch (f i) (g i) (h i)) (has_member (k i) (l i)))
      ∙ (λ i. member_tests ds (sketch_of_as r q star ls i) (has_member_as r text ms i))
      ∙ member_tests_as cs ds r bc b.built e (sketch q star ls) (has_member text ms)

  broken_kept : {A : Type 0} (xs ys : List (ℕ × Bool)) (code : ℕ) → ys ≡ xs → first_broken xs ≡ None → first_broken ys ≡ Some code → A
  broken_kept xs ys code f x y = absurd (none_some (sym x ∙ ap first_broken (sym f) ∙ y))

  mutual
    pub typed_no_offence : (j0 : Env) (j1 : Bool) (j2 : Expr) (j3 : Offence) → Offends ds j0 j1 j2 j3 → (i0 i3 : Env) (i4 : TExpr) (i5 : Operand) → j0 ≡ env_as r i0 → Types cs i0 j1 j2 i3 i4 i5 → ⊥
    typed_no_offence _ _ _ _ (unknown env after left x place text args ts os h0 h1 h2) i0 i3 i4 i5 f d =
        typed_behind i0 env left x i3 i4 i5 place (node.Name text) args (at 301 place) f d h0 tt (unknown_comes ds env after left place args ts os text h1 h2)
    typed_no_offence _ _ _ _ (in_operands env left x place n args o h0 h1 h2) i0 i3 i4 i5 f d =
        let k = typed_comes cs i0 left i3 i4 i5 place args n (holds_free n h1) (viewed cs i0 left x i3 i4 i5 place n args h0 d) in
        operands_no_offence _ _ _ _ h2 i0 k.after k.trees k.operands f k.typed
    typed_no_offence _ _ _ _ (broken_rule env after left x place n args ts os code h0 h1 h2) i0 i3 i4 i5 f d =
        typed_behind i0 env left x i3 i4 i5 place n args (at code place) f d h0 (judged_free ds after left n os (Broken code) h2) (broken_comes ds env after left place args ts os n code h1 h2)
    typed_no_offence _ _ _ _ (no_pointer env after left x place text args t o code h0 h1 h2) i0 i3 i4 i5 f d =
        typed_behind i0 env left x i3 i4 i5 place (node.Member text true) args (at code place) f d h0 tt
        (pointer_comes ds env after left place args text t o (Some (at code place)) h1 (inl (record { code = code; points = h2; is = refl })))
    typed_no_offence _ _ _ _ (no_member env after left x place text args t u o p m code h0 h1 h2 h3 h4) i0 i3 i4 i5 f d =
        typed_behind i0 env left x i3 i4 i5 place (node.Member text true) args (at code place) f d h0 tt
        (pointer_comes ds env after left place args text t o (Some (at code place)) h1 (inr (record { pointed = m; whole = u; of = p; points = h2; leads = h3; is = sym (ap (judged_verdict place) h4) })))
    typed_no_offence _ _ _ _ (index_divides env after left x place p args t i o q h0 h1 h2 h3) i0 i3 i4 i5 f d =
        typed_behind i0 env left x i3 i4 i5 place node.Index args (at 334 p) f d h0 tt
        (index_comes ds env after left place args t i o q (Some (at 334 p)) h1 h2 (sym (ap (λ z. index_verdict place z (component_of ds o i)) h3)))
    typed_no_offence _ _ _ _ (no_component env after left x place args t i o q h0 h1 h2 h3 h4) i0 i3 i4 i5 f d =
        typed_behind i0 env left x i3 i4 i5 place node.Index args (at 307 place) f d h0 tt
        (index_comes ds env after left place args t i o q (Some (at 307 place)) h1 h2 (sym (λ j. index_verdict place (h3 j) (h4 j))))
    typed_no_offence _ _ _ _ (no_size_of_value env after left x place args t o h0 h1 h2) i0 i3 i4 i5 f d =
        typed_behind i0 env left x i3 i4 i5 place (node.Unary un.Sizeof) args (at 303 place) f d h0 tt (size_comes ds env after left place args t o h1 h2)
    typed_no_offence _ _ _ _ (in_size env left x place term args o h0 h1) i0 i3 i4 i5 f d =
        let y = size_view cs i0 left i3 i4 i5 place args term (viewed cs i0 left x i3 i4 i5 place (node.SizeofType term) args h0 d) in
        term_no_offence _ _ _ h1 i0 i3 y.of y.star f y.says
    typed_no_offence _ _ _ _ (in_cast env left x place term args o h0 h1) i0 i3 i4 i5 f d =
        let y = cast_view cs i0 left i3 i4 i5 place args term (viewed cs i0 left x i3 i4 i5 place (node.Cast term) args h0 d) in
        term_no_offence _ _ _ h1 i0 y.middle y.of y.star f y.says
    typed_no_offence _ _ _ _ (in_vector env left x place term args o h0 h1) i0 i3 i4 i5 f d =
        let y = vector_view cs i0 left i3 i4 i5 place args term (viewed cs i0 left x i3 i4 i5 place (node.Vector term) args h0 d) in
        term_no_offence _ _ _ h1 i0 y.middle y.of y.star f y.says
    typed_no_offence _ _ _ _ (no_size_of_type env after left x place term args q star code h0 h1 h2) i0 i3 i4 i5 f d =
        let y = size_view cs i0 left i3 i4 i5 place args term (viewed cs i0 left x i3 i4 i5 place (node.SizeofType term) args h0 d) in
        let a = is_term_same cs ds r e bc b _ _ _ _ _ y.says env after q star f h1 in
        broken_kept (size_tests y.of y.star) (size_tests q star) code ((λ i. size_tests (a.1 i) (a.2 i)) ∙ size_tests_as r y.of y.star) y.sized h2
    typed_no_offence _ _ _ _ (in_cast_operands env middle left x place term args q star o h0 h1 h2) i0 i3 i4 i5 f d =
        let y = cast_view cs i0 left i3 i4 i5 place args term (viewed cs i0 left x i3 i4 i5 place (node.Cast term) args h0 d) in
        let a = is_term_same cs ds r e bc b _ _ _ _ _ y.says env middle q star f h1 in
        operands_no_offence _ _ _ _ h2 y.middle i3 y.trees y.operands a.0 y.typed
    typed_no_offence _ _ _ _ (in_vector_operands env middle left x place term args q star o h0 h1 h2) i0 i3 i4 i5 f d =
        let y = vector_view cs i0 left i3 i4 i5 place args term (viewed cs i0 left x i3 i4 i5 place (node.Vector term) args h0 d) in
        let a = is_term_same cs ds r e bc b _ _ _ _ _ y.says env middle q star f h1 in
        operands_no_offence _ _ _ _ h2 y.middle i3 y.trees y.operands a.0 y.typed
    typed_no_offence _ _ _ _ (no_cast env middle after left x place term args q star ts os code h0 h1 h2 h3) i0 i3 i4 i5 f d =
        let y = cast_view cs i0 left i3 i4 i5 place args term (viewed cs i0 left x i3 i4 i5 place (node.Cast term) args h0 d) in
        let a = is_term_same cs ds r e bc b _ _ _ _ _ y.says env middle q star f h1 in
        let s = are_typed_same cs ds r e bc b _ _ _ _ _ _ y.typed middle after ts os a.0 h2 in
        not_broken r code y.made (sym h3 ∙ (λ i. cast_rule (a.1 i) (a.2 i) (s.1 i)) ∙ cast_rule_as r e.differ y.of y.star y.operands ∙ ap (judged_as r) y.judged)
    typed_no_offence _ _ _ _ (no_vector env middle after left x place term args q star ts os code h0 h1 h2 h3) i0 i3 i4 i5 f d =
        let y = vector_view cs i0 left i3 i4 i5 place args term (viewed cs i0 left x i3 i4 i5 place (node.Vector term) args h0 d) in
        let a = is_term_same cs ds r e bc b _ _ _ _ _ y.says env middle q star f h1 in
        let s = are_typed_same cs ds r e bc b _ _ _ _ _ _ y.typed middle after ts os a.0 h2 in
        not_broken r code y.made (sym h3 ∙ (λ i. literal (a.1 i) (a.2 i) (s.1 i)) ∙ literal_as r y.of y.star y.operands ∙ ap (judged_as r) y.judged)
    typed_no_offence _ _ _ _ (flag_out env after left x place p text args ts os h0 h1 h2 h3) i0 i3 i4 i5 f d =
        typed_behind i0 env left x i3 i4 i5 place (node.Call text) args (at 334 p) f d h0 tt
        (called_comes ds env after left place args ts os text None (Some (at 334 p)) h1 h2 (sym (ap (λ z. call_verdict place z (lookup entries text) None) h3)) (λ entry g k. some_none (sym h3 ∙ g)))
    typed_no_offence _ _ _ _ (no_function env after left x place text args ts os h0 h1 h2 h3) i0 i3 i4 i5 f d =
        typed_behind i0 env left x i3 i4 i5 place (node.Call text) args (at 301 place) f d h0 tt
        (called_comes ds env after left place args ts os text None (Some (at 301 place)) h1 h2 (sym (λ i. call_verdict place (no_fence_divides ds text ts h3 i) (h3 i) None)) (λ entry g k. absurd (none_some (sym h3 ∙ k))))
    typed_no_offence _ _ _ _ (no_form env after left x place text args ts os tys h0 h1 h2 h3 h4 h5) i0 i3 i4 i5 f d =
        typed_behind i0 env left x i3 i4 i5 place (node.Call text) args (at 329 place) f d h0 tt
        (called_comes ds env after left place args ts os text None (Some (at 329 place)) h1 h2 (sym (λ i. call_verdict place (h3 i) (h5.named i) None)) (λ entry g k. record { types = tys; arguments = h4; fits = h5 }))
    typed_no_offence _ _ _ _ (no_flag env after left x place text args ts os tys found h0 h1 h2 h3 h4 h5 h6) i0 i3 i4 i5 f d =
        typed_behind i0 env left x i3 i4 i5 place (node.Call text) args (at 330 place) f d h0 tt
        (called_comes ds env after left place args ts os text (Some false) (Some (at 330 place)) h1 h2 (sym (λ i. call_verdict place (h3 i) (h5.named i) (Some false))) (λ entry g k. record { types = tys; arguments = h4; fits = (found, h5, sym h6) }))

    pub operands_no_offence : (j0 : Env) (j1 : Bool) (j2 : List Expr) (j3 : Offence) → SomeOffends ds j0 j1 j2 j3 → (i0 i3 : Env) (i4 : List TExpr) (i5 : List Operand) → j0 ≡ env_as r i0 → AreTyped cs i0 j1 j2 i3 i4 i5 → ⊥
    operands_no_offence _ _ _ _ (in_first env left x es o h0) _ _ _ _ f (more_operands env1 middle1 after1 left1 x1 es1 t1 ts1 o1 os1 k0 k1) = typed_no_offence _ _ _ _ h0 env1 middle1 t1 o1 f k0
    operands_no_offence _ _ _ _ (in_rest env middle left x es t p o h0 h1) _ _ _ _ f (more_operands env1 middle1 after1 left1 x1 es1 t1 ts1 o1 os1 k0 k1) =
        let a = types_same cs ds r e bc b _ _ _ _ _ _ k0 env middle t p f h0 in
        operands_no_offence _ _ _ _ h1 middle1 after1 ts1 os1 a.0 k1

    pub term_no_offence : (j0 : Env) (j1 : TypeTerm) (j2 : Offence) → TermOffends ds j0 j1 j2 → (i0 i2 : Env) (i3 : Qualified) (i4 : Option Bool) → j0 ≡ env_as r i0 → IsTermOf cs i0 j1 i2 i3 i4 → ⊥
    term_no_offence _ _ _ (in_type_words env term s star o h0 h1) _ _ _ _ f (in_brackets env1 after1 term1 s1 star1 q1 k0 k1) =
        let g : s1 ≡ s = sym k0.is ∙ h0.is in
        words_no_offence _ _ _ h1 env1 after1 q1 f (subst (λ z. IsSpecified cs env1 z after1 q1) g k1)

    pub words_no_offence : (j0 : Env) (j1 : Spec) (j2 : Offence) → WordsOffend ds j0 j1 j2 → (i0 i2 : Env) (i3 : Qualified) → j0 ≡ env_as r i0 → IsSpecified cs i0 j1 i2 i3 → ⊥
    words_no_offence _ _ _ (in_base env s quals w o h0 h1) _ _ _ f (words env1 after1 s1 quals1 w1 q1 k0 k1) =
        let g : w1 ≡ w = sym k0.is ∙ h0.is in
        base_no_offence _ _ _ h1 env1 after1 q1 f (subst (λ z. IsBase cs env1 z after1 q1) g k1)

    pub base_no_offence : (j0 : Env) (j1 : Base) (j2 : Offence) → BaseOffends ds j0 j1 j2 → (i0 i2 : Env) (i3 : Qualified) → j0 ≡ env_as r i0 → IsBase cs i0 j1 i2 i3 → ⊥
    base_no_offence _ _ _ (no_type env text place h0) i0 i2 i3 f d =
        true≢false (sym (named_view cs i0 i2 i3 text place (words_viewed cs i0 (base.Named text place) i2 i3 d)) ∙ sym (typedef_there i0 env text f) ∙ h0)
    base_no_offence _ _ _ (no_struct env w text place h0 h1) i0 i2 i3 f d =
        let y = tag_view cs i0 i2 i3 w text place h0 (words_viewed cs i0 w i2 i3 d) in
        let g : text ≡ y.text = text_same y.text text y.place place y.struct.declared h0.declared (sym h0.is ∙ y.struct.is) in
        true≢false (sym (ap is_complete y.found ∙ y.complete) ∙ sym (complete_there i0 env y.text text g f) ∙ h1)
    base_no_offence _ _ _ (in_members env w text place fields void o h0 h1 h2) i0 i2 i3 f d =
        let y = struct_view cs i0 i2 i3 w text place fields h0 (words_viewed cs i0 w i2 i3 d) in
        let g : text ≡ y.text = text_same y.text text y.place place y.struct.declared h0.declared (sym h0.is ∙ y.struct.is) in
        let k = fields_of w text y.text place y.place fields y.fields h0 y.struct in
        let v : void ≡ type_id r y.void = wanted_one cs ds r e b (want.Of shape.Void) y.void void refl y.wanted h1 in
        members_no_offence _ _ _ _ h2 (tagged y.text y.void false i0) [] y.behind y.members (tagged_same cs ds r e bc b y.text text y.void void false i0 env g v f) refl (subst (λ z. AreMembers cs (tagged y.text y.void false i0) [] z y.behind y.members) k y.all)
    base_no_offence _ _ _ (broken_struct env after w text place fields members void code h0 h1 h2 h3) i0 i2 i3 f d =
        let y = struct_view cs i0 i2 i3 w text place fields h0 (words_viewed cs i0 w i2 i3 d) in
        let g : text ≡ y.text = text_same y.text text y.place place y.struct.declared h0.declared (sym h0.is ∙ y.struct.is) in
        let k = fields_of w text y.text place y.place fields y.fields h0 y.struct in
        let v : void ≡ type_id r y.void = wanted_one cs ds r e b (want.Of shape.Void) y.void void refl y.wanted h1 in
        let a = are_members_same cs ds r e bc b _ _ _ _ _ y.all (tagged text void false env) [] after members (tagged_same cs ds r e bc b y.text text y.void void false i0 env g v f) refl (subst (λ z. AreMembers ds (tagged text void false env) [] z after members) (sym k) h2) in
        broken_kept (struct_tests cs y.members (is_tag_again i0 y.text)) (struct_tests ds members (is_tag_again env text)) code (struct_tests_there i0 env y.text text y.members members g f a.1) y.fits h3

    pub members_no_offence : (j0 : Env) (j1 : List Member) (j2 : List Field) (j3 : Offence) → SomeMemberOffends ds j0 j1 j2 j3 → (i0 : Env) (i1 : List Member) (i3 : Env) (i4 : List Member) → j0 ≡ env_as r i0 → j1 ≡ map (member r) i1 → AreMembers cs i0 i1 j2 i3 i4 → ⊥
    members_no_offence _ _ _ _ (in_field_words env before x fs s names o h0 h1) _ _ _ _ f g (more_fields env1 typed1 middle1 after1 before1 between1 members1 x1 fs1 s1 names1 q1 k0 k1 k2 k3) =
        let u : s1 ≡ s = sym k0.is ∙ h0.is in
        words_no_offence _ _ _ h1 env1 typed1 q1 f (subst (λ z. IsSpecified cs env1 z typed1 q1) u k1)
    members_no_offence _ _ _ _ (in_field_names env typed before x fs s names q o h0 h1 h2) _ _ _ _ f g (more_fields env1 typed1 middle1 after1 before1 between1 members1 x1 fs1 s1 names1 q1 k0 k1 k2 k3) =
        let u : s1 ≡ s = sym k0.is ∙ h0.is in
        let v : names1 ≡ names = sym k0.has ∙ h0.has in
        let a = is_specified_same cs ds r e bc b _ _ _ _ (subst (λ z. IsSpecified cs env1 z typed1 q1) u k1) env typed q f h1 in
        names_no_offence _ _ _ _ _ h2 typed1 q1 before1 middle1 between1 a.0 a.1 g (subst (λ z. AreNamed cs typed1 q1 before1 z middle1 between1) v k2)
    members_no_offence _ _ _ _ (in_other_fields env typed middle before between x fs s names q o h0 h1 h2 h3) _ _ _ _ f g (more_fields env1 typed1 middle1 after1 before1 between1 members1 x1 fs1 s1 names1 q1 k0 k1 k2 k3) =
        let u : s1 ≡ s = sym k0.is ∙ h0.is in
        let v : names1 ≡ names = sym k0.has ∙ h0.has in
        let a = is_specified_same cs ds r e bc b _ _ _ _ (subst (λ z. IsSpecified cs env1 z typed1 q1) u k1) env typed q f h1 in
        let c = are_named_same cs ds r e bc b _ _ _ _ _ _ (subst (λ z. AreNamed cs typed1 q1 before1 z middle1 between1) v k2) typed q before middle between a.0 a.1 g h2 in
        members_no_offence _ _ _ _ h3 middle1 between1 after1 members1 c.0 c.1 k3

    pub names_no_offence : (j0 : Env) (j1 : Qualified) (j2 : List Member) (j3 : List Declor) (j4 : Offence) → SomeNameOffends ds j0 j1 j2 j3 j4 → (i0 : Env) (i1 : Qualified) (i2 : List Member) (i4 : Env) (i5 : List Member) → j0 ≡ env_as r i0 → j1 ≡ qualified_as r i1 → j2 ≡ map (member r) i2 → AreNamed cs i0 i1 i2 j3 i4 i5 → ⊥
    names_no_offence _ _ _ _ _ (in_lengths env q before x xs star text place es o h0 h1) _ _ _ _ _ f p g (more_names env1 middle1 after1 q1 before1 members1 x1 xs1 star1 text1 place1 es1 ls1 t1 k0 k1 k2 k3 k4) =
        let w : es1 ≡ es = sym k0.has ∙ h0.has in
        lengths_no_offence _ _ _ _ h1 env1 middle1 ls1 f (subst (λ z. AreLengths cs env1 false z middle1 ls1) w k1)
    names_no_offence _ _ _ _ _ (broken_member env after q before x xs star text place es ls code h0 h1 h2) _ _ _ _ _ f p g (more_names env1 middle1 after1 q1 before1 members1 x1 xs1 star1 text1 place1 es1 ls1 t1 k0 k1 k2 k3 k4) =
        let u : star ≡ star1 = sym h0.behind ∙ k0.behind in
        let v : text ≡ text1 = sym h0.is ∙ k0.is in
        let w : es1 ≡ es = sym k0.has ∙ h0.has in
        let a = are_lengths_same cs ds r e bc b _ _ _ _ _ (subst (λ z. AreLengths cs env1 false z middle1 ls1) w k1) env after ls f h1 in
        broken_kept (member_tests cs (sketch q1 star1 ls1) (has_member text1 before1)) (member_tests ds (sketch q star ls) (has_member text before)) code (member_tests_there q1 q star1 star ls1 ls text1 text before1 before p u a.1 v g) k2 h2
    names_no_offence _ _ _ _ _ (in_other_names env middle q before x xs star text place es ls t o h0 h1 h2 h3 h4) _ _ _ _ _ f p g (more_names env1 middle1 after1 q1 before1 members1 x1 xs1 star1 text1 place1 es1 ls1 t1 k0 k1 k2 k3 k4) =
        let u : star ≡ star1 = sym h0.behind ∙ k0.behind in
        let v : text ≡ text1 = sym h0.is ∙ k0.is in
        let w : es1 ≡ es = sym k0.has ∙ h0.has in
        let a = are_lengths_same cs ds r e bc b _ _ _ _ _ (subst (λ z. AreLengths cs env1 false z middle1 ls1) w k1) env middle ls f h1 in
        let k : sketch q star ls ≡ sketch_as r (sketch q1 star1 ls1) = (λ i. sketch (p i) (u i) (a.1 i)) ∙ sketch_of_as r q1 star1 ls1 in
        let l : t ≡ type_id r t1 = declared_one cs ds r e b (sketch q1 star1 ls1) 1 t1 t (sketch_one cs ds r e bc b q1 star1 ls1) k3 (subst (λ z. IsDeclaredAs ds z 1 t) k h3) in
        let n : before ++ record { name = text; ty = t } ∷ [] ≡ map (member r) (before1 ++ record { name = text1; ty = t1 } ∷ []) =
        (λ i. g i ++ record { name = v i; ty = l i } ∷ []) ∙ sym (map-append (member r) before1 (record { name = text1; ty = t1 } ∷ [])) in
        names_no_offence _ _ _ _ _ h4 middle1 q1 (before1 ++ record { name = text1; ty = t1 } ∷ []) after1 members1 a.0 p n k4

    pub lengths_no_offence : (j0 : Env) (j1 : Bool) (j2 : List (Option Expr)) (j3 : Offence) → LengthOffends ds j0 j1 j2 j3 → (i0 i3 : Env) (i4 : List Length) → j0 ≡ env_as r i0 → AreLengths cs i0 j1 j2 i3 i4 → ⊥
    lengths_no_offence _ _ _ _ (in_length env may_miss x es o h0) _ _ _ f (given env1 middle1 after1 may1 x1 es1 t1 o1 n1 ls1 k0 k1 k2 k3) = typed_no_offence _ _ _ _ h0 env1 middle1 t1 o1 f k0
    lengths_no_offence _ _ _ _ (length_divides env after may_miss x es t o p h0 h1) _ _ _ f (given env1 middle1 after1 may1 x1 es1 t1 o1 n1 ls1 k0 k1 k2 k3) =
        let a = types_same cs ds r e bc b _ _ _ _ _ _ k0 env after t o f h0 in
        none_some (sym k1 ∙ ap divides (sym (constancy_as cs ds r e t1 t a.2)) ∙ h1)
    lengths_no_offence _ _ _ _ (behind_missing env may_miss es o h0) _ _ _ f (missing env1 after1 may1 es1 ls1 k0) = lengths_no_offence _ _ _ _ h0 env1 after1 ls1 f k0
    lengths_no_offence _ _ _ _ (behind_given env middle may_miss x es t p o h0 h1 h2) _ _ _ f (given env1 middle1 after1 may1 x1 es1 t1 o1 n1 ls1 k0 k1 k2 k3) =
        let a = types_same cs ds r e bc b _ _ _ _ _ _ k0 env middle t p f h0 in
        lengths_no_offence _ _ _ _ h2 middle1 after1 ls1 a.0 k3
