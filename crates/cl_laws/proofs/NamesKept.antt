-- An expression declares structs alone: behind it each name means what it meant before.
use Rattle.std.proofs.Common.{◌≡◌, ℕ, List, ◌∷◌, ◌++◌, refl, sym, ap, ◌∙◌, Bool, true, false, ◌&&◌, cond, Some, None, Option}
use Rattle.std.specs.Prelude.{bytes_eq}
use Rattle.cl_types.specs.declared.types.ClType.{ClType}
use Rattle.cl_types.specs.declared.types.Member.{Member}
use Rattle.cl_types.specs.declared.types.TypeId.{TypeId}
use Rattle.cl_ast.specs.declared.expression.Base.{Base}
use Rattle.cl_ast.specs.declared.expression.Declor.{Declor}
use Rattle.cl_ast.specs.declared.expression.Expr.{Expr}
use Rattle.cl_ast.specs.declared.expression.Field.{Field}
use Rattle.cl_ast.specs.declared.expression.Spec.{Spec}
use Rattle.cl_ast.specs.declared.expression.TypeTerm.{TypeTerm}
use Rattle.cl_tree.specs.declared.expression.TExpr.{TExpr}
use Rattle.cl_tree.specs.Facts.{Lists}
use Rattle.cl_rules.specs.declared.rule.Operand.{Operand}
use Rattle.cl_rules.specs.declared.rule.Qualified.{Qualified}
use Rattle.cl_scope.specs.declared.scope.Declared.{Declared}
use Rattle.cl_scope.specs.Names.{Env, newest, find, function_in}
use Rattle.cl_words.specs.declared.naming.Length.{Length}
use Rattle.cl_type_expr.specs.Expressions.{tag, tagged, Types, AreTyped, IsTermOf, IsSpecified, IsBase, AreMembers, AreNamed, AreLengths, arrow, built_in, cast, component_at, given, in_brackets, literal_number, missing, more_fields, more_names, more_operands, name, named, no_field, no_length, no_name, no_operand, operation, size_of_type, size_of_value, struct_members, struct_tag, vector_literal, word, words}
use Rattle.cl_laws.specs.Agreement.{Agrees}

pub record IsKept (env after : Env) : Type 0 where
  pub names : (text : List ℕ) → find after text ≡ find env text
  pub functions : after.functions ≡ env.functions

pub kept : (env : Env) → IsKept env env
kept env = record { names = λ text. refl; functions = refl }

pub kept_twice : (a b c : Env) → IsKept a b → IsKept b c → IsKept a c
kept_twice a b c h k = record { names = λ text. k.names text ∙ h.names text; functions = k.functions ∙ h.functions }

pub kept_agrees : (l : Lists) (env after : Env) → IsKept env after → Agrees l env → Agrees l after
kept_agrees l env after k a = record {
  names = λ text d e. a.names text d (sym (k.names text) ∙ e);
  functions = λ text s e. a.functions text s (ap (function_in text) (sym k.functions) ∙ e);
}

-- ---- tags

and_false : (a : Bool) → (a && false) ≡ false
and_false true = refl
and_false false = refl

past_tag : (n : List ℕ) (t : TypeId) (complete : Bool) (ds : List Declared) (text : List ℕ) → newest false text (tag n t complete ∷ ds) ≡ newest false text ds
past_tag n t complete ds text = ap (λ z. cond z (Some (tag n t complete)) (newest false text ds)) (and_false (bytes_eq text n))

tag_keeps : (n : Option (List ℕ)) (t : TypeId) (complete : Bool) (env : Env) → IsKept env (tagged n t complete env)
tag_keeps None t complete env = kept env
tag_keeps (Some n) t complete env = record { names = λ text. past_tag n t complete (env.inner ++ env.outer) text; functions = refl }

-- ---- expressions

module _ (cs : List ClType) where
  mutual
    pub types_keep : (i0 : Env) (i1 : Bool) (i2 : Expr) (i3 : Env) (i4 : TExpr) (i5 : Operand) → Types cs i0 i1 i2 i3 i4 i5 → IsKept i0 i3
    types_keep _ _ _ _ _ _ (name env after left e place text args ts os d h t h0 h1 h2 h3 h4 h5) = are_typed_keep _ _ _ _ _ _ h1
    types_keep _ _ _ _ _ _ (literal_number env after left e place n ty args ts os t o h0 h1 h2) = are_typed_keep _ _ _ _ _ _ h1
    types_keep _ _ _ _ _ _ (operation env after left e place n args ts os m t o h0 h1 h2 h3) = are_typed_keep _ _ _ _ _ _ h1
    types_keep _ _ _ _ _ _ (arrow env after left e place text args t u v o p q m k h0 h1 h2 h3 h4 h5) = are_typed_keep _ _ _ _ _ _ h1
    types_keep _ _ _ _ _ _ (component_at env after left e place args t i u o p q k h0 h1 h2 h3 h4) = are_typed_keep _ _ _ _ _ _ h1
    types_keep _ _ _ _ _ _ (size_of_value env after left e place args t u o p h0 h1 h2 h3) = are_typed_keep _ _ _ _ _ _ h1
    types_keep _ _ _ _ _ _ (size_of_type env after left e place term args q star t o h0 h1 h2 h3) = is_term_keep _ _ _ _ _ h1
    types_keep _ _ _ _ _ _ (cast env middle after left e place term args q star ts os m t o h0 h1 h2 h3 h4) =
        kept_twice env middle after (is_term_keep _ _ _ _ _ h1) (are_typed_keep _ _ _ _ _ _ h2)
    types_keep _ _ _ _ _ _ (vector_literal env middle after left e place term args q star ts os m t o h0 h1 h2 h3 h4) =
        kept_twice env middle after (is_term_keep _ _ _ _ _ h1) (are_typed_keep _ _ _ _ _ _ h2)
    types_keep _ _ _ _ _ _ (built_in env after left e place text args ts os tys found t o h0 h1 h2 h3 h4 h5 h6) = are_typed_keep _ _ _ _ _ _ h1

    pub are_typed_keep : (i0 : Env) (i1 : Bool) (i2 : List Expr) (i3 : Env) (i4 : List TExpr) (i5 : List Operand) → AreTyped cs i0 i1 i2 i3 i4 i5 → IsKept i0 i3
    are_typed_keep _ _ _ _ _ _ (no_operand env left) = kept env
    are_typed_keep _ _ _ _ _ _ (more_operands env middle after left e es t ts o os h0 h1) =
        kept_twice env middle after (types_keep _ _ _ _ _ _ h0) (are_typed_keep _ _ _ _ _ _ h1)

    pub is_term_keep : (i0 : Env) (i1 : TypeTerm) (i2 : Env) (i3 : Qualified) (i4 : Option Bool) → IsTermOf cs i0 i1 i2 i3 i4 → IsKept i0 i2
    is_term_keep _ _ _ _ _ (in_brackets env after term s star q h0 h1) = is_specified_keep _ _ _ _ h1

    pub is_specified_keep : (i0 : Env) (i1 : Spec) (i2 : Env) (i3 : Qualified) → IsSpecified cs i0 i1 i2 i3 → IsKept i0 i2
    is_specified_keep _ _ _ _ (words env after s quals base q h0 h1) = is_base_keep _ _ _ _ h1

    pub is_base_keep : (i0 : Env) (i1 : Base) (i2 : Env) (i3 : Qualified) → IsBase cs i0 i1 i2 i3 → IsKept i0 i2
    is_base_keep _ _ _ _ (word env base s t h0 h1) = kept env
    is_base_keep _ _ _ _ (named env text place d h0 h1 h2) = kept env
    is_base_keep _ _ _ _ (struct_tag env base text place d h0 h1 h2 h3) = kept env
    is_base_keep _ _ _ _ (struct_members env after base text place fields members void t h0 h1 h2 h3 h4) =
        kept_twice env (tagged text void false env) (tagged text t true after) (tag_keeps text void false env)
        (kept_twice (tagged text void false env) after (tagged text t true after) (are_members_keep _ _ _ _ _ h2) (tag_keeps text t true after))

    pub are_members_keep : (i0 : Env) (i1 : List Member) (i2 : List Field) (i3 : Env) (i4 : List Member) → AreMembers cs i0 i1 i2 i3 i4 → IsKept i0 i3
    are_members_keep _ _ _ _ _ (no_field env before) = kept env
    are_members_keep _ _ _ _ _ (more_fields env typed middle after before between members f fs s ds q h0 h1 h2 h3) =
        kept_twice env typed after (is_specified_keep _ _ _ _ h1) (kept_twice typed middle after (are_named_keep _ _ _ _ _ _ h2) (are_members_keep _ _ _ _ _ h3))

    pub are_named_keep : (i0 : Env) (i1 : Qualified) (i2 : List Member) (i3 : List Declor) (i4 : Env) (i5 : List Member) → AreNamed cs i0 i1 i2 i3 i4 i5 → IsKept i0 i4
    are_named_keep _ _ _ _ _ _ (no_name env q before) = kept env
    are_named_keep _ _ _ _ _ _ (more_names env middle after q before members d ds star text place es ls t h0 h1 h2 h3 h4) =
        kept_twice env middle after (are_lengths_keep _ _ _ _ _ h1) (are_named_keep _ _ _ _ _ _ h4)

    pub are_lengths_keep : (i0 : Env) (i1 : Bool) (i2 : List (Option Expr)) (i3 : Env) (i4 : List Length) → AreLengths cs i0 i1 i2 i3 i4 → IsKept i0 i3
    are_lengths_keep _ _ _ _ _ (no_length env may_miss) = kept env
    are_lengths_keep _ _ _ _ _ (missing env after may_miss es ls h0) = are_lengths_keep _ _ _ _ _ h0
    are_lengths_keep _ _ _ _ _ (given env middle after may_miss e es t o n ls h0 h1 h2 h3) =
        kept_twice env middle after (types_keep _ _ _ _ _ _ h0) (are_lengths_keep _ _ _ _ _ h3)
