-- Neither an expression nor a variable declares a function.
use Rattle.std.proofs.Common.{◌≡◌, ℕ, Bool, true, false, List, Option, Some, None, refl, ap, ◌∙◌}
use Rattle.clv_place.specs.declared.place.Place.{Place}
use Rattle.cl_types.specs.declared.types.ClType.{ClType}
use Rattle.cl_types.specs.declared.types.Member.{Member}
use Rattle.cl_types.specs.declared.types.TypeId.{TypeId}
use Rattle.cl_types.specs.declared.space.Space.{Space}
use Rattle.cl_ast.specs.declared.declaration.Init.{Init}
use Rattle.cl_ast.specs.declared.declaration.InitDeclor.{InitDeclor}
use Rattle.cl_ast.specs.declared.expression.Base.{Base}
use Rattle.cl_ast.specs.declared.expression.Declor.{Declor}
use Rattle.cl_ast.specs.declared.expression.Expr.{Expr}
use Rattle.cl_ast.specs.declared.expression.Field.{Field}
use Rattle.cl_ast.specs.declared.expression.Spec.{Spec}
use Rattle.cl_ast.specs.declared.expression.TypeTerm.{TypeTerm}
use Rattle.cl_tree.specs.declared.expression.TExpr.{TExpr}
use Rattle.cl_rules.specs.declared.rule.Operand.{Operand}
use Rattle.cl_rules.specs.declared.rule.Qualified.{Qualified}
use Rattle.cl_scope.specs.declared.scope.DeclaredKind.{DeclaredKind}
use Rattle.cl_scope.specs.Names.{Env}
use Rattle.cl_words.specs.declared.naming.Length.{Length}
use Rattle.cl_words.specs.declared.naming.Sketch.{Sketch}
use Rattle.cl_type_expr.specs.Expressions.{tagged, Types, AreTyped, IsTermOf, IsSpecified, IsBase, AreMembers, AreNamed, AreLengths, arrow, built_in, cast, component_at, given, in_brackets, literal_number, missing, more_fields, more_names, more_operands, name, named, no_field, no_length, no_name, no_operand, operation, size_of_type, size_of_value, struct_members, struct_tag, vector_literal, word, words}
use Rattle.cl_variables.specs.declared.declaring.Where.{Where}
use Rattle.cl_variables.specs.Declarations.{IsInitialised, IsVariable, init_list, init_open_list, init_over_list, init_value, init_wrong_value, no_init}
use Rattle.cl_variables.specs.Initialisers.{IsValue, FillsPart, FillsParts, FillsElements, FillsMembers, FillsBraces, IsList, FillsAll, IsOpenList, by_list, by_parts, by_value, by_wrong_value, elements_ended, elements_full, filled, its_elements, its_members, its_parts, itself, members_ended, members_full, more_elements, more_members, all_ended, more_all}
use Rattle.cl_variables.specs.declared.tally.Tally.{Tally}

tagged_functions : (n : Option (List ℕ)) (t : TypeId) (complete : Bool) (env : Env) → (tagged n t complete env).functions ≡ env.functions
tagged_functions None t complete env = refl
tagged_functions (Some n) t complete env = refl

mutual
  pub types_functions : (cs : List ClType) (i0 : Env) (i1 : Bool) (i2 : Expr) (i3 : Env) (i4 : TExpr) (i5 : Operand) → Types cs i0 i1 i2 i3 i4 i5 → i3.functions ≡ i0.functions
  types_functions cs _ _ _ _ _ _ (name p0 p1 p2 p3 p4 p5 p6 p7 p8 p9 p10 p11 h0 h1 h2 h3 h4 h5) = are_typed_functions cs _ _ _ _ _ _ h1
  types_functions cs _ _ _ _ _ _ (literal_number p0 p1 p2 p3 p4 p5 p6 p7 p8 p9 p10 p11 h0 h1 h2) = are_typed_functions cs _ _ _ _ _ _ h1
  types_functions cs _ _ _ _ _ _ (operation p0 p1 p2 p3 p4 p5 p6 p7 p8 p9 p10 p11 h0 h1 h2 h3) = are_typed_functions cs _ _ _ _ _ _ h1
  types_functions cs _ _ _ _ _ _ (arrow p0 p1 p2 p3 p4 p5 p6 p7 p8 p9 p10 p11 p12 p13 p14 h0 h1 h2 h3 h4 h5) = are_typed_functions cs _ _ _ _ _ _ h1
  types_functions cs _ _ _ _ _ _ (component_at p0 p1 p2 p3 p4 p5 p6 p7 p8 p9 p10 p11 p12 h0 h1 h2 h3 h4) = are_typed_functions cs _ _ _ _ _ _ h1
  types_functions cs _ _ _ _ _ _ (size_of_value p0 p1 p2 p3 p4 p5 p6 p7 p8 p9 h0 h1 h2 h3) = are_typed_functions cs _ _ _ _ _ _ h1
  types_functions cs _ _ _ _ _ _ (size_of_type p0 p1 p2 p3 p4 p5 p6 p7 p8 p9 p10 h0 h1 h2 h3) = is_term_of_functions cs _ _ _ _ _ h1
  types_functions cs _ _ _ _ _ _ (cast p0 p1 p2 p3 p4 p5 p6 p7 p8 p9 p10 p11 p12 p13 p14 h0 h1 h2 h3 h4) = are_typed_functions cs _ _ _ _ _ _ h2 ∙ is_term_of_functions cs _ _ _ _ _ h1
  types_functions cs _ _ _ _ _ _ (vector_literal p0 p1 p2 p3 p4 p5 p6 p7 p8 p9 p10 p11 p12 p13 p14 h0 h1 h2 h3 h4) = are_typed_functions cs _ _ _ _ _ _ h2 ∙ is_term_of_functions cs _ _ _ _ _ h1
  types_functions cs _ _ _ _ _ _ (built_in p0 p1 p2 p3 p4 p5 p6 p7 p8 p9 p10 p11 p12 h0 h1 h2 h3 h4 h5 h6) = are_typed_functions cs _ _ _ _ _ _ h1

  pub are_typed_functions : (cs : List ClType) (i0 : Env) (i1 : Bool) (i2 : List Expr) (i3 : Env) (i4 : List TExpr) (i5 : List Operand) → AreTyped cs i0 i1 i2 i3 i4 i5 → i3.functions ≡ i0.functions
  are_typed_functions cs _ _ _ _ _ _ (no_operand p0 p1) = refl
  are_typed_functions cs _ _ _ _ _ _ (more_operands p0 p1 p2 p3 p4 p5 p6 p7 p8 p9 h0 h1) = are_typed_functions cs _ _ _ _ _ _ h1 ∙ types_functions cs _ _ _ _ _ _ h0

  pub is_term_of_functions : (cs : List ClType) (i0 : Env) (i1 : TypeTerm) (i2 : Env) (i3 : Qualified) (i4 : Option Bool) → IsTermOf cs i0 i1 i2 i3 i4 → i2.functions ≡ i0.functions
  is_term_of_functions cs _ _ _ _ _ (in_brackets p0 p1 p2 p3 p4 p5 h0 h1) = is_specified_functions cs _ _ _ _ h1

  pub is_specified_functions : (cs : List ClType) (i0 : Env) (i1 : Spec) (i2 : Env) (i3 : Qualified) → IsSpecified cs i0 i1 i2 i3 → i2.functions ≡ i0.functions
  is_specified_functions cs _ _ _ _ (words p0 p1 p2 p3 p4 p5 h0 h1) = is_base_functions cs _ _ _ _ h1

  pub is_base_functions : (cs : List ClType) (i0 : Env) (i1 : Base) (i2 : Env) (i3 : Qualified) → IsBase cs i0 i1 i2 i3 → i2.functions ≡ i0.functions
  is_base_functions cs _ _ _ _ (word p0 p1 p2 p3 h0 h1) = refl
  is_base_functions cs _ _ _ _ (named p0 p1 p2 p3 h0 h1 h2) = refl
  is_base_functions cs _ _ _ _ (struct_tag p0 p1 p2 p3 p4 h0 h1 h2 h3) = refl
  is_base_functions cs _ _ _ _ (struct_members p0 p1 p2 p3 p4 p5 p6 p7 p8 h0 h1 h2 h3 h4) = tagged_functions p3 p8 true p1 ∙ are_members_functions cs _ _ _ _ _ h2 ∙ tagged_functions p3 p7 false p0

  pub are_members_functions : (cs : List ClType) (i0 : Env) (i1 : List Member) (i2 : List Field) (i3 : Env) (i4 : List Member) → AreMembers cs i0 i1 i2 i3 i4 → i3.functions ≡ i0.functions
  are_members_functions cs _ _ _ _ _ (no_field p0 p1) = refl
  are_members_functions cs _ _ _ _ _ (more_fields p0 p1 p2 p3 p4 p5 p6 p7 p8 p9 p10 p11 h0 h1 h2 h3) = are_members_functions cs _ _ _ _ _ h3 ∙ are_named_functions cs _ _ _ _ _ _ h2 ∙ is_specified_functions cs _ _ _ _ h1

  pub are_named_functions : (cs : List ClType) (i0 : Env) (i1 : Qualified) (i2 : List Member) (i3 : List Declor) (i4 : Env) (i5 : List Member) → AreNamed cs i0 i1 i2 i3 i4 i5 → i4.functions ≡ i0.functions
  are_named_functions cs _ _ _ _ _ _ (no_name p0 p1 p2) = refl
  are_named_functions cs _ _ _ _ _ _ (more_names p0 p1 p2 p3 p4 p5 p6 p7 p8 p9 p10 p11 p12 p13 h0 h1 h2 h3 h4) = are_named_functions cs _ _ _ _ _ _ h4 ∙ are_lengths_functions cs _ _ _ _ _ h1

  pub are_lengths_functions : (cs : List ClType) (i0 : Env) (i1 : Bool) (i2 : List (Option Expr)) (i3 : Env) (i4 : List Length) → AreLengths cs i0 i1 i2 i3 i4 → i3.functions ≡ i0.functions
  are_lengths_functions cs _ _ _ _ _ (no_length p0 p1) = refl
  are_lengths_functions cs _ _ _ _ _ (missing p0 p1 p2 p3 p4 h0) = are_lengths_functions cs _ _ _ _ _ h0
  are_lengths_functions cs _ _ _ _ _ (given p0 p1 p2 p3 p4 p5 p6 p7 p8 p9 h0 h1 h2 h3) = are_lengths_functions cs _ _ _ _ _ h3 ∙ types_functions cs _ _ _ _ _ _ h0

-- ---- initialisers

is_value_functions : (cs : List ClType) (constant : Bool) (env : Env) (e : Expr) (after : Env) (t : TExpr) (o : Operand) (varies : Bool) → IsValue cs constant env e after t o varies → after.functions ≡ env.functions
is_value_functions cs constant env e after t o varies h = types_functions cs env false e after t o h.types

mutual
  fills_part_functions : (cs : List ClType) (constant : Bool) (i0 : Env) (i1 : List Init) (i2 : TypeId) (i3 : Env) (i4 : List Init) (i5 : List TExpr) (i6 : Tally) → FillsPart cs constant i0 i1 i2 i3 i4 i5 i6 → i3.functions ≡ i0.functions
  fills_part_functions cs constant _ _ _ _ _ _ _ (by_list p0 p1 p2 p3 p4 p5 p6 p7 h0) = is_list_functions cs constant _ _ _ _ _ _ _ h0
  fills_part_functions cs constant _ _ _ _ _ _ _ (by_value p0 p1 p2 p3 p4 p5 p6 p7 p8 p9 h0 h1 h2 h3 h4) = is_value_functions cs _ _ _ _ _ _ _ h0
  fills_part_functions cs constant _ _ _ _ _ _ _ (by_wrong_value p0 p1 p2 p3 p4 p5 p6 p7 p8 h0 h1 h2 h3) = is_value_functions cs _ _ _ _ _ _ _ h0
  fills_part_functions cs constant _ _ _ _ _ _ _ (by_parts p0 p1 p2 p3 p4 p5 p6 p7 p8 p9 p10 p11 h0 h1 h2) = fills_parts_functions cs constant _ _ _ _ _ _ _ h2

  fills_parts_functions : (cs : List ClType) (constant : Bool) (i0 : Env) (i1 : List Init) (i2 : TypeId) (i3 : Env) (i4 : List Init) (i5 : List TExpr) (i6 : Tally) → FillsParts cs constant i0 i1 i2 i3 i4 i5 i6 → i3.functions ≡ i0.functions
  fills_parts_functions cs constant _ _ _ _ _ _ _ (its_elements p0 p1 p2 p3 p4 p5 p6 p7 p8 p9 h0 h1) = fills_elements_functions cs constant _ _ _ _ _ _ _ _ h1
  fills_parts_functions cs constant _ _ _ _ _ _ _ (its_members p0 p1 p2 p3 p4 p5 p6 h0 h1) = fills_members_functions cs constant _ _ _ _ _ _ _ h1

  fills_elements_functions : (cs : List ClType) (constant : Bool) (i0 : Env) (i1 : List Init) (i2 : TypeId) (i3 : ℕ) (i4 : Env) (i5 : List Init) (i6 : List TExpr) (i7 : Tally) → FillsElements cs constant i0 i1 i2 i3 i4 i5 i6 i7 → i4.functions ≡ i0.functions
  fills_elements_functions cs constant _ _ _ _ _ _ _ _ (elements_full p0 p1 p2) = refl
  fills_elements_functions cs constant _ _ _ _ _ _ _ _ (elements_ended p0 p1 p2) = refl
  fills_elements_functions cs constant _ _ _ _ _ _ _ _ (more_elements p0 p1 p2 p3 p4 p5 p6 p7 p8 p9 p10 p11 p12 h0 h1) = fills_elements_functions cs constant _ _ _ _ _ _ _ _ h1 ∙ fills_part_functions cs constant _ _ _ _ _ _ _ h0

  fills_members_functions : (cs : List ClType) (constant : Bool) (i0 : Env) (i1 : List Init) (i2 : List Member) (i3 : Env) (i4 : List Init) (i5 : List TExpr) (i6 : Tally) → FillsMembers cs constant i0 i1 i2 i3 i4 i5 i6 → i3.functions ≡ i0.functions
  fills_members_functions cs constant _ _ _ _ _ _ _ (members_full p0 p1) = refl
  fills_members_functions cs constant _ _ _ _ _ _ _ (members_ended p0 p1 p2) = refl
  fills_members_functions cs constant _ _ _ _ _ _ _ (more_members p0 p1 p2 p3 p4 p5 p6 p7 p8 p9 p10 p11 p12 h0 h1) = fills_members_functions cs constant _ _ _ _ _ _ _ h1 ∙ fills_part_functions cs constant _ _ _ _ _ _ _ h0

  fills_braces_functions : (cs : List ClType) (constant : Bool) (i0 : Env) (i1 : List Init) (i2 : TypeId) (i3 : Env) (i4 : List Init) (i5 : List TExpr) (i6 : Tally) → FillsBraces cs constant i0 i1 i2 i3 i4 i5 i6 → i3.functions ≡ i0.functions
  fills_braces_functions cs constant _ _ _ _ _ _ _ (its_parts p0 p1 p2 p3 p4 p5 p6 h0 h1) = fills_parts_functions cs constant _ _ _ _ _ _ _ h1
  fills_braces_functions cs constant _ _ _ _ _ _ _ (itself p0 p1 p2 p3 p4 p5 p6 h0 h1) = fills_part_functions cs constant _ _ _ _ _ _ _ h1

  is_list_functions : (cs : List ClType) (constant : Bool) (i0 : Env) (i1 : Place) (i2 : List Init) (i3 : TypeId) (i4 : Env) (i5 : TExpr) (i6 : Bool) → IsList cs constant i0 i1 i2 i3 i4 i5 i6 → i4.functions ≡ i0.functions
  is_list_functions cs constant _ _ _ _ _ _ _ (filled p0 p1 p2 p3 p4 p5 p6 p7 h0 h1 h2) = fills_braces_functions cs constant _ _ _ _ _ _ _ h0

pub fills_all_functions : (cs : List ClType) (constant : Bool) (i0 : Env) (i1 : List Init) (i2 : TypeId) (i3 : ℕ) (i4 : Env) (i5 : List TExpr) (i6 : Tally) → FillsAll cs constant i0 i1 i2 i3 i4 i5 i6 → i4.functions ≡ i0.functions
fills_all_functions cs constant _ _ _ _ _ _ _ (all_ended p0 p1) = refl
fills_all_functions cs constant _ _ _ _ _ _ _ (more_all p0 p1 p2 p3 p4 p5 p6 p7 p8 p9 p10 p11 h0 h1) = fills_all_functions cs constant _ _ _ _ _ _ _ h1 ∙ fills_part_functions cs constant _ _ _ _ _ _ _ h0

is_open_list_functions : (cs : List ClType) (constant : Bool) (env : Env) (items : List Init) (elem : TypeId) (after : Env) (n : ℕ) (ts : List TExpr) (varies : Bool) → IsOpenList cs constant env items elem after n ts varies → after.functions ≡ env.functions
is_open_list_functions cs constant env items elem after n ts varies h = fills_all_functions cs constant _ _ _ _ _ _ _ h.fills

pub is_initialised_functions : (cs : List ClType) (constant : Bool) (i0 : Env) (i1 : Option Init) (i2 : Sketch) (i3 : TypeId) (i4 : Env) (i5 : Option TExpr) (i6 : ℕ) (i7 : Tally) → IsInitialised cs constant i0 i1 i2 i3 i4 i5 i6 i7 → i4.functions ≡ i0.functions
is_initialised_functions cs constant _ _ _ _ _ _ _ _ (no_init p0 p1 p2) = refl
is_initialised_functions cs constant _ _ _ _ _ _ _ _ (init_value p0 p1 p2 p3 p4 p5 p6 p7 p8 p9 h0 h1 h2 h3) = is_value_functions cs _ _ _ _ _ _ _ h0
is_initialised_functions cs constant _ _ _ _ _ _ _ _ (init_wrong_value p0 p1 p2 p3 p4 p5 p6 p7 p8 h0 h1 h2) = is_value_functions cs _ _ _ _ _ _ _ h0
is_initialised_functions cs constant _ _ _ _ _ _ _ _ (init_list p0 p1 p2 p3 p4 p5 p6 p7 h0 h1) = is_list_functions cs constant _ _ _ _ _ _ _ h1
is_initialised_functions cs constant _ _ _ _ _ _ _ _ (init_open_list p0 p1 p2 p3 p4 p5 p6 p7 p8 p9 p10 p11 p12 p13 h0 h1 h2 h3 h4) = is_open_list_functions cs _ _ _ _ _ _ _ _ h2
is_initialised_functions cs constant _ _ _ _ _ _ _ _ (init_over_list p0 p1 p2 p3 p4 p5 p6 p7 p8 p9 p10 p11 h0 h1 h2 h3) = is_open_list_functions cs _ _ _ _ _ _ _ _ h2

pub is_variable_functions : (cs : List ClType) (w : Where) (kind : DeclaredKind) (again : Env → List ℕ → Bool) (env : Env) (q : Qualified) (d : InitDeclor) (after : Env) (text : List ℕ) (place : Place) (ty : TypeId) (own : Space) (t : Option TExpr) → IsVariable cs w kind again env q d after text place ty own t → after.functions ≡ env.functions
is_variable_functions cs w kind again env q d after text place ty own t h =
    ap (λ z. z.functions) h.scope ∙ is_initialised_functions cs _ _ _ _ _ _ _ _ _ h.initialised ∙ are_lengths_functions cs _ _ _ _ _ h.lengths
