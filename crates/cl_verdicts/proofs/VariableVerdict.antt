-- A declared variable has one verdict, whatever numbers types have.
use Rattle.std.proofs.Common.{◌≡◌, ℕ, List, [], refl, sym, ap, ◌∙◌, Option}
use Rattle.clv_place.specs.declared.place.Place.{Place}
use Rattle.clv_place.specs.declared.stop.Offence.{Offence}
use Rattle.cl_types.specs.declared.types.ClType.{ClType}
use Rattle.cl_types.specs.declared.types.TypeId.{TypeId}
use Rattle.cl_types.specs.declared.space.Space.{Space}
use Rattle.cl_types.specs.Table.{AreBuilt}
use Rattle.cl_ast.specs.declared.declaration.InitDeclor.{InitDeclor}
use Rattle.cl_tree.specs.declared.expression.TExpr.{TExpr}
use Rattle.cl_rules.specs.declared.rule.Qualified.{Qualified}
use Rattle.cl_scope.specs.declared.scope.DeclaredKind.{DeclaredKind}
use Rattle.cl_scope.specs.Names.{Env}
use Rattle.cl_variables.specs.declared.declaring.Where.{Where}
use Rattle.cl_variables.specs.Answers.{again_at}
use Rattle.cl_variables.specs.Declarations.{IsVariable, VariableOffends}
use Rattle.cl_renaming.specs.Renaming.{type_id, qualified_as, env_as, IsRenaming, AreTypes}
use Rattle.cl_verdicts.proofs.VariableOutcomes.{stops, gives_same, gives_stops, stops_same, making, making_as}
use Rattle.cl_verdicts.proofs.VariableDeclaring.{named_by, variable_comes, variable_breaks, variable_one}

module _ (cs ds : List ClType) (r : ℕ → ℕ) (e : IsRenaming cs ds r) (bc : AreBuilt [] cs) (b : AreTypes ds) where
  pub variable_same : (w : Where) (k : DeclaredKind) (env : Env) (q : Qualified) (d : InitDeclor) (after : Env) (name : List ℕ) (place : Place) (ty : TypeId) (own : Space) (t : Option TExpr) → IsVariable cs w k (again_at w) env q d after name place ty own t → (env2 : Env) (q2 : Qualified) (after2 : Env) (name2 : List ℕ) (place2 : Place) (ty2 : TypeId) (own2 : Space) (t2 : Option TExpr) → env2 ≡ env_as r env → q2 ≡ qualified_as r q → IsVariable ds w k (again_at w) env2 q2 d after2 name2 place2 ty2 own2 t2 → (after2 ≡ env_as r after) × (name2 ≡ name) × (place2 ≡ place) × (ty2 ≡ type_id r ty) × (own2 ≡ own)
  variable_same w k env q d after name place ty own t x env2 q2 after2 name2 place2 ty2 own2 t2 f g y =
      let s = gives_same (making after2 ty2 own2) (making_as r (making after ty own)) (variable_one cs ds r e bc b w k d.init (named_by d.name) env q _ (variable_comes cs w k env q d after name place ty own t x) env2 q2 _ f g (variable_comes ds w k env2 q2 d after2 name2 place2 ty2 own2 t2 y)) in
      (ap (λ m. m.env) s, sym y.is.is ∙ x.is.is, sym y.is.at ∙ x.is.at, ap (λ m. m.ty) s, ap (λ m. m.own) s)

  pub variable_no_offence : (w : Where) (k : DeclaredKind) (env2 : Env) (q2 : Qualified) (d : InitDeclor) (o : Offence) → VariableOffends ds w k (again_at w) env2 q2 d o → (env : Env) (q : Qualified) (after : Env) (name : List ℕ) (place : Place) (ty : TypeId) (own : Space) (t : Option TExpr) → env2 ≡ env_as r env → q2 ≡ qualified_as r q → IsVariable cs w k (again_at w) env q d after name place ty own t → ⊥
  variable_no_offence w k env2 q2 d o x env q after name place ty own t f g y =
      gives_stops (making_as r (making after ty own)) o (sym (variable_one cs ds r e bc b w k d.init (named_by d.name) env q _ (variable_comes cs w k env q d after name place ty own t y) env2 q2 _ f g (variable_breaks ds w k env2 q2 d o x)))

  pub offence_no_variable : (w : Where) (k : DeclaredKind) (env : Env) (q : Qualified) (d : InitDeclor) (o : Offence) → VariableOffends cs w k (again_at w) env q d o → (env2 : Env) (q2 : Qualified) (after2 : Env) (name2 : List ℕ) (place2 : Place) (ty2 : TypeId) (own2 : Space) (t2 : Option TExpr) → env2 ≡ env_as r env → q2 ≡ qualified_as r q → IsVariable ds w k (again_at w) env2 q2 d after2 name2 place2 ty2 own2 t2 → ⊥
  offence_no_variable w k env q d o x env2 q2 after2 name2 place2 ty2 own2 t2 f g y =
      gives_stops (making after2 ty2 own2) o (variable_one cs ds r e bc b w k d.init (named_by d.name) env q _ (variable_breaks cs w k env q d o x) env2 q2 _ f g (variable_comes ds w k env2 q2 d after2 name2 place2 ty2 own2 t2 y))

  pub variable_offences_one : (w : Where) (k : DeclaredKind) (env : Env) (q : Qualified) (d : InitDeclor) (o : Offence) → VariableOffends cs w k (again_at w) env q d o → (env2 : Env) (q2 : Qualified) (o2 : Offence) → env2 ≡ env_as r env → q2 ≡ qualified_as r q → VariableOffends ds w k (again_at w) env2 q2 d o2 → o2 ≡ o
  variable_offences_one w k env q d o x env2 q2 o2 f g y =
      stops_same o2 o (stops o2) refl (variable_one cs ds r e bc b w k d.init (named_by d.name) env q _ (variable_breaks cs w k env q d o x) env2 q2 _ f g (variable_breaks ds w k env2 q2 d o2 y))
