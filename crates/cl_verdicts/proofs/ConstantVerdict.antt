-- The constants of a unit have one verdict, whatever numbers types have.
use Rattle.std.proofs.Common.{◌≡◌, ℕ, List, [], length, subst, Option, Some}
use Rattle.clv_place.specs.declared.place.Place.{Place}
use Rattle.clv_place.specs.declared.stop.Offence.{Offence}
use Rattle.cl_types.specs.declared.types.ClType.{ClType}
use Rattle.cl_types.specs.declared.types.TypeId.{TypeId}
use Rattle.cl_types.specs.declared.space.Space.{Space}
use Rattle.cl_types.specs.Table.{AreBuilt}
use Rattle.cl_ast.specs.declared.declaration.InitDeclor.{InitDeclor}
use Rattle.cl_tree.specs.declared.expression.TExpr.{TExpr}
use Rattle.cl_rules.specs.declared.rule.Qualified.{Qualified}
use Rattle.cl_scope.specs.declared.scope.DeclaredKind.{DeclaredKind}
use Rattle.cl_scope.specs.declared.scope.DeclaredKind.TheVariants as kind
use Rattle.cl_scope.specs.Names.{Env}
use Rattle.cl_variables.specs.declared.declaring.Where.TheVariants.{AtFileScope}
use Rattle.cl_variables.specs.Answers.{again_at}
use Rattle.cl_variables.specs.Declarations.{IsVariable, VariableOffends}
use Rattle.cl_typing.specs.declared.unit_state.UnitState.{UnitState}
use Rattle.cl_typing.specs.Units.{and_constant, constant_of, ConstantsDeclared, none_declared, one_declared, SomeConstantOffends, this_constant, later_constant}
use Rattle.cl_renaming.specs.Renaming.{qualified_as, IsRenaming, AreTypes}
use Rattle.cl_verdicts.proofs.UnitRelation.{IsUnitAs, unit_constant}
use Rattle.cl_verdicts.proofs.VariableVerdict.{variable_same, variable_no_offence, offence_no_variable, variable_offences_one}

abbrev kind_in : UnitState → DeclaredKind
kind_in u = kind.Constant (length u.constants)

module _ (cs ds : List ClType) (r : ℕ → ℕ) (e : IsRenaming cs ds r) (bc : AreBuilt [] cs) (b : AreTypes ds) where
  module _ (u v : UnitState) (f : IsUnitAs r u v) (q q2 : Qualified) (g : q2 ≡ qualified_as r q) (d : InitDeclor) where
    constant_here : (env2 : Env) (name2 : List ℕ) (place2 : Place) (ty2 : TypeId) (own2 : Space) (t2 : Option TExpr) → IsVariable ds AtFileScope (kind_in v) (again_at AtFileScope) v.env q2 d env2 name2 place2 ty2 own2 t2 → IsVariable ds AtFileScope (kind_in u) (again_at AtFileScope) v.env q2 d env2 name2 place2 ty2 own2 t2
    constant_here env2 name2 place2 ty2 own2 t2 x = subst (λ n. IsVariable ds AtFileScope (kind.Constant n) (again_at AtFileScope) v.env q2 d env2 name2 place2 ty2 own2 t2) f.constants x

    offence_here : (o : Offence) → VariableOffends ds AtFileScope (kind_in v) (again_at AtFileScope) v.env q2 d o → VariableOffends ds AtFileScope (kind_in u) (again_at AtFileScope) v.env q2 d o
    offence_here o x = subst (λ n. VariableOffends ds AtFileScope (kind.Constant n) (again_at AtFileScope) v.env q2 d o) f.constants x

    behind_here : (env env2 : Env) (name name2 : List ℕ) (place place2 : Place) (ty ty2 : TypeId) (own own2 : Space) (t t2 : Option TExpr) (bytes bytes2 : List ℕ) → IsVariable cs AtFileScope (kind_in u) (again_at AtFileScope) u.env q d env name place ty own t → IsVariable ds AtFileScope (kind_in v) (again_at AtFileScope) v.env q2 d env2 name2 place2 ty2 own2 t2 → IsUnitAs r (and_constant env (constant_of name ty own place bytes) u) (and_constant env2 (constant_of name2 ty2 own2 place2 bytes2) v)
    behind_here env env2 name name2 place place2 ty ty2 own own2 t t2 bytes bytes2 x y =
        let a = variable_same cs ds r e bc b AtFileScope (kind_in u) u.env q d env name place ty own t x v.env q2 env2 name2 place2 ty2 own2 t2 f.env g (constant_here env2 name2 place2 ty2 own2 t2 y) in
        unit_constant r u v env env2 (constant_of name ty own place bytes) (constant_of name2 ty2 own2 place2 bytes2) f a.0

    here_no_offence : (env : Env) (name : List ℕ) (place : Place) (ty : TypeId) (own : Space) (t : Option TExpr) (o : Offence) → VariableOffends ds AtFileScope (kind_in v) (again_at AtFileScope) v.env q2 d o → IsVariable cs AtFileScope (kind_in u) (again_at AtFileScope) u.env q d env name place ty own t → ⊥
    here_no_offence env name place ty own t o x y = variable_no_offence cs ds r e bc b AtFileScope (kind_in u) v.env q2 d o (offence_here o x) u.env q env name place ty own t f.env g y

    offence_not_here : (env2 : Env) (name2 : List ℕ) (place2 : Place) (ty2 : TypeId) (own2 : Space) (t2 : Option TExpr) (o : Offence) → VariableOffends cs AtFileScope (kind_in u) (again_at AtFileScope) u.env q d o → IsVariable ds AtFileScope (kind_in v) (again_at AtFileScope) v.env q2 d env2 name2 place2 ty2 own2 t2 → ⊥
    offence_not_here env2 name2 place2 ty2 own2 t2 o x y = offence_no_variable cs ds r e bc b AtFileScope (kind_in u) u.env q d o x v.env q2 env2 name2 place2 ty2 own2 t2 f.env g (constant_here env2 name2 place2 ty2 own2 t2 y)

    here_one : (o o2 : Offence) → VariableOffends cs AtFileScope (kind_in u) (again_at AtFileScope) u.env q d o → VariableOffends ds AtFileScope (kind_in v) (again_at AtFileScope) v.env q2 d o2 → o2 ≡ o
    here_one o o2 x y = variable_offences_one cs ds r e bc b AtFileScope (kind_in u) u.env q d o x v.env q2 o2 f.env g (offence_here o2 y)

  pub declared_same : (i0 : UnitState) (i1 : Qualified) (i2 : List InitDeclor) (i3 : UnitState) → ConstantsDeclared cs i0 i1 i2 i3 → (j0 : UnitState) (j1 : Qualified) (j3 : UnitState) → IsUnitAs r i0 j0 → j1 ≡ qualified_as r i1 → ConstantsDeclared ds j0 j1 i2 j3 → IsUnitAs r i3 j3
  declared_same _ _ _ _ (none_declared u q) _ _ _ f g (none_declared u2 q2) = f
  declared_same _ _ _ _ (one_declared u after q d xs env name place ty own t bytes h0 h1 h2) _ _ _ f g (one_declared u2 after2 q2 d2 xs2 env2 name2 place2 ty2 own2 t2 bytes2 k0 k1 k2) =
      declared_same _ _ _ _ h2 _ q2 after2 (behind_here u u2 f q q2 g d env env2 name name2 place place2 ty ty2 own own2 (Some t) (Some t2) bytes bytes2 h0 k0) g k2

  pub declared_no_offence : (j0 : UnitState) (j1 : Qualified) (j2 : List InitDeclor) (j3 : Offence) → SomeConstantOffends ds j0 j1 j2 j3 → (i0 : UnitState) (i1 : Qualified) (i3 : UnitState) → IsUnitAs r i0 j0 → j1 ≡ qualified_as r i1 → ConstantsDeclared cs i0 i1 j2 i3 → ⊥
  declared_no_offence _ _ _ _ (this_constant u2 q2 d xs o h0) _ _ _ f g (one_declared u after q d1 xs1 env name place ty own t bytes k0 k1 k2) =
      here_no_offence u u2 f q q2 g d env name place ty own (Some t) o h0 k0
  declared_no_offence _ _ _ _ (later_constant u2 q2 d xs env2 name2 place2 ty2 own2 t2 bytes2 o h0 h1 h2) _ _ _ f g (one_declared u after q d1 xs1 env name place ty own t bytes k0 k1 k2) =
      declared_no_offence _ _ _ _ h2 _ q after (behind_here u u2 f q q2 g d env env2 name name2 place place2 ty ty2 own own2 (Some t) (Some t2) bytes bytes2 k0 h0) g k2

  pub offence_no_declared : (j0 : UnitState) (j1 : Qualified) (j2 : List InitDeclor) (j3 : Offence) → SomeConstantOffends cs j0 j1 j2 j3 → (i0 : UnitState) (i1 : Qualified) (i3 : UnitState) → IsUnitAs r j0 i0 → i1 ≡ qualified_as r j1 → ConstantsDeclared ds i0 i1 j2 i3 → ⊥
  offence_no_declared _ _ _ _ (this_constant u q d xs o h0) _ _ _ f g (one_declared u2 after2 q2 d2 xs2 env2 name2 place2 ty2 own2 t2 bytes2 k0 k1 k2) =
      offence_not_here u u2 f q q2 g d env2 name2 place2 ty2 own2 (Some t2) o h0 k0
  offence_no_declared _ _ _ _ (later_constant u q d xs env name place ty own t bytes o h0 h1 h2) _ _ _ f g (one_declared u2 after2 q2 d2 xs2 env2 name2 place2 ty2 own2 t2 bytes2 k0 k1 k2) =
      offence_no_declared _ _ _ _ h2 _ q2 after2 (behind_here u u2 f q q2 g d env env2 name name2 place place2 ty ty2 own own2 (Some t) (Some t2) bytes bytes2 h0 k0) g k2

  pub declared_offences_one : (j0 : UnitState) (j1 : Qualified) (j2 : List InitDeclor) (j3 : Offence) → SomeConstantOffends cs j0 j1 j2 j3 → (i0 : UnitState) (i1 : Qualified) (p : Offence) → IsUnitAs r j0 i0 → i1 ≡ qualified_as r j1 → SomeConstantOffends ds i0 i1 j2 p → p ≡ j3
  declared_offences_one _ _ _ _ (this_constant u q d xs o h0) _ _ _ f g (this_constant u2 q2 d2 xs2 o2 k0) = here_one u u2 f q q2 g d o o2 h0 k0
  declared_offences_one _ _ _ _ (this_constant u q d xs o h0) _ _ _ f g (later_constant u2 q2 d2 xs2 env2 name2 place2 ty2 own2 t2 bytes2 o2 k0 k1 k2) =
      absurd (offence_not_here u u2 f q q2 g d env2 name2 place2 ty2 own2 (Some t2) o h0 k0)
  declared_offences_one _ _ _ _ (later_constant u q d xs env name place ty own t bytes o h0 h1 h2) _ _ _ f g (this_constant u2 q2 d2 xs2 o2 k0) =
      absurd (here_no_offence u u2 f q q2 g d env name place ty own (Some t) o2 k0 h0)
  declared_offences_one _ _ _ _ (later_constant u q d xs env name place ty own t bytes o h0 h1 h2) _ _ _ f g (later_constant u2 q2 d2 xs2 env2 name2 place2 ty2 own2 t2 bytes2 o2 k0 k1 k2) =
      declared_offences_one _ _ _ _ h2 _ q2 o2 (behind_here u u2 f q q2 g d env env2 name name2 place place2 ty ty2 own own2 (Some t) (Some t2) bytes bytes2 h0 k0) g k2
