-- A unit has one verdict: the two tables have a longer one in common, in which both judgements hold; and it goes by what the unit says.
use Rattle.std.proofs.Common.{◌≡◌, List, [], refl, sym, ◌∙◌, true≢false, append-nil}
use Rattle.clv_place.specs.declared.stop.Offence.{Offence}
use Rattle.cl_types.specs.declared.types.ClType.{ClType}
use Rattle.cl_types.specs.Table.{IsTable}
use Rattle.cl_builtins.specs.Found.{IsGrown}
use Rattle.cl_ast.specs.declared.declaration.Ast.{Ast}
use Rattle.cl_tree.specs.declared.tree.Tree.{Tree}
use Rattle.cl_tree.specs.Units.{has_kernel}
use Rattle.cl_make.specs.Ready.{From}
use Rattle.cl_typing.specs.declared.unit_state.UnitState.{UnitState}
use Rattle.cl_typing.specs.Units.{body_names, empty, UnitIs, SomeExternalOffends, IsTyped, IsOffence, in_unit, no_kernel}
use Rattle.cl_renaming.proofs.Tables.{joined, table_types}
use Rattle.cl_verdicts.specs.Verdicts.{NeverBoth, OneOffence}
use Rattle.cl_verdicts.proofs.PlainVerdict.{typed_plain, offence_plain}
use Rattle.cl_verdicts.proofs.UnitRelation.{unit_first}
use Rattle.cl_verdicts.proofs.UnitVerdict.{unit_same, unit_no_offence, offence_no_unit, unit_offences_one}

module _ (ast : Ast) (cs ds : List ClType) (a : IsTable cs) (b : IsTable ds) where
  -- a unit that is typed in the one table has no offence in the other, and no other kernels
  typed_no_offence : (last : UnitState) (o : Offence) → UnitIs cs (body_names ast.externals) empty ast.externals last → From ds (λ more. SomeExternalOffends more (body_names ast.externals) empty ast.externals o) → ⊥
  typed_no_offence last o x y =
      let j = joined cs ds (table_types cs a) (table_types ds b) in
      unit_no_offence cs j.all j.numbers j.is.renaming a.built j.is.types (body_names ast.externals) _ _ _ (y j.all j.is.grown) empty last (unit_first j.numbers) x

  same_kernels : (last last2 : UnitState) → UnitIs cs (body_names ast.externals) empty ast.externals last → From ds (λ more. UnitIs more (body_names ast.externals) empty ast.externals last2) → has_kernel last2.functions ≡ has_kernel last.functions
  same_kernels last last2 x y =
      let j = joined cs ds (table_types cs a) (table_types ds b) in
      (unit_same cs j.all j.numbers j.is.renaming a.built j.is.types (body_names ast.externals) _ _ _ x empty last2 (unit_first j.numbers) (y j.all j.is.grown)).kernel

  offences_one : (o p : Offence) → SomeExternalOffends cs (body_names ast.externals) empty ast.externals o → From ds (λ more. SomeExternalOffends more (body_names ast.externals) empty ast.externals p) → p ≡ o
  offences_one o p x y =
      let j = joined cs ds (table_types cs a) (table_types ds b) in
      unit_offences_one cs j.all j.numbers j.is.renaming a.built j.is.types (body_names ast.externals) _ _ _ x empty p (unit_first j.numbers) (y j.all j.is.grown)

  offence_no_types : (last : UnitState) (o : Offence) → SomeExternalOffends cs (body_names ast.externals) empty ast.externals o → From ds (λ more. UnitIs more (body_names ast.externals) empty ast.externals last) → ⊥
  offence_no_types last o x y =
      let j = joined cs ds (table_types cs a) (table_types ds b) in
      offence_no_unit cs j.all j.numbers j.is.renaming a.built j.is.types (body_names ast.externals) _ _ _ x empty last (unit_first j.numbers) (y j.all j.is.grown)

-- ---- of one unit

typed_or_offends : (ast : Ast) (tree : Tree) (o : Offence) → IsTyped ast tree → IsOffence ast o → ⊥
typed_or_offends ast tree _ x (in_unit ds o b y) = typed_no_offence ast tree.types ds x.types b x.last o x.is y
typed_or_offends ast tree _ x (no_kernel ds last b y none) = true≢false (sym x.kernel ∙ sym (same_kernels ast tree.types ds x.types b x.last last x.is y) ∙ none)

itself : (cs : List ClType) → IsGrown cs cs
itself cs = ([], sym (append-nil cs))

offends_once : (ast : Ast) (o p : Offence) → IsOffence ast o → IsOffence ast p → p ≡ o
offends_once ast _ _ (in_unit cs o a x) (in_unit ds p b y) = offences_one ast cs ds a b o p (x cs (itself cs)) y
offends_once ast _ _ (in_unit cs o a x) (no_kernel ds last b y none) = absurd (offence_no_types ast cs ds a b last o (x cs (itself cs)) y)
offends_once ast _ _ (no_kernel cs last a x none) (in_unit ds p b y) = absurd (typed_no_offence ast cs ds a b last p (x cs (itself cs)) y)
offends_once ast _ _ (no_kernel cs last a x none) (no_kernel ds last2 b y none2) = refl

-- ---- of two units that say the same

pub never_both : NeverBoth
never_both a b tree o same x y = typed_or_offends b tree o (typed_plain a tree x b (sym same)) y

pub one_offence : OneOffence
one_offence a b o p same x y = offends_once b o p (offence_plain a o x b (sym same)) y
