-- A unit has one verdict, whatever numbers types have.
use Rattle.std.proofs.Common.{◌≡◌, ℕ, List, []}
use Rattle.clv_place.specs.declared.stop.Offence.{Offence}
use Rattle.cl_types.specs.declared.types.ClType.{ClType}
use Rattle.cl_types.specs.Table.{AreBuilt}
use Rattle.cl_ast.specs.declared.declaration.External.{External}
use Rattle.cl_typing.specs.declared.unit_state.UnitState.{UnitState}
use Rattle.cl_typing.specs.Units.{UnitIs, no_external, more_externals, SomeExternalOffends, this_external, later_external}
use Rattle.cl_renaming.specs.Renaming.{IsRenaming, AreTypes}
use Rattle.cl_verdicts.proofs.UnitRelation.{IsUnitAs}
use Rattle.cl_verdicts.proofs.ExternalVerdict.{external_same, external_no_offence, offence_no_external, external_offences_one}

module _ (cs ds : List ClType) (r : ℕ → ℕ) (e : IsRenaming cs ds r) (bc : AreBuilt [] cs) (b : AreTypes ds) (bodies : List (List ℕ)) where
  pub unit_same : (i0 : UnitState) (i1 : List External) (i2 : UnitState) → UnitIs cs bodies i0 i1 i2 → (j0 j2 : UnitState) → IsUnitAs r i0 j0 → UnitIs ds bodies j0 i1 j2 → IsUnitAs r i2 j2
  unit_same _ _ _ (no_external u) _ _ f (no_external u2) = f
  unit_same _ _ _ (more_externals u middle after x xs h0 h1) _ _ f (more_externals u2 middle2 after2 x2 xs2 k0 k1) =
      unit_same _ _ _ h1 middle2 after2 (external_same cs ds r e bc b bodies _ _ _ h0 u2 middle2 f k0) k1

  pub unit_no_offence : (j0 : UnitState) (j1 : List External) (j2 : Offence) → SomeExternalOffends ds bodies j0 j1 j2 → (i0 i2 : UnitState) → IsUnitAs r i0 j0 → UnitIs cs bodies i0 j1 i2 → ⊥
  unit_no_offence _ _ _ (this_external u2 x xs o h0) _ _ f (more_externals u middle after x1 xs1 k0 k1) = external_no_offence cs ds r e bc b bodies _ _ _ h0 u middle f k0
  unit_no_offence _ _ _ (later_external u2 middle2 x xs o h0 h1) _ _ f (more_externals u middle after x1 xs1 k0 k1) =
      unit_no_offence _ _ _ h1 middle after (external_same cs ds r e bc b bodies _ _ _ k0 u2 middle2 f h0) k1

  pub offence_no_unit : (j0 : UnitState) (j1 : List External) (j2 : Offence) → SomeExternalOffends cs bodies j0 j1 j2 → (i0 i2 : UnitState) → IsUnitAs r j0 i0 → UnitIs ds bodies i0 j1 i2 → ⊥
  offence_no_unit _ _ _ (this_external u x xs o h0) _ _ f (more_externals u2 middle2 after2 x1 xs1 k0 k1) = offence_no_external cs ds r e bc b bodies _ _ _ h0 u2 middle2 f k0
  offence_no_unit _ _ _ (later_external u middle x xs o h0 h1) _ _ f (more_externals u2 middle2 after2 x1 xs1 k0 k1) =
      offence_no_unit _ _ _ h1 middle2 after2 (external_same cs ds r e bc b bodies _ _ _ h0 u2 middle2 f k0) k1

  pub unit_offences_one : (j0 : UnitState) (j1 : List External) (j2 : Offence) → SomeExternalOffends cs bodies j0 j1 j2 → (i0 : UnitState) (p : Offence) → IsUnitAs r j0 i0 → SomeExternalOffends ds bodies i0 j1 p → p ≡ j2
  unit_offences_one _ _ _ (this_external u x xs o h0) _ _ f (this_external u2 x1 xs1 o2 k0) = external_offences_one cs ds r e bc b bodies _ _ _ h0 u2 o2 f k0
  unit_offences_one _ _ _ (this_external u x xs o h0) _ _ f (later_external u2 middle2 x1 xs1 o2 k0 k1) = absurd (offence_no_external cs ds r e bc b bodies _ _ _ h0 u2 middle2 f k0)
  unit_offences_one _ _ _ (later_external u middle x xs o h0 h1) _ _ f (this_external u2 x1 xs1 o2 k0) = absurd (external_no_offence cs ds r e bc b bodies _ _ _ k0 u middle f h0)
  unit_offences_one _ _ _ (later_external u middle x xs o h0 h1) _ _ f (later_external u2 middle2 x1 xs1 o2 k0 k1) =
      unit_offences_one _ _ _ h1 middle2 o2 (external_same cs ds r e bc b bodies _ _ _ h0 u2 middle2 f k0) k1
