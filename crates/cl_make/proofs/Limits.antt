-- Types without elements and members are within the limits of a table.
use Rattle.std.proofs.Common.{◌≡◌, List, [], subst, arith, lit≤}
use Rattle.cl_types.specs.declared.stop.TypeStop.{TypeStop}
use Rattle.cl_types.specs.declared.stop.TypeStop.TheVariants.{TooLarge, TooDeep}
use Rattle.cl_types.specs.declared.types.ClType.{ClType}
use Rattle.cl_types.specs.declared.types.ClType.TheVariants as ty
use Rattle.cl_types.specs.Layout.{Scalar}
use Rattle.cl_types.specs.Table.{IsBuilt, AreBuilt, IsWithin, IsOver, tree_from, trees}
use Rattle.cl_builtins.proofs.Limits.{not_large, not_deep}
use Rattle.cl_make.specs.Wanted.{IsFlat}

pointer_within : IsWithin (Scalar 32)
pointer_within = record { size = lit≤ tt; depth = lit≤ tt }

-- so a table refuses them for neither limit
module _ (cs : List ClType) (s : TypeStop) (b : AreBuilt [] cs) where
  pub flat_not_large : (c : ClType) → IsBuilt cs c → IsFlat c → IsOver (tree_from (trees cs) c) s → s ≡ TooLarge → ⊥
  flat_not_large ty.Void h f o e = not_large cs ty.Void s b h tt o e
  flat_not_large ty.Bool h f o e = not_large cs ty.Bool s b h tt o e
  flat_not_large (ty.Int bits signed) h f o e = not_large cs (ty.Int bits signed) s b h tt o e
  flat_not_large (ty.Vector elem n) h f o e = not_large cs (ty.Vector elem n) s b h tt o e
  flat_not_large (ty.Array elem n) h f o e = f
  flat_not_large (ty.Struct name members) h f o e = f
  flat_not_large (ty.Pointer space to readonly restricted) h f o e =
      let w = pointer_within in
      let l = subst (IsOver (Scalar 32)) e o in
      omega (arith, w.size, l)

  pub flat_not_deep : (c : ClType) → IsBuilt cs c → IsFlat c → IsOver (tree_from (trees cs) c) s → s ≡ TooDeep → ⊥
  flat_not_deep ty.Void h f o e = not_deep cs ty.Void s b h tt o e
  flat_not_deep ty.Bool h f o e = not_deep cs ty.Bool s b h tt o e
  flat_not_deep (ty.Int bits signed) h f o e = not_deep cs (ty.Int bits signed) s b h tt o e
  flat_not_deep (ty.Vector elem n) h f o e = not_deep cs (ty.Vector elem n) s b h tt o e
  flat_not_deep (ty.Array elem n) h f o e = f
  flat_not_deep (ty.Struct name members) h f o e = f
  flat_not_deep (ty.Pointer space to readonly restricted) h f o e =
      let w = pointer_within in
      let l = subst (IsOver (Scalar 32)) e o in
      omega (arith, w.depth, l.1)
