-- An expression has one verdict: the two tables have a longer one in common, in which both judgements hold.
use Rattle.std.proofs.Common.{refl}
use Rattle.cl_scope.specs.Names.{nothing}
use Rattle.cl_renaming.specs.Renaming.{env_as}
use Rattle.cl_renaming.specs.Verdicts.{OneTree, NeverBoth, NeverTyped, OneOffence, RenamedTree, RenamedNeverBoth, RenamedNeverTyped, RenamedOffence}
use Rattle.cl_renaming.proofs.Tables.{joined}
use Rattle.cl_renaming.proofs.Agreement.{types_same}
use Rattle.cl_renaming.proofs.Excluded.{typed_no_offence}
use Rattle.cl_renaming.proofs.Excluding.{offence_no_type}
use Rattle.cl_renaming.proofs.OneOffence.{offences_one}

pub one_tree : OneTree
one_tree cs ds left e after after2 t t2 o o2 a b x y =
    let j = joined cs ds a b in
    let s = types_same cs j.all j.numbers j.is.renaming a.built j.is.types _ _ _ _ _ _ x nothing after2 t2 o2 refl (y j.all j.is.grown) in
    record { numbers = j.numbers; differ = j.is.renaming.differ; declares = s.0; operand = s.1; tree = s.2 }

pub never_both : NeverBoth
never_both cs ds left e after t o p a b x y =
    let j = joined cs ds a b in
    typed_no_offence cs j.all j.numbers j.is.renaming a.built j.is.types _ _ _ _ (y j.all j.is.grown) nothing after t o refl x

pub never_typed : NeverTyped
never_typed cs ds left e after t o p a b x y =
    let j = joined cs ds a b in
    offence_no_type cs j.all j.numbers j.is.renaming a.built j.is.types _ _ _ _ x nothing after t o refl (y j.all j.is.grown)

pub one_offence : OneOffence
one_offence cs ds left e p q a b x y =
    let j = joined cs ds a b in
    offences_one cs j.all j.numbers j.is.renaming a.built j.is.types _ _ _ _ x nothing q refl (y j.all j.is.grown)

pub renamed_tree : RenamedTree
renamed_tree cs ds r env after after2 left e t t2 o o2 g a b x y = types_same cs ds r g a.built b _ _ _ _ _ _ x (env_as r env) after2 t2 o2 refl y

pub renamed_never_both : RenamedNeverBoth
renamed_never_both cs ds r env after left e t o p g a b x y = typed_no_offence cs ds r g a.built b _ _ _ _ y env after t o refl x

pub renamed_never_typed : RenamedNeverTyped
renamed_never_typed cs ds r env after left e t o p g a b x y = offence_no_type cs ds r g a.built b _ _ _ _ x (env_as r env) after t o refl y

pub renamed_offence : RenamedOffence
renamed_offence cs ds r env left e p q g a b x y = offences_one cs ds r g a.built b _ _ _ _ x (env_as r env) q refl y
