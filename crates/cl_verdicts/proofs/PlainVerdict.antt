-- What is typed, or has an offence, is so for each unit that says the same.
use Rattle.std.proofs.Common.{◌≡◌, sym, subst}
use Rattle.clv_place.specs.declared.stop.Offence.{Offence}
use Rattle.cl_ast.specs.declared.declaration.Ast.{Ast}
use Rattle.cl_tree.specs.declared.tree.Tree.{Tree}
use Rattle.cl_typing.specs.Units.{body_names, empty, UnitIs, SomeExternalOffends, IsTyped, IsOffence, in_unit, no_kernel}
use Rattle.cl_plain.specs.Plain.{plain_external, plain_unit}
use Rattle.cl_verdicts.proofs.PlainAlike.{alike}
use Rattle.cl_verdicts.proofs.PlainUnitParts.{body_names_same}
use Rattle.cl_verdicts.proofs.PlainUnits.{unit_plain}
use Rattle.cl_verdicts.proofs.PlainUnitOffences.{unit_offends_plain}

pub typed_plain : (a : Ast) (tree : Tree) → IsTyped a tree → (b : Ast) → plain_unit b.externals ≡ plain_unit a.externals → IsTyped b tree
typed_plain a tree x b p =
    let s = alike plain_external b.externals a.externals p in
    record {
      types = x.types;
      last = x.last;
      is = subst (λ names. UnitIs tree.types names empty b.externals x.last) (sym (body_names_same b.externals a.externals s)) (unit_plain tree.types (body_names a.externals) _ _ _ x.is b.externals s);
      constants = x.constants;
      functions = x.functions;
      kernel = x.kernel;
    }

pub offence_plain : (a : Ast) (o : Offence) → IsOffence a o → (b : Ast) → plain_unit b.externals ≡ plain_unit a.externals → IsOffence b o
offence_plain a _ (in_unit cs o t x) b p =
    let s = alike plain_external b.externals a.externals p in
    in_unit cs o t (λ more grown. subst (λ names. SomeExternalOffends more names empty b.externals o) (sym (body_names_same b.externals a.externals s)) (unit_offends_plain more (body_names a.externals) _ _ _ (x more grown) b.externals s))
offence_plain a _ (no_kernel cs last t x none) b p =
    let s = alike plain_external b.externals a.externals p in
    no_kernel cs last t (λ more grown. subst (λ names. UnitIs more names empty b.externals last) (sym (body_names_same b.externals a.externals s)) (unit_plain more (body_names a.externals) _ _ _ (x more grown) b.externals s)) none
