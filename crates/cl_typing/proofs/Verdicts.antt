-- The verdict on a unit.
use Rattle.std.proofs.Common.{◌≡◌, true, false, List, map, sym, ap, ◌∙◌, subst}
use Rattle.clv_place.specs.declared.stop.Stop.{Stop}
use Rattle.clv_place.specs.declared.stop.Stop.TheVariants.{Out, NoMemory}
use Rattle.cl_types.specs.declared.types.ClType.{ClType}
use Rattle.cl_types.specs.Table.{IsTable}
use Rattle.cl_ast.specs.declared.declaration.Ast.{Ast}
use Rattle.cl_tree.specs.declared.tree.Tree.{Tree}
use Rattle.cl_tree.specs.declared.unit.Function.{Function}
use Rattle.cl_tree.specs.Units.{are_allowed, has_kernel, is_unit}
use Rattle.cl_make.proofs.Stays.{from_now}
use Rattle.cl_type_expr.specs.Offences.{at}
use Rattle.cl_typing.specs.declared.unit_state.UnitState.{UnitState}
use Rattle.cl_typing.specs.UnitAnswers.{UnitIsTyped, UnitStops}
use Rattle.cl_typing.specs.Units.{body_names, empty, with_size, UnitIs, IsTyped, StopsAt, first_place, in_unit, no_kernel}
use Rattle.cl_typing.proofs.UnitTree.{unit_tree}

module _ (ast : Ast) (cs : List ClType) (b : IsTable cs) where
  pub unit_out : (x : Stop) → UnitStops cs (body_names ast.externals) empty ast.externals x → StopsAt ast x
  unit_out NoMemory h = tt
  unit_out (Out o) h = in_unit cs o b h

  module _ (last : UnitState) (h : UnitIsTyped cs (body_names ast.externals) empty ast.externals last) where
    unit_is : UnitIs cs (body_names ast.externals) empty ast.externals last
    unit_is = from_now cs (λ more. UnitIs more (body_names ast.externals) empty ast.externals last) h.is

    pub unit_has_no_kernel : has_kernel last.functions ≡ false → StopsAt ast (Out (at 335 first_place))
    unit_has_no_kernel none = no_kernel cs last b h.is none

    pub unit_typed : (tree : Tree) → tree.types ≡ cs → tree.constants ≡ last.constants → tree.functions ≡ map (with_size last) last.functions → has_kernel last.functions ≡ true → IsTyped ast tree
    unit_typed tree types constants functions kernel = record {
      types = subst IsTable (sym types) b;
      last = last;
      is = subst (λ z. UnitIs z (body_names ast.externals) empty ast.externals last) (sym types) unit_is;
      constants = constants;
      functions = functions;
      kernel = kernel;
    }

    -- its tree may be made
    pub unit_stands : (functions : List Function) → functions ≡ map (with_size last) last.functions → are_allowed cs cs ≡ true → has_kernel last.functions ≡ true → is_unit cs last.constants functions ≡ true
    unit_stands functions are allowed kernel = ap (is_unit cs last.constants) are ∙ unit_tree cs ast.externals last unit_is b allowed kernel
