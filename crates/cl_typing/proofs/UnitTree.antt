-- What a typed unit leaves makes a typed tree.
use Rattle.std.proofs.Common.{◌≡◌, Bool, true, List, map, ◌∙◌}
use Rattle.cl_types.specs.declared.types.ClType.{ClType}
use Rattle.cl_types.specs.Table.{IsTable}
use Rattle.cl_ast.specs.declared.declaration.Ast.{Ast}
use Rattle.cl_ast.specs.declared.declaration.External.{External}
use Rattle.cl_tree.specs.declared.tree.Tree.{Tree}
use Rattle.cl_tree.specs.Facts.{Lists}
use Rattle.cl_tree.specs.Units.{callee_of, variables_of, has_kernel, are_allowed, is_unit}
use Rattle.cl_scope.specs.declared.scope.DeclaredKind.TheVariants as kind
use Rattle.cl_variables.specs.declared.declaring.Where.{Where}
use Rattle.cl_variables.specs.declared.declaring.Where.TheVariants.{AtFileScope, InKernel, Inside}
use Rattle.cl_variables.specs.Answers.{again_at}
use Rattle.cl_laws.proofs.TreesFit.{types_fit, is_specified_fit, are_lengths_fit}
use Rattle.cl_laws.proofs.VariablesFit.{variable_fits, variable_stands, constant_stands, constant_agrees}
use Rattle.cl_laws.proofs.VariablesFit as declared
use Rattle.cl_typing.specs.declared.unit_state.UnitState.{UnitState}
use Rattle.cl_typing.specs.Units.{body_names, empty, with_size, UnitIs, IsTyped}
use Rattle.cl_typing.proofs.ConstantBools.{bools_low}
use Rattle.cl_typing.proofs.StatementsFit.{MayStand, ExpressionsFit}
use Rattle.cl_typing.proofs.UnitFits.{lists, unit_fits}

may_stand : (w : Where) (kernel : Bool) → MayStand w kernel → declared.MayStand w kernel
may_stand AtFileScope kernel m = m
may_stand InKernel kernel m = m
may_stand Inside kernel m = m

expressions_fit : (l : Lists) → IsTable l.types → are_allowed l.types l.types ≡ true → ExpressionsFit l
expressions_fit l b allowed = record {
  types = λ env left e after t o h a. types_fit l b allowed env left e after t o h a;
  specified = λ env s after q h a. is_specified_fit l b allowed env s after q h a;
  variable = λ w k env q d after name place ty own t v ready h at same here a. variable_fits l b (types_fit l b allowed) w (again_at w) env q d after name place ty own t k v h at same here a;
  stands = λ w k env q d after name place ty own t kernel v ready h may same here. variable_stands l.types w (kind.Var k) (again_at w) env q d after name place ty own t ready h kernel v (may_stand w kernel may) same here;
  lengths = λ env may es after ls h a. are_lengths_fit l b allowed env may es after ls h a;
  constant = λ k env q d after name place ty own t v h at same here a. constant_agrees l b (types_fit l b allowed) AtFileScope (again_at AtFileScope) env q d after name place ty own t k v h at same here a;
  object = λ k env q d after name place ty own t ready h. constant_stands l.types (kind.Constant k) (again_at AtFileScope) env q d after name place ty own t ready h;
  bools = bools_low l;
}

-- the unit of a typed text is one whose tree may be made
pub unit_tree : (cs : List ClType) (es : List External) (last : UnitState) → UnitIs cs (body_names es) empty es last → IsTable cs → are_allowed cs cs ≡ true → has_kernel last.functions ≡ true → is_unit cs last.constants (map (with_size last) last.functions) ≡ true
unit_tree cs es last is b allowed kernel = unit_fits cs es last is b (λ params vars. expressions_fit (lists cs (variables_of last.constants) (map callee_of (map (with_size last) last.functions)) params vars) b allowed) allowed kernel

pub typed_tree : (ast : Ast) (tree : Tree) → IsTyped ast tree → IsTable tree.types → are_allowed tree.types tree.types ≡ true → is_unit tree.types tree.constants tree.functions ≡ true
typed_tree ast tree t b allowed = (λ i. is_unit tree.types (t.constants i) (t.functions i)) ∙ unit_tree tree.types ast.externals t.last t.is b allowed t.kernel
