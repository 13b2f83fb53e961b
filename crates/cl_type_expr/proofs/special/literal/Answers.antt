use Rattle.std.proofs.Common.{◌≡◌, true, sym, subst}
use Rattle.cl_ast.specs.declared.expression.Base.TheViews.{out-Expr}
use Rattle.cl_make.specs.Answered.{IsNumberOf}
use Rattle.cl_builtins.specs.Kinds.{is_gentype}
use Rattle.cl_type_expr.proofs.Nodes.{number_fine, literal_ok}
use Rattle.cl_type_expr.proofs.special.literal.Goals as goal

pub number-requires : goal.number-requires
number-requires c = subst (λ t. is_gentype t ≡ true) (sym c.number_type.ensures) (number_fine c.args.ty)

pub returns-clause-ok : goal.returns-clause-ok
returns-clause-ok c =
    literal_ok c.number.new.types c.args.names.now c.args.left c.args.e.now c.args.operands.items c.args.value c.args.ty _ c.requires.is
    (subst (λ t. IsNumberOf c.number.new.types t c.args.value (out-Expr c.args.e.now).place c.in_ok-number.field-0) c.number_type.ensures c.in_ok-number.ensures.number)
