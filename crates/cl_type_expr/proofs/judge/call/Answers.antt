use Rattle.std.proofs.Common.{sym, subst}
use Rattle.cl_builtins.specs.Found.{AreKnown}
use Rattle.cl_type_expr.proofs.Judging.{function_known}
use Rattle.cl_type_expr.proofs.judge.call.Goals as goal

pub targets-requires : goal.targets-requires
targets-requires c =
    subst (AreKnown c.args.types.now) (sym c.as_slice.ensures) (function_known c.args.types.now c.args.names.now c.args.name.now _ c.requires (sym c.in-Some.ensures)).params
