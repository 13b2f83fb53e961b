use Rattle.std.proofs.Common.{refl}
use Rattle.cl_builtins.proofs.Growth.{grown_same}
use Rattle.cl_make.proofs.Answering.{own_converted, all_fitted, askable_given, of_given}
use Rattle.cl_make.proofs.Growing.{grows_itself}
use Rattle.cl_make.proofs.making.converted.Goals as goal

pub returns-in-Own-clause-converted : goal.returns-in-Own-clause-converted
returns-in-Own-clause-converted c = own_converted c.args.types.now c.args.want c.args.operand c.in-Own.is c.requires.ready

pub returns-in-Own-clause-grows : goal.returns-in-Own-clause-grows
returns-in-Own-clause-grows c = grows_itself c.args.types.now c.is_table.ensures

pub returns-in-Type-clause-converted : goal.returns-in-Type-clause-converted
returns-in-Type-clause-converted c =
    let now = c.args.types.now in
    all_fitted now now c.args.want c.in-Type.ty c.args.operand c.fitted.result c.is_table.ensures (grown_same now now refl)
    (askable_given now c.args.want c.in-Type.ty c.in-Type.is c.requires.asked) c.requires.ready c.fitted.ensures

pub returns-in-Type-clause-grows : goal.returns-in-Type-clause-grows
returns-in-Type-clause-grows c = grows_itself c.args.types.now c.is_table.ensures

pub returns-in_ok-ty-in-Of-clause-converted : goal.returns-in_ok-ty-in-Of-clause-converted
returns-in_ok-ty-in-Of-clause-converted c =
    let new = c.of_shape.new.types in
    all_fitted c.args.types.now new c.args.want c.in_ok-ty-in-Of.ty c.args.operand c.fitted-in-Of.result c.of_shape.ensures.grows.table c.of_shape.ensures.grows.grown
    (of_given new c.args.want c.in-Of.s c.in_ok-ty-in-Of.ty c.in-Of.is c.in_ok-ty-in-Of.ensures.number) c.requires.ready c.fitted-in-Of.ensures
