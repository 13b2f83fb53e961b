use Rattle.cl_make.proofs.Answering.{void_given, bool_given, pointer_given}
use Rattle.cl_make.proofs.asking.of_shape.Goals as goal

pub returns-in-Void-clause-number : goal.returns-in-Void-clause-number
returns-in-Void-clause-number c = void_given c.intern.new.types c.args.s c.intern.result c.in-Void.is c.intern.ensures.grows.table c.intern.ensures.at

pub returns-in-Bool-clause-number : goal.returns-in-Bool-clause-number
returns-in-Bool-clause-number c = bool_given c.intern-in-Bool.new.types c.args.s c.intern-in-Bool.result c.in-Bool.is c.intern-in-Bool.ensures.grows.table c.intern-in-Bool.ensures.at

pub returns-in-Pointer-clause-number : goal.returns-in-Pointer-clause-number
returns-in-Pointer-clause-number c =
    let i = c.in-Pointer in
    pointer_given c.intern-in-Pointer.new.types c.args.s i.space i.to i.readonly i.restricted c.intern-in-Pointer.result i.is c.intern-in-Pointer.ensures.grows.table c.intern-in-Pointer.ensures.at
