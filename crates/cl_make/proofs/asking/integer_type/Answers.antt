use Rattle.std.proofs.Common.{refl}
use Rattle.std.proofs.lemmas.Bool.{ne_eqb}
use Rattle.cl_builtins.proofs.Growth.{scalar_built, vector_built}
use Rattle.cl_make.proofs.Growing.{grows_twice}
use Rattle.cl_make.proofs.Answering.{scalar_given, vector_given}
use Rattle.cl_make.proofs.asking.integer_type.Goals as goal

pub intern-requires : goal.intern-requires
intern-requires c = record { built = scalar_built c.args.types.now c.args.t c.requires; flat = tt; allowed = λ a. refl }

pub returns-then-t-eq1-clause-number : goal.returns-then-t-eq1-clause-number
returns-then-t-eq1-clause-number c = scalar_given c.intern.new.types c.args.t c.in_ok-elem.elem c.in_ok-elem.ensures.grows.table c.if-t-eq1.true c.in_ok-elem.ensures.at

pub intern-requires-2 : goal.intern-requires-2
intern-requires-2 c = record {
  built = vector_built c.args.types.now c.intern.new.types c.args.t c.in_ok-elem.elem c.requires (ne_eqb c.args.t.count 1 c.if-t-eq1.false) c.in_ok-elem.ensures.at;
  flat = tt;
  allowed = λ a. refl;
}

pub returns-clause-number : goal.returns-clause-number
returns-clause-number c = vector_given c.intern.new.types c.intern-2.new.types c.args.t c.in_ok-elem.elem c.intern-2.result c.intern-2.ensures.grows.table c.in_ok-elem.ensures.at c.intern-2.ensures.grows.grown c.intern-2.ensures.at

pub returns-clause-grows : goal.returns-clause-grows
returns-clause-grows c = grows_twice c.args.types.now c.intern.new.types c.intern-2.new.types c.intern.ensures.grows c.intern-2.ensures.grows
