use Rattle.std.proofs.Common.{sym, subst, rules}
use Rattle.cl_builtins.specs.Found.{HasNoForm}
use Rattle.cl_make.proofs.Growing.{grows_twice, adds_grows}
use Rattle.cl_type_expr.specs.Typing.{FoundStops}
use Rattle.cl_type_expr.proofs.BuiltIns.{found_ok, found_unfit}
use Rattle.cl_type_expr.proofs.built_in.found_at.Goals as goal

pub returns-in-Ok-clause-ok : goal.returns-in-Ok-clause-ok
returns-in-Ok-clause-ok c = found_ok c.arguments.new.types c.find-found.new.types c.args.name.now c.args.os.now c.in_ok-tys.tys c.in-Ok.found c.is_table-2.ensures (adds_grows c.arguments.new.types c.find-found.new.types c.is_table-2.ensures c.is_table-3.ensures c.find-found.ensures.kept) c.in_ok-tys.ensures.ok c.in_ok-tys.ensures.known c.in-Ok.ensures.found

pub returns-in-Ok-clause-grows : goal.returns-in-Ok-clause-grows
returns-in-Ok-clause-grows c = grows_twice c.args.types.now c.arguments.new.types c.find-found.new.types c.in_ok-tys.ensures.grows (adds_grows c.arguments.new.types c.find-found.new.types c.is_table-2.ensures c.is_table-3.ensures c.find-found.ensures.kept)

pub returns-in-Err-NoName-clause-grows : goal.returns-in-Err-NoName-clause-grows
returns-in-Err-NoName-clause-grows c = grows_twice c.args.types.now c.arguments.new.types c.find-found.new.types c.in_ok-tys.ensures.grows (adds_grows c.arguments.new.types c.find-found.new.types c.is_table-2.ensures c.is_table-3.ensures c.find-found.ensures.kept)

pub returns-in-Err-NoForm-clause-out : goal.returns-in-Err-NoForm-clause-out
returns-in-Err-NoForm-clause-out c =
    let grows = adds_grows c.arguments.new.types c.find-found.new.types c.is_table-2.ensures c.is_table-3.ensures c.find-found.ensures.kept in
    let unfit : HasNoForm c.args.name.now c.arguments.new.types c.in_ok-tys.tys = search rules in
    subst (FoundStops c.find-found.new.types c.args.name.now c.args.place c.args.os.now) (sym c.out-in-Err-NoForm.ensures)
    (found_unfit c.arguments.new.types c.find-found.new.types c.args.name.now c.args.place c.args.os.now c.in_ok-tys.tys c.is_table-2.ensures grows.grown c.in_ok-tys.ensures.ok c.in_ok-tys.ensures.known unfit)

pub returns-in-Err-NoForm-clause-grows : goal.returns-in-Err-NoForm-clause-grows
returns-in-Err-NoForm-clause-grows c = grows_twice c.args.types.now c.arguments.new.types c.find-found.new.types c.in_ok-tys.ensures.grows (adds_grows c.arguments.new.types c.find-found.new.types c.is_table-2.ensures c.is_table-3.ensures c.find-found.ensures.kept)

pub returns-clause-grows : goal.returns-clause-grows
returns-clause-grows c = grows_twice c.args.types.now c.arguments.new.types c.find-found.new.types c.in_ok-tys.ensures.grows (adds_grows c.arguments.new.types c.find-found.new.types c.is_table-2.ensures c.is_table-3.ensures c.find-found.ensures.kept)
