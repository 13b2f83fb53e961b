use Rattle.std.proofs.Common.{refl, get_or, Ok, arith, ◌-◌}
use Rattle.cl_type_expr.proofs.Nodes.{stop_exit}
use Rattle.cl_type_expr.proofs.Arrays.{arrays_start, arrays_end, number_before, number_low, array_built, arrays_next, arrays_out, refused_grows}
use Rattle.cl_type_expr.proofs.declaring.arrays.Goals as goal

pub loop-at-init : goal.loop-at-init
loop-at-init c = arrays_start c.args.types.now c.args.elem c.args.numbers.now _ refl c.is_table.ensures c.requires.known c.requires.object c.requires.some c.requires.fits

pub bounds-numbers-at : goal.bounds-numbers-at
bounds-numbers-at c =
    let p = c.loop-at-test.true in
    let l = c.loop-at.invariant.low in
    omega (arith, p, l)

pub overflow_cast-len : goal.overflow_cast-len
overflow_cast-len c =
    let p = c.loop-at-test.true in
    let l = c.loop-at.invariant.low in
    let n = number_low c.args.types.now c.loop-at.types c.args.elem c.loop-at.ty c.args.numbers.now c.loop-at.at c.loop-at.invariant (c.loop-at.at - 1) (get_or c.args.numbers.now (c.loop-at.at - 1) 0) (number_before c.args.numbers.now c.loop-at.at p l) (omega (arith, p)) in
    omega (arith, n)

pub intern-requires : goal.intern-requires
intern-requires c =
    let p = c.loop-at-test.true in
    let l = c.loop-at.invariant.low in
    array_built c.args.types.now c.loop-at.types c.args.elem c.loop-at.ty c.args.numbers.now c.loop-at.at c.loop-at.invariant (c.loop-at.at - 1) (get_or c.args.numbers.now (c.loop-at.at - 1) 0) (number_before c.args.numbers.now c.loop-at.at p l) (omega (arith, p))

pub returns-in_err-ty-clause-out : goal.returns-in_err-ty-clause-out
returns-in_err-ty-clause-out c =
    let p = c.loop-at-test.true in
    let l = c.loop-at.invariant.low in
    let g = refused_grows c.args.types.now c.loop-at.types c.intern.new.self c.loop-at.invariant.grown c.in_err-ty.ensures.refused in
    stop_exit c.from_residual.result c.in_err-ty.field-0.0 _ c.from_residual.ensures.1 (arrays_out c.args.types.now c.loop-at.types c.args.elem c.loop-at.ty c.args.numbers.now c.loop-at.at c.loop-at.invariant (c.loop-at.at - 1) (get_or c.args.numbers.now (c.loop-at.at - 1) 0) (number_before c.args.numbers.now c.loop-at.at p l) (omega (arith, p)) c.intern.new.self c.in_err-ty.field-0.0 g.grown c.in_err-ty.ensures.over)

pub returns-in_err-ty-clause-grows : goal.returns-in_err-ty-clause-grows
returns-in_err-ty-clause-grows c = refused_grows c.args.types.now c.loop-at.types c.intern.new.self c.loop-at.invariant.grown c.in_err-ty.ensures.refused

pub loop-at-preserved : goal.loop-at-preserved
loop-at-preserved c =
    let p = c.loop-at-test.true in
    let l = c.loop-at.invariant.low in
    arrays_next c.args.types.now c.loop-at.types c.args.elem c.loop-at.ty c.args.numbers.now c.loop-at.at c.loop-at.invariant (c.loop-at.at - 1) (get_or c.args.numbers.now (c.loop-at.at - 1) 0) (number_before c.args.numbers.now c.loop-at.at p l) (omega (arith, p)) c.intern.new.self c.in_ok-ty.ty (Ok c.in_ok-ty.ty) c.is_table-in-loop-at.ensures refl c.in_ok-ty.ensures.number tt

pub returns-clause-ok : goal.returns-clause-ok
returns-clause-ok c = arrays_end c.args.types.now c.loop-at.types c.args.elem c.loop-at.ty c.args.numbers.now c.loop-at.at c.loop-at.invariant c.loop-at-test.false

pub returns-clause-grows : goal.returns-clause-grows
returns-clause-grows c = c.loop-at.invariant.grown
