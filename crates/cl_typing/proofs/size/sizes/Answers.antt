use Rattle.std.proofs.Common.{◌+◌, true, false, sym, ap, ◌∙◌, subst}
use Rattle.cl_make.proofs.Growing.{grows_twice}
use Rattle.cl_typing.specs.UnitAnswers.{AreAbove0, SizesStop}
use Rattle.cl_typing.specs.Units.{size_in}
use Rattle.cl_typing.proofs.Results.{stop_exit}
use Rattle.cl_typing.proofs.Sizes.{SizesSoFar, sizes_start, sizes_other, sizes_arguments_out, sizes_broken, sizes_found, sizes_end, size_broken, size_kept, size_first, size_found, not_required}
use Rattle.cl_typing.proofs.size.sizes.Goals as goal
use Rattle.cl_typing.proofs.size.sizes.Goals.{in-Required+in_ok-numbers+else-is_no_size, in_default}

pub loop-word-init : goal.loop-word-init
loop-word-init c = sizes_start c.args.types.now c.args.names.now c.args.given c.args.all.now c.is_table.ensures c.requires.known

pub constants-requires : goal.constants-requires
constants-requires c = record { known = c.loop-word.invariant.declared }

pub returns-in_err-numbers-clause-out : goal.returns-in_err-numbers-clause-out
returns-in_err-numbers-clause-out c =
    stop_exit c.from_residual.result _ _ c.from_residual.ensures.1
    (sizes_arguments_out c.args.types.now c.loop-word.types c.args.names.now c.args.given c.args.all.now c.loop-word.word-index c.loop-word.names c.loop-word.known c.loop-word.found c.word-item.result c.loop-word.invariant c.loop-word-test.true c.word-item.is c.in-Required.place c.in-Required.args c.in-Required.is c.constants.new.types c.in_err-numbers.ensures.grows _ (rw c.deref.ensures.value at c.in_err-numbers.ensures.out))

pub returns-in_err-numbers-clause-grows : goal.returns-in_err-numbers-clause-grows
returns-in_err-numbers-clause-grows c = grows_twice _ _ _ c.loop-word.invariant.grown c.in_err-numbers.ensures.grows

pub size-size-requires : goal.size-size-requires
size-size-requires c = subst AreAbove0 (sym c.as_slice.ensures) c.in_ok-numbers.ensures.ok.positive

pub returns-clause-ok : goal.returns-clause-ok
returns-clause-ok c = sizes_end c.args.types.now c.loop-word.types c.args.names.now c.args.given c.args.all.now c.loop-word.word-index c.loop-word.names c.loop-word.known c.loop-word.found c.loop-word.invariant c.loop-word-test.false

pub returns-clause-grows : goal.returns-clause-grows
returns-clause-grows c = c.loop-word.invariant.grown

pub returns-then-is_no_size-clause-out : goal.returns-then-is_no_size-clause-out
returns-then-is_no_size-clause-out c =
    subst (SizesStop c.constants.new.types c.args.names.now c.args.given c.args.all.now) (sym c.out.ensures)
    (sizes_broken c.args.types.now c.loop-word.types c.args.names.now c.args.given c.args.all.now c.loop-word.word-index c.loop-word.names c.loop-word.known c.loop-word.found c.word-item.result c.loop-word.invariant c.loop-word-test.true c.word-item.is c.in-Required.place c.in-Required.args c.in-Required.is c.constants.new.types c.in_ok-numbers.ensures.grows c.constants.new.names c.in_ok-numbers.numbers (rw c.deref.ensures.value at c.in_ok-numbers.ensures.ok)
    (size_broken c.loop-word.known c.is_no_size.result c.size-size.result c.in_ok-numbers.numbers (c.size-size.ensures ∙ ap size_in c.as_slice.ensures) c.is_no_size.ensures c.if-is_no_size.true))

pub loop-word-preserved : goal.loop-word-preserved
loop-word-preserved c =
    elim c.match-word.branch [
      | in-Required+in_ok-numbers+else-is_no_size w ↦
          rw (w.names-is, w.types-is, w.found-is, w.known-is)
          (subst (λ z. SizesSoFar c.args.types.now w.constants.new.types c.args.names.now c.args.given c.args.all.now (c.loop-word.word-index + 1) w.constants.new.names true z)
          (sym (size_found c.loop-word.known w.is_no_size.result w.size-size.result w.in_ok-numbers.numbers (w.size-size.ensures ∙ ap size_in w.as_slice.ensures) w.is_no_size.ensures w.if-is_no_size.false))
          (sizes_found c.args.types.now c.loop-word.types c.args.names.now c.args.given c.args.all.now c.loop-word.word-index c.loop-word.names c.loop-word.known c.loop-word.found c.word-item.result c.loop-word.invariant c.loop-word-test.true c.word-item.is w.in-Required.place w.in-Required.args w.in-Required.is w.constants.new.types w.in_ok-numbers.ensures.grows w.constants.new.names w.in_ok-numbers.numbers (rw w.deref.ensures.value at w.in_ok-numbers.ensures.ok)
          (size_first c.loop-word.known w.is_no_size.result w.size-size.result w.in_ok-numbers.numbers (w.size-size.ensures ∙ ap size_in w.as_slice.ensures) w.is_no_size.ensures w.if-is_no_size.false) (size_kept c.loop-word.known w.is_no_size.result w.size-size.result w.in_ok-numbers.numbers (w.size-size.ensures ∙ ap size_in w.as_slice.ensures) w.is_no_size.ensures w.if-is_no_size.false)))
      | in_default w ↦
          rw (w.names-is, w.types-is, w.found-is, w.known-is)
          (sizes_other c.args.types.now c.loop-word.types c.args.names.now c.args.given c.args.all.now c.loop-word.word-index c.loop-word.names c.loop-word.known c.loop-word.found c.word-item.result c.loop-word.invariant c.loop-word-test.true c.word-item.is (not_required c.word-item.result w.in_default.not-Required))
    ]
