use Rattle.std.proofs.Common.{◌∙◌, ap, List}
use Rattle.spv_module.specs.declared.module.Inst.{Inst}
use Rattle.spv_module.specs.Interface.{word_at}
use Rattle.spv_reflect.specs.Readings.{placed_by}
use Rattle.spv_reflect.proofs.Faults.{fault_read, rows_read, break_within}
use Rattle.spv_reflect.proofs.Sizes.{small_word}
use Rattle.spv_reflect.proofs.reading.read_all.Goals as goal

pub word_at-word-requires-clause-place : goal.word_at-word-requires-clause-place
word_at-word-requires-clause-place c =
    let body = c.args.module.now.body in
    let place = c.in-Some.place in
    let f = fault_read body c.as_slice-body.result.now c.as_slice-lines.result.now c.in-Some.number place c.as_slice-body.ensures (ap placed_by c.as_slice-lines.ensures ∙ c.in_ok-read.ensures) c.in-Some.ensures in
    rw c.as_slice-body.ensures (break_within body c.in-Some.number place f.breaks)

pub word_at-word-requires-clause-size : goal.word_at-word-requires-clause-size
word_at-word-requires-clause-size c = rw c.as_slice-body.ensures (small_word c.args.module.now c.in-Some.place c.requires)

pub returns-in-Some-clause-first : goal.returns-in-Some-clause-first
returns-in-Some-clause-first c =
    let body = c.args.module.now.body in
    let place = c.in-Some.place in
    let f = fault_read body c.as_slice-body.result.now c.as_slice-lines.result.now c.in-Some.number place c.as_slice-body.ensures (ap placed_by c.as_slice-lines.ensures ∙ c.in_ok-read.ensures) c.in-Some.ensures in
    record { place = place; first = f; stands = c.word_at-word.ensures ∙ ap (λ (b : List Inst). word_at b place) c.as_slice-body.ensures }

pub returns-clause-found : goal.returns-clause-found
returns-clause-found c = rows_read c.args.module.now.body c.as_slice-body.result.now c.as_slice-lines.result.now c.in_ok-rows.field-0 c.as_slice-body.ensures (ap placed_by c.as_slice-lines.ensures ∙ c.in_ok-read.ensures) c.in_default.ensures c.in_ok-rows.ensures
