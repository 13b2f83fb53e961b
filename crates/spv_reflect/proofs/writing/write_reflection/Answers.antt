use Rattle.std.proofs.Common.{ap, ◌∙◌}
use Rattle.spv_reflect.specs.Writing.{new_body, new_bound}
use Rattle.spv_reflect.proofs.Sections.{is_widened}
use Rattle.spv_reflect.proofs.Whole.{says_rows, keeps_ids, keeps_bound, stays_spelled}
use Rattle.spv_reflect.proofs.writing.write_reflection.Goals as goal

pub returns-clause-rows : goal.returns-clause-rows
returns-clause-rows c = says_rows c.args.module.now c.args.r.now c.in_ok-body.body c.in_ok-body.bound c.requires.spelled c.requires.bare c.requires.functions c.requires.kinds c.requires.names c.requires.room c.in_ok-body.ensures.words c.in_ok-body.ensures.three (c.in_ok-body.ensures.built.0 ∙ ap (λ b. new_body b c.args.module.now.bound c.args.r.now) c.as_slice.ensures) (c.in_ok-body.ensures.built.1 ∙ ap (λ b. new_bound b c.args.module.now.bound c.args.r.now) c.as_slice.ensures)

pub returns-clause-ids : goal.returns-clause-ids
returns-clause-ids c = keeps_ids c.args.module.now c.args.r.now c.in_ok-body.body c.in_ok-body.bound c.requires.spelled c.requires.bare c.requires.functions c.requires.kinds c.requires.names c.requires.room c.in_ok-body.ensures.words c.in_ok-body.ensures.three (c.in_ok-body.ensures.built.0 ∙ ap (λ b. new_body b c.args.module.now.bound c.args.r.now) c.as_slice.ensures) (c.in_ok-body.ensures.built.1 ∙ ap (λ b. new_bound b c.args.module.now.bound c.args.r.now) c.as_slice.ensures)

pub returns-clause-whole : goal.returns-clause-whole
returns-clause-whole c = stays_spelled c.args.module.now c.args.r.now c.in_ok-body.body c.in_ok-body.bound c.requires.spelled c.requires.bare c.requires.functions c.requires.kinds c.requires.names c.requires.room c.in_ok-body.ensures.words c.in_ok-body.ensures.three (c.in_ok-body.ensures.built.0 ∙ ap (λ b. new_body b c.args.module.now.bound c.args.r.now) c.as_slice.ensures) (c.in_ok-body.ensures.built.1 ∙ ap (λ b. new_bound b c.args.module.now.bound c.args.r.now) c.as_slice.ensures)

pub returns-clause-bound : goal.returns-clause-bound
returns-clause-bound c = keeps_bound c.args.module.now c.args.r.now c.in_ok-body.body c.in_ok-body.bound c.requires.spelled c.requires.bare c.requires.functions c.requires.kinds c.requires.names c.requires.room c.in_ok-body.ensures.words c.in_ok-body.ensures.three (c.in_ok-body.ensures.built.0 ∙ ap (λ b. new_body b c.args.module.now.bound c.args.r.now) c.as_slice.ensures) (c.in_ok-body.ensures.built.1 ∙ ap (λ b. new_bound b c.args.module.now.bound c.args.r.now) c.as_slice.ensures)

pub returns-clause-added : goal.returns-clause-added
returns-clause-added c = is_widened c.args.module.now.body c.args.module.now.bound c.args.r.now c.in_ok-body.body (c.in_ok-body.ensures.built.0 ∙ ap (λ b. new_body b c.args.module.now.bound c.args.r.now) c.as_slice.ensures)
