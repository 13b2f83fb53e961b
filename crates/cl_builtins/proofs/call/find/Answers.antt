use Rattle.std.proofs.Common.{sym, ◌∙◌, subst}
use Rattle.cl_builtins.specs.Tables.{EachOfTable}
use Rattle.cl_builtins.proofs.Growth.{kinds_of_table}
use Rattle.cl_builtins.proofs.Naming.{rule_sound}
use Rattle.cl_builtins.proofs.Soundness.{form_of_table}
use Rattle.cl_builtins.proofs.call.find.Goals as goal

pub answer-requires : goal.answer-requires
answer-requires c =
    let cs = c.args.types.now in
    let rule = c.in-Some.rule in
    let ks = c.as_slice.result.now in
    let given = c.as_slice.ensures ∙ c.in_ok-kinds.ensures in
    form_of_table cs rule ks c.in-Some-2.form
    (rule_sound _ (c.in-Some.builtin, rule) (sym c.in-Some.ensures))
    (subst (EachOfTable cs) (sym given) (kinds_of_table cs c.args.args.now c.is_table.ensures.built c.requires))
    (sym c.in-Some-2.is ∙ c.in_ok-form.ensures)
