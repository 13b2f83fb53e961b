use Rattle.std.proofs.Common.{sym, ◌∙◌, subst}
use Rattle.cl_make.proofs.Growing.{grows_itself}
use Rattle.cl_typing.specs.UnitAnswers.{TypedefStops}
use Rattle.cl_typing.proofs.Results.{none_of_not}
use Rattle.cl_typing.proofs.Typedefs.{typedef_element, typedef_code, typedef_limit, typedef_is}
use Rattle.cl_typing.proofs.external.typedef_type.Goals as goal

pub returns-in-Some-clause-out : goal.returns-in-Some-clause-out
returns-in-Some-clause-out c =
    subst (TypedefStops c.args.types.now c.args.again c.args.place c.args.sketch.now) (sym c.out.ensures)
    (typedef_code c.args.again c.args.sketch.now c.args.types.now c.args.place c.in-Some.code (sym c.typedef_broken.ensures ∙ c.in-Some.is))

pub returns-in-Some-clause-grows : goal.returns-in-Some-clause-grows
returns-in-Some-clause-grows c = grows_itself c.args.types.now c.is_table.ensures

pub declared-requires-clause-ready : goal.declared-requires-clause-ready
declared-requires-clause-ready c = c.requires.ready (typedef_element c.args.again c.args.sketch.now (sym c.typedef_broken.ensures ∙ none_of_not _ c.in_default.not-Some))

pub declared-requires-clause-element : goal.declared-requires-clause-element
declared-requires-clause-element c = typedef_element c.args.again c.args.sketch.now (sym c.typedef_broken.ensures ∙ none_of_not _ c.in_default.not-Some)

pub returns-in-Ok-clause-ok : goal.returns-in-Ok-clause-ok
returns-in-Ok-clause-ok c = typedef_is c.args.again c.args.sketch.now c.declared.new.types c.in-Ok.ty (sym c.typedef_broken.ensures ∙ none_of_not _ c.in_default.not-Some) c.in-Ok.ensures.ok

pub returns-in-Err-TooLarge-clause-out : goal.returns-in-Err-TooLarge-clause-out
returns-in-Err-TooLarge-clause-out c =
    subst (TypedefStops c.declared.new.types c.args.again c.args.place c.args.sketch.now) (sym c.out-in-Err-TooLarge.ensures)
    (typedef_limit c.args.again c.args.sketch.now c.declared.new.types c.args.place 501 (sym c.typedef_broken.ensures ∙ none_of_not _ c.in_default.not-Some) (rw c.in-Err-TooLarge.field-0-is at c.in-Err-TooLarge.ensures.out))

pub returns-in-Err-TooDeep-clause-out : goal.returns-in-Err-TooDeep-clause-out
returns-in-Err-TooDeep-clause-out c =
    subst (TypedefStops c.declared.new.types c.args.again c.args.place c.args.sketch.now) (sym c.out-in-Err-TooDeep.ensures)
    (typedef_limit c.args.again c.args.sketch.now c.declared.new.types c.args.place 502 (sym c.typedef_broken.ensures ∙ none_of_not _ c.in_default.not-Some) (rw c.in-Err-TooDeep.field-0-is at c.in-Err-TooDeep.ensures.out))
