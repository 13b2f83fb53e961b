use Rattle.std.proofs.Common.{◌++◌, ◌∷◌, [], map, take, sym, ap, ◌∙◌, arith}
use Rattle.std.proofs.lemmas.List.{map_push, map_more}
use Rattle.cl_meaning.specs.Code.{code_of}
use Rattle.cl_meaning.specs.Views.{code_by}
use Rattle.cl_meaning.proofs.numbering.codes_of.Goals as goal

pub loop-function-preserved : goal.loop-function-preserved
loop-function-preserved c =
    let fs = c.args.functions.now in
    let made = code_of c.args.types.now in
    let k = c.loop-function.function-index in
    let code = c.in_ok-code_of.field-0 in
    ap (map code_by) c.in_ok-push.ensures.items
    ∙ map_push code_by c.loop-function.codes.items code
    ∙ ap (λ z. z ++ code_by code ∷ []) c.loop-function.invariant
    ∙ ap (λ z. map made (take k fs) ++ z ∷ []) (c.in_ok-code_of.ensures ∙ ap made c.function-item.is)
    ∙ sym (map_more made fs k c.function-item.result (omega arith))
