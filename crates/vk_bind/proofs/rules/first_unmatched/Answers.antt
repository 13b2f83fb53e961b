use Rattle.std.proofs.Common.{sym}
use Rattle.std.proofs.lemmas.List.{length-map}
use Rattle.vk_bind.specs.Answers.{parameter_from}
use Rattle.vk_bind.proofs.Breaking.{finds_missing, finds_past}
use Rattle.vk_bind.proofs.rules.first_unmatched.Goals as goal

pub returns-in-Some : goal.returns-in-Some
returns-in-Some c = λ buffers required. finds_missing _ _ _ _ _ (sym (length-map c.args.parameters.now parameter_from)) c.as_slice-args.ensures c.in-Some.ensures

pub returns-in-None : goal.returns-in-None
returns-in-None c = λ buffers required. finds_past _ _ _ _ _ (sym (length-map c.args.parameters.now parameter_from)) c.as_slice-args.ensures c.in-None.ensures c.first_past.ensures
