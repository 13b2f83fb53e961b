use Rattle.std.proofs.Common.{◌≡◌, length}
use Rattle.clv_engine.specs.FirstForm.{kinds_of}
use Rattle.clv_engine.proofs.Sums.{ReadTerms}
use Rattle.clv_engine.proofs.form.body.Given as goal

abbrev pub invariant-loop : goal.invariant-loop
invariant-loop l = record {
  count : length l.terms ≡ l.counter;
  read : ReadTerms (kinds_of l.tokens) (kinds_of l.rest) l.terms;
}
