use Rattle.std.proofs.Common.{length, ◌+◌, ◌-◌, ◌*◌, ◌≤◌}
use Rattle.cl_lexer.specs.Answers.{Spread}
use Rattle.cl_lexer.specs.Joined.{glyphs_of}
use Rattle.cl_lexer.proofs.Advances.{pending}
use Rattle.cl_lexer.proofs.Reading.{Leads}
use Rattle.cl_lexer.proofs.read.lex.Given as goal

abbrev pub invariant-loop-list : goal.invariant-loop-list
invariant-loop-list l = record {
  within : l.at ≤ length l.joined.bytes.items;
  spread : Spread l.text (glyphs_of l.text) l.joined.bytes.items l.joined.places.items;
  leads : Leads l.text l.at l.stage l.spaced l.list;
}

abbrev pub decreases-loop-list : goal.decreases-loop-list
decreases-loop-list l = 2 * (length l.joined.bytes.items - l.at) + pending l.stage
