use Rattle.std.proofs.Common.{map}
use Rattle.cl_meaning.specs.Views.{placed, section_by, stmt_by}
use Rattle.cl_meaning.proofs.Numberings.{ListedTo, section_made}
use Rattle.cl_meaning.proofs.numbering.Numbering.+placing.Given as goal

abbrev pub invariant-all-loop-stmt : goal.invariant-all-loop-stmt
invariant-all-loop-stmt l = ListedTo (placed l.self.types.now l.self.vars.now) l.stmts l.n l.stmt-index (map stmt_by l.made.items) l.next

abbrev pub invariant-sections-loop-section : goal.invariant-sections-loop-section
invariant-sections-loop-section l = ListedTo (section_made l.self.types.now l.self.vars.now) l.sections l.n l.section-index (map section_by l.made.items) l.next
