use Rattle.std.proofs.Common.{sym, ◌∙◌, arith}
use Rattle.cl_grammar.specs.Symbols as s
use Rattle.cl_grammar.specs.Terminals.{qualifier_of}
use Rattle.cl_parse_expr.proofs.Words.{no_qualifier, one_qualifier_more, qualifiers_end}
use Rattle.cl_parse_expr.proofs.reader.Reader.qualifiers.Goals as goal

pub loop-qualifier-init : goal.loop-qualifier-init
loop-qualifier-init c = no_qualifier s.Qualifiers qualifier_of c.args.self.now c.args.at c.args.quals.now c.requires.within

pub peek-requires : goal.peek-requires
peek-requires c = c.loop-qualifier.invariant.read.within

pub loop-qualifier-preserved : goal.loop-qualifier-preserved
loop-qualifier-preserved c = one_qualifier_more c.args.self.now c.args.at c.loop-qualifier.here _ _ _ c.peek.result c.in-Some.qualifier c.requires.ends c.loop-qualifier.invariant c.peek.ensures.stands (sym c.qualifier.ensures ∙ c.in-Some.is) c.in_ok-push.ensures.ok

pub loop-qualifier-smaller : goal.loop-qualifier-smaller
loop-qualifier-smaller c = let h = c.loop-qualifier.invariant.read.within in omega (arith, h)

pub returns-clause-read : goal.returns-clause-read
returns-clause-read c = qualifiers_end c.args.self.now c.args.at c.loop-qualifier.here _ _ c.peek.result c.loop-qualifier.invariant c.peek.ensures.stands (sym c.qualifier.ensures ∙ c.in_default.is)

pub returns-clause-quals : goal.returns-clause-quals
returns-clause-quals c = c.loop-qualifier.invariant.quals
