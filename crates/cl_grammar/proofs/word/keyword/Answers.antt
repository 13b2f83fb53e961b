use Rattle.std.proofs.Common.{◌<◌, arith}
use Rattle.cl_grammar.proofs.Words.{word_here, number_within}
use Rattle.cl_grammar.proofs.word.keyword.Goals as goal

pub returns-then-eq : goal.returns-then-eq
returns-then-eq c =
    let within : c.number_of-number.result < 118 = omega (arith, c.number_of-number.ensures, number_within c.args.word.now) in
    word_here c.args.word.now c.spelling.result.now c.number_of-number.result c.meaning.result c.eq.result within c.spelling.ensures c.meaning.ensures c.eq.ensures c.if-eq.true
