use Rattle.std.proofs.Common.{rules, arith}
use Rattle.sq_lexer.specs.Reading.{more_signs}
use Rattle.sq_lexer.proofs.SignLemmas.{more_step}
use Rattle.sq_lexer.proofs.signs.more_signs.Goals as goal

pub loop-index-preserved : goal.loop-index-preserved
loop-index-preserved c =
    more_step c.args.bytes.now c.loop-index.index c.loop-index.last c.class_of-class.result (more_signs c.args.last c.args.bytes.now) (omega arith) c.class_of-class.ensures
    (search rules) (search rules) c.loop-index.invariant
