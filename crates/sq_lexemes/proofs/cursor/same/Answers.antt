use Rattle.std.proofs.Common.{rules}
use Rattle.sq_grammar.specs.Reading.{same}
use Rattle.sq_lexemes.proofs.cursor.same.Goals as goal

pub returns : goal.returns
unfolding same
returns c = search rules
