use Rattle.std.proofs.Common.{[]}
use Rattle.sq_shown.proofs.FieldLemmas.{fields-words, columns-words}
use Rattle.sq_shown.proofs.naming.fields_are_words.Goals as goal

pub returns : goal.returns
returns c = record { fields = λ columns. fields-words columns []; columns = columns-words }
