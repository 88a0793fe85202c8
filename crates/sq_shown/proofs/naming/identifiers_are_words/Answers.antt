use Rattle.sq_shown.proofs.PackageLemmas.{package-word}
use Rattle.sq_shown.proofs.WordLemmas.{pascal-word, model-word, constant-word, row-word}
use Rattle.sq_shown.proofs.naming.identifiers_are_words.Goals as goal

pub returns : goal.returns
returns c = record { fields = pascal-word; models = model-word; constants = constant-word; rows = row-word; packages = package-word }
