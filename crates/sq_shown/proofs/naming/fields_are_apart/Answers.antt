use Rattle.sq_shown.proofs.FieldLemmas.{fields-apart, columns-apart}
use Rattle.sq_shown.proofs.naming.fields_are_apart.Goals as goal

pub returns : goal.returns
returns c = record { fields = fields-apart; columns = columns-apart }
