use Rattle.sq_shown.proofs.Ascii.{identifier_text, is_utf8_pascal}
use Rattle.sq_shown.proofs.identifier.pascal.Goals as goal

pub returns : goal.returns
returns c = identifier_text c.name_of.result _ _ c.in_ok-identifier.ensures (is_utf8_pascal c.args.name.now) c.name_of.ensures
