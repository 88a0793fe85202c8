use Rattle.std.proofs.Common.{◌∙◌, ap}
use Rattle.sq_shown.specs.Identifiers.{package_name}
use Rattle.sq_shown.proofs.Ascii.{identifier_text}
use Rattle.sq_shown.proofs.PackageLemmas.{is_utf8_package}
use Rattle.sq_shown.proofs.identifier.package_name.Goals as goal

pub returns : goal.returns
returns c = identifier_text c.name_of.result _ _ (c.in_ok-name.ensures ∙ ap package_name c.as_bytes.ensures.value) (is_utf8_package c.args.out.now) c.name_of.ensures
