use Rattle.std.proofs.Common.{rules, ◌∙◌, ap}
use Rattle.std.proofs.lemmas.Fn.{filter_same}
use Rattle.sq_syntax.specs.declared.token.Token.{Token}
use Rattle.sq_run.specs.Schema.{without_notes}
use Rattle.sq_run.specs.Statements.{is_no_note}
use Rattle.sq_run.proofs.schema.without_notes.Goals as goal

pub returns : goal.returns
returns c = c.from_vec.ensures ∙ filter_same _ (λ (token : Token). is_no_note token.kind) _ (λ x b f' k. search rules) _ _ c.retain.ensures.filtered ∙ ap without_notes c.into_vec-kept.ensures
