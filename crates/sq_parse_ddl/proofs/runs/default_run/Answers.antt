use Rattle.std.proofs.Common.{◌≡◌, List, [], ◌∷◌, None, Some, refl, ◌∙◌}
use Rattle.std.proofs.lemmas.Result.{err_from_is_err_and}
use Rattle.sq_syntax.specs.declared.symbol.Reading.{Reading}
use Rattle.sq_syntax.specs.Facts.{Stream}
use Rattle.sq_syntax.specs.Schemas.{ends_default}
use Rattle.sq_grammar.specs.Ahead.{Lexemes}
use Rattle.sq_grammar.specs.Reading.{Outcome}
use Rattle.sq_grammar.specs.Schemas.{default_run, first_and_run}
use Rattle.sq_parse_ddl.specs.declared.runs.Bracket.{Bracket}
use Rattle.sq_parse_ddl.specs.declared.runs.Stop.TheVariants as stop
use Rattle.sq_parse_ddl.specs.Runs.{going_on, joined, run_behind}
use Rattle.sq_parse_ddl.proofs.runs.default_run.Goals as goal

none_before : (r : Outcome (List Reading)) → r ≡ joined [] r
none_before None = refl
none_before (Some p) = refl

any_first : (n : _) (tokens : Lexemes) → first_and_run n tokens ≡ run_behind ends_default [] n tokens
any_first n [] = refl
any_first n (x ∷ rest) = refl

first_token : (bs : List Bracket) (found : List Reading) (now : Stream) → bs ≡ [] → found ≡ [] → default_run now ≡ going_on stop.Default bs found now
unfolding default_run
first_token bs found now b f = any_first now.at now.tokens ∙ rw (b, f) (none_before (run_behind ends_default [] now.at now.tokens))

pub returns-in_err-take : goal.returns-in_err-take
returns-in_err-take c =
    let p = err_from_is_err_and c.from_residual.result c.from_residual.ensures.1 in
    rw (p.1, p.2) (λ memory. first_token c.new-brackets.result.items c.new-found.result c.args.tokens.now c.new-brackets.ensures.items c.new-found.ensures ∙ c.in_err-take.ensures.value memory stop.Default)

pub returns : goal.returns
returns c =
    rw (first_token c.new-brackets.result.items c.new-found.result c.args.tokens.now c.new-brackets.ensures.items c.new-found.ensures ∙ c.in_ok-take.ensures.value stop.Default) c.rest.ensures
