use Rattle.std.proofs.Common.{◌≡◌, ◌≤◌, ◌<◌, arith, List, map, None, Some, refl, sym, ap, ◌∙◌}
use Rattle.std.proofs.lemmas.Result.{err_from_is_err_and}
use Rattle.sq_syntax.specs.declared.symbol.Lexeme.{Lexeme}
use Rattle.sq_syntax.specs.Grammar.{IsQuery, query_height}
use Rattle.sq_syntax.specs.Symbols.{lexeme}
use Rattle.sq_grammar.specs.Whole.{queries}
use Rattle.sq_lexemes.specs.Answers.{Refuses}
use Rattle.sq_lexemes.specs.Whole.{whole}
use Rattle.sq_parse_expr.proofs.Exactly.{query_found, no_query, low, tall, unprepared, unread}
use Rattle.sq_parse_expr.proofs.answer.query.Goals as goal

pub returns-in_err-lexemes : goal.returns-in_err-lexemes
returns-in_err-lexemes c =
    let p = err_from_is_err_and c.from_residual.result c.from_residual.ensures.1 in
    rw (p.1, p.2) (unprepared IsQuery query_height c.args.tokens.now c.in_err-lexemes.field-0.0 c.in_err-lexemes.ensures)

pub returns-in-Ok : goal.returns-in-Ok
returns-in-Ok c =
    let tokens = c.args.tokens.now in
    let same : c.as_slice.result.now ≡ map lexeme tokens = c.as_slice.ensures ∙ c.in_ok-lexemes.ensures.1 in
    let found : whole (queries 65) (map lexeme tokens) ≡ Some c.in-Ok.found = ap (λ (xs : List Lexeme). whole (queries 65) xs) (sym same) ∙ c.in-Ok.ensures in
    let few : c.query_height.result ≤ 256 = omega (arith, c.if-query_height-le-MOST_HEIGHT.true) in
    (c.in_ok-lexemes.ensures.0, query_found tokens c.in-Ok.found c.in_ok-lexemes.ensures.0 found, low query_height _ _ c.in-Ok.found c.part.ensures c.query_height.ensures few)

pub returns-in-Ok-2 : goal.returns-in-Ok-2
returns-in-Ok-2 c =
    let tokens = c.args.tokens.now in
    let same : c.as_slice.result.now ≡ map lexeme tokens = c.as_slice.ensures ∙ c.in_ok-lexemes.ensures.1 in
    let found : whole (queries 65) (map lexeme tokens) ≡ Some c.in-Ok.found = ap (λ (xs : List Lexeme). whole (queries 65) xs) (sym same) ∙ c.in-Ok.ensures in
    let more : 256 < c.query_height.result = omega (arith, c.if-query_height-le-MOST_HEIGHT.false) in
    let high = tall query_height _ _ c.in-Ok.found c.part.ensures c.query_height.ensures more in
    rw c.refused.ensures (Refuses.too_deep c.in-Ok.found c.in_ok-lexemes.ensures.0 (query_found tokens c.in-Ok.found c.in_ok-lexemes.ensures.0 found) high, refl)

pub returns-in-Err-Syntax : goal.returns-in-Err-Syntax
returns-in-Err-Syntax c =
    let tokens = c.args.tokens.now in
    let same : c.as_slice.result.now ≡ map lexeme tokens = c.as_slice.ensures ∙ c.in_ok-lexemes.ensures.1 in
    let none : whole (queries 65) (map lexeme tokens) ≡ None = ap (λ (xs : List Lexeme). whole (queries 65) xs) (sym same) ∙ unread (whole (queries 65) c.as_slice.result.now) _ _ c.query_at.ensures c.in-Err-Syntax.is c.in-Err-Syntax.field-0-is in
    rw c.refused-in-Err-Syntax.ensures (Refuses.no_tree c.in_ok-lexemes.ensures.0 (no_query tokens c.in_ok-lexemes.ensures.0 none), refl)
