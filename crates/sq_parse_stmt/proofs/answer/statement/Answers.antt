use Rattle.std.proofs.Common.{◌≡◌, ◌≤◌, ◌<◌, arith, List, map, None, Some, refl, sym, ap, ◌∙◌}
use Rattle.std.proofs.lemmas.Result.{err_from_is_err_and}
use Rattle.sq_syntax.specs.declared.symbol.Lexeme.{Lexeme}
use Rattle.sq_syntax.specs.Statements.{IsStatement, statement_height}
use Rattle.sq_syntax.specs.Symbols.{lexeme}
use Rattle.sq_grammar.specs.Statements.{statements}
use Rattle.sq_lexemes.specs.Answers.{Refuses}
use Rattle.sq_lexemes.specs.Whole.{whole}
use Rattle.sq_parse_stmt.proofs.Exactly.{statement_found, no_statement, low, tall, unprepared, not_found}
use Rattle.sq_parse_stmt.proofs.answer.statement.Goals as goal

pub returns-in_err-lexemes : goal.returns-in_err-lexemes
returns-in_err-lexemes c =
    let p = err_from_is_err_and c.from_residual.result c.from_residual.ensures.1 in
    rw (p.1, p.2) (unprepared IsStatement statement_height c.args.tokens.now c.in_err-lexemes.field-0.0 c.in_err-lexemes.ensures)

pub returns-in-Ok : goal.returns-in-Ok
returns-in-Ok c =
    let tokens = c.args.tokens.now in
    let same : c.as_slice.result.now ≡ map lexeme tokens = c.as_slice.ensures ∙ c.in_ok-lexemes.ensures.1 in
    let found : whole (statements 65) (map lexeme tokens) ≡ Some c.in-Ok.found = ap (λ (xs : List Lexeme). whole (statements 65) xs) (sym same) ∙ c.in-Ok.ensures in
    let few : c.statement_height.result ≤ 256 = omega (arith, c.if-statement_height-le-MOST_HEIGHT.true) in
    (c.in_ok-lexemes.ensures.0, statement_found tokens c.in-Ok.found c.in_ok-lexemes.ensures.0 found, low statement_height _ _ c.in-Ok.found c.part.ensures c.statement_height.ensures few)

pub returns-in-Ok-2 : goal.returns-in-Ok-2
returns-in-Ok-2 c =
    let tokens = c.args.tokens.now in
    let same : c.as_slice.result.now ≡ map lexeme tokens = c.as_slice.ensures ∙ c.in_ok-lexemes.ensures.1 in
    let found : whole (statements 65) (map lexeme tokens) ≡ Some c.in-Ok.found = ap (λ (xs : List Lexeme). whole (statements 65) xs) (sym same) ∙ c.in-Ok.ensures in
    let more : 256 < c.statement_height.result = omega (arith, c.if-statement_height-le-MOST_HEIGHT.false) in
    let high = tall statement_height _ _ c.in-Ok.found c.part.ensures c.statement_height.ensures more in
    rw c.refused.ensures (Refuses.too_deep c.in-Ok.found c.in_ok-lexemes.ensures.0 (statement_found tokens c.in-Ok.found c.in_ok-lexemes.ensures.0 found) high, refl)

pub returns-in-Err-Syntax : goal.returns-in-Err-Syntax
returns-in-Err-Syntax c =
    let tokens = c.args.tokens.now in
    let same : c.as_slice.result.now ≡ map lexeme tokens = c.as_slice.ensures ∙ c.in_ok-lexemes.ensures.1 in
    let none : whole (statements 65) (map lexeme tokens) ≡ None = ap (λ (xs : List Lexeme). whole (statements 65) xs) (sym same) ∙ not_found (whole (statements 65) c.as_slice.result.now) _ _ c.statement_of.ensures c.in-Err-Syntax.is c.in-Err-Syntax.field-0-is in
    rw c.refused-in-Err-Syntax.ensures (Refuses.no_tree c.in_ok-lexemes.ensures.0 (no_statement tokens c.in_ok-lexemes.ensures.0 none), refl)
