use Rattle.std.proofs.Common.{◌≡◌, ◌≢◌, ◌≤◌, arith, List, map, None, Some, refl, sym, ap, ◌∙◌}
use Rattle.sq_syntax.specs.declared.symbol.Lexeme.{Lexeme}
use Rattle.sq_syntax.specs.Symbols.{lexeme}
use Rattle.sq_grammar.specs.Schemas.{ddl}
use Rattle.sq_lexemes.specs.declared.error.ParseError.TheVariants.{Memory, Syntax}
use Rattle.sq_lexemes.specs.Whole.{whole}
use Rattle.sq_parse_ddl.specs.PassedOver.{passed_over}
use Rattle.sq_parse_ddl.proofs.Exactly.{exceeded, read, unread}
use Rattle.sq_parse_ddl.proofs.answer.ddl.Goals as goal

differ : Syntax ≢ Memory
differ h = cc

pub returns-in-Some : goal.returns-in-Some
returns-in-Some c =
    let tokens = c.args.tokens.now in
    let same : c.as_slice.result.now ≡ map lexeme tokens = c.as_slice.ensures ∙ c.in_ok-found.ensures.value in
    let kept = ap passed_over (sym same) ∙ sym c.is_passed_over.ensures ∙ c.if-is_passed_over.false in
    rw c.refused.ensures (kept, (exceeded tokens c.in-Some.code c.in-Some.ensures, refl))

pub returns-in-Err-Syntax : goal.returns-in-Err-Syntax
returns-in-Err-Syntax c =
    let tokens = c.args.tokens.now in
    let same : c.as_slice.result.now ≡ map lexeme tokens = c.as_slice.ensures ∙ c.in_ok-found.ensures.value in
    let read : c.as_slice-3.result.now ≡ map lexeme tokens = c.as_slice-3.ensures ∙ c.in_ok-found.ensures.value in
    let kept = ap passed_over (sym same) ∙ sym c.is_passed_over.ensures ∙ c.if-is_passed_over.false in
    let refused = rw c.in-Err-Syntax.field-0-is at c.in-Err-Syntax.ensures in
    let none : whole ddl (map lexeme tokens) ≡ None = ap (λ (xs : List Lexeme). whole ddl xs) (sym read) ∙ refused differ in
    rw c.refused-in-Err-Syntax.ensures (kept, (unread tokens c.in_default.ensures none, refl))

pub returns-in-Ok : goal.returns-in-Ok
returns-in-Ok c =
    let tokens = c.args.tokens.now in
    let same : c.as_slice.result.now ≡ map lexeme tokens = c.as_slice.ensures ∙ c.in_ok-found.ensures.value in
    let there : c.as_slice-3.result.now ≡ map lexeme tokens = c.as_slice-3.ensures ∙ c.in_ok-found.ensures.value in
    let kept = ap passed_over (sym same) ∙ sym c.is_passed_over.ensures ∙ c.if-is_passed_over.false in
    let found : whole ddl (map lexeme tokens) ≡ Some c.in-Ok.found = ap (λ (xs : List Lexeme). whole ddl xs) (sym there) ∙ c.in-Ok.ensures in
    let low : 0 ≤ 256 = omega arith in
    (kept, (c.in_default.ensures, read tokens c.in-Ok.found found, low))
