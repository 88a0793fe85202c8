use Rattle.std.proofs.Common.{◌≡◌, List, map, ap, ◌∙◌, arith}
use Rattle.sq_syntax.specs.declared.symbol.Lexeme.{Lexeme}
use Rattle.sq_syntax.specs.Facts.{depth_before}
use Rattle.sq_syntax.specs.Grammar.{nesting_depth}
use Rattle.sq_lexemes.specs.Answers.{Exceeds}
use Rattle.sq_lexemes.proofs.Bounds.{depth_of}
use Rattle.sq_lexemes.proofs.prepare.exceeded.Goals as goal

pub returns-then-tokens-gt-MOST_TOKENS : goal.returns-then-tokens-gt-MOST_TOKENS
returns-then-tokens-gt-MOST_TOKENS c = Exceeds.too_long (omega (arith, c.if-tokens-gt-MOST_TOKENS.true))

pub returns-then-nesting_depth-gt-MOST_DEPTH : goal.returns-then-nesting_depth-gt-MOST_DEPTH
returns-then-nesting_depth-gt-MOST_DEPTH c =
    let tokens = c.args.tokens.now in
    let same : c.nesting_depth.result ≡ nesting_depth tokens =
    c.nesting_depth.ensures.value ∙ ap (λ (found : List Lexeme). depth_before (map (λ x. x.reading) found) 0) c.requires ∙ depth_of tokens in
    Exceeds.too_nested (omega (arith, c.if-tokens-gt-MOST_TOKENS.false)) (omega (arith, same, c.if-nesting_depth-gt-MOST_DEPTH.true))
