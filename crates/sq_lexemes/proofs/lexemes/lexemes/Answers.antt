use Rattle.std.proofs.Common.{◌≡◌, ◌<◌, ℕ, ◌+◌, List, [], ◌∷◌, ◌++◌, length, drop, get_or, map, sym, ap, subst, ◌∙◌, append_assoc, add-one}
use Rattle.std.proofs.Math.Seq.{drop-cons}
use Rattle.sq_syntax.specs.declared.symbol.Lexeme.{Lexeme}
use Rattle.sq_syntax.specs.declared.token.Token.{Token}
use Rattle.sq_syntax.specs.Symbols.{lexeme}
use Rattle.sq_lexemes.specs.Cursor.{AreTexts, IsText}
use Rattle.sq_lexemes.proofs.lexemes.lexemes.Goals as goal

texts_after : (xs : List Lexeme) (x : Lexeme) → AreTexts xs → IsText x.reading → AreTexts (xs ++ x ∷ [])
texts_after [] x all one = (one, tt)
texts_after (y ∷ xs) x all one = (all.0, texts_after xs x all.1 one)

next_token : (xs : List Token) (at : ℕ) (x : Token) → at < length xs → x ≡ get_or xs at x → drop at xs ≡ x ∷ drop (at + 1) xs
next_token xs at x within is = drop-cons xs at x within ∙ (λ i. sym is i ∷ drop (sym (add-one at) i) xs)

pub loop-token-preserved : goal.loop-token-preserved
loop-token-preserved c =
    let x = c.in_ok-lexeme_of.field-0 in
    let found = c.loop-token.found in
    let all = c.args.tokens.now in
    let at = c.loop-token.token-index in
    let rest = map lexeme (drop (at + 1) all) in
    let pushed : c.push.new.self ≡ found ++ x ∷ [] = c.in_ok-push.ensures.ok in (
      ap (λ xs. xs ++ rest) pushed ∙ append_assoc found (x ∷ []) rest ∙ ap (λ (y : Lexeme). found ++ y ∷ rest) c.in_ok-lexeme_of.ensures.value
          ∙ ap (λ (ts : List Token). found ++ map lexeme ts) (sym (next_token all at c.token-item.result c.loop-token-test.true c.token-item.is)) ∙ c.loop-token.invariant.0,
      subst AreTexts (sym pushed) (texts_after found x c.loop-token.invariant.1 c.in_ok-lexeme_of.ensures.texts),
    )
