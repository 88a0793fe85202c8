-- What is read is spelled by the tokens, at each depth of brackets.
use Rattle.std.proofs.Common.{◌≡◌, ℕ, zero, suc, true, List, [], ◌∷◌, length, Option, Some, None, refl, ap, subst, ◌∙◌, arith, map}
use Rattle.std.specs.Prelude.{if◌then◌else◌, bytes_eq, codes}
use Rattle.std.proofs.lemmas.List.{length-map}
use Rattle.sq_base.specs.Folding.{folded}
use Rattle.sq_syntax.specs.declared.symbol.Symbol.{Symbol}
use Rattle.sq_syntax.specs.declared.symbol.Reading.TheVariants as reading
use Rattle.sq_syntax.specs.declared.token.TokenKind.{TokenKind}
use Rattle.sq_syntax.specs.declared.token.TokenKind.TheVariants as kind
use Rattle.sq_syntax.specs.declared.token.Token.{Token}
use Rattle.sq_syntax.specs.declared.query.Query.{Query}
use Rattle.sq_syntax.specs.Symbols.{words, signs, find, by_symbol, word_reading, sign_reading, kind_reading, lexeme}
use Rattle.sq_syntax.specs.Facts.{Mark, Stream, Along, from}
use Rattle.sq_syntax.specs.Grammar.{tree_facts, query_facts, stream, IsExpression, IsQuery}
use Rattle.sq_grammar.specs.Reading.{Outcome, Parser}
use Rattle.sq_grammar.specs.Ahead.{Lexemes}
use Rattle.sq_grammar.specs.Levels.{Expr}
use Rattle.sq_grammar.specs.Primaries.{expression}
use Rattle.sq_grammar.specs.Queries.{query}
use Rattle.sq_grammar.specs.Whole.{Parsers, deeper, parsers, expressions, queries, where_none_is_left, finished, whole}
use Rattle.sq_grammar.proofs.Runs.{along_split, both}
use Rattle.sq_grammar.proofs.Takes.{Proper, Lexed, Took, Spells, Takes, spells, takes_of, part_took, along_counts}
use Rattle.sq_grammar.proofs.Nesting.{along_length}
use Rattle.sq_grammar.proofs.Complete.{same_some}
use Rattle.sq_grammar.proofs.TakeAffixes.{query_tree}
use Rattle.sq_grammar.proofs.TakeQueries.{query_took}
use Rattle.sq_grammar.proofs.TakeTower.{expression_took}

-- ---- the tokens of a file are lexed

word_proper : (bytes : List ℕ) (found : Option Symbol) → find words bytes ≡ found → Proper (by_symbol reading.Word bytes found)
unfolding word_reading
word_proper bytes None h = ap (λ o. by_symbol reading.Word bytes o) h
word_proper bytes (Some x) h = tt

sign_proper : (bytes : List ℕ) (found : Option Symbol) → Proper (by_symbol reading.Operator bytes found)
sign_proper bytes None = tt
sign_proper bytes (Some x) = tt

reading_proper : (k : TokenKind) (bytes : List ℕ) → Proper (kind_reading k bytes)
unfolding word_reading sign_reading
reading_proper kind.Word bytes = word_proper (folded bytes) (find words (folded bytes)) refl
reading_proper kind.Operator bytes = let sign = if bytes_eq bytes (codes "!=") then codes "<>" else bytes in sign_proper sign (find signs sign)
reading_proper kind.Punct bytes = sign_proper bytes (find signs bytes)
reading_proper _ bytes = tt

pub lexed : (tokens : List Token) → Lexed (map lexeme tokens)
lexed [] = tt
lexed (x ∷ tokens) = (reading_proper x.kind x.bytes, lexed tokens)

-- ---- queries

-- what a parser of queries takes
pub record TakesQueries (p : Parser Query) : Type 0 where
  pub takes : (now next : Stream) (x : Query) → Lexed now.tokens → p now ≡ Some (x, next) → (from 0 (query_facts x).level ≡ true) × Along (query_facts x).marks now next

whole_parts : (x : Query) (now next : Stream) → Lexed now.tokens → Took (query_tree x) now next → (from 0 (query_facts x).level ≡ true) × Along (query_facts x).marks now next
whole_parts x now next l took =
    let t = along_split (query_facts x).marks [] now next (took.along l) in
    ((both (from 0 (query_facts x).level) true (took.holds l)).0, subst (λ u. Along (query_facts x).marks now u) t.2 t.1)

pub spells_query : (p : Parser Query) → TakesQueries p → Spells query_tree p
spells_query p t now next x h = part_took 0 (query_facts x) now next (λ l. t.takes now next x l h)

-- every expression that is read is well levelled and spelled by the tokens
pub takes_expression : (nested : Parser Expr) (inner : Parser Query) → Takes 0 nested → TakesQueries inner → Takes 0 (expression nested inner)
takes_expression nested inner n i = takes_of 0 (expression nested inner) (expression_took nested inner (spells 0 nested n) (spells_query inner i))

-- every query that is read is well levelled and spelled by the tokens
pub takes_query : (expr : Parser Expr) (inner : Parser Query) → Takes 0 expr → TakesQueries inner → TakesQueries (query expr inner)
takes_query expr inner n i = record { takes = λ now next x l h. whole_parts x now next l (query_took expr inner (spells 0 expr n) (spells_query inner i) now next x h) }

-- ---- at each depth

pub record TakesBoth (p : Parsers) : Type 0 where
  pub expressions : Takes 0 p.expressions
  pub queries : TakesQueries p.queries

takes_deeper : (p : Parsers) → TakesBoth p → TakesBoth (deeper p)
takes_deeper p t =
    let first = takes_expression p.expressions p.queries t.expressions t.queries in
    record { expressions = first; queries = takes_query (expression p.expressions p.queries) p.queries first t.queries }

pub takes_at : (d : ℕ) → TakesBoth (parsers d)
unfolding parsers
takes_at zero = record { expressions = record { takes = λ now next x l h. absurd (cc) }; queries = record { takes = λ now next x l h. absurd (cc) } }
takes_at (suc d) = takes_deeper (parsers d) (takes_at d)

-- ---- all of the tokens

none_left : {A : Type 0} (x y : A) (tokens : Lexemes) → where_none_is_left x tokens ≡ Some y → (x ≡ y) × (tokens ≡ [])
none_left x y [] h = (same_some h, refl)
none_left x y (z ∷ rest) h = absurd (cc)

pub finished_at : {A : Type 0} (o : Outcome A) (x : A) → finished o ≡ Some x → (next : Stream) × (o ≡ Some (x, next)) × (next.tokens ≡ [])
finished_at None x h = absurd (cc)
finished_at (Some p) x h = let n = none_left p.0 x p.1.tokens h in (p.1, ap (λ y. Some (y, p.1)) n.0, n.1)

pub at_end : (tokens : List Token) (marks : List Mark) (next : Stream) → next.tokens ≡ [] → Along marks (stream 0 tokens) next → Along marks (stream 0 tokens) (stream (length tokens) [])
at_end tokens marks next h a =
    let count : next.at ≡ length tokens = omega (arith, along_counts marks (stream 0 tokens) next a, along_length marks (stream 0 tokens) next a, length-map tokens lexeme, ap (λ (rest : Lexemes). length rest) h) in
    let end : next ≡ stream (length tokens) [] = ap (λ (rest : Lexemes). record { at = next.at; tokens = rest }) h ∙ ap (λ (n : ℕ). stream n []) count in
    subst (λ u. Along marks (stream 0 tokens) u) end a

-- what is read of all the tokens is an expression of them
pub take_whole : (d : ℕ) (tokens : List Token) (x : Expr) → whole (expressions d) tokens ≡ Some x → IsExpression tokens x
unfolding whole
take_whole d tokens x h =
    let f = finished_at (expressions d (stream 0 tokens)) x h in
    let t = (takes_at d).expressions.takes (stream 0 tokens) f.0 x (lexed tokens) f.1 in
    (at_end tokens (tree_facts x).marks f.0 f.2 t.1, t.0)

pub take_whole_query : (d : ℕ) (tokens : List Token) (x : Query) → whole (queries d) tokens ≡ Some x → IsQuery tokens x
unfolding whole
take_whole_query d tokens x h =
    let f = finished_at (queries d (stream 0 tokens)) x h in
    let t = (takes_at d).queries.takes (stream 0 tokens) f.0 x (lexed tokens) f.1 in
    (at_end tokens (query_facts x).marks f.0 f.2 t.1, t.0)
