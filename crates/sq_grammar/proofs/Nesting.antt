-- Tokens nest as deep as the tree that they spell.
use Rattle.std.proofs.Common.{◌≡◌, ℕ, ◌+◌, ◌≤◌, true, List, [], ◌∷◌, length, refl, ap, ◌∙◌, arith, map}
use Rattle.std.specs.Prelude.{max}
use Rattle.std.proofs.lemmas.List.{length-map}
use Rattle.sq_syntax.specs.declared.symbol.Reading.{Reading}
use Rattle.sq_syntax.specs.declared.query.Factor.{Factor}
use Rattle.sq_syntax.specs.declared.query.Join.{Join}
use Rattle.sq_syntax.specs.declared.query.Source.{Source}
use Rattle.sq_syntax.specs.declared.query.From.{From}
use Rattle.sq_syntax.specs.declared.query.Query.{Query}
use Rattle.sq_syntax.specs.declared.query.Select.{Select}
use Rattle.sq_syntax.specs.declared.token.Token.{Token}
use Rattle.sq_syntax.specs.Symbols.{lexeme}
use Rattle.sq_syntax.specs.Facts.{Mark, Stream, Along, Facts, from, turn, opens, readings, depth_before}
use Rattle.sq_syntax.specs.Grammar.{tree_facts, factor_facts, join_facts, source_facts, from_facts, query_facts, select_facts, nesting_depth, IsExpression, IsQuery}
use Rattle.sq_grammar.specs.Ahead.{Lexemes}
use Rattle.sq_grammar.specs.Levels.{Expr}
use Rattle.sq_grammar.proofs.Takes.{tokens_of}
use Rattle.sq_grammar.proofs.TakeTokens.{tree_one}
use Rattle.sq_grammar.proofs.Walks.{Counts}
use Rattle.sq_grammar.proofs.Walking.{below}

-- ---- trees

-- where only the depth is asked for, nothing is counted
counted : Lexemes → ℕ → Unit {0}
counted tokens n = tt

counts : Counts counted
counts = record { one = λ x rest n. refl }

-- the readings of a tree's tokens nest as deep as the tree
abbrev pub NestsAsDeep : Facts → Type 0
NestsAsDeep x = from 0 x.level ≡ true → (n : ℕ) → depth_before (readings x.marks) n ≡ max x.depth n

pub tree_nests : (x : Expr) → NestsAsDeep (tree_facts x)
tree_nests x h n = ((below counted counts (tree_facts x).layers).expressions x (omega arith)).nests h n

pub factor_nests : (x : Factor) → NestsAsDeep (factor_facts x)
factor_nests x h n = ((below counted counts (factor_facts x).layers).factors x (omega arith)).nests h n

pub join_nests : (x : Join) → NestsAsDeep (join_facts x)
join_nests x h n = ((below counted counts (join_facts x).layers).joins x (omega arith)).nests h n

pub source_nests : (x : Source) → NestsAsDeep (source_facts x)
source_nests x h n = ((below counted counts (source_facts x).layers).sources x (omega arith)).nests h n

pub from_nests : (x : From) → NestsAsDeep (from_facts x)
from_nests x h n = ((below counted counts (from_facts x).layers).froms x (omega arith)).nests h n

pub query_nests : (x : Query) → NestsAsDeep (query_facts x)
query_nests x h n = ((below counted counts (query_facts x).layers).queries x (omega arith)).nests h n

pub select_nests : (x : Select) → NestsAsDeep (select_facts x)
select_nests x h n = ((below counted counts (select_facts x).layers).selects x (omega arith)).nests h n

-- ---- tokens

abbrev pub tokens_readings : Lexemes → List Reading
tokens_readings tokens = map (λ x. x.reading) tokens

pub along_depth : (marks : List Mark) (now next : Stream) → Along marks now next → (n : ℕ) → depth_before (tokens_readings now.tokens) n ≡ depth_before (readings marks) (depth_before (tokens_readings next.tokens) n)
along_depth [] now next h n = ap (λ (u : Stream). depth_before (tokens_readings u.tokens) n) h
along_depth (Mark.says r ∷ marks) now next h n = ap (λ tokens. depth_before (tokens_readings tokens) n) h.1.first ∙ ap (opens (turn r)) (along_depth marks h.0 next h.2 n)
along_depth (Mark.stands_at place ∷ marks) now next h n = along_depth marks now next h.1 n
along_depth (Mark.begins i ∷ marks) now next h n = along_depth marks now next h.1 n
along_depth (Mark.ends i ∷ marks) now next h n = along_depth marks now next h.1 n

pub lexemes_depth : (tokens : List Token) (n : ℕ) → depth_before (map (λ token. (lexeme token).reading) tokens) n ≡ depth_before (tokens_readings (map lexeme tokens)) n
lexemes_depth [] n = refl
lexemes_depth (x ∷ tokens) n = ap (opens (turn (lexeme x).reading)) (lexemes_depth tokens n)

-- no token is left out
pub along_length : (marks : List Mark) (now next : Stream) → Along marks now next → length now.tokens ≡ tokens_of marks + length next.tokens
along_length [] now next h = omega (arith, ap (λ (u : Stream). length u.tokens) h)
along_length (Mark.says r ∷ marks) now next h = omega (arith, ap (λ tokens. length tokens) h.1.first, along_length marks h.0 next h.2)
along_length (Mark.stands_at place ∷ marks) now next h = along_length marks now next h.1
along_length (Mark.begins i ∷ marks) now next h = along_length marks now next h.1
along_length (Mark.ends i ∷ marks) now next h = along_length marks now next h.1

pub max_zero : (n : ℕ) → max n 0 ≡ n
max_zero n = omega arith

pub expression_depth : (tokens : List Token) (x : Expr) → IsExpression tokens x → nesting_depth tokens ≡ (tree_facts x).depth
expression_depth tokens x h = lexemes_depth tokens 0 ∙ along_depth (tree_facts x).marks _ _ h.0 0 ∙ tree_nests x h.1 0 ∙ max_zero (tree_facts x).depth

pub query_depth : (tokens : List Token) (x : Query) → IsQuery tokens x → nesting_depth tokens ≡ (query_facts x).depth
query_depth tokens x h = lexemes_depth tokens 0 ∙ along_depth (query_facts x).marks _ _ h.0 0 ∙ query_nests x h.1 0 ∙ max_zero (query_facts x).depth

pub expression_some : (tokens : List Token) (x : Expr) → IsExpression tokens x → 1 ≤ length tokens
expression_some tokens x h = omega (arith, tree_one x h.1, along_length (tree_facts x).marks _ _ h.0, length-map tokens lexeme)
