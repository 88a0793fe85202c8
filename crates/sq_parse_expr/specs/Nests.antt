-- Function values that parse.
use Rattle.std.specs.declared.alloc.Global.{Global}
use Rattle.std.specs.Prelude.{◌≡◌, ◌≢◌, ℕ, Some, None, Result, Ok, Err}
use denote.Ref.{MutBor}
use Rattle.sq_syntax.specs.Facts.{Stream}
use Rattle.sq_grammar.specs.Reading.{Parser}
use Rattle.sq_lexemes.specs.declared.error.ParseError.{ParseError}
use Rattle.sq_lexemes.specs.declared.error.ParseError.TheVariants.{Memory}
use Rattle.sq_parse_expr.specs.declared.grammar.Tree.{Tree}
use Rattle.sq_parse_expr.specs.declared.grammar.Tree.TheVariants as tree
use Rattle.sq_parse_expr.specs.declared.grammar.Wanted.{Wanted}
use Rattle.sq_parse_expr.specs.declared.grammar.Wanted.TheVariants as wanted
use Rattle.sq_lexemes.specs.Reads.{Reads}
use Rattle.sq_parse_expr.specs.Depth.{expressions, queries}

-- a function of the cursor that reads as a parser does
pub record Parses {A : Type 0} (p : Parser A) (pre : MutBor Stream → Type 0) (post : MutBor Stream → Result A ParseError → MutBor Stream → Type 0) : Type 0 where
  pub callable : (old : MutBor Stream) → pre old
  pub reads : (old new : MutBor Stream) (r : Result A ParseError) → post old r new → Reads (p old.now) r new.now

-- the tree is of the kind that is wanted, and reads as the parser of this depth does
abbrev pub ReadsTree : ℕ → Wanted → Stream → Result Tree ParseError → Stream → Type 0
ReadsTree depth wanted.Expression old (Ok (tree.Expression x)) new = expressions depth old ≡ Some (x, new)
ReadsTree depth wanted.Expression old (Ok (tree.Query x)) new = ⊥
ReadsTree depth wanted.Expression old (Err e) new = e ≢ Memory → expressions depth old ≡ None
ReadsTree depth wanted.Query old (Ok (tree.Expression x)) new = ⊥
ReadsTree depth wanted.Query old (Ok (tree.Query x)) new = queries depth old ≡ Some (x, new)
ReadsTree depth wanted.Query old (Err e) new = e ≢ Memory → queries depth old ≡ None

-- a function of the depth that parses what nests less deep than this
pub record Nests (depth : ℕ) (pre : Global → MutBor Stream → ℕ → Wanted → Type 0)
    (post : Global → MutBor Stream → ℕ → Wanted → Result Tree ParseError → MutBor Stream → Type 0) : Type 0 where
  pub callable : (alloc : Global) (old : MutBor Stream) (wanted : Wanted) → pre alloc old depth wanted
  pub reads : (alloc : Global) (old new : MutBor Stream) (wanted : Wanted) (r : Result Tree ParseError) → post alloc old depth wanted r new → ReadsTree depth wanted old.now r new.now
