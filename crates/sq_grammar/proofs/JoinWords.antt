-- The words of joins are read as they are spelled.
use Rattle.std.proofs.Common.{◌≡◌, ℕ, suc, ◌≤◌, Bool, true, false, List, ◌∷◌, ◌++◌, length, Some, refl, sym, ap, ◌∙◌, arith}
use Rattle.std.specs.Prelude.{if◌then◌else◌}
use Rattle.sq_syntax.specs.declared.symbol.Symbol.TheVariants as s
use Rattle.sq_syntax.specs.declared.symbol.Lexeme.{Lexeme}
use Rattle.sq_syntax.specs.declared.symbol.Reading.{Reading}
use Rattle.sq_syntax.specs.declared.symbol.Reading.TheVariants as reading
use Rattle.sq_syntax.specs.declared.query.JoinKind.{JoinKind}
use Rattle.sq_syntax.specs.declared.query.JoinKind.TheVariants as kind
use Rattle.sq_syntax.specs.Facts.{Stream, Says, Piece}
use Rattle.sq_syntax.specs.Pieces as p
use Rattle.sq_syntax.specs.Pieces.{sym as word}
use Rattle.sq_syntax.specs.QueryPieces as f
use Rattle.sq_grammar.specs.Reading.{Outcome, Parser, ◌>>◌, pure, choose, sees, expect, optional, same}
use Rattle.sq_grammar.specs.Queries.{outer, join_words}
use Rattle.sq_grammar.proofs.Runs.{Run}
use Rattle.sq_grammar.proofs.Complete.{step, says_expect}
use Rattle.sq_grammar.proofs.ReadNames.{chosen, passed}
use Rattle.sq_grammar.proofs.ReadTypes.{other_symbol, that_symbol}
use Rattle.sq_grammar.proofs.Testing.{optional_no, optional_yes}

-- what is read, and that no more tokens stand behind it than before
abbrev pub Shortens : {A : Type 0} → Outcome A → A → List Piece → ℕ → Stream → Stream → Type 0
Shortens outcome x tail d now next = (u : Stream) × (outcome ≡ Some (x, u)) × Run tail d u next × (length u.tokens ≤ length now.tokens)

pub says_fewer : (r : Reading) (now next : Stream) → Says r now next → suc (length next.tokens) ≡ length now.tokens
says_fewer r now next h = sym (ap (λ (xs : List Lexeme). length xs) h.first)

outer_read : (d : ℕ) (plain long : JoinKind) (b : Bool) (rest : List Piece) (now next : Stream) → Run (p.when b s.Outer ++ word s.Join ∷ rest) d now next → Shortens (outer plain long now) (if b then long else plain) rest d now next
unfolding same
outer_read d plain long false rest now next run =
    let u = run.0 in (
      u,
      step (optional s.Outer) (λ has. expect s.Join >> pure (if has then long else plain)) now now false (optional_no s.Outer now (other_symbol s.Outer s.Join now u run.1 refl))
          ∙ step (expect s.Join) (λ _. pure plain) now u tt (says_expect s.Join now u run.1),
      run.3,
      omega (arith, says_fewer (reading.Symbol s.Join) now u run.1),
    )
outer_read d plain long true rest now next run =
    let u = run.0 in
    let v = run.3.0 in (
      v,
      step (optional s.Outer) (λ has. expect s.Join >> pure (if has then long else plain)) now u true (optional_yes s.Outer now u run.1)
          ∙ step (expect s.Join) (λ _. pure long) u v tt (says_expect s.Join u v run.3.1),
      run.3.3,
      omega (arith, says_fewer (reading.Symbol s.Outer) now u run.1, says_fewer (reading.Symbol s.Join) u v run.3.1),
    )

abbrev by_full : Parser JoinKind
by_full = choose (sees s.Full) (expect s.Full >> outer kind.Full kind.FullOuter) (expect s.Join >> pure kind.Unsaid)

abbrev by_right : Parser JoinKind
by_right = choose (sees s.Right) (expect s.Right >> outer kind.Right kind.RightOuter) by_full

abbrev by_left : Parser JoinKind
by_left = choose (sees s.Left) (expect s.Left >> outer kind.Left kind.LeftOuter) by_right

abbrev by_inner : Parser JoinKind
by_inner = expect s.Inner >> (expect s.Join >> pure kind.Inner)

left_read : (d : ℕ) (b : Bool) (rest : List Piece) (now next : Stream) → Run (word s.Left ∷ p.when b s.Outer ++ word s.Join ∷ rest) d now next → Shortens (join_words now) (if b then kind.LeftOuter else kind.Left) rest d now next
unfolding join_words same
left_read d b rest now next run =
    let o = outer_read d kind.Left kind.LeftOuter b rest run.0 next run.3 in (
      o.0,
      passed (sees s.Inner) by_inner by_left now (other_symbol s.Inner s.Left now run.0 run.1 refl)
          ∙ chosen (sees s.Left) (expect s.Left >> outer kind.Left kind.LeftOuter) by_right now (that_symbol s.Left now run.0 run.1)
          ∙ step (expect s.Left) (λ _. outer kind.Left kind.LeftOuter) now run.0 tt (says_expect s.Left now run.0 run.1)
          ∙ o.1,
      o.2,
      omega (arith, o.3, says_fewer (reading.Symbol s.Left) now run.0 run.1),
    )

right_read : (d : ℕ) (b : Bool) (rest : List Piece) (now next : Stream) → Run (word s.Right ∷ p.when b s.Outer ++ word s.Join ∷ rest) d now next → Shortens (join_words now) (if b then kind.RightOuter else kind.Right) rest d now next
unfolding join_words same
right_read d b rest now next run =
    let o = outer_read d kind.Right kind.RightOuter b rest run.0 next run.3 in (
      o.0,
      passed (sees s.Inner) by_inner by_left now (other_symbol s.Inner s.Right now run.0 run.1 refl)
          ∙ passed (sees s.Left) (expect s.Left >> outer kind.Left kind.LeftOuter) by_right now (other_symbol s.Left s.Right now run.0 run.1 refl)
          ∙ chosen (sees s.Right) (expect s.Right >> outer kind.Right kind.RightOuter) by_full now (that_symbol s.Right now run.0 run.1)
          ∙ step (expect s.Right) (λ _. outer kind.Right kind.RightOuter) now run.0 tt (says_expect s.Right now run.0 run.1)
          ∙ o.1,
      o.2,
      omega (arith, o.3, says_fewer (reading.Symbol s.Right) now run.0 run.1),
    )

full_read : (d : ℕ) (b : Bool) (rest : List Piece) (now next : Stream) → Run (word s.Full ∷ p.when b s.Outer ++ word s.Join ∷ rest) d now next → Shortens (join_words now) (if b then kind.FullOuter else kind.Full) rest d now next
unfolding join_words same
full_read d b rest now next run =
    let o = outer_read d kind.Full kind.FullOuter b rest run.0 next run.3 in (
      o.0,
      passed (sees s.Inner) by_inner by_left now (other_symbol s.Inner s.Full now run.0 run.1 refl)
          ∙ passed (sees s.Left) (expect s.Left >> outer kind.Left kind.LeftOuter) by_right now (other_symbol s.Left s.Full now run.0 run.1 refl)
          ∙ passed (sees s.Right) (expect s.Right >> outer kind.Right kind.RightOuter) by_full now (other_symbol s.Right s.Full now run.0 run.1 refl)
          ∙ chosen (sees s.Full) (expect s.Full >> outer kind.Full kind.FullOuter) (expect s.Join >> pure kind.Unsaid) now (that_symbol s.Full now run.0 run.1)
          ∙ step (expect s.Full) (λ _. outer kind.Full kind.FullOuter) now run.0 tt (says_expect s.Full now run.0 run.1)
          ∙ o.1,
      o.2,
      omega (arith, o.3, says_fewer (reading.Symbol s.Full) now run.0 run.1),
    )

pub join_words_read : (d : ℕ) (x : JoinKind) (rest : List Piece) (now next : Stream) → Run (f.join_words x ++ rest) d now next → Shortens (join_words now) x rest d now next
unfolding join_words same
join_words_read d kind.Unsaid rest now next run = (
  run.0,
  passed (sees s.Inner) by_inner by_left now (other_symbol s.Inner s.Join now run.0 run.1 refl)
      ∙ passed (sees s.Left) (expect s.Left >> outer kind.Left kind.LeftOuter) by_right now (other_symbol s.Left s.Join now run.0 run.1 refl)
      ∙ passed (sees s.Right) (expect s.Right >> outer kind.Right kind.RightOuter) by_full now (other_symbol s.Right s.Join now run.0 run.1 refl)
      ∙ passed (sees s.Full) (expect s.Full >> outer kind.Full kind.FullOuter) (expect s.Join >> pure kind.Unsaid) now (other_symbol s.Full s.Join now run.0 run.1 refl)
      ∙ step (expect s.Join) (λ _. pure kind.Unsaid) now run.0 tt (says_expect s.Join now run.0 run.1),
  run.3,
  omega (arith, says_fewer (reading.Symbol s.Join) now run.0 run.1),
)
join_words_read d kind.Inner rest now next run =
    let u = run.0 in
    let v = run.3.0 in (
      v,
      chosen (sees s.Inner) by_inner by_left now (that_symbol s.Inner now u run.1)
          ∙ step (expect s.Inner) (λ _. expect s.Join >> pure kind.Inner) now u tt (says_expect s.Inner now u run.1)
          ∙ step (expect s.Join) (λ _. pure kind.Inner) u v tt (says_expect s.Join u v run.3.1),
      run.3.3,
      omega (arith, says_fewer (reading.Symbol s.Inner) now u run.1, says_fewer (reading.Symbol s.Join) u v run.3.1),
    )
join_words_read d kind.Left rest now next run = left_read d false rest now next run
join_words_read d kind.LeftOuter rest now next run = left_read d true rest now next run
join_words_read d kind.Right rest now next run = right_read d false rest now next run
join_words_read d kind.RightOuter rest now next run = right_read d true rest now next run
join_words_read d kind.Full rest now next run = full_read d false rest now next run
join_words_read d kind.FullOuter rest now next run = full_read d true rest now next run
