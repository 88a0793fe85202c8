-- The words of queries are read as they are spelled.
use Rattle.std.proofs.Common.{ℕ, List, ◌++◌, refl, ap, subst, ◌∙◌}
use Rattle.sq_syntax.specs.declared.symbol.Symbol.TheVariants as s
use Rattle.sq_syntax.specs.declared.name.Identifier.{Identifier}
use Rattle.sq_syntax.specs.declared.query.Quantity.{Quantity}
use Rattle.sq_syntax.specs.declared.query.Quantity.TheVariants as quantity
use Rattle.sq_syntax.specs.declared.query.RowWord.{RowWord}
use Rattle.sq_syntax.specs.declared.query.RowWord.TheVariants as row_word
use Rattle.sq_syntax.specs.Facts.{Stream, Piece}
use Rattle.sq_syntax.specs.Symbols.{identifier_reading, is_bare_label}
use Rattle.sq_syntax.specs.Pieces as p
use Rattle.sq_syntax.specs.QueryPieces as f
use Rattle.sq_grammar.specs.Reading.{◌>>◌, pure, choose, sees, expect, same}
use Rattle.sq_grammar.specs.Names.{word_of}
use Rattle.sq_grammar.specs.Queries.{label_of, bare_name, quantity_word, row_words}
use Rattle.sq_grammar.proofs.Runs.{Run, spent}
use Rattle.sq_grammar.proofs.Complete.{step, says_expect, says_token, stood}
use Rattle.sq_grammar.proofs.Chains.{Gives}
use Rattle.sq_grammar.proofs.ReadNames.{Lacks, chosen, passed, only_holds, identifier_again}
use Rattle.sq_grammar.proofs.ReadTypes.{other_symbol, that_symbol}
use Rattle.sq_grammar.proofs.WalkParts.{label_turn}

pub bare_name_read : (d : ℕ) (x : Identifier) (rest : List Piece) (now next : Stream) → Run (p.bare_name x ++ rest) d now next → Gives (bare_name now) x rest d next
unfolding bare_name
bare_name_read d x rest now next run =
    let h = run.1.1.1 in
    let r = identifier_reading x in (
      run.1.1.0,
      says_token label_of x r now run.1.1.0 h (only_holds (is_bare_label r) (word_of r h.place) run.0 ∙ ap (λ place. word_of r place) (stood x.place r now run.1.1.0 h run.1.0) ∙ identifier_again x),
      subst (λ t. Run rest (spent t d) run.1.1.0 next) (label_turn r run.0) run.1.1.3,
    )

pub quantity_read : (d : ℕ) (x : Quantity) (rest : List Piece) (now next : Stream) → Run (f.quantity_words x ++ rest) d now next → Lacks s.All rest d next → Lacks s.Distinct rest d next → Gives (quantity_word now) x rest d next
unfolding quantity_word same
quantity_read d quantity.Unsaid rest now next run all distinct = (
  now,
  passed (sees s.All) (expect s.All >> pure quantity.All) (choose (sees s.Distinct) (expect s.Distinct >> pure quantity.Distinct) (pure quantity.Unsaid)) now (all now run)
      ∙ passed (sees s.Distinct) (expect s.Distinct >> pure quantity.Distinct) (pure quantity.Unsaid) now (distinct now run),
  run,
)
quantity_read d quantity.All rest now next run all distinct = (
  run.0,
  chosen (sees s.All) (expect s.All >> pure quantity.All) (choose (sees s.Distinct) (expect s.Distinct >> pure quantity.Distinct) (pure quantity.Unsaid)) now (that_symbol s.All now run.0 run.1)
      ∙ step (expect s.All) (λ _. pure quantity.All) now run.0 tt (says_expect s.All now run.0 run.1),
  run.3,
)
quantity_read d quantity.Distinct rest now next run all distinct = (
  run.0,
  passed (sees s.All) (expect s.All >> pure quantity.All) (choose (sees s.Distinct) (expect s.Distinct >> pure quantity.Distinct) (pure quantity.Unsaid)) now (other_symbol s.All s.Distinct now run.0 run.1 refl)
      ∙ chosen (sees s.Distinct) (expect s.Distinct >> pure quantity.Distinct) (pure quantity.Unsaid) now (that_symbol s.Distinct now run.0 run.1)
      ∙ step (expect s.Distinct) (λ _. pure quantity.Distinct) now run.0 tt (says_expect s.Distinct now run.0 run.1),
  run.3,
)

pub row_read : (d : ℕ) (x : RowWord) (rest : List Piece) (now next : Stream) → Run (f.row_words x ++ rest) d now next → Lacks s.Row rest d next → Lacks s.Rows rest d next → Gives (row_words now) x rest d next
unfolding row_words same
row_read d row_word.Unsaid rest now next run row rows = (
  now,
  passed (sees s.Row) (expect s.Row >> pure row_word.Row) (choose (sees s.Rows) (expect s.Rows >> pure row_word.Rows) (pure row_word.Unsaid)) now (row now run)
      ∙ passed (sees s.Rows) (expect s.Rows >> pure row_word.Rows) (pure row_word.Unsaid) now (rows now run),
  run,
)
row_read d row_word.Row rest now next run row rows = (
  run.0,
  chosen (sees s.Row) (expect s.Row >> pure row_word.Row) (choose (sees s.Rows) (expect s.Rows >> pure row_word.Rows) (pure row_word.Unsaid)) now (that_symbol s.Row now run.0 run.1)
      ∙ step (expect s.Row) (λ _. pure row_word.Row) now run.0 tt (says_expect s.Row now run.0 run.1),
  run.3,
)
row_read d row_word.Rows rest now next run row rows = (
  run.0,
  passed (sees s.Row) (expect s.Row >> pure row_word.Row) (choose (sees s.Rows) (expect s.Rows >> pure row_word.Rows) (pure row_word.Unsaid)) now (other_symbol s.Row s.Rows now run.0 run.1 refl)
      ∙ chosen (sees s.Rows) (expect s.Rows >> pure row_word.Rows) (pure row_word.Unsaid) now (that_symbol s.Rows now run.0 run.1)
      ∙ step (expect s.Rows) (λ _. pure row_word.Rows) now run.0 tt (says_expect s.Rows now run.0 run.1),
  run.3,
)
