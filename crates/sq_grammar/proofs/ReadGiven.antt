-- What columns get, the rows of VALUES and the assignments of SET are read as they are spelled.
use Rattle.std.proofs.Common.{◌≡◌, ℕ, ◌-◌, Bool, true, false, List, [], ◌∷◌, ◌++◌, Some, refl, sym, ap, subst, ◌∙◌, arith, append_assoc, map}
use Rattle.std.specs.Prelude.{bytes_eq, codes}
use Rattle.std.proofs.lemmas.Slice.Eq.{bytes_eq-Decides}
use Rattle.sq_base.specs.declared.place.Place.{Place}
use Rattle.sq_syntax.specs.declared.symbol.Symbol.TheVariants as s
use Rattle.sq_syntax.specs.declared.symbol.Reading.{Reading}
use Rattle.sq_syntax.specs.declared.symbol.Reading.TheVariants as reading
use Rattle.sq_syntax.specs.declared.query.Query.{Query}
use Rattle.sq_syntax.specs.declared.statement.Assignment.{Assignment}
use Rattle.sq_syntax.specs.declared.statement.Given.{Given}
use Rattle.sq_syntax.specs.declared.statement.Given.TheVariants as given_kind
use Rattle.sq_syntax.specs.declared.statement.ValuesRow.{ValuesRow}
use Rattle.sq_syntax.specs.Facts.{Stream, Piece}
use Rattle.sq_syntax.specs.Symbols.{is_name}
use Rattle.sq_syntax.specs.Pieces as p
use Rattle.sq_syntax.specs.Pieces.{sym as word}
use Rattle.sq_syntax.specs.Statements as c
use Rattle.sq_grammar.specs.Reading.{Parser, ◌>>=◌, ◌>>◌, pure, sees, expect, same, here}
use Rattle.sq_grammar.specs.Ahead.{Lexemes}
use Rattle.sq_grammar.specs.Levels.{Expr}
use Rattle.sq_grammar.specs.Names.{name}
use Rattle.sq_grammar.specs.Statements.{is_word, begins_word, sees_word, expect_word, listed, given, values_row, assignment, assignments}
use Rattle.sq_grammar.proofs.Runs.{Run}
use Rattle.sq_grammar.proofs.Complete.{step, says_expect, stands_here, goes_on}
use Rattle.sq_grammar.proofs.Chains.{Gives}
use Rattle.sq_grammar.proofs.Begins.{Starts, head_fits}
use Rattle.sq_grammar.proofs.Joints.{says_goes, false_true}
use Rattle.sq_grammar.proofs.Lists.{ReadsTo}
use Rattle.sq_grammar.proofs.ReadNames.{chosen, passed, name_read}
use Rattle.sq_grammar.proofs.ReadTypes.{other_symbol, back}
use Rattle.sq_grammar.proofs.KeyWords.{says_word, that_word}
use Rattle.sq_grammar.proofs.CommaLists.{ListItem, listed_read}
use Rattle.sq_grammar.proofs.Unreserved.{unreserved}

-- ---- DEFAULT is no expression

no_name : (letters : List ℕ) (b : Bool) → bytes_eq letters (codes "default") ≡ b → is_name (reading.Word letters) ≡ true → b ≡ false
no_name letters false e h = refl
no_name letters true e h = absurd (false_true (sym (ap (λ w. is_name (reading.Word w)) ((bytes_eq-Decides letters (codes "default")).0 e)) ∙ h))

no_default : (tokens : Lexemes) → head_fits unreserved tokens ≡ true → begins_word (codes "default") tokens ≡ false
no_default [] h = refl
no_default (x ∷ rest) h = by_reading x.reading h
  where
    by_reading : (r : Reading) → unreserved r ≡ true → is_word (codes "default") r ≡ false
    by_reading (reading.Word letters) k = no_name letters (bytes_eq letters (codes "default")) refl k
    by_reading _ k = refl

module _ (expr : Parser Expr) (inner : Parser Query) (k : ℕ) (read : ReadsTo k expr) (words : Starts unreserved expr) where
  abbrev an_expression : Parser Given
  an_expression = expr >>= (λ y. pure (given_kind.Expression y))

  given_read : (x : Given) (rest : List Piece) (now next : Stream) → Run (c.given x ++ rest) k now next → ((u : Stream) → Run rest k u next → goes_on 0 u ≡ false) → Gives (given expr inner now) x rest k next
  unfolding given
  given_read (given_kind.Default place) rest now next run stop =
      let u = run.1.0 in (
        u,
        chosen (sees_word (codes "default")) (expect_word (codes "default") >> pure (given_kind.Default (here now))) an_expression now (that_word (codes "default") now u run.1.1)
            ∙ step (expect_word (codes "default")) (λ _. pure (given_kind.Default (here now))) now u tt (says_word (codes "default") now u run.1.1)
            ∙ ap (λ at. Some (given_kind.Default at, u)) (stands_here place now.tokens run.0),
        run.1.3,
      )
  given_read (given_kind.Expression x) rest now next run stop =
      let u = run.0 in
      let is_read = read x now u run.1 run.2 run.3 (stop u run.4) in (
        u,
        passed (sees_word (codes "default")) (expect_word (codes "default") >> pure (given_kind.Default (here now))) an_expression now (no_default now.tokens (words now u x is_read))
            ∙ step expr (λ y. pure (given_kind.Expression y)) now u x is_read,
        run.4,
      )

  given_item : ListItem k (given expr inner) c.given (goes_on 0)
  given_item = record { reads = given_read; stops = λ now next h. says_goes 0 (reading.Symbol s.Comma) now next h }

  -- ---- assignments

  assignment_read : (x : Assignment) (rest : List Piece) (now next : Stream) → Run (c.assignment x ++ rest) k now next → ((u : Stream) → Run rest k u next → goes_on 0 u ≡ false) → Gives (assignment expr inner now) x rest k next
  unfolding assignment
  assignment_read x rest now next run stop =
      let n = name_read k x.column (word s.Equal ∷ c.given x.value ++ rest) now next run in
      let e = n.2 in
      let g = given_read x.value rest e.0 next e.3 stop in (
        g.0,
        step name (λ y. expect s.Equal >>= (λ _. given expr inner >>= (λ z. pure (record { column = y; value = z })))) now n.0 x.column n.1
            ∙ step (expect s.Equal) (λ _. given expr inner >>= (λ z. pure (record { column = x.column; value = z }))) n.0 e.0 tt (says_expect s.Equal n.0 e.0 e.1)
            ∙ step (given expr inner) (λ z. pure (record { column = x.column; value = z })) e.0 g.0 x.value g.1,
        g.2,
      )

  assignment_item : ListItem k (assignment expr inner) c.assignment (goes_on 0)
  assignment_item = record { reads = assignment_read; stops = λ now next h. says_goes 0 (reading.Symbol s.Comma) now next h }

  pub assignments_read : (xs : List Assignment) (rest : List Piece) (now next : Stream) → Run (c.assignments xs ++ rest) k now next → ((u : Stream) → Run rest k u next → (sees s.Comma u ≡ false) × (goes_on 0 u ≡ false))
      → Gives (assignments expr inner now) xs rest k next
  unfolding assignments
  assignments_read [] rest now next run ends = absurd (false_true run.3.0)
  assignments_read (x ∷ xs) rest now next run ends =
      let u = run.0 in
      let l = listed_read k (assignment expr inner) c.assignment (goes_on 0) assignment_item x xs rest u next run.3.1 ends in
      (l.0, step (expect_word (codes "set")) (λ _. listed (assignment expr inner)) now u tt (says_word (codes "set") now u run.1) ∙ l.1, l.2)

-- ---- rows

module _ (expr : Parser Expr) (inner : Parser Query) (k : ℕ) (read : ReadsTo k expr) (words : Starts unreserved expr) where
  abbrev row_of : Place → List Given → ValuesRow
  row_of place values = record { place = place; values = values }

  row_at : (place : Place) (values : List Given) (rest : List Piece) (now next : Stream) → Run (c.values_row (row_of place values) ++ rest) k now next → Gives (values_row expr inner now) (row_of place values) rest k next
  unfolding values_row same
  row_at place [] rest now next run = absurd (false_true run.1.3.0)
  row_at place (x ∷ xs) rest now next run =
      let u = run.1.0 in
      let inside = subst (λ ps. Run ps (k - 1) u next) (append_assoc (p.listed (map c.given (x ∷ xs))) (word s.Close ∷ []) rest) run.1.3.1 in
      let item = given_item expr inner (k - 1) (λ y a b h le along stop. read y a b h (omega (arith, le)) along stop) words in
      let l = listed_read (k - 1) (given expr inner) c.given (goes_on 0) item x xs (word s.Close ∷ rest) u next inside (λ w r. (other_symbol s.Comma s.Close w r.0 r.1 refl, says_goes 0 (reading.Symbol s.Close) w r.0 r.1)) in
      let e = l.2 in (
        e.0,
        step (expect s.Open) (λ _. listed (given expr inner) >>= (λ ys. expect s.Close >>= (λ _. pure (row_of (here now) ys)))) now u tt (says_expect s.Open now u run.1.1)
            ∙ step (listed (given expr inner)) (λ ys. expect s.Close >>= (λ _. pure (row_of (here now) ys))) u l.0 (x ∷ xs) l.1
            ∙ step (expect s.Close) (λ _. pure (row_of (here now) (x ∷ xs))) l.0 e.0 tt (says_expect s.Close l.0 e.0 e.1)
            ∙ ap (λ at. Some (row_of at (x ∷ xs), e.0)) (stands_here place now.tokens run.0),
        subst (λ n. Run rest n e.0 next) (back k run.1.2) e.3,
      )

  pub row_item : ListItem k (values_row expr inner) c.values_row (λ u. false)
  row_item = record { reads = λ x rest now next run stop. row_at x.place x.values rest now next run; stops = λ now next h. refl }
