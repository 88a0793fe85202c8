-- The parts of changes of data that are read are spelled by the tokens.
use Rattle.std.proofs.Common.{◌≡◌, Bool, true, List, [], ◌∷◌, ◌++◌, Option, Some, None, sym, subst, ◌∙◌, arith, append_assoc, map, inl, inr}
use Rattle.std.specs.Prelude.{codes, not}
use Rattle.sq_syntax.specs.declared.symbol.Symbol.{Symbol}
use Rattle.sq_syntax.specs.declared.symbol.Symbol.TheVariants as s
use Rattle.sq_syntax.specs.declared.expr.Node.{Node}
use Rattle.sq_syntax.specs.declared.query.From.{From}
use Rattle.sq_syntax.specs.declared.query.Output.{Output}
use Rattle.sq_syntax.specs.declared.query.Query.{Query}
use Rattle.sq_syntax.specs.declared.statement.Conflict.{Conflict}
use Rattle.sq_syntax.specs.declared.statement.ConflictTarget.{ConflictTarget}
use Rattle.sq_syntax.specs.Facts.{Stream, Piece}
use Rattle.sq_syntax.specs.Pieces as p
use Rattle.sq_syntax.specs.Pieces.{at, sym as word}
use Rattle.sq_syntax.specs.QueryPieces as f
use Rattle.sq_syntax.specs.Grammar.{from_facts}
use Rattle.sq_syntax.specs.Statements as c
use Rattle.sq_syntax.specs.Statements.{word as key_word}
use Rattle.sq_grammar.specs.Reading.{Parser, sees}
use Rattle.sq_grammar.specs.Ahead.{Lexemes}
use Rattle.sq_grammar.specs.Levels.{Expr}
use Rattle.sq_grammar.specs.Queries.{from_item, output}
use Rattle.sq_grammar.specs.Statements.{sees_word, begins_names, columns, as_name, table_alias, given, values_row, source, assignment, assignments, optional_target, do_nothing, do_update, conflict, returning, sources}
use Rattle.sq_grammar.proofs.Takes.{Took, Spells, tree, ◌then◌, none, expected, behind, chosen, given as given_back, needed, at_here}
use Rattle.sq_grammar.proofs.TakeNames.{name_took}
use Rattle.sq_grammar.proofs.TakeAliases.{bare_name_took, in_brackets_took, some_names, unneeded}
use Rattle.sq_grammar.proofs.TakeAffixes.{query_tree}
use Rattle.sq_grammar.proofs.TakeSelects.{output_took, clause_took}
use Rattle.sq_grammar.proofs.TakeSources.{whole, from_item_took}
use Rattle.sq_grammar.proofs.TakeQueries.{query_took}
use Rattle.sq_grammar.proofs.KeyWords.{word_expected}
use Rattle.sq_grammar.proofs.CommaLists.{listed_took}
use Rattle.sq_grammar.proofs.ReadChanges.{same_output}

-- ---- names of tables

pub as_name_took : Spells c.as_name as_name
unfolding as_name
as_name_took now next x h = elim (chosen {b = sees s.As now} h) [
  | inl (b, k) ↦
      let one = behind k in
      let two = behind one.second in
      given_back c.as_name two.second (expected one.first then name_took one.mid two.mid two.value two.first)
  | inr (b, k) ↦ given_back c.as_name k (none now)
]

pub columns_took : Spells p.bracketed_names columns
unfolding columns
columns_took now next xs h = elim (chosen {b = begins_names now.tokens} h) [
  | inl (b, k) ↦ let one = in_brackets_took now next xs k in some_names xs now next one.1 (unneeded one.0)
  | inr (b, k) ↦ given_back p.bracketed_names k (none now)
]

-- a name of the table, and whether it is allowed without AS
pub table_alias_took : (bare : Lexemes → Bool) → Spells c.table_alias (table_alias bare)
unfolding table_alias
table_alias_took bare now next x h = elim (chosen {b = sees s.As now} h) [
  | inl (b, k) ↦
      let one = behind k in
      let two = behind one.second in
      given_back c.table_alias two.second (expected one.first then name_took one.mid two.mid two.value two.first)
  | inr (b, k) ↦ elim (chosen {b = bare now.tokens} k) [
    | inl (d, l) ↦ let one = behind l in given_back c.table_alias one.second (bare_name_took now one.mid one.value one.first)
    | inr (d, l) ↦ given_back c.table_alias l (none now)
  ]
]

module _ (expr : Parser Expr) (inner : Parser Query) (n : Spells (tree 0) expr) (i : Spells query_tree inner) where
  -- ---- what columns get

  given_took : Spells c.given (given expr inner)
  unfolding given
  given_took now next x h = elim (chosen {b = sees_word (codes "default") now} h) [
    | inl (b, k) ↦ let one = behind k in given_back c.given one.second (at_here (omega arith) (word_expected one.first))
    | inr (b, k) ↦ let one = behind k in given_back c.given one.second (n now one.mid one.value one.first)
  ]

  values_row_took : Spells c.values_row (values_row expr inner)
  unfolding values_row
  values_row_took now next x h =
      let one = behind h in
      let two = behind one.second in
      let three = behind two.second in
      let l = listed_took (given expr inner) c.given given_took one.mid two.mid two.value two.first in
      given_back c.values_row three.second (at_here (omega arith) (expected one.first then needed l.some (l.took then expected three.first)))

  assignment_took : Spells c.assignment (assignment expr inner)
  unfolding assignment
  assignment_took now next x h =
      let one = behind h in
      let two = behind one.second in
      let three = behind two.second in
      given_back c.assignment three.second (name_took now one.mid one.value one.first then expected two.first then given_took two.mid three.mid three.value three.first)

  pub assignments_took : Spells c.assignments (assignments expr inner)
  unfolding assignments
  assignments_took now next xs h =
      let one = behind h in
      let l = listed_took (assignment expr inner) c.assignment assignment_took one.mid next xs one.second in
      word_expected one.first then needed l.some l.took

  pub source_took : Spells c.source (source expr inner)
  unfolding source
  source_took now next x h = elim (chosen {b = sees_word (codes "values") now} h) [
    | inl (b, k) ↦
        let one = behind k in
        let two = behind one.second in
        let l = listed_took (values_row expr inner) c.values_row values_row_took one.mid two.mid two.value two.first in
        given_back c.source two.second (word_expected one.first then needed l.some l.took)
    | inr (b, k) ↦ elim (chosen {b = sees_word (codes "default") now} k) [
      | inl (d, l) ↦
          let one = behind l in
          let two = behind one.second in
          given_back c.source two.second (word_expected one.first then word_expected two.first)
      | inr (d, l) ↦ let one = behind l in given_back c.source one.second (query_took expr inner n i now one.mid one.value one.first)
    ]
  ]

  -- ---- ON CONFLICT

  target_took : Spells c.optional_target (optional_target expr inner)
  unfolding optional_target
  target_took now next x h = elim (chosen {b = sees s.Open now} h) [
    | inl (b, k) ↦
        let one = behind k in
        let two = behind one.second in
        let names = (in_brackets_took now one.mid one.value one.first).0 in
        let all = names then clause_took expr inner n i s.Where one.mid two.mid two.value two.first in
        given_back c.optional_target two.second (subst (λ ps. Took ps now two.mid) (append_assoc (word s.Open ∷ p.some one.value ∷ p.names one.value) (word s.Close ∷ []) (c.condition two.value)) all)
    | inr (b, k) ↦ elim (chosen {b = sees s.On now} k) [
      | inl (d, l) ↦
          let one = behind l in
          let two = behind one.second in
          let three = behind two.second in
          given_back c.optional_target three.second (expected one.first then word_expected two.first then name_took two.mid three.mid three.value three.first)
      | inr (d, l) ↦ given_back c.optional_target l (none now)
    ]
  ]

  -- the words before an action
  abbrev before : Option ConflictTarget → List Piece
  before x = word s.On ∷ key_word (codes "conflict") ∷ c.optional_target x ++ key_word (codes "do") ∷ []

  update_took : (x : Option ConflictTarget) (start now next : Stream) (y : Option Conflict) → Took (before x) start now → do_update expr inner start x now ≡ Some (y, next) → Took (c.conflict y) start next
  update_took None start now next y front h = absurd (cc)
  update_took (Some x) start now next y front h =
      let one = behind h in
      let two = behind one.second in
      let three = behind two.second in
      let sets = assignments_took one.mid two.mid two.value two.first in
      let last = clause_took expr inner n i s.Where two.mid three.mid three.value three.first in
      let head = word s.On ∷ key_word (codes "conflict") ∷ c.conflict_target x in
      let behind_do = word s.Update ∷ c.assignments two.value in
      let tail = c.condition three.value in
      let all = front then (expected one.first then sets) then last in
      let text : (head ++ key_word (codes "do") ∷ []) ++ (behind_do ++ tail) ≡ (head ++ key_word (codes "do") ∷ behind_do) ++ tail =
      append_assoc head (key_word (codes "do") ∷ []) (behind_do ++ tail) ∙ sym (append_assoc head (key_word (codes "do") ∷ behind_do) tail) in
      given_back c.conflict three.second (at_here (omega arith) (subst (λ ps. Took ps start three.mid) text all))

  nothing_took : (x : Option ConflictTarget) (start now next : Stream) (y : Option Conflict) → Took (before x) start now → do_nothing expr inner start x now ≡ Some (y, next) → Took (c.conflict y) start next
  nothing_took x start now next y front h =
      let one = behind h in
      let all = front then word_expected one.first in
      given_back c.conflict one.second (at_here (omega arith) (subst (λ ps. Took ps start one.mid) (append_assoc (word s.On ∷ key_word (codes "conflict") ∷ c.optional_target x) (key_word (codes "do") ∷ []) (key_word (codes "nothing") ∷ [])) all))

  pub conflict_took : Spells c.conflict (conflict expr inner)
  unfolding conflict
  conflict_took now next x h = elim (chosen {b = sees s.On now} h) [
    | inl (b, k) ↦
        let one = behind k in
        let two = behind one.second in
        let three = behind two.second in
        let four = behind three.second in
        let front : Took (before three.value) now four.mid = (expected one.first then word_expected two.first then target_took two.mid three.mid three.value three.first) then word_expected four.first in
        elim (chosen {b = sees_word (codes "nothing") four.mid} four.second) [
          | inl (d, l) ↦ nothing_took three.value now four.mid next x front l
          | inr (d, l) ↦ update_took three.value now four.mid next x front l
        ]
    | inr (b, k) ↦ given_back c.conflict k (none now)
  ]

  -- ---- clauses

  abbrev output_pieces : Node (Output Expr) → List Piece
  output_pieces x = f.output_pieces (c.output_facts x)

  outputs_took : Spells output_pieces (output expr inner)
  outputs_took now next x h = subst (λ y. Took (f.output_pieces y) now next) (sym (same_output x)) (output_took expr inner n i now next x h)

  some_returning : (xs : List (Node (Output Expr))) (now next : Stream) → not (p.is_empty xs) ≡ true → Took (key_word (codes "returning") ∷ p.listed (map output_pieces xs)) now next → Took (c.returning xs) now next
  some_returning [] now next some took = absurd (cc)
  some_returning (x ∷ xs) now next some took = took

  pub returning_took : Spells c.returning (returning expr inner)
  unfolding returning
  returning_took now next xs h = elim (chosen {b = sees_word (codes "returning") now} h) [
    | inl (b, k) ↦
        let one = behind k in
        let l = listed_took (output expr inner) output_pieces outputs_took one.mid next xs one.second in
        some_returning xs now next l.some (word_expected one.first then l.took)
    | inr (b, k) ↦ given_back c.returning k (none now)
  ]

  abbrev source_pieces : From → List Piece
  source_pieces x = whole (from_facts x)

  some_sources : (before : Symbol) (xs : List From) (now next : Stream) → not (p.is_empty xs) ≡ true → Took (word before ∷ p.listed (map source_pieces xs)) now next → Took (c.sources before xs) now next
  some_sources before [] now next some took = absurd (cc)
  some_sources before (x ∷ xs) now next some took = took

  pub sources_took : (before : Symbol) → Spells (c.sources before) (sources expr inner before)
  unfolding sources
  sources_took before now next xs h = elim (chosen {b = sees before now} h) [
    | inl (b, k) ↦
        let one = behind k in
        let l = listed_took (from_item expr inner) source_pieces (from_item_took expr inner n i) one.mid next xs one.second in
        some_sources before xs now next l.some (expected one.first then l.took)
    | inr (b, k) ↦ given_back (c.sources before) k (none now)
  ]
