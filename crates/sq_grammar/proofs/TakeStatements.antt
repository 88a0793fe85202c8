-- The statements that are read are well levelled and spelled by the tokens.
use Rattle.std.proofs.Common.{◌≡◌, ◌≤◌, Bool, true, false, List, [], ◌∷◌, ◌++◌, Option, Some, None, refl, sym, ap, subst, ◌∙◌, arith, map, inl, inr}
use Rattle.std.specs.Prelude.{◌||◌, codes, not, if◌then◌else◌}
use Rattle.sq_syntax.specs.declared.symbol.Symbol.TheVariants as s
use Rattle.sq_syntax.specs.declared.symbol.Reading.{Reading}
use Rattle.sq_syntax.specs.declared.name.Identifier.{Identifier}
use Rattle.sq_syntax.specs.declared.query.Query.{Query}
use Rattle.sq_syntax.specs.declared.statement.Statement.{Statement}
use Rattle.sq_syntax.specs.declared.statement.TableAlias.{TableAlias}
use Rattle.sq_syntax.specs.Facts.{Stream, Along, Says, Piece, from, marks_of}
use Rattle.sq_syntax.specs.Symbols.{identifier_reading, is_bare_label}
use Rattle.sq_syntax.specs.Pieces as p
use Rattle.sq_syntax.specs.Pieces.{sym as word}
use Rattle.sq_syntax.specs.QueryPieces as f
use Rattle.sq_syntax.specs.Statements as c
use Rattle.sq_syntax.specs.Statements.{word as key_word, is_set, leaves_set, statement_facts}
use Rattle.sq_grammar.specs.Reading.{Parser, ◌>>◌, pure, sees, begins, expect}
use Rattle.sq_grammar.specs.Levels.{Expr}
use Rattle.sq_grammar.specs.Names.{word_of, name}
use Rattle.sq_grammar.specs.Queries.{bare_name, begins_label}
use Rattle.sq_grammar.specs.Statements.{begins_word, called, table_alias, begins_unset, insert, update, delete, behind_with, statement}
use Rattle.sq_grammar.proofs.Runs.{along_split, both}
use Rattle.sq_grammar.proofs.Begins.{part_of}
use Rattle.sq_grammar.proofs.Takes.{Lexed, lexed_first, Took, Spells, tree, kept, ◌then◌, expected, behind, chosen, reads, given, at_here, tokens_of}
use Rattle.sq_grammar.proofs.TakeNames.{name_calls, only_some, word_spelled, qualified_name_took}
use Rattle.sq_grammar.proofs.TakeAliases.{bare_names}
use Rattle.sq_grammar.proofs.TakeAffixes.{one_left, one_right, query_tree}
use Rattle.sq_grammar.proofs.TakeSelects.{clause_took}
use Rattle.sq_grammar.proofs.TakeSources.{whole, numbered_took}
use Rattle.sq_grammar.proofs.TakeQueries.{withs_took, query_took}
use Rattle.sq_grammar.proofs.KeyWords.{word_expected}
use Rattle.sq_grammar.proofs.TakeChanges.{as_name_took, columns_took, table_alias_took, source_took, conflict_took, assignments_took, sources_took, returning_took}

abbrev statement_tree : Statement → List Piece
statement_tree x = whole (statement_facts x)

-- ---- the name of an updated table without AS is not SET

abbrev Leaves : Option TableAlias → Stream → Type 0
Leaves x start = Lexed start.tokens → leaves_set x ≡ true

not_set : (b : Bool) → not b ≡ true → false || not b ≡ true
not_set b h = h

unset_head : (r : Reading) (now u : Stream) → Says r now u → begins_unset now.tokens ≡ true → not (is_set r) ≡ true
unset_head r now u h e = (both (is_bare_label r) (not (is_set r)) (sym (ap begins_unset h.first) ∙ e)).1

bare_leaves : (now u : Stream) (x : Identifier) → begins_unset now.tokens ≡ true → bare_name now ≡ Some (x, u) → Leaves (Some (record { has_as = false; name = x })) now
unfolding bare_name
bare_leaves now u x e h l =
    let r = reads h in
    let k = only_some (is_bare_label r.reading) (word_of r.reading r.says.place) x r.is in
    let w = word_spelled r.reading r.says.place x (name_calls r.reading (bare_names r.reading k.0)) k.1 (lexed_first r.reading now u r.says l) in
    not_set (is_set (identifier_reading x)) (ap (λ z. not (is_set z)) w.0 ∙ unset_head r.reading now u r.says e)

as_leaves : (now next start : Stream) (x : Option TableAlias) → (expect s.As >> called true name) now ≡ Some (x, next) → Leaves x start
as_leaves now next start x h =
    let one = part_of (expect s.As now) (λ _. called true name) (x, next) h in
    let two = part_of (name one.next) (λ y. pure (Some (record { has_as = true; name = y }))) (x, next) one.more in
    let made : Leaves (Some (record { has_as = true; name = two.value })) start = λ l. refl in
    kept (λ y u. Leaves y start) two.more made

unset_leaves : (now next : Stream) (x : Option TableAlias) → begins_unset now.tokens ≡ true → called false bare_name now ≡ Some (x, next) → Leaves x now
unset_leaves now next x e h =
    let one = part_of (bare_name now) (λ y. pure (Some (record { has_as = false; name = y }))) (x, next) h in
    kept (λ y u. Leaves y now) one.more (bare_leaves now one.next one.value e one.is)

none_leaves : (now next : Stream) (x : Option TableAlias) → pure None now ≡ Some (x, next) → Leaves x now
none_leaves now next x h = let made : Leaves None now = λ l. refl in kept (λ y u. Leaves y now) h made

alias_leaves : (now next : Stream) (x : Option TableAlias) → table_alias begins_unset now ≡ Some (x, next) → Leaves x now
unfolding table_alias
alias_leaves now next x h = elim (chosen {b = sees s.As now} h) [
  | inl (b, k) ↦ as_leaves now next now x k
  | inr (b, k) ↦ elim (chosen {b = begins_unset now.tokens} k) [
    | inl (d, m) ↦ unset_leaves now next x d m
    | inr (d, m) ↦ none_leaves now next x m
  ]
]

alias_took : (now next : Stream) (x : Option TableAlias) → table_alias begins_unset now ≡ Some (x, next) → Took (Piece.need (leaves_set x) ∷ c.table_alias x) now next
alias_took now next x h =
    let took = table_alias_took begins_unset now next x h in
    let leaves = alias_leaves now next x h in
    record { holds = λ l. rw (leaves l, took.holds l) refl; along = λ l. took.along l }

module _ (expr : Parser Expr) (inner : Parser Query) (n : Spells (tree 0) expr) (i : Spells query_tree inner) where
  insert_took : Spells statement_tree (insert expr inner)
  unfolding insert
  insert_took now next x h =
      let one = behind h in
      let two = behind one.second in
      let three = behind two.second in
      let four = behind three.second in
      let five = behind four.second in
      let six = behind five.second in
      let seven = behind six.second in
      let eight = behind seven.second in
      let nine = behind eight.second in
      let withs = f.with_queries (map c.with_facts one.value) in
      let names = c.as_name five.value in
      let listed = p.bracketed_names six.value in
      let found = c.source seven.value in
      let action = c.conflict eight.value in
      let outputs = c.returning nine.value in
      let head = key_word (codes "insert") ∷ key_word (codes "into") ∷ p.qualified_name four.value in
      let pieces = withs ++ head ++ names ++ listed ++ found ++ action ++ outputs in
      let head_took : Took head one.mid four.mid = word_expected two.first then word_expected three.first then qualified_name_took three.mid four.mid four.value four.first in
      let all : Took pieces now nine.mid =
      (((((withs_took expr inner n i now one.mid one.value one.first then head_took) then as_name_took four.mid five.mid five.value five.first) then columns_took five.mid six.mid six.value six.first)
      then source_took expr inner n i six.mid seven.mid seven.value seven.first) then conflict_took expr inner n i seven.mid eight.mid eight.value eight.first) then returning_took expr inner n i eight.mid nine.mid nine.value nine.first in
      let some : 1 ≤ tokens_of (marks_of pieces) =
      one_left (withs ++ head ++ names ++ listed ++ found ++ action) outputs (one_left (withs ++ head ++ names ++ listed ++ found) action (one_left (withs ++ head ++ names ++ listed) found
      (one_left (withs ++ head ++ names) listed (one_left (withs ++ head) names (one_right withs head (omega arith)))))) in
      given statement_tree nine.second (numbered_took some (at_here some all))

  update_took : Spells statement_tree (update expr inner)
  unfolding update
  update_took now next x h =
      let one = behind h in
      let two = behind one.second in
      let three = behind two.second in
      let four = behind three.second in
      let five = behind four.second in
      let six = behind five.second in
      let seven = behind six.second in
      let eight = behind seven.second in
      let withs = f.with_queries (map c.with_facts one.value) in
      let head = word s.Update ∷ p.qualified_name three.value in
      let names = Piece.need (leaves_set four.value) ∷ c.table_alias four.value in
      let sets = c.assignments five.value in
      let sources = c.sources s.From six.value in
      let condition = c.condition seven.value in
      let outputs = c.returning eight.value in
      let pieces = withs ++ head ++ names ++ sets ++ sources ++ condition ++ outputs in
      let head_took : Took head one.mid three.mid = expected two.first then qualified_name_took two.mid three.mid three.value three.first in
      let all : Took pieces now eight.mid =
      (((((withs_took expr inner n i now one.mid one.value one.first then head_took) then alias_took three.mid four.mid four.value four.first) then assignments_took expr inner n i four.mid five.mid five.value five.first)
      then sources_took expr inner n i s.From five.mid six.mid six.value six.first) then clause_took expr inner n i s.Where six.mid seven.mid seven.value seven.first) then returning_took expr inner n i seven.mid eight.mid eight.value eight.first in
      let some : 1 ≤ tokens_of (marks_of pieces) =
      one_left (withs ++ head ++ names ++ sets ++ sources ++ condition) outputs (one_left (withs ++ head ++ names ++ sets ++ sources) condition (one_left (withs ++ head ++ names ++ sets) sources
      (one_left (withs ++ head ++ names) sets (one_left (withs ++ head) names (one_right withs head (omega arith)))))) in
      given statement_tree eight.second (numbered_took some (at_here some all))

  delete_took : Spells statement_tree (delete expr inner)
  unfolding delete
  delete_took now next x h =
      let one = behind h in
      let two = behind one.second in
      let three = behind two.second in
      let four = behind three.second in
      let five = behind four.second in
      let six = behind five.second in
      let seven = behind six.second in
      let eight = behind seven.second in
      let withs = f.with_queries (map c.with_facts one.value) in
      let head = key_word (codes "delete") ∷ word s.From ∷ p.qualified_name four.value in
      let names = c.table_alias five.value in
      let sources = c.sources s.Using six.value in
      let condition = c.condition seven.value in
      let outputs = c.returning eight.value in
      let pieces = withs ++ head ++ names ++ sources ++ condition ++ outputs in
      let head_took : Took head one.mid four.mid = word_expected two.first then expected three.first then qualified_name_took three.mid four.mid four.value four.first in
      let all : Took pieces now eight.mid =
      ((((withs_took expr inner n i now one.mid one.value one.first then head_took) then table_alias_took begins_label four.mid five.mid five.value five.first)
      then sources_took expr inner n i s.Using five.mid six.mid six.value six.first) then clause_took expr inner n i s.Where six.mid seven.mid seven.value seven.first) then returning_took expr inner n i seven.mid eight.mid eight.value eight.first in
      let some : 1 ≤ tokens_of (marks_of pieces) =
      one_left (withs ++ head ++ names ++ sources ++ condition) outputs (one_left (withs ++ head ++ names ++ sources) condition (one_left (withs ++ head ++ names) sources
      (one_left (withs ++ head) names (one_right withs head (omega arith))))) in
      given statement_tree eight.second (numbered_took some (at_here some all))

  spelled_took : Spells statement_tree (statement expr inner)
  unfolding statement
  spelled_took now next x h = elim (chosen {b = begins_word (codes "insert") (behind_with expr inner now)} h) [
    | inl (b, k) ↦ insert_took now next x k
    | inr (b, k) ↦ elim (chosen {b = begins s.Update (behind_with expr inner now)} k) [
      | inl (d, l) ↦ update_took now next x l
      | inr (d, l) ↦ elim (chosen {b = begins_word (codes "delete") (behind_with expr inner now)} l) [
        | inl (g, m) ↦ delete_took now next x m
        | inr (g, m) ↦ let one = behind m in given statement_tree one.second (query_took expr inner n i now one.mid one.value one.first)
      ]
    ]
  ]

  -- every statement that is read is well levelled and spelled by the tokens
  pub statement_took : (now next : Stream) (x : Statement) → Lexed now.tokens → statement expr inner now ≡ Some (x, next) → (from 0 (statement_facts x).level ≡ true) × Along (statement_facts x).marks now next
  statement_took now next x l h =
      let took = spelled_took now next x h in
      let t = along_split (statement_facts x).marks [] now next (took.along l) in
      ((both (from 0 (statement_facts x).level) true (took.holds l)).0, subst (λ u. Along (statement_facts x).marks now u) t.2 t.1)
