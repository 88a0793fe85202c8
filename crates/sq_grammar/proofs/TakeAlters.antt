-- ALTER TABLE and ALTER TYPE that are read are spelled by the tokens, and so is every schema statement.
use Rattle.std.proofs.Common.{◌≡◌, ℕ, ◌-◌, ◌≤◌, Bool, true, false, List, [], ◌∷◌, ◌++◌, Option, Some, None, refl, sym, ap, subst, ◌∙◌, arith, map, inl, inr}
use Rattle.std.specs.Prelude.{codes, ◌||◌, ◌&&◌, not}
use Rattle.sq_syntax.specs.declared.symbol.Symbol.TheVariants as s
use Rattle.sq_syntax.specs.declared.symbol.Reading.{Reading}
use Rattle.sq_syntax.specs.declared.name.Identifier.{Identifier}
use Rattle.sq_syntax.specs.declared.name.QualifiedName.{QualifiedName}
use Rattle.sq_syntax.specs.declared.expr.Node.{Node}
use Rattle.sq_syntax.specs.declared.ddl.AlterTable.{AlterTable}
use Rattle.sq_syntax.specs.declared.ddl.Ddl.{Ddl}
use Rattle.sq_syntax.specs.declared.ddl.Ddl.TheVariants as ddl_kind
use Rattle.sq_syntax.specs.declared.ddl.TableAction.TheVariants as table_action
use Rattle.sq_syntax.specs.declared.ddl.TableChange.{TableChange}
use Rattle.sq_syntax.specs.declared.ddl.TableChange.TheVariants as table_change
use Rattle.sq_syntax.specs.declared.ddl.TypeChange.TheVariants as type_change
use Rattle.sq_syntax.specs.declared.token.Token.{Token}
use Rattle.sq_syntax.specs.Facts.{Stream, Says, Along, Piece, from, piece_holds, piece_marks, all_hold, marks_of}
use Rattle.sq_syntax.specs.Symbols.{identifier_reading}
use Rattle.sq_syntax.specs.Pieces as p
use Rattle.sq_syntax.specs.Pieces.{sym as word}
use Rattle.sq_syntax.specs.Runs.{no_stop}
use Rattle.sq_syntax.specs.Grammar.{stream}
use Rattle.sq_syntax.specs.Statements.{word as key_word, changed}
use Rattle.sq_syntax.specs.Schemas as z
use Rattle.sq_syntax.specs.Schemas.{begins_type_change, first_run, is_bare_if, names_its_table, ddl_facts, IsDdl}
use Rattle.sq_grammar.specs.Reading.{Parser, ◌>>◌, pure, choose, expect, here}
use Rattle.sq_grammar.specs.Ahead.{Lexemes}
use Rattle.sq_grammar.specs.Names.{qualified_name}
use Rattle.sq_grammar.specs.Statements.{sees_word, expect_word}
use Rattle.sq_grammar.specs.Whole.{whole as whole_of}
use Rattle.sq_grammar.specs.Schemas.{optional_word, begins_letters, begins_sign, sees_both, if_exists, numbered, some_run, ahead, change_of_table, alter_table, neighbour, add_value, rename_value, change_of_type, alter_type, create_schema, create_type, create_domain, create_table, drop_schema, drop_named, ddl}
use Rattle.sq_grammar.proofs.Runs.{along_split, both}
use Rattle.sq_grammar.proofs.Begins.{part_of, none_some}
use Rattle.sq_grammar.proofs.Joints.{false_true}
use Rattle.sq_grammar.proofs.Takes.{Lexed, lexed_after, Took, Spells, ◌then◌, none, expected, behind, chosen, kept, given, at_here, tokens_of}
use Rattle.sq_grammar.proofs.TakeNames.{name_took, qualified_name_took}
use Rattle.sq_grammar.proofs.TakeSimple.{text_took}
use Rattle.sq_grammar.proofs.TakeAffixes.{needed_by}
use Rattle.sq_grammar.proofs.TakeSources.{whole, numbered_took}
use Rattle.sq_grammar.proofs.TakeWhole.{lexed, finished_at, at_end}
use Rattle.sq_grammar.proofs.KeyWords.{word_expected}
use Rattle.sq_grammar.proofs.TakeRuns.{some_run_took}
use Rattle.sq_grammar.proofs.TakeSchemas.{optional_word_took, if_exists_took, if_not_exists_took}
use Rattle.sq_grammar.proofs.TakeActions.{Early, two_early, either_false, neither, unlike, change_of_table_took}
use Rattle.sq_grammar.proofs.TakeDdl.{create_schema_took, create_table_took, create_type_took, create_domain_took, drop_schema_took, drop_named_took}

-- ---- ALTER TYPE

neighbour_took : Spells z.neighbour neighbour
unfolding neighbour
neighbour_took now next x h = elim (chosen {b = sees_word (codes "before") now} h) [
  | inl (b, k) ↦
      let one = behind k in
      let two = behind one.second in
      given z.neighbour two.second (word_expected one.first then text_took one.mid two.mid two.value two.first)
  | inr (b, k) ↦ elim (chosen {b = sees_word (codes "after") now} k) [
    | inl (c, l) ↦
        let one = behind l in
        let two = behind one.second in
        given z.neighbour two.second (word_expected one.first then text_took one.mid two.mid two.value two.first)
    | inr (c, l) ↦ given z.neighbour l (none now)
  ]
]

add_value_took : Spells z.change_of_type add_value
unfolding add_value
add_value_took now next x h =
    let one = behind h in
    let two = behind one.second in
    let three = behind two.second in
    let four = behind three.second in
    let five = behind four.second in
    given z.change_of_type five.second
    (((word_expected one.first then word_expected two.first then if_not_exists_took two.mid three.mid three.value three.first) then text_took three.mid four.mid four.value four.first) then neighbour_took four.mid five.mid five.value five.first)

rename_value_took : Spells z.change_of_type rename_value
unfolding rename_value
rename_value_took now next x h =
    let one = behind h in
    let two = behind one.second in
    let three = behind two.second in
    let four = behind three.second in
    let five = behind four.second in
    given z.change_of_type five.second
    ((word_expected one.first then word_expected two.first then text_took two.mid three.mid three.value three.first) then word_expected four.first then text_took four.mid five.mid five.value five.first)

pairs : (second other : Reading → Bool) (first : Reading → Bool) (xs : List Reading) → z.begins_two first second xs ≡ false → z.begins_two first other xs ≡ false → z.begins_two first (λ r. second r || other r) xs ≡ false
pairs second other first [] h k = refl
pairs second other first (x ∷ []) h k = refl
pairs second other first (x ∷ y ∷ xs) h k = by_first (first x) (second y) (other y) h k
  where
    by_first : (a b c : Bool) → a && b ≡ false → a && c ≡ false → a && (b || c) ≡ false
    by_first true false c g e = e
    by_first true true c g e = g
    by_first false b c g e = refl

type_early : Early begins_type_change
type_early [] ys h = refl
type_early (x ∷ xs) ys h =
    let a = either_false (z.is (codes ".") x) _ h in
    let b = either_false (z.begins_two (z.is (codes "add")) (z.is (codes "value")) (x ∷ xs ++ ys)) _ a.1 in
    let c = either_false (z.begins_two (z.is (codes "rename")) (λ q. z.is (codes "value") q || z.is (codes "to") q) (x ∷ xs ++ ys)) _ b.1 in
    neither _ _ a.0 (neither _ _ (two_early (z.is (codes "add")) (z.is (codes "value")) (x ∷ xs) ys b.0)
    (neither _ _ (two_early (z.is (codes "rename")) (λ q. z.is (codes "value") q || z.is (codes "to") q) (x ∷ xs) ys c.0) (two_early (z.is (codes "set")) (z.is (codes "schema")) (x ∷ xs) ys c.1)))

ahead_two : (first second : List ℕ) (tokens : Lexemes) → begins_letters first second tokens ≡ false → z.begins_two (z.is first) (z.is second) (map (λ x. x.reading) tokens) ≡ false
ahead_two first second [] h = refl
ahead_two first second (x ∷ []) h = refl
ahead_two first second (x ∷ y ∷ rest) h = h

type_unlike : (now : Stream) → z.begins_two (z.is (codes "add")) (z.is (codes "value")) (ahead now) ≡ false → z.begins_two (z.is (codes "rename")) (z.is (codes "value")) (ahead now) ≡ false
    → z.begins_two (z.is (codes "rename")) (z.is (codes "to")) (ahead now) ≡ false → z.begins_two (z.is (codes "set")) (z.is (codes "schema")) (ahead now) ≡ false → begins_sign (codes ".") now.tokens ≡ false → begins_type_change (ahead now) ≡ false
type_unlike now a b c d dot = by_tokens now.tokens a (pairs (z.is (codes "value")) (z.is (codes "to")) (z.is (codes "rename")) (ahead now) b c) d dot
  where
    by_tokens : (tokens : Lexemes) → z.begins_two (z.is (codes "add")) (z.is (codes "value")) (map (λ x. x.reading) tokens) ≡ false
        → z.begins_two (z.is (codes "rename")) (λ q. z.is (codes "value") q || z.is (codes "to") q) (map (λ x. x.reading) tokens) ≡ false → z.begins_two (z.is (codes "set")) (z.is (codes "schema")) (map (λ x. x.reading) tokens) ≡ false
        → begins_sign (codes ".") tokens ≡ false → begins_type_change (map (λ x. x.reading) tokens) ≡ false
    by_tokens [] g i j k = refl
    by_tokens (x ∷ rest) g i j k = neither _ _ k (neither _ _ g (neither _ _ i j))

change_of_type_took : Spells z.change_of_type change_of_type
unfolding change_of_type
change_of_type_took now next x h = elim (chosen {b = sees_both (codes "add") (codes "value") now} h) [
  | inl (b, k) ↦ add_value_took now next x k
  | inr (b, k) ↦ elim (chosen {b = sees_both (codes "rename") (codes "value") now} k) [
    | inl (c, l) ↦ rename_value_took now next x l
    | inr (c, l) ↦ elim (chosen {b = sees_both (codes "rename") (codes "to") now} l) [
      | inl (d, m) ↦
          let one = behind m in
          let two = behind one.second in
          let three = behind two.second in
          given z.change_of_type three.second (word_expected one.first then word_expected two.first then name_took two.mid three.mid three.value three.first)
      | inr (d, m) ↦ elim (chosen {b = sees_both (codes "set") (codes "schema") now} m) [
        | inl (e, q) ↦
            let one = behind q in
            let two = behind one.second in
            let three = behind two.second in
            given z.change_of_type three.second (word_expected one.first then word_expected two.first then name_took two.mid three.mid three.value three.first)
        | inr (e, q) ↦ elim (chosen {b = begins_sign (codes ".") now.tokens} q) [
          | inl (g, r) ↦ absurd (none_some r)
          | inr (g, r) ↦
              let one = part_of (some_run no_stop now) (λ tokens. pure (type_change.Other tokens)) (x, next) r in
              let took = some_run_took no_stop now one.next one.value one.is in
              let apart = type_unlike now (ahead_two (codes "add") (codes "value") now.tokens b) (ahead_two (codes "rename") (codes "value") now.tokens c) (ahead_two (codes "rename") (codes "to") now.tokens d) (ahead_two (codes "set") (codes "schema") now.tokens e) g in
              given z.change_of_type one.more (needed_by (λ l ok along. unlike begins_type_change type_early one.value now one.next apart along) took)
        ]
      ]
    ]
  ]
]

alter_type_took : Spells z.alter_type alter_type
unfolding alter_type
alter_type_took now next x h =
    let one = behind h in
    let two = behind one.second in
    let three = behind two.second in
    let four = behind three.second in
    given z.alter_type four.second ((word_expected one.first then word_expected two.first then qualified_name_took two.mid three.mid three.value three.first) then change_of_type_took three.mid four.mid four.value four.first)

-- ---- ALTER TABLE: what is not written is not seen

record Unwritten (seen : Bool) (now next : Stream) : Type 0 where
  unseen : seen ≡ false
  same : now ≡ next

abbrev Known : Bool → Bool → Stream → Stream → Type 0
Known seen written now next = written ≡ false → Unwritten seen now next

if_known : (now next : Stream) (x : Bool) → if_exists now ≡ Some (x, next) → Known (sees_both (codes "if") (codes "exists") now) x now next
unfolding if_exists
if_known now next x h = elim (chosen {b = sees_both (codes "if") (codes "exists") now} h) [
  | inl (b, k) ↦
      let one = part_of (expect_word (codes "if") now) (λ _. expect s.Exists >> pure true) (x, next) k in
      let two = part_of (expect s.Exists one.next) (λ _. pure true) (x, next) one.more in
      let made : Known (sees_both (codes "if") (codes "exists") now) true now two.next = λ e. absurd (false_true (sym e)) in
      kept (λ y u. Known (sees_both (codes "if") (codes "exists") now) y now u) two.more made
  | inr (b, k) ↦
      let made : Known (sees_both (codes "if") (codes "exists") now) false now now = λ e. record { unseen = b; same = refl } in
      kept (λ y u. Known (sees_both (codes "if") (codes "exists") now) y now u) k made
]

only_known : (now next : Stream) (x : Bool) → optional_word (codes "only") now ≡ Some (x, next) → Known (sees_word (codes "only") now) x now next
only_known now next x h = elim (chosen {b = sees_word (codes "only") now} h) [
  | inl (b, k) ↦
      let one = part_of (expect_word (codes "only") now) (λ _. pure true) (x, next) k in
      let made : Known (sees_word (codes "only") now) true now one.next = λ e. absurd (false_true (sym e)) in
      kept (λ y u. Known (sees_word (codes "only") now) y now u) one.more made
  | inr (b, k) ↦
      let made : Known (sees_word (codes "only") now) false now now = λ e. record { unseen = b; same = refl } in
      kept (λ y u. Known (sees_word (codes "only") now) y now u) k made
]

abbrev a_star : Parser Bool
a_star = choose (λ now. begins_sign (codes "*") now.tokens) (expect s.Times >> pure true) (pure false)

star_known : (now next : Stream) (x : Bool) → a_star now ≡ Some (x, next) → Known (begins_sign (codes "*") now.tokens) x now next
star_known now next x h = elim (chosen {b = begins_sign (codes "*") now.tokens} h) [
  | inl (b, k) ↦
      let one = part_of (expect s.Times now) (λ _. pure true) (x, next) k in
      let made : Known (begins_sign (codes "*") now.tokens) true now one.next = λ e. absurd (false_true (sym e)) in
      kept (λ y u. Known (begins_sign (codes "*") now.tokens) y now u) one.more made
  | inr (b, k) ↦
      let made : Known (begins_sign (codes "*") now.tokens) false now now = λ e. record { unseen = b; same = refl } in
      kept (λ y u. Known (begins_sign (codes "*") now.tokens) y now u) k made
]

star_took : Spells (λ b. p.when b s.Times) a_star
star_took now next x h = elim (chosen {b = begins_sign (codes "*") now.tokens} h) [
  | inl (b, k) ↦ let one = behind k in given (λ y. p.when y s.Times) one.second (expected one.first)
  | inr (b, k) ↦ given (λ y. p.when y s.Times) k (none now)
]

-- the first token of a change that is a run
first_seen : (f : Reading → Bool) (x : TableChange) (u v : Stream) → Along (marks_of (z.change_of_table x)) u v → first_run f x ≡ true → (r : Reading) × (w : Stream) × Says r u w × (f r ≡ true)
first_seen f (table_change.Actions (table_action.Other (r ∷ run) ∷ xs)) u v along h = (r, along.0, along.1, h)
first_seen f _ u v along h = absurd (cc)

unless : (b : Bool) → (b ≡ true → false ≡ true) → not b ≡ true
unless true h = absurd (false_true (h refl))
unless false h = refl

star_apart : (x : TableChange) (u v : Stream) → Along (marks_of (z.change_of_table x)) u v → begins_sign (codes "*") u.tokens ≡ false → not (first_run (z.is (codes "*")) x) ≡ true
star_apart x u v along unseen = unless (first_run (z.is (codes "*")) x) (λ h.
    let t = first_seen (z.is (codes "*")) x u v along h in
    sym unseen ∙ ap (begins_sign (codes "*")) t.2.first ∙ t.3)

-- the name of the table is the word IF alone
bare_seen : (x : QualifiedName) (u v : Stream) → Along (marks_of (p.qualified_name x)) u v → is_bare_if x ≡ true → (r : Reading) × Says r u v × (z.is (codes "if") r ≡ true)
bare_seen x u v along h = by_schema x.schema along h
  where
    by_schema : (schema : Option Identifier) → Along (marks_of (p.schema_name schema ++ p.name x.name)) u v → z.is_unqualified schema && z.is (codes "if") (identifier_reading x.name) ≡ true → (r : Reading) × Says r u v × (z.is (codes "if") r ≡ true)
    by_schema None a g = (identifier_reading x.name, subst (λ w. Says (identifier_reading x.name) u w) a.1.2 a.1.1, g)
    by_schema (Some schema) a g = absurd (false_true g)

two_seen : (r q : Reading) (u v w : Stream) → Says r u v → Says q v w → sees_both (codes "if") (codes "exists") u ≡ z.is (codes "if") r && z.is (codes "exists") q
two_seen r q u v w h k = ap (begins_letters (codes "if") (codes "exists")) (h.first ∙ ap (λ rest. record { reading = r; place = h.place } ∷ rest) k.first)

if_apart : (x : QualifiedName) (y : TableChange) (u v w : Stream) → Along (marks_of (p.qualified_name x)) u v → Along (marks_of (z.change_of_table y)) v w → sees_both (codes "if") (codes "exists") u ≡ false
    → not (is_bare_if x && first_run (z.is (codes "exists")) y) ≡ true
if_apart x y u v w a b unseen = unless (is_bare_if x && first_run (z.is (codes "exists")) y) (λ h.
    let c = both (is_bare_if x) (first_run (z.is (codes "exists")) y) h in
    let r = bare_seen x u v a c.0 in
    let q = first_seen (z.is (codes "exists")) y v w b c.1 in
    sym unseen ∙ two_seen r.0 q.0 u v q.1 r.1 q.2 ∙ rw (r.2, q.3) refl)

-- the conditions on the name of a table and what stands behind it
names_table : (if_written only_written star_written : Bool) (x : QualifiedName) (y : TableChange) (m0 m1 m2 m3 m4 m5 : Stream) → Known (sees_both (codes "if") (codes "exists") m0) if_written m0 m1 → Known (sees_word (codes "only") m1) only_written m1 m2
    → Known (begins_sign (codes "*") m3.tokens) star_written m3 m4 → Along (marks_of (p.qualified_name x)) m2 m3 → Along (marks_of (z.change_of_table y)) m4 m5
    → names_its_table (record { if_exists = if_written; has_only = only_written; name = x; has_star = star_written; change = y }) ≡ true
names_table true true true x y m0 m1 m2 m3 m4 m5 i o t a b = refl
names_table true false true x y m0 m1 m2 m3 m4 m5 i o t a b = refl
names_table false true true x y m0 m1 m2 m3 m4 m5 i o t a b = refl
names_table false false true x y m0 m1 m2 m3 m4 m5 i o t a b = refl
names_table true only false x y m0 m1 m2 m3 m4 m5 i o t a b = let k = t refl in rw (star_apart y m4 m5 b (subst (λ (u : Stream). begins_sign (codes "*") u.tokens ≡ false) k.same k.unseen)) refl
names_table false true false x y m0 m1 m2 m3 m4 m5 i o t a b = let k = t refl in rw (star_apart y m4 m5 b (subst (λ (u : Stream). begins_sign (codes "*") u.tokens ≡ false) k.same k.unseen)) refl
names_table false false false x y m0 m1 m2 m3 m4 m5 i o t a b =
    let k = t refl in
    let c = i refl in
    let d = o refl in
    let at = c.same ∙ d.same in
    rw (
      star_apart y m4 m5 b (subst (λ (u : Stream). begins_sign (codes "*") u.tokens ≡ false) k.same k.unseen),
      if_apart x y m2 m3 m5 a (subst (λ (u : Stream). Along (marks_of (z.change_of_table y)) u m5) (sym k.same) b) (subst (λ (u : Stream). sees_both (codes "if") (codes "exists") u ≡ false) at c.unseen),
    ) refl

alter_table_took : Spells z.alter_table alter_table
unfolding alter_table
alter_table_took now next x h =
    let one = part_of (expect_word (codes "alter") now) _ (x, next) h in
    let two = part_of (expect_word (codes "table") one.next) _ (x, next) one.more in
    let three = part_of (if_exists two.next) _ (x, next) two.more in
    let four = part_of (optional_word (codes "only") three.next) _ (x, next) three.more in
    let five = part_of (qualified_name four.next) _ (x, next) four.more in
    let six = part_of (a_star five.next) _ (x, next) five.more in
    let seven = part_of (change_of_table six.next) _ (x, next) six.more in
    let made : AlterTable = record { if_exists = three.value; has_only = four.value; name = five.value; has_star = six.value; change = seven.value } in
    let head = (word_expected one.is then word_expected two.is then if_exists_took two.next three.next three.value three.is) then optional_word_took (codes "only") three.next four.next four.value four.is in
    let named = qualified_name_took four.next five.next five.value five.is in
    let star = star_took five.next six.next six.value six.is in
    let change = change_of_table_took six.next seven.next seven.value seven.is in
    let front_pieces = key_word (codes "alter") ∷ key_word (codes "table") ∷ z.if_exists three.value ++ z.when_word four.value (codes "only") in
    let front = (head then named) then star in
    let name_pieces = p.qualified_name five.value in
    let star_pieces = p.when six.value s.Times in
    let change_pieces = z.change_of_table seven.value in
    let lexed_name : Lexed now.tokens → Lexed four.next.tokens = λ l. lexed_after (marks_of front_pieces) now four.next (head.along l) l in
    let lexed_star : Lexed now.tokens → Lexed five.next.tokens = λ l. lexed_after (marks_of name_pieces) four.next five.next (named.along (lexed_name l)) (lexed_name l) in
    let lexed_change : Lexed now.tokens → Lexed six.next.tokens = λ l. lexed_after (marks_of star_pieces) five.next six.next (star.along (lexed_star l)) (lexed_star l) in
    let condition : Lexed now.tokens → names_its_table made ≡ true = λ l.
    names_table three.value four.value six.value five.value seven.value two.next three.next four.next five.next six.next seven.next (if_known two.next three.next three.value three.is) (only_known three.next four.next four.value four.is)
    (star_known five.next six.next six.value six.is) (named.along (lexed_name l)) (change.along (lexed_change l)) in
    let plain : Took ((front_pieces ++ name_pieces ++ star_pieces) ++ change_pieces) now seven.next = front then change in
    given z.alter_table seven.more (inserted (front_pieces ++ name_pieces ++ star_pieces) change_pieces (names_its_table made) now seven.next condition plain)
  where
    holds_in : (a b : List Piece) (c : Bool) → c ≡ true → all_hold (a ++ b) ≡ true → all_hold (a ++ Piece.need c ∷ b) ≡ true
    holds_in [] b c e g = rw (e, g) refl
    holds_in (y ∷ a) b c e g = let d = both (piece_holds y) (all_hold (a ++ b)) g in rw (d.0, holds_in a b c e d.1) refl

    marks_in : (a b : List Piece) (c : Bool) → marks_of (a ++ b) ≡ marks_of (a ++ Piece.need c ∷ b)
    marks_in [] b c = refl
    marks_in (y ∷ a) b c = ap (λ ms. piece_marks y ++ ms) (marks_in a b c)

    inserted : (a b : List Piece) (c : Bool) (start u : Stream) → (Lexed start.tokens → c ≡ true) → Took (a ++ b) start u → Took (a ++ Piece.need c ∷ b) start u
    inserted a b c start u e took = record { holds = λ l. holds_in a b c (e l) (took.holds l); along = λ l. subst (λ ms. Along ms start u) (marks_in a b c) (took.along l) }

-- ---- schema statements

abbrev ddl_tree : Ddl → List Piece
ddl_tree x = whole (ddl_facts x)

numbered_ddl : {A : Type 0} (q : Parser A) (pieces : A → List Piece) (make : Node A → Ddl) → ((n : Node A) → ddl_facts (make n) ≡ changed n.place n.first n.last (pieces n.form)) → Spells pieces q → ((x : A) → 1 ≤ tokens_of (marks_of (pieces x)))
    → Spells ddl_tree (numbered q make)
numbered_ddl {A} q pieces make facts took one now next x h =
    let t = part_of (q now) (λ y u. Some (make (record { place = here now; first = now.at; last = u.at - 1; form = y }), u)) (x, next) h in
    let n : Node A = record { place = here now; first = now.at; last = t.next.at - 1; form = t.value } in
    given ddl_tree t.more (subst (λ y. Took (whole y) now t.next) (sym (facts n)) (numbered_took (one t.value) (at_here (one t.value) (took now t.next t.value t.is))))

ddl_took : Spells ddl_tree ddl
unfolding ddl
ddl_took now next x h = elim (chosen {b = sees_both (codes "create") (codes "schema") now} h) [
  | inl (b, k) ↦ numbered_ddl create_schema z.create_schema ddl_kind.CreateSchema (λ n. refl) create_schema_took (λ y. omega arith) now next x k
  | inr (b, k) ↦ elim (chosen {b = sees_both (codes "create") (codes "type") now} k) [
    | inl (b, k) ↦ numbered_ddl create_type z.create_type ddl_kind.CreateType (λ n. refl) create_type_took (λ y. omega arith) now next x k
    | inr (b, k) ↦ elim (chosen {b = sees_both (codes "create") (codes "domain") now} k) [
      | inl (b, k) ↦ numbered_ddl create_domain z.create_domain ddl_kind.CreateDomain (λ n. refl) create_domain_took (λ y. omega arith) now next x k
      | inr (b, k) ↦ elim (chosen {b = sees_word (codes "create") now} k) [
        | inl (b, k) ↦ numbered_ddl create_table z.create_table ddl_kind.CreateTable (λ n. refl) create_table_took (λ y. omega arith) now next x k
        | inr (b, k) ↦ elim (chosen {b = sees_both (codes "drop") (codes "schema") now} k) [
          | inl (b, k) ↦ numbered_ddl drop_schema z.drop_schema ddl_kind.DropSchema (λ n. refl) drop_schema_took (λ y. omega arith) now next x k
          | inr (b, k) ↦ elim (chosen {b = sees_word (codes "drop") now} k) [
            | inl (b, k) ↦ numbered_ddl drop_named z.drop_named ddl_kind.Drop (λ n. refl) drop_named_took (λ y. omega arith) now next x k
            | inr (b, k) ↦ elim (chosen {b = sees_both (codes "alter") (codes "type") now} k) [
              | inl (b, k) ↦ numbered_ddl alter_type z.alter_type ddl_kind.AlterType (λ n. refl) alter_type_took (λ y. omega arith) now next x k
              | inr (b, k) ↦ numbered_ddl alter_table z.alter_table ddl_kind.AlterTable (λ n. refl) alter_table_took (λ y. omega arith) now next x k
            ]
          ]
        ]
      ]
    ]
  ]
]

-- what is read of all the tokens is a schema statement of them
pub take_ddl : (tokens : List Token) (x : Ddl) → whole_of ddl tokens ≡ Some x → IsDdl tokens x
unfolding whole_of
take_ddl tokens x h =
    let f = finished_at (ddl (stream 0 tokens)) x h in
    let took = ddl_took (stream 0 tokens) f.0 x f.1 in
    let l = lexed tokens in
    let t = along_split (ddl_facts x).marks [] (stream 0 tokens) f.0 (took.along l) in
    (at_end tokens (ddl_facts x).marks f.0 f.2 (subst (λ u. Along (ddl_facts x).marks (stream 0 tokens) u) t.2 t.1), (both (from 0 (ddl_facts x).level) true (took.holds l)).0)
