-- The names of sources and outputs that are read are spelled by the tokens.
use Rattle.std.proofs.Common.{◌≡◌, Bool, true, false, List, [], ◌∷◌, ◌++◌, Some, refl, sym, ap, subst, ◌∙◌, inl, inr}
use Rattle.std.specs.Prelude.{flat_map, ◌||◌, not}
use Rattle.std.proofs.lemmas.Option.{some_pair_parts}
use Rattle.sq_syntax.specs.declared.symbol.Symbol.TheVariants as s
use Rattle.sq_syntax.specs.declared.symbol.Reading.{Reading}
use Rattle.sq_syntax.specs.declared.symbol.Reading.TheVariants as reading
use Rattle.sq_syntax.specs.declared.name.Identifier.{Identifier}
use Rattle.sq_syntax.specs.declared.query.Alias.{Alias}
use Rattle.sq_syntax.specs.Symbols.{identifier_reading, is_bare_label, is_name}
use Rattle.sq_syntax.specs.Facts.{Stream, Piece, all_hold}
use Rattle.sq_syntax.specs.Pieces as p
use Rattle.sq_syntax.specs.Pieces.{sym as word}
use Rattle.sq_syntax.specs.QueryPieces as f
use Rattle.sq_grammar.specs.Reading.{sees, begins}
use Rattle.sq_grammar.specs.Names.{word_of, name}
use Rattle.sq_grammar.specs.Queries.{bare_name, begins_label, next_name, names, in_brackets, bracketed_names, named, alias, optional_alias, label}
use Rattle.sq_grammar.proofs.Aliases.{comma_name, names_pieces}
use Rattle.sq_grammar.proofs.Runs.{both}
use Rattle.sq_grammar.proofs.Takes.{Took, Spells, ◌then◌, none, reads, expected, behind, chosen, given, needed}
use Rattle.sq_grammar.proofs.TakeLists.{items_took}
use Rattle.sq_grammar.proofs.TakeNames.{name_took, name_calls, only_some, word_spelled, identified}

-- ---- names

pub bare_names : (r : Reading) → is_bare_label r ≡ true → is_name r ≡ true
bare_names (reading.Symbol s.Character) h = absurd (cc)
bare_names (reading.Symbol s.Filter) h = absurd (cc)
bare_names (reading.Symbol s.Precision) h = absurd (cc)
bare_names (reading.Symbol s.Varying) h = absurd (cc)
bare_names (reading.Symbol s.Without) h = absurd (cc)
bare_names (reading.Symbol _) h = h
bare_names (reading.Word word) h = (both _ _ h).0
bare_names (reading.Quoted name) h = refl
bare_names _ h = absurd (cc)

pub bare_name_took : Spells p.bare_name bare_name
unfolding bare_name
bare_name_took now next x h =
    let r = reads h in
    identified x (is_bare_label (identifier_reading x)) r (λ proper.
    let k = only_some (is_bare_label r.reading) (word_of r.reading r.says.place) x r.is in
    let w = word_spelled r.reading r.says.place x (name_calls r.reading (bare_names r.reading k.0)) k.1 proper in
    (ap is_bare_label w.0 ∙ k.0, w.0, w.1))

pub comma_name_took : Spells comma_name next_name
comma_name_took now next x h = let one = behind h in expected one.first then name_took one.mid next x one.second

-- names, one or more
pub record Named (xs : List Identifier) (now next : Stream) : Type 0 where
  pub took : Took (p.names xs) now next
  pub some : not (p.is_empty xs) ≡ true

pub names_took : (now next : Stream) (xs : List Identifier) → names now ≡ Some (xs, next) → Named xs now next
unfolding names
names_took now next xs h =
    let one = behind h in
    let two = behind one.second in
    let x = one.value in
    let f : Took (p.name x ++ flat_map comma_name two.value) now two.mid = name_took now one.mid x one.first then items_took (sees s.Comma) next_name comma_name comma_name_took one.mid two.mid two.value two.first in
    let e = some_pair_parts (x ∷ two.value) xs two.mid next two.second in
    let made : Named (x ∷ two.value) now two.mid = record { took = subst (λ ps. Took ps now two.mid) (sym (names_pieces x two.value)) f; some = refl } in
    subst (λ u. Named xs now u) e.1 (subst (λ ys. Named ys now two.mid) e.0 made)

pub some_names : (xs : List Identifier) (now next : Stream) → not (p.is_empty xs) ≡ true → Took (word s.Open ∷ p.names xs ++ word s.Close ∷ []) now next → Took (p.bracketed_names xs) now next
some_names [] now next some took = absurd (cc)
some_names (x ∷ xs) now next some took = took

-- the same without a condition
pub unneeded : {b : Bool} {pieces : List Piece} {now next : Stream} → Took (word s.Open ∷ Piece.need b ∷ pieces) now next → Took (word s.Open ∷ pieces) now next
unneeded {b} {pieces} {now} {next} took = record { holds = λ l. (both b (all_hold pieces) (took.holds l)).1; along = λ l. took.along l }

-- names in brackets
pub in_brackets_took : (now next : Stream) (xs : List Identifier) → in_brackets now ≡ Some (xs, next) → Took (word s.Open ∷ p.some xs ∷ p.names xs ++ word s.Close ∷ []) now next × (not (p.is_empty xs) ≡ true)
in_brackets_took now next xs h =
    let one = behind h in
    let two = behind one.second in
    let three = behind two.second in
    let l = names_took one.mid two.mid two.value two.first in
    let e = some_pair_parts two.value xs three.mid next three.second in
    let made = expected one.first then needed l.some (l.took then expected three.first) in
    (given (λ ys. word s.Open ∷ p.some ys ∷ p.names ys ++ word s.Close ∷ []) three.second made, subst (λ ys. not (p.is_empty ys) ≡ true) e.0 l.some)

pub bracketed_names_took : Spells p.bracketed_names bracketed_names
unfolding bracketed_names
bracketed_names_took now next xs h = elim (chosen {b = sees s.Open now} h) [
  | inl (b, k) ↦ let one = in_brackets_took now next xs k in some_names xs now next one.1 (unneeded one.0)
  | inr (b, k) ↦ given p.bracketed_names k (none now)
]

-- ---- names of sources

as_took : (now next : Stream) (x : Alias) → named true name now ≡ Some (x, next) → {start : Stream} → Took (word s.As ∷ []) start now → Took (f.alias x) start next
as_took now next x h {start} a =
    let one = behind h in
    let two = behind one.second in
    given f.alias two.second (a then name_took now one.mid one.value one.first then bracketed_names_took one.mid two.mid two.value two.first)

unsaid_took : (now next : Stream) (x : Alias) → named false bare_name now ≡ Some (x, next) → Took (f.alias x) now next
unsaid_took now next x h =
    let one = behind h in
    let two = behind one.second in
    given f.alias two.second (bare_name_took now one.mid one.value one.first then bracketed_names_took one.mid two.mid two.value two.first)

pub alias_took : Spells f.alias alias
unfolding alias
alias_took now next x h = elim (chosen {b = sees s.As now} h) [
  | inl (b, k) ↦ let one = behind k in as_took one.mid next x one.second (expected one.first)
  | inr (b, k) ↦ unsaid_took now next x k
]

pub optional_alias_took : Spells f.optional_alias optional_alias
unfolding optional_alias
optional_alias_took now next x h = elim (chosen {b = begins s.As now.tokens || begins_label now.tokens} h) [
  | inl (b, k) ↦ let one = behind k in given f.optional_alias one.second (alias_took now one.mid one.value one.first)
  | inr (b, k) ↦ given f.optional_alias k (none now)
]

-- ---- names of outputs

pub label_took : Spells f.output_label label
unfolding label
label_took now next x h = elim (chosen {b = sees s.As now} h) [
  | inl (b, k) ↦
      let one = behind k in
      let two = behind one.second in
      given f.output_label two.second (expected one.first then name_took one.mid two.mid two.value two.first)
  | inr (b, k) ↦ elim (chosen {b = begins_label now.tokens} k) [
    | inl (c, l) ↦ let one = behind l in given f.output_label one.second (bare_name_took now one.mid one.value one.first)
    | inr (c, l) ↦ given f.output_label l (none now)
  ]
]
