-- The forms of constraints that have parts of their own are read as they are spelled.
use Rattle.std.proofs.Common.{◌≡◌, ℕ, Bool, true, false, List, [], ◌∷◌, ◌++◌, Option, Some, None, refl, ap, ◌∙◌, arith}
use Rattle.std.specs.Prelude.{◌||◌, if◌then◌else◌, codes, flat_map}
use Rattle.sq_syntax.specs.declared.symbol.Symbol.TheVariants as s
use Rattle.sq_syntax.specs.declared.symbol.Reading.{Reading}
use Rattle.sq_syntax.specs.declared.symbol.Reading.TheVariants as reading
use Rattle.sq_syntax.specs.declared.name.Identifier.{Identifier}
use Rattle.sq_syntax.specs.declared.ddl.ConstraintForm.TheVariants as constraint_kind
use Rattle.sq_syntax.specs.declared.ddl.Generation.{Generation}
use Rattle.sq_syntax.specs.declared.ddl.Generation.TheVariants as generation_kind
use Rattle.sq_syntax.specs.declared.ddl.Reaction.{Reaction}
use Rattle.sq_syntax.specs.declared.ddl.Reference.{Reference}
use Rattle.sq_syntax.specs.declared.ddl.ReferenceAction.{ReferenceAction}
use Rattle.sq_syntax.specs.declared.ddl.ReferenceAction.TheVariants as reference_action
use Rattle.sq_syntax.specs.declared.ddl.ReferenceEvent.{ReferenceEvent}
use Rattle.sq_syntax.specs.declared.ddl.ReferenceEvent.TheVariants as event_kind
use Rattle.sq_syntax.specs.Facts.{Stream}
use Rattle.sq_syntax.specs.Pieces as p
use Rattle.sq_syntax.specs.Pieces.{sym as word}
use Rattle.sq_syntax.specs.Statements.{word as key_word}
use Rattle.sq_syntax.specs.Schemas as z
use Rattle.sq_syntax.specs.Schemas.{is_comma, ends_default}
use Rattle.sq_grammar.specs.Reading.{◌>>◌, pure, choose, sees, expect, same}
use Rattle.sq_grammar.specs.Ahead.{Lexemes}
use Rattle.sq_grammar.specs.Statements.{is_word, sees_word, expect_word}
use Rattle.sq_grammar.specs.Schemas.{some_match, event, reference_action_words, reaction, reference, some_within, identity, generated, check, starts_constraint}
use Rattle.sq_grammar.proofs.Complete.{says_expect}
use Rattle.sq_grammar.proofs.Aliases.{second_of}
use Rattle.sq_grammar.proofs.ReadTypes.{other_symbol, that_symbol}
use Rattle.sq_grammar.proofs.KeyWords.{says_word, that_word, word_begins, symbol_no_word, word_no_symbol}
use Rattle.sq_grammar.proofs.Between.{Between, split, on, if_so, if_not}
use Rattle.sq_grammar.proofs.Heads.{ends, first_ends, no_symbol, no_word}
use Rattle.sq_grammar.proofs.ReadAlone.{ended, qualified_alone, bracketed_alone, field_alone, Several, many_alone}
use Rattle.sq_grammar.proofs.ReadRuns.{within_alone}
use Rattle.sq_grammar.proofs.SchemaWords.{closing}

-- ---- what stands behind a constraint

abbrev pub after_constraint : Reading → Bool
after_constraint r = closing r || starts_constraint r

-- ---- references

event_alone : (x : ReferenceEvent) (now next : Stream) → Between (z.event_words x) now next → event now ≡ Some (x, next)
unfolding event
event_alone event_kind.Delete now next h = if_not _ (word_no_symbol s.Update (codes "delete") now h.0 h.1) (on _ (says_word (codes "delete") now h.0 h.1) (ended h.2))
event_alone event_kind.Update now next h = if_so _ (that_symbol s.Update now h.0 h.1) (on _ (says_expect s.Update now h.0 h.1) (ended h.2))

action_alone : (x : ReferenceAction) (now next : Stream) → Between (z.action_words x) now next → reference_action_words now ≡ Some (x, next)
unfolding reference_action_words
action_alone reference_action.Cascade now next h = if_so _ (that_word (codes "cascade") now h.0 h.1) (on _ (says_word (codes "cascade") now h.0 h.1) (ended h.2))
action_alone reference_action.Restrict now next h =
    if_not _ (word_begins (codes "cascade") (reading.Word (codes "restrict")) now h.0 h.1) (if_so _ (that_word (codes "restrict") now h.0 h.1) (on _ (says_word (codes "restrict") now h.0 h.1) (ended h.2)))
action_alone reference_action.NoAction now next h =
    let a = h.2 in
    if_not _ (symbol_no_word (codes "cascade") s.No now h.0 h.1) (if_not _ (symbol_no_word (codes "restrict") s.No now h.0 h.1)
    (if_so _ (that_symbol s.No now h.0 h.1) (on _ (says_expect s.No now h.0 h.1) (on _ (says_word (codes "action") h.0 a.0 a.1) (ended a.2)))))
action_alone reference_action.SetNull now next h =
    let a = h.2 in
    if_not _ (word_begins (codes "cascade") (reading.Word (codes "set")) now h.0 h.1) (if_not _ (word_begins (codes "restrict") (reading.Word (codes "set")) now h.0 h.1) (if_not _ (word_no_symbol s.No (codes "set") now h.0 h.1)
    (on _ (says_word (codes "set") now h.0 h.1) (if_so _ (that_symbol s.Null h.0 a.0 a.1) (on _ (says_expect s.Null h.0 a.0 a.1) (ended a.2))))))
action_alone reference_action.SetDefault now next h =
    let a = h.2 in
    if_not _ (word_begins (codes "cascade") (reading.Word (codes "set")) now h.0 h.1) (if_not _ (word_begins (codes "restrict") (reading.Word (codes "set")) now h.0 h.1) (if_not _ (word_no_symbol s.No (codes "set") now h.0 h.1)
    (on _ (says_word (codes "set") now h.0 h.1) (if_not _ (word_no_symbol s.Null (codes "default") h.0 a.0 a.1) (on _ (says_word (codes "default") h.0 a.0 a.1) (ended a.2))))))

reaction_alone : (x : Reaction) (now next : Stream) → Between (z.reaction x) now next → reaction now ≡ Some (x, next)
unfolding reaction
reaction_alone x now next h =
    let m = split (z.event_words x.event) (z.action_words x.action) h.0 next h.2 in
    on _ (says_expect s.On now h.0 h.1) (on _ (event_alone x.event h.0 m.0 m.1) (on _ (action_alone x.action m.0 next m.2) refl))

abbrev anywhere : Stream → Bool
anywhere u = true

several_reactions : Several (sees s.On) reaction z.reaction anywhere
several_reactions = record {
  begun = λ x now next h. that_symbol s.On now h.0 h.1;
  before = λ x now next h. refl;
  some = λ x. omega arith;
  reads = λ x now next h end. reaction_alone x now next h;
}

abbrev is_on : Reading → Bool
is_on (reading.Symbol s.On) = true
is_on _ = false

-- what stands behind the word of MATCH, and behind the columns of a reference
abbrev after_matching : Reading → Bool
after_matching r = is_on r || after_constraint r

abbrev after_columns : Reading → Bool
after_columns r = is_word (codes "match") r || after_matching r

abbrev after_table : Reading → Bool
after_table (reading.Symbol s.Open) = true
after_table r = after_columns r

reactions_first : (xs : List Reaction) (now next : Stream) → Between (flat_map z.reaction xs) now next → ends after_constraint next.tokens ≡ true → ends after_matching now.tokens ≡ true
reactions_first [] now next h e = ap (λ (u : Stream). ends after_matching u.tokens) h ∙ widen next.tokens e
  where
    widen : (tokens : Lexemes) → ends after_constraint tokens ≡ true → ends after_matching tokens ≡ true
    widen [] k = refl
    widen (x ∷ rest) k = second_of (is_on x.reading) (after_constraint x.reading) k
reactions_first (x ∷ xs) now next h e = first_ends after_matching (reading.Symbol s.On) now h.0 h.1 refl

matching_first : (x : Option (List ℕ)) (now next : Stream) → Between (z.matching x) now next → ends after_matching next.tokens ≡ true → ends after_columns now.tokens ≡ true
matching_first None now next h e = ap (λ (u : Stream). ends after_columns u.tokens) h ∙ widen next.tokens e
  where
    widen : (tokens : Lexemes) → ends after_matching tokens ≡ true → ends after_columns tokens ≡ true
    widen [] k = refl
    widen (x ∷ rest) k = second_of (is_word (codes "match") x.reading) (after_matching x.reading) k
matching_first (Some letters) now next h e = first_ends after_columns (reading.Word (codes "match")) now h.0 h.1 refl

columns_lack_dot : (xs : List Identifier) (now next : Stream) → Between (p.bracketed_names xs) now next → ends after_columns next.tokens ≡ true → sees s.Dot now ≡ false
unfolding same
columns_lack_dot [] now next h e = ap (sees s.Dot) h ∙ no_symbol after_columns s.Dot next.tokens refl e
columns_lack_dot (x ∷ xs) now next h e = other_symbol s.Dot s.Open now h.0 h.1 refl

matching_alone : (x : Option (List ℕ)) (now next : Stream) → Between (z.matching x) now next → ends after_matching next.tokens ≡ true → choose (sees_word (codes "match")) some_match (pure None) now ≡ Some (x, next)
matching_alone None now next h e = if_not _ (ap (sees_word (codes "match")) h ∙ no_word after_matching (codes "match") next.tokens refl e) (ended h)
matching_alone (Some letters) now next h e = if_so _ (that_word (codes "match") now h.0 h.1) (on _ (says_word (codes "match") now h.0 h.1) (on _ (field_alone letters h.0 next h.2) refl))

pub reference_alone : (x : Reference) (now next : Stream) → Between (z.constraint_form (constraint_kind.References x)) now next → ends after_constraint next.tokens ≡ true → reference now ≡ Some (constraint_kind.References x, next)
unfolding reference
reference_alone x now next h e =
    let a = split ((p.qualified_name x.table ++ p.bracketed_names x.columns) ++ z.matching x.matching) (flat_map z.reaction x.reactions) h.0 next h.2 in
    let b = split (p.qualified_name x.table ++ p.bracketed_names x.columns) (z.matching x.matching) h.0 a.0 a.1 in
    let c = split (p.qualified_name x.table) (p.bracketed_names x.columns) h.0 b.0 b.1 in
    let reactions = reactions_first x.reactions a.0 next a.2 e in
    let matching = matching_first x.matching b.0 a.0 b.2 reactions in
    on _ (says_word (codes "references") now h.0 h.1) (
    on _ (qualified_alone x.table h.0 c.0 c.1 (columns_lack_dot x.columns c.0 b.0 c.2 matching)) (
    on _ (bracketed_alone x.columns c.0 b.0 c.2 (no_symbol after_columns s.Open b.0.tokens refl matching)) (
    on _ (matching_alone x.matching b.0 a.0 b.2 reactions) (
    on _ (many_alone (sees s.On) reaction z.reaction anywhere several_reactions x.reactions a.0 next a.2 (no_symbol after_constraint s.On next.tokens refl e) refl) refl))))

-- ---- other forms with parts

inherit_alone : (b : Bool) (now next : Stream) → Between (if b then word s.No ∷ key_word (codes "inherit") ∷ [] else []) now next → sees s.No next ≡ false → choose (sees s.No) (expect s.No >> (expect_word (codes "inherit") >> pure true)) (pure false) now ≡ Some (b, next)
inherit_alone true now next h e = if_so _ (that_symbol s.No now h.0 h.1) (on _ (says_expect s.No now h.0 h.1) (on _ (says_word (codes "inherit") h.0 h.2.0 h.2.1) (ended h.2.2)))
inherit_alone false now next h e = if_not _ (ap (sees s.No) h ∙ e) (ended h)

pub check_alone : (run : List Reading) (alone : Bool) (now next : Stream) → Between (z.constraint_form (constraint_kind.Check run alone)) now next → ends after_constraint next.tokens ≡ true → check now ≡ Some (constraint_kind.Check run alone, next)
unfolding check
check_alone run alone now next h e =
    let m = split (z.within run) (if alone then word s.No ∷ key_word (codes "inherit") ∷ [] else []) h.0 next h.2 in
    on _ (says_word (codes "check") now h.0 h.1) (on _ (within_alone run h.0 m.0 m.1) (on _ (inherit_alone alone m.0 next m.2 (no_symbol after_constraint s.No next.tokens refl e)) refl))

options_alone : (run : Option (List Reading)) (now next : Stream) → Between (z.optional_within run) now next → sees s.Open next ≡ false → choose (sees s.Open) some_within (pure None) now ≡ Some (run, next)
options_alone None now next h e = if_not _ (ap (sees s.Open) h ∙ e) (ended h)
options_alone (Some run) now next h e = if_so _ (that_symbol s.Open now h.0 h.1) (on _ (within_alone run now next h) refl)

identity_of : (x : Generation) (run : Option (List Reading)) (now next : Stream) → Between (key_word (codes "identity") ∷ z.optional_within run) now next → ends after_constraint next.tokens ≡ true → identity x now ≡ Some (constraint_kind.Identity x run, next)
identity_of x run now next h e = on _ (says_word (codes "identity") now h.0 h.1) (on _ (options_alone run h.0 next h.2 (no_symbol after_constraint s.Open next.tokens refl e)) refl)

pub identity_alone : (x : Generation) (run : Option (List Reading)) (now next : Stream) → Between (z.constraint_form (constraint_kind.Identity x run)) now next → ends after_constraint next.tokens ≡ true → generated now ≡ Some (constraint_kind.Identity x run, next)
unfolding generated
identity_alone generation_kind.Always run now next h e =
    let a = h.2 in
    let b = a.2 in
    on _ (says_word (codes "generated") now h.0 h.1) (if_not _ (word_no_symbol s.By (codes "always") h.0 a.0 a.1)
    (on _ (says_word (codes "always") h.0 a.0 a.1) (on _ (says_expect s.As a.0 b.0 b.1) (if_so _ (that_word (codes "identity") b.0 b.2.0 b.2.1) (identity_of generation_kind.Always run b.0 next b.2 e)))))
identity_alone generation_kind.ByDefault run now next h e =
    let a = h.2 in
    let b = a.2 in
    let c = b.2 in
    on _ (says_word (codes "generated") now h.0 h.1) (if_so _ (that_symbol s.By h.0 a.0 a.1)
    (on _ (says_expect s.By h.0 a.0 a.1) (on _ (says_word (codes "default") a.0 b.0 b.1) (on _ (says_expect s.As b.0 c.0 c.1) (identity_of generation_kind.ByDefault run c.0 next c.2 e)))))

pub stored_alone : (run : List Reading) (now next : Stream) → Between (z.constraint_form (constraint_kind.Stored run)) now next → generated now ≡ Some (constraint_kind.Stored run, next)
unfolding generated
stored_alone run now next h =
    let a = h.2 in
    let b = a.2 in
    let m = split (z.within run) (key_word (codes "stored") ∷ []) b.0 next b.2 in
    on _ (says_word (codes "generated") now h.0 h.1) (if_not _ (word_no_symbol s.By (codes "always") h.0 a.0 a.1)
    (on _ (says_word (codes "always") h.0 a.0 a.1) (on _ (says_expect s.As a.0 b.0 b.1) (if_not _ (symbol_no_word (codes "identity") s.Open b.0 m.1.0 m.1.1)
    (on _ (within_alone run b.0 m.0 m.1) (on _ (says_word (codes "stored") m.0 m.2.0 m.2.1) (ended m.2.2)))))))
