-- The first tokens of an action tell its kind, and a run has those of no other.
use Rattle.std.proofs.Common.{◌≡◌, ℕ, Bool, true, false, List, [], ◌∷◌, ◌++◌, refl, sym, ap, ◌∙◌, map}
use Rattle.std.specs.Prelude.{◌&&◌, ◌||◌, if◌then◌else◌, bytes_eq, codes}
use Rattle.sq_syntax.specs.declared.symbol.Symbol.TheVariants as s
use Rattle.sq_syntax.specs.declared.symbol.Reading.{Reading}
use Rattle.sq_syntax.specs.declared.symbol.Reading.TheVariants as reading
use Rattle.sq_syntax.specs.declared.name.Identifier.{Identifier}
use Rattle.sq_syntax.specs.Facts.{Stream, Says}
use Rattle.sq_syntax.specs.Symbols.{identifier_reading, is_name}
use Rattle.sq_syntax.specs.Pieces as p
use Rattle.sq_syntax.specs.Schemas as z
use Rattle.sq_syntax.specs.Schemas.{is as is_letters, begins_two, begins_column_change, begins_named_change, past_column, begins_action, begins_type_change}
use Rattle.sq_grammar.specs.Reading.{is, same}
use Rattle.sq_grammar.specs.Ahead.{Lexemes}
use Rattle.sq_grammar.specs.Schemas.{begins_letters, ahead}
use Rattle.sq_grammar.proofs.Joints.{false_true, same_is}
use Rattle.sq_grammar.proofs.Aliases.{neither, neither_of}
use Rattle.sq_grammar.proofs.ReadTypes.{and_false}
use Rattle.sq_grammar.proofs.TakeRuns.{and_true}
use Rattle.sq_grammar.proofs.Between.{Between, if_not}
use Rattle.sq_grammar.proofs.Heads.{ends, name_no_letters}
use Rattle.sq_grammar.proofs.SchemaWords.{closing, closing_letters}

-- ---- the tokens ahead

abbrev pub readings_of : Lexemes → List Reading
readings_of tokens = map (λ x. x.reading) tokens

pub ahead_says : (r : Reading) (now next : Stream) → Says r now next → ahead now ≡ r ∷ ahead next
ahead_says r now next h = ap readings_of h.first

pub ahead_tokens : (xs : List Reading) (now next : Stream) → Between (z.tokens xs) now next → ahead now ≡ xs ++ ahead next
ahead_tokens [] now next h = ap ahead h
ahead_tokens (x ∷ xs) now next h = ahead_says x now h.0 h.1 ∙ ap (λ rest. x ∷ rest) (ahead_tokens xs h.0 next h.2)

pub letters_ahead : (first second : List ℕ) (tokens : Lexemes) → begins_letters first second tokens ≡ begins_two (is_letters first) (is_letters second) (readings_of tokens)
letters_ahead first second [] = refl
letters_ahead first second (x ∷ []) = refl
letters_ahead first second (x ∷ y ∷ rest) = refl

-- the readings begin with this class, or are none
abbrev pub starts : (Reading → Bool) → List Reading → Bool
starts class [] = true
starts class (x ∷ rest) = class x

pub starts_ahead : (class : Reading → Bool) (tokens : Lexemes) → ends class tokens ≡ true → starts class (readings_of tokens) ≡ true
starts_ahead class [] h = refl
starts_ahead class (x ∷ rest) h = h

-- ---- what stands behind a run is none of its own

closing_unnamed : (r : Reading) → closing r ≡ true → is_name r ≡ false
closing_unnamed (reading.Symbol s.Comma) h = refl
closing_unnamed (reading.Symbol s.Close) h = refl
closing_unnamed _ h = absurd (false_true h)

-- two words are seen only where both are of the run
two_behind : (first second : Reading → Bool) (r : Reading) (run rest : List Reading) → ((q : Reading) → closing q ≡ true → second q ≡ false) → starts closing rest ≡ true → begins_two first second (r ∷ run) ≡ false → begins_two first second (r ∷ run ++ rest) ≡ false
two_behind first second r [] [] unlike h e = refl
two_behind first second r [] (q ∷ rest) unlike h e = and_false (first r) (second q) (unlike q h)
two_behind first second r (q ∷ run) rest unlike h e = e

not_or_data : (q : Reading) → closing q ≡ true → is_letters (codes "not") q || is_letters (codes "data") q ≡ false
not_or_data q h = neither _ _ (closing_letters (codes "not") refl refl q h) (closing_letters (codes "data") refl refl q h)

closing_changes_none : (rest : List Reading) → starts closing rest ≡ true → begins_column_change rest ≡ false
closing_changes_none [] h = refl
closing_changes_none (q ∷ rest) h =
    neither _ _ (closing_letters (codes "type") refl refl q h) (neither _ _ (by_first (codes "set") (λ y. is_letters (codes "not") y || is_letters (codes "data") y) refl refl rest) (by_first (codes "drop") (is_letters (codes "not")) refl refl rest))
  where
    by_first : (letters : List ℕ) (second : Reading → Bool) → bytes_eq (codes ",") letters ≡ false → bytes_eq (codes ")") letters ≡ false → (more : List Reading) → begins_two (is_letters letters) second (q ∷ more) ≡ false
    by_first letters second a b [] = refl
    by_first letters second a b (y ∷ more) = if_false (is_letters letters q) (second y) (closing_letters letters a b q h)
      where
        if_false : (c d : Bool) → c ≡ false → c && d ≡ false
        if_false false d k = refl
        if_false true d k = absurd (cc)

change_behind : (run rest : List Reading) → starts closing rest ≡ true → begins_column_change run ≡ false → begins_column_change (run ++ rest) ≡ false
change_behind [] rest h e = closing_changes_none rest h
change_behind (r ∷ run) rest h e =
    let a = neither_of (is_letters (codes "type") r) _ e in
    let b = neither_of (begins_two (is_letters (codes "set")) (λ q. is_letters (codes "not") q || is_letters (codes "data") q) (r ∷ run)) (begins_two (is_letters (codes "drop")) (is_letters (codes "not")) (r ∷ run)) a.1 in
    neither _ _ a.0 (neither _ _ (two_behind (is_letters (codes "set")) (λ q. is_letters (codes "not") q || is_letters (codes "data") q) r run rest not_or_data h b.0)
    (two_behind (is_letters (codes "drop")) (is_letters (codes "not")) r run rest (closing_letters (codes "not") refl refl) h b.1))

named_closing : (rest : List Reading) → starts closing rest ≡ true → begins_named_change rest ≡ false
named_closing [] h = refl
named_closing (q ∷ rest) h = ap (λ b. b && begins_column_change rest) (closing_unnamed q h)

named_behind : (run rest : List Reading) → starts closing rest ≡ true → begins_named_change run ≡ false → begins_named_change (run ++ rest) ≡ false
named_behind [] rest h e = named_closing rest h
named_behind (r ∷ run) rest h e = by_name (is_name r) e
  where
    by_name : (b : Bool) → b && begins_column_change run ≡ false → b && begins_column_change (run ++ rest) ≡ false
    by_name true k = change_behind run rest h k
    by_name false k = refl

past_closing : (rest : List Reading) → starts closing rest ≡ true → past_column rest ≡ rest
past_closing [] h = refl
past_closing (q ∷ rest) h = if_not _ (closing_letters (codes "column") refl refl q h) refl

past_behind : (run rest : List Reading) → starts closing rest ≡ true → begins_named_change (past_column run) ≡ false → begins_named_change (past_column (run ++ rest)) ≡ false
past_behind [] rest h e = ap begins_named_change (past_closing rest h) ∙ named_closing rest h
past_behind (r ∷ run) rest h e = by_column (is_letters (codes "column") r) e
  where
    by_column : (b : Bool) → begins_named_change (if b then run else r ∷ run) ≡ false → begins_named_change (if b then run ++ rest else r ∷ run ++ rest) ≡ false
    by_column true k = named_behind run rest h k
    by_column false k = named_behind (r ∷ run) rest h k

-- the letters that a run of an action does not begin with
pub record Plain (r : Reading) (run : List Reading) : Type 0 where
  pub dot : is_letters (codes ".") r ≡ false
  pub add : is_letters (codes "add") r ≡ false
  pub drop : is_letters (codes "drop") r ≡ false
  pub rename : is_letters (codes "rename") r ≡ false
  pub schema : begins_two (is_letters (codes "set")) (is_letters (codes "schema")) (r ∷ run) ≡ false
  pub alter : is_letters (codes "alter") r && begins_named_change (past_column run) ≡ false

pub plain : (r : Reading) (run : List Reading) → begins_action (r ∷ run) ≡ false → Plain r run
plain r run h =
    let a = neither_of (is_letters (codes ".") r) _ h in
    let b = neither_of (is_letters (codes "add") r) _ a.1 in
    let c = neither_of (is_letters (codes "drop") r) _ b.1 in
    let d = neither_of (is_letters (codes "rename") r) _ c.1 in
    let e = neither_of (begins_two (is_letters (codes "set")) (is_letters (codes "schema")) (r ∷ run)) _ d.1 in
    record { dot = a.0; add = b.0; drop = c.0; rename = d.0; schema = e.0; alter = e.1 }

pub plain_behind : (r : Reading) (run rest : List Reading) → starts closing rest ≡ true → Plain r run → Plain r (run ++ rest)
plain_behind r run rest h k = record {
  dot = k.dot;
  add = k.add;
  drop = k.drop;
  rename = k.rename;
  schema = two_behind (is_letters (codes "set")) (is_letters (codes "schema")) r run rest (closing_letters (codes "schema") refl refl) h k.schema;
  alter = by_alter (is_letters (codes "alter") r) k.alter;
}
  where
    by_alter : (b : Bool) → b && begins_named_change (past_column run) ≡ false → b && begins_named_change (past_column (run ++ rest)) ≡ false
    by_alter true g = past_behind run rest h g
    by_alter false g = refl

pub no_action : (r : Reading) (run : List Reading) → Plain r run → begins_action (r ∷ run) ≡ false
no_action r run k = neither _ _ k.dot (neither _ _ k.add (neither _ _ k.drop (neither _ _ k.rename (neither _ _ k.schema k.alter))))

-- ---- changes of columns

-- ALTER, a column's name and the words of a change begin an action that is no run
pub alter_begins : (has_column : Bool) (x : Identifier) (now u next : Stream) → Says (reading.Word (codes "alter")) now u → Between (z.when_word has_column (codes "column") ++ p.name x) u next → begins_column_change (ahead next) ≡ true → begins_action (ahead now) ≡ true
alter_begins true x now u next h b e =
    let n = b.2.1.1 in
    let run : ahead now ≡ reading.Word (codes "alter") ∷ reading.Word (codes "column") ∷ identifier_reading x ∷ ahead next =
    ahead_says _ now u h ∙ ap (λ rest. reading.Word (codes "alter") ∷ rest) (ahead_says _ u b.0 b.1 ∙ ap (λ rest. reading.Word (codes "column") ∷ rest) (ahead_says _ b.0 n.0 n.1 ∙ ap (λ (v : Stream). identifier_reading x ∷ ahead v) n.2)) in
    ap begins_action run ∙ and_true (is_name (identifier_reading x)) (begins_column_change (ahead next)) b.2.0 e
alter_begins false x now u next h b e =
    let n = b.1.1 in
    let r = identifier_reading x in
    let run : ahead now ≡ reading.Word (codes "alter") ∷ r ∷ ahead next = ahead_says _ now u h ∙ ap (λ rest. reading.Word (codes "alter") ∷ rest) (ahead_says _ u n.0 n.1 ∙ ap (λ (v : Stream). r ∷ ahead v) n.2) in
    let past : past_column (r ∷ ahead next) ≡ r ∷ ahead next = if_not _ (name_no_letters (codes "column") r refl b.0) refl in
    ap begins_action run ∙ ap begins_named_change past ∙ and_true (is_name r) (begins_column_change (ahead next)) b.0 e

-- ---- changes of types

pub record PlainType (r : Reading) (run : List Reading) : Type 0 where
  pub dot : is_letters (codes ".") r ≡ false
  pub add : begins_two (is_letters (codes "add")) (is_letters (codes "value")) (r ∷ run) ≡ false
  pub rename : begins_two (is_letters (codes "rename")) (λ q. is_letters (codes "value") q || is_letters (codes "to") q) (r ∷ run) ≡ false
  pub schema : begins_two (is_letters (codes "set")) (is_letters (codes "schema")) (r ∷ run) ≡ false

pub plain_type : (r : Reading) (run : List Reading) → begins_type_change (r ∷ run) ≡ false → PlainType r run
plain_type r run h =
    let a = neither_of (is_letters (codes ".") r) _ h in
    let b = neither_of (begins_two (is_letters (codes "add")) (is_letters (codes "value")) (r ∷ run)) _ a.1 in
    let c = neither_of (begins_two (is_letters (codes "rename")) (λ q. is_letters (codes "value") q || is_letters (codes "to") q) (r ∷ run)) _ b.1 in
    record { dot = a.0; add = b.0; rename = c.0; schema = c.1 }

-- what begins with no point begins with no such sign
pub no_dot : (r : Reading) → is_letters (codes ".") r ≡ false → is s.Dot r ≡ false
no_dot (reading.Symbol x) h = by_same (same x s.Dot) refl
  where
    by_same : (b : Bool) → same x s.Dot ≡ b → b ≡ false
    by_same false e = refl
    by_same true e = absurd (false_true (sym h ∙ ap (λ y. is_letters (codes ".") (reading.Symbol y)) (same_is x s.Dot e)))
no_dot _ h = refl
