-- Words that several schema statements have are read as they are spelled.
use Rattle.std.proofs.Common.{◌≡◌, ℕ, Bool, true, false, List, Some, refl, ap, ◌∙◌}
use Rattle.std.specs.Prelude.{bytes_eq, codes}
use Rattle.sq_syntax.specs.declared.symbol.Symbol.{Symbol}
use Rattle.sq_syntax.specs.declared.symbol.Symbol.TheVariants as s
use Rattle.sq_syntax.specs.declared.symbol.Reading.{Reading}
use Rattle.sq_syntax.specs.declared.symbol.Reading.TheVariants as reading
use Rattle.sq_syntax.specs.declared.ddl.Behavior.{Behavior}
use Rattle.sq_syntax.specs.declared.ddl.Behavior.TheVariants as behavior_kind
use Rattle.sq_syntax.specs.Facts.{Stream}
use Rattle.sq_syntax.specs.Schemas as z
use Rattle.sq_syntax.specs.Schemas.{is as is_letters}
use Rattle.sq_grammar.specs.Reading.{sees}
use Rattle.sq_grammar.specs.Schemas.{begins_sign, sees_both, if_exists, if_not_exists, behavior}
use Rattle.sq_grammar.proofs.Complete.{says_expect}
use Rattle.sq_grammar.proofs.Joints.{false_true}
use Rattle.sq_grammar.proofs.KeyWords.{says_word, that_word, word_begins, word_no_symbol}
use Rattle.sq_grammar.proofs.Between.{Between, on, if_so, if_not}
use Rattle.sq_grammar.proofs.Heads.{ends, no_symbol, no_word, no_letters, other_letters, both_letters}
use Rattle.sq_grammar.proofs.ReadAlone.{ended}

-- ---- what ends a part

-- a comma or a closing bracket
abbrev pub closing : Reading → Bool
closing (reading.Symbol s.Comma) = true
closing (reading.Symbol s.Close) = true
closing _ = false

-- no token
abbrev pub nothing : Reading → Bool
nothing r = false

pub closing_letters : (letters : List ℕ) → bytes_eq (codes ",") letters ≡ false → bytes_eq (codes ")") letters ≡ false → (r : Reading) → closing r ≡ true → is_letters letters r ≡ false
closing_letters letters comma close (reading.Symbol s.Comma) h = comma
closing_letters letters comma close (reading.Symbol s.Close) h = close
closing_letters letters comma close _ h = absurd (false_true h)

pub nothing_closes : (r : Reading) → nothing r ≡ true → closing r ≡ true
nothing_closes r h = absurd (false_true h)

-- ---- IF EXISTS

pub if_exists_alone : (b : Bool) (now next : Stream) → Between (z.if_exists b) now next → (b ≡ false → sees_both (codes "if") (codes "exists") next ≡ false) → if_exists now ≡ Some (b, next)
unfolding if_exists
if_exists_alone true now next h e =
    let x = h.2 in
    if_so _ (both_letters (codes "if") (codes "exists") (reading.Word (codes "if")) (reading.Symbol s.Exists) now h.0 x.0 h.1 x.1 refl refl) (on _ (says_word (codes "if") now h.0 h.1) (on _ (says_expect s.Exists h.0 x.0 x.1) (ended x.2)))
if_exists_alone false now next h e = if_not _ (ap (sees_both (codes "if") (codes "exists")) h ∙ e refl) (ended h)

pub if_not_exists_alone : (b : Bool) (now next : Stream) → Between (z.if_not_exists b) now next → sees_both (codes "if") (codes "not") next ≡ false → if_not_exists now ≡ Some (b, next)
unfolding if_not_exists
if_not_exists_alone true now next h e =
    let n = h.2 in
    let x = n.2 in
    if_so _ (both_letters (codes "if") (codes "not") (reading.Word (codes "if")) (reading.Symbol s.Not) now h.0 n.0 h.1 n.1 refl refl)
    (on _ (says_word (codes "if") now h.0 h.1) (on _ (says_expect s.Not h.0 n.0 n.1) (on _ (says_expect s.Exists n.0 x.0 x.1) (ended x.2))))
if_not_exists_alone false now next h e = if_not _ (ap (sees_both (codes "if") (codes "not")) h ∙ e) (ended h)

-- ---- CASCADE and RESTRICT

module _ (class : Reading → Bool) where
  pub behavior_alone : (x : Behavior) (now next : Stream) → class (reading.Word (codes "cascade")) ≡ false → class (reading.Word (codes "restrict")) ≡ false → Between (z.behavior_words x) now next → ends class next.tokens ≡ true → behavior now ≡ Some (x, next)
  unfolding behavior
  behavior_alone behavior_kind.Unsaid now next a b h e =
      let here = ap (λ (u : Stream). ends class u.tokens) h ∙ e in
      if_not _ (no_word class (codes "cascade") now.tokens a here) (if_not _ (no_word class (codes "restrict") now.tokens b here) (ended h))
  behavior_alone behavior_kind.Cascade now next a b h e = if_so _ (that_word (codes "cascade") now h.0 h.1) (on _ (says_word (codes "cascade") now h.0 h.1) (ended h.2))
  behavior_alone behavior_kind.Restrict now next a b h e =
      if_not _ (word_begins (codes "cascade") (reading.Word (codes "restrict")) now h.0 h.1) (if_so _ (that_word (codes "restrict") now h.0 h.1) (on _ (says_word (codes "restrict") now h.0 h.1) (ended h.2)))

  pub behavior_lacks : (k : Symbol) (x : Behavior) (now next : Stream) → class (reading.Symbol k) ≡ false → Between (z.behavior_words x) now next → ends class next.tokens ≡ true → sees k now ≡ false
  behavior_lacks k behavior_kind.Unsaid now next a h e = no_symbol class k now.tokens a (ap (λ (u : Stream). ends class u.tokens) h ∙ e)
  behavior_lacks k behavior_kind.Cascade now next a h e = word_no_symbol k (codes "cascade") now h.0 h.1
  behavior_lacks k behavior_kind.Restrict now next a h e = word_no_symbol k (codes "restrict") now h.0 h.1

  pub behavior_no_exists : (x : Behavior) (now next : Stream) → ((r : Reading) → class r ≡ true → is_letters (codes "exists") r ≡ false) → Between (z.behavior_words x) now next → ends class next.tokens ≡ true → begins_sign (codes "exists") now.tokens ≡ false
  behavior_no_exists behavior_kind.Unsaid now next a h e = no_letters class (codes "exists") now.tokens a (ap (λ (u : Stream). ends class u.tokens) h ∙ e)
  behavior_no_exists behavior_kind.Cascade now next a h e = other_letters (codes "exists") (reading.Word (codes "cascade")) now h.0 h.1 refl
  behavior_no_exists behavior_kind.Restrict now next a h e = other_letters (codes "exists") (reading.Word (codes "restrict")) now h.0 h.1 refl
