-- Operators, comments and EText: what the machine accepts is what a test says.
use Rattle.std.proofs.Common.{◌≡◌, ℕ, ◌+◌, ◌-◌, ◌==◌, ◌&&◌, ◌||◌, not, Bool, true, false, List, [], ◌∷◌, ◌++◌, if◌then◌else◌, Option, Some, None, refl, ap, ◌∙◌, sym}
use Rattle.sq_syntax.specs.Bytes.{class_of}
use Rattle.sq_syntax.specs.Classes.{each, in_operator, is_sign, is_special, holds_special, last_class, breaks_off, holds_together, may_stand, is_operator, Pair, pair, choose, closes, is_empty, closes_escaped, choose_escaped, is_single_quote}
use Rattle.sq_syntax.specs.Classes.Pair.{opening, closing, neither}
use Rattle.sq_syntax.specs.declared.class.ByteClass.{ByteClass}
use Rattle.sq_syntax.specs.declared.class.ByteClass.TheVariants as class
use Rattle.sq_syntax.specs.declared.item.ItemKind.TheVariants as kind
use Rattle.sq_lexer.specs.Machine.{step, accepts, run, operator, opened, comment, comment_slash, comment_star, closed, inside_escaped, after_escaped, unless_single}
use Rattle.sq_lexer.specs.declared.machine.State.{State}
use Rattle.sq_lexer.specs.declared.machine.State.TheVariants as at
use Rattle.sq_lexer.proofs.Runs.{verdict, dead_none}

end_verdict : (comes special signed : Bool) → (if not comes && (special || not signed) then Some kind.Operator else None) ≡ verdict kind.Operator (true && (not comes && ((special || false) || not signed)))
end_verdict true special at_end = refl
end_verdict false true at_end = refl
end_verdict false false true = refl
end_verdict false false false = refl

-- the parts of a run of operator bytes
parts : (each rest special one more stands : Bool) → verdict kind.Operator (each && (rest && (((special || one) || more) || stands))) ≡ verdict kind.Operator (each && (rest && ((special || (one || more)) || stands)))
parts each rest true one more stands = refl
parts each rest false one more stands = refl

refused : (each rest : Bool) → verdict kind.Operator (each && (false && rest)) ≡ None
refused true rest = refl
refused false rest = refl

more_verdict : (bytes seen : List ℕ) (next : Option ByteClass) (c : ByteClass) (inside comes special one each rest more stands : Bool)
    → accepts (run seen (at.Operator (special || one) c) bytes) next ≡ verdict kind.Operator (each && (rest && (((special || one) || more) || stands)))
    → accepts (run seen (if inside && not comes then at.Operator (special || one) c else at.Dead) bytes) next ≡ verdict kind.Operator ((inside && each) && ((not comes && rest) && ((special || (one || more)) || stands)))
more_verdict bytes seen next c true false special one each rest more stands h = h ∙ parts each rest special one more stands
more_verdict bytes seen next c true true special one each rest more stands h = dead_none bytes seen next ∙ sym (refused each ((special || (one || more)) || stands))
more_verdict bytes seen next c false comes special one each rest more stands h = dead_none bytes seen next

pub operator_verdict : (bytes seen : List ℕ) (special : Bool) (last : ByteClass) (next : Option ByteClass)
    → accepts (run seen (at.Operator special last) bytes) next ≡ verdict kind.Operator (each in_operator bytes && (holds_together last bytes next && ((special || holds_special bytes) || not (is_sign (last_class last bytes)))))
operator_verdict [] seen special last next = end_verdict (breaks_off last next) special (is_sign last)
operator_verdict (b ∷ bytes) seen special last next =
    more_verdict bytes (seen ++ b ∷ []) next (class_of b) (in_operator (class_of b)) (breaks_off last (Some (class_of b))) special (is_special (class_of b))
    (each in_operator bytes) (holds_together (class_of b) bytes next) (holds_special bytes) (not (is_sign (last_class (class_of b) bytes)))
    (operator_verdict bytes (seen ++ b ∷ []) (special || is_special (class_of b)) (class_of b) next)

lone_verdict : (comes : Bool) → (if not comes && true then Some kind.Operator else None) ≡ verdict kind.Operator (not comes && true)
lone_verdict true = refl
lone_verdict false = refl

-- after the first byte, where the operator does not break off behind it
pub first_verdict : (b d : ℕ) (bytes seen : List ℕ) (next : Option ByteClass) → in_operator (class_of b) ≡ true → breaks_off (class_of b) (Some (class_of d)) ≡ false
    → accepts (run seen (at.Lone (class_of b)) (d ∷ bytes)) next ≡ verdict kind.Operator (is_operator (b ∷ d ∷ bytes) next)
first_verdict b d bytes seen next inside apart =
    ap (λ t. accepts (run (seen ++ d ∷ []) (if t then opened (class_of b) else operator (is_special (class_of b)) (class_of b) (class_of d)) bytes) next) apart
    ∙ operator_verdict (d ∷ bytes) seen (is_special (class_of b)) (class_of b) next
    ∙ ap (λ t. verdict kind.Operator ((t && each in_operator (d ∷ bytes)) && (holds_together (class_of b) (d ∷ bytes) next && may_stand (b ∷ d ∷ bytes)))) (sym inside)

pub only_verdict : (b : ℕ) (next : Option ByteClass) → in_operator (class_of b) ≡ true → accepts (at.Lone (class_of b)) next ≡ verdict kind.Operator (is_operator (b ∷ []) next)
only_verdict b next inside = lone_verdict (breaks_off (class_of b) next) ∙ ap (λ t. verdict kind.Operator ((t && true) && (not (breaks_off (class_of b) next) && true))) (sym inside)

-- comments
abbrev pub after_pair : Pair → ℕ → ByteClass → State
after_pair opening depth c = at.Comment (depth + 1)
after_pair closing depth c = closed depth
after_pair neither depth c = comment depth c

pair_steps : (c : ByteClass) (d depth : ℕ) (seen : List ℕ) → step seen (comment depth c) d ≡ after_pair (pair c (class_of d)) depth (class_of d)
pair_steps class.Slash d depth seen = behind_slash (class_of d)
  where
    behind_slash : (e : ByteClass) → comment_slash depth e ≡ after_pair (pair class.Slash e) depth e
    behind_slash class.Star = refl
    behind_slash _ = refl
pair_steps class.Star d depth seen = behind_star (class_of d)
  where
    behind_star : (e : ByteClass) → comment_star depth e ≡ after_pair (pair class.Star e) depth e
    behind_star class.Slash = refl
    behind_star _ = refl
pair_steps _ d depth seen = refl

unclosed : (depth : ℕ) (c : ByteClass) (next : Option ByteClass) → accepts (comment depth c) next ≡ None
unclosed depth class.Slash next = refl
unclosed depth class.Star next = refl
unclosed depth _ next = refl

ended_comment : (bytes seen : List ℕ) (next : Option ByteClass) → accepts (run seen at.CommentEnd bytes) next ≡ verdict kind.BlockComment (is_empty bytes)
ended_comment [] seen next = refl
ended_comment (b ∷ bytes) seen next = dead_none bytes (seen ++ b ∷ []) next

closed_verdict : (bytes seen : List ℕ) (next : Option ByteClass) (outer : Bool) (depth : ℕ) (rest : Bool) → accepts (run seen (at.Comment (depth - 1)) bytes) next ≡ verdict kind.BlockComment rest
    → accepts (run seen (if outer then at.CommentEnd else at.Comment (depth - 1)) bytes) next ≡ verdict kind.BlockComment (if outer then is_empty bytes else rest)
closed_verdict bytes seen next true depth rest h = ended_comment bytes seen next
closed_verdict bytes seen next false depth rest h = h

pair_verdict : (p : Pair) (c : ByteClass) (bytes seen : List ℕ) (next : Option ByteClass) (depth : ℕ) (deeper outer same : Bool)
    → accepts (run seen (at.Comment (depth + 1)) bytes) next ≡ verdict kind.BlockComment deeper → accepts (run seen (closed depth) bytes) next ≡ verdict kind.BlockComment outer
    → accepts (run seen (comment depth c) bytes) next ≡ verdict kind.BlockComment same
    → accepts (run seen (after_pair p depth c) bytes) next ≡ verdict kind.BlockComment (choose p deeper outer same)
pair_verdict opening c bytes seen next depth deeper outer same a b d = a
pair_verdict closing c bytes seen next depth deeper outer same a b d = b
pair_verdict neither c bytes seen next depth deeper outer same a b d = d

pub inside_verdict : (bytes : List ℕ) (b depth : ℕ) (seen : List ℕ) (next : Option ByteClass) → accepts (run seen (comment depth (class_of b)) bytes) next ≡ verdict kind.BlockComment (closes depth (b ∷ bytes))
inside_verdict [] b depth seen next = unclosed depth (class_of b) next
inside_verdict (d ∷ []) b depth seen next =
    ap (λ s. accepts s next) (pair_steps (class_of b) d depth seen)
    ∙ pair_verdict (pair (class_of b) (class_of d)) (class_of d) [] seen next depth false (if depth == 0 then true else false) false refl (closed_verdict [] seen next (depth == 0) depth false refl) (unclosed depth (class_of d) next)
inside_verdict (d ∷ e ∷ bytes) b depth seen next =
    let past = (seen ++ d ∷ []) ++ e ∷ [] in
    ap (λ s. accepts (run (seen ++ d ∷ []) s (e ∷ bytes)) next) (pair_steps (class_of b) d depth seen)
    ∙ pair_verdict (pair (class_of b) (class_of d)) (class_of d) (e ∷ bytes) (seen ++ d ∷ []) next depth (closes (depth + 1) (e ∷ bytes)) (if depth == 0 then is_empty (e ∷ bytes) else closes (depth - 1) (e ∷ bytes)) (closes depth (d ∷ e ∷ bytes))
    (inside_verdict bytes e (depth + 1) past next) (closed_verdict (e ∷ bytes) (seen ++ d ∷ []) next (depth == 0) depth (closes (depth - 1) (e ∷ bytes)) (inside_verdict bytes e (depth - 1) past next))
    (inside_verdict (e ∷ bytes) d depth (seen ++ d ∷ []) next)

pub comment_verdict : (bytes seen : List ℕ) (depth : ℕ) (next : Option ByteClass) → accepts (run seen (at.Comment depth) bytes) next ≡ verdict kind.BlockComment (closes depth bytes)
comment_verdict [] seen depth next = refl
comment_verdict (b ∷ bytes) seen depth next = inside_verdict bytes b depth (seen ++ b ∷ []) next

-- EText
last_escaped : (c : ByteClass) (next : Option ByteClass) → accepts (inside_escaped c) next ≡ (if is_single_quote c then unless_single kind.EText next else None)
last_escaped class.SingleQuote next = refl
last_escaped class.Backslash next = refl
last_escaped _ next = refl

pub escaped_verdict : (bytes seen : List ℕ) (next : Option ByteClass) → accepts (run seen at.InsideEscaped bytes) next ≡ (if closes_escaped bytes then unless_single kind.EText next else None)
escaped_verdict [] seen next = refl
escaped_verdict (b ∷ []) seen next = last_escaped (class_of b) next
escaped_verdict (b ∷ d ∷ bytes) seen next =
    by_first (class_of b) (escaped_verdict bytes ((seen ++ b ∷ []) ++ d ∷ []) next) (escaped_verdict (d ∷ bytes) (seen ++ b ∷ []) next)
  where
    by_second : (e : ByteClass) → accepts (run ((seen ++ b ∷ []) ++ d ∷ []) at.InsideEscaped bytes) next ≡ (if closes_escaped bytes then unless_single kind.EText next else None)
        → accepts (run ((seen ++ b ∷ []) ++ d ∷ []) (after_escaped e) bytes) next ≡ (if choose_escaped class.SingleQuote e (closes_escaped bytes) (closes_escaped (d ∷ bytes)) then unless_single kind.EText next else None)
    by_second class.SingleQuote one = one
    by_second _ one = dead_none bytes ((seen ++ b ∷ []) ++ d ∷ []) next

    by_first : (c : ByteClass) → accepts (run ((seen ++ b ∷ []) ++ d ∷ []) at.InsideEscaped bytes) next ≡ (if closes_escaped bytes then unless_single kind.EText next else None)
        → accepts (run (seen ++ b ∷ []) at.InsideEscaped (d ∷ bytes)) next ≡ (if closes_escaped (d ∷ bytes) then unless_single kind.EText next else None)
        → accepts (run (seen ++ b ∷ []) (inside_escaped c) (d ∷ bytes)) next ≡ (if choose_escaped c (class_of d) (closes_escaped bytes) (closes_escaped (d ∷ bytes)) then unless_single kind.EText next else None)
    by_first class.Backslash one two = one
    by_first class.SingleQuote one two = by_second (class_of d) one
    by_first _ one two = two
