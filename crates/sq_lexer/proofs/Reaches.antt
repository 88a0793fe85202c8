-- What a state counts is bounded by the bytes that were seen, and the scan goes on byte by byte.
use Rattle.std.proofs.Common.{◌≡◌, ℕ, ◌+◌, ◌-◌, ◌==◌, ◌&&◌, ◌||◌, not, Bool, true, false, if◌then◌else◌, ◌<◌, ◌≤◌, List, [], ◌∷◌, ◌++◌, length, take, drop, get_or, nat_lt, Option, Some, None, refl, ap, ◌∙◌, sym, arith}
use Rattle.std.proofs.lemmas.List.{take_more, length-take-le, at_drop_more, at_drop_all}
use Rattle.sq_syntax.specs.Bytes.{class_of}
use Rattle.sq_syntax.specs.Classes.{is_blank, is_no_newline, is_digit, is_sign, continues_word, in_operator, is_special, breaks_off}
use Rattle.sq_syntax.specs.declared.class.ByteClass.{ByteClass}
use Rattle.sq_syntax.specs.declared.class.ByteClass.TheVariants as class
use Rattle.sq_lexer.specs.Machine.{step, accepts, scan, later, reach, start, line_start, letter_e, inside_double, after_double, inside_single, after_single, inside_escaped, after_escaped, after_whole, after_fraction, opened, operator, comment, comment_slash, comment_star, colon, dollar_sign, tag, matched_after}
use Rattle.sq_lexer.specs.declared.machine.State.{State}
use Rattle.sq_lexer.specs.declared.machine.State.TheVariants as at
use Rattle.sq_lexer.specs.declared.machine.Found.{Found}
use Rattle.sq_syntax.specs.declared.item.ItemKind.{ItemKind}

reach-if : (test : Bool) (one other : State) (n : ℕ) → reach one ≤ n → reach other ≤ n → reach (if test then one else other) ≤ n
reach-if true one other n a b = a
reach-if false one other n a b = b

reach-start : (c : ByteClass) → reach (start c) ≡ 0
reach-start class.Blank = refl
reach-start _ = refl

reach-line_start : (c : ByteClass) → reach (line_start c) ≡ 0
reach-line_start class.Backslash = refl
reach-line_start _ = refl

reach-letter_e : (c : ByteClass) → reach (letter_e c) ≡ 0
reach-letter_e class.SingleQuote = refl
reach-letter_e _ = refl

reach-inside_double : (c : ByteClass) → reach (inside_double c) ≡ 0
reach-inside_double class.DoubleQuote = refl
reach-inside_double _ = refl

reach-after_double : (c : ByteClass) → reach (after_double c) ≡ 0
reach-after_double class.DoubleQuote = refl
reach-after_double _ = refl

reach-inside_single : (c : ByteClass) → reach (inside_single c) ≡ 0
reach-inside_single class.SingleQuote = refl
reach-inside_single _ = refl

reach-after_single : (c : ByteClass) → reach (after_single c) ≡ 0
reach-after_single class.SingleQuote = refl
reach-after_single _ = refl

reach-inside_escaped : (c : ByteClass) → reach (inside_escaped c) ≡ 0
reach-inside_escaped class.SingleQuote = refl
reach-inside_escaped _ = refl

reach-after_escaped : (c : ByteClass) → reach (after_escaped c) ≡ 0
reach-after_escaped class.SingleQuote = refl
reach-after_escaped _ = refl

reach-after_whole : (c : ByteClass) → reach (after_whole c) ≡ 0
reach-after_whole class.Point = refl
reach-after_whole _ = refl

reach-after_fraction : (c : ByteClass) → reach (after_fraction c) ≡ 0
reach-after_fraction class.LetterE = refl
reach-after_fraction _ = refl

reach-opened : (c : ByteClass) → reach (opened c) ≡ 0
reach-opened class.Slash = refl
reach-opened _ = refl

reach-colon : (c : ByteClass) → reach (colon c) ≡ 0
reach-colon class.Colon = refl
reach-colon _ = refl

reach-comment : (depth : ℕ) (c : ByteClass) → reach (comment depth c) ≡ depth
reach-comment depth class.Slash = refl
reach-comment depth class.Star = refl
reach-comment depth _ = refl

reach-comment_slash : (depth : ℕ) (c : ByteClass) → reach (comment_slash depth c) ≤ depth + 1
reach-comment_slash depth class.Star = omega arith
reach-comment_slash depth class.Slash = omega arith
reach-comment_slash depth _ = omega arith

reach-comment_star : (depth : ℕ) (c : ByteClass) → reach (comment_star depth c) ≤ depth + 1
reach-comment_star depth class.Slash = reach-if (depth == 0) at.CommentEnd (at.Comment (depth - 1)) (depth + 1) (omega arith) (omega arith)
reach-comment_star depth class.Star = omega arith
reach-comment_star depth _ = omega arith

reach-dollar_sign : (size : ℕ) (c : ByteClass) → reach (dollar_sign size c) ≤ size
reach-dollar_sign size class.Dollar = omega arith
reach-dollar_sign size _ = omega arith

reach-tag : (size : ℕ) (c : ByteClass) → reach (tag size c) ≤ size
reach-tag size class.Dollar = omega arith
reach-tag size _ = omega arith

reach-operator : (special : Bool) (last c : ByteClass) → reach (operator special last c) ≤ 0
reach-operator special last c = reach-if (in_operator c && not (breaks_off last (Some c))) (at.Operator (special || is_special c) c) at.Dead 0 (omega arith) (omega arith)

pub reaches : (seen : List ℕ) (state : State) (b : ℕ) → reach state ≤ length seen → reach (step seen state b) ≤ length seen + 1
reaches seen at.Start b h = omega (arith, reach-start (class_of b))
reaches seen at.LineStart b h = omega (arith, reach-line_start (class_of b))
reaches seen at.Dead b h = omega arith
reaches seen at.Blank b h = reach-if (is_blank (class_of b)) at.Blank at.Dead _ (omega arith) (omega arith)
reaches seen at.LineComment b h = reach-if (is_no_newline (class_of b)) at.LineComment at.Dead _ (omega arith) (omega arith)
reaches seen (at.Comment depth) b h = omega (arith, reach-comment depth (class_of b))
reaches seen (at.CommentSlash depth) b h = omega (arith, reach-comment_slash depth (class_of b))
reaches seen (at.CommentStar depth) b h = omega (arith, reach-comment_star depth (class_of b))
reaches seen at.CommentEnd b h = omega arith
reaches seen at.BackslashLine b h = reach-if (is_no_newline (class_of b)) at.BackslashLine at.Dead _ (omega arith) (omega arith)
reaches seen at.LetterE b h = omega (arith, reach-letter_e (class_of b))
reaches seen at.Word b h = reach-if (continues_word (class_of b)) at.Word at.Dead _ (omega arith) (omega arith)
reaches seen at.InsideDouble b h = omega (arith, reach-inside_double (class_of b))
reaches seen at.AfterDouble b h = omega (arith, reach-after_double (class_of b))
reaches seen at.InsideSingle b h = omega (arith, reach-inside_single (class_of b))
reaches seen at.AfterSingle b h = omega (arith, reach-after_single (class_of b))
reaches seen at.InsideEscaped b h = omega (arith, reach-inside_escaped (class_of b))
reaches seen at.AfterEscaped b h = omega (arith, reach-after_escaped (class_of b))
reaches seen at.Escape b h = omega arith
reaches seen at.DollarSign b h = reach-dollar_sign (length seen + 1) (class_of b)
reaches seen at.Tag b h = reach-tag (length seen + 1) (class_of b)
reaches seen (at.Dollar size matched) b h = reach-if (nat_lt matched size) (at.Dollar size (matched_after seen matched b)) at.Dead _ (omega arith) (omega arith)
reaches seen at.Parameter b h = reach-if (is_digit (class_of b)) at.Parameter at.Dead _ (omega arith) (omega arith)
reaches seen at.Named b h = reach-if (continues_word (class_of b)) at.Named at.Dead _ (omega arith) (omega arith)
reaches seen at.Whole b h = reach-if (is_digit (class_of b)) at.Whole (after_whole (class_of b)) _ (omega arith) (omega (arith, reach-after_whole (class_of b)))
reaches seen at.WholePoint b h = reach-if (is_digit (class_of b)) at.Fraction at.Dead _ (omega arith) (omega arith)
reaches seen at.LeadingPoint b h = reach-if (is_digit (class_of b)) at.Fraction at.Dead _ (omega arith) (omega arith)
reaches seen at.Fraction b h = reach-if (is_digit (class_of b)) at.Fraction (after_fraction (class_of b)) _ (omega arith) (omega (arith, reach-after_fraction (class_of b)))
reaches seen at.ExponentMark b h =
    reach-if (is_digit (class_of b)) at.Exponent (if is_sign (class_of b) then at.ExponentSign else at.Dead) _ (omega arith) (reach-if (is_sign (class_of b)) at.ExponentSign at.Dead _ (omega arith) (omega arith))
reaches seen at.ExponentSign b h = reach-if (is_digit (class_of b)) at.Exponent at.Dead _ (omega arith) (omega arith)
reaches seen at.Exponent b h = reach-if (is_digit (class_of b)) at.Exponent at.Dead _ (omega arith) (omega arith)
reaches seen (at.Lone last) b h =
    reach-if (breaks_off last (Some (class_of b))) (opened last) (operator (is_special last) last (class_of b)) _ (omega (arith, reach-opened last)) (omega (arith, reach-operator (is_special last) last (class_of b)))
reaches seen (at.Operator special last) b h = omega (arith, reach-operator special last (class_of b))
reaches seen at.Colon b h = omega (arith, reach-colon (class_of b))
reaches seen at.Punct b h = omega arith

-- one byte more of the scan
pub scan_step : (bytes : List ℕ) (i : ℕ) (state : State) (found : Option Found) → i < length bytes
    → scan (take i bytes) state found (drop i bytes)
    ≡ scan (take (i + 1) bytes) (step (take i bytes) state (get_or bytes i 0)) (later (accepts state (Some (class_of (get_or bytes i 0)))) i found) (drop (i + 1) bytes)
unfolding scan
scan_step bytes i state found within =
    let there : i ≤ length bytes = omega arith in
    let n : length (take i bytes) ≡ i = length-take-le i bytes there in
    let b = get_or bytes i 0 in
    at_drop_more (scan (take i bytes) state found) bytes i 0 within
    ∙ ap (λ x. scan x (step (take i bytes) state b) (later (accepts state (Some (class_of b))) (length (take i bytes)) found) (drop (i + 1) bytes)) (sym (take_more bytes i 0 within))
    ∙ ap (λ m. scan (take (i + 1) bytes) (step (take i bytes) state b) (later (accepts state (Some (class_of b))) m found) (drop (i + 1) bytes)) n

pub scan-dead : (bytes seen : List ℕ) (found : Option Found) → scan seen at.Dead found bytes ≡ found
unfolding scan
scan-dead [] seen found = refl
scan-dead (b ∷ bytes) seen found = scan-dead bytes (seen ++ b ∷ []) found

pub scan_dead : (bytes : List ℕ) (i : ℕ) (state : State) (found : Option Found) → state ≡ at.Dead → scan (take i bytes) state found (drop i bytes) ≡ found
scan_dead bytes i state found is = ap (λ s. scan (take i bytes) s found (drop i bytes)) is ∙ scan-dead (drop i bytes) (take i bytes) found

pub scan_end : (bytes : List ℕ) (i : ℕ) (state : State) (found : Option Found) → i ≡ length bytes → scan (take i bytes) state found (drop i bytes) ≡ later (accepts state None) (length bytes) found
unfolding scan
scan_end bytes i state found all =
    let past : length bytes ≤ i = omega arith in
    let there : i ≤ length bytes = omega arith in
    let n : length (take i bytes) ≡ length bytes = length-take-le i bytes there ∙ all in
    at_drop_all (scan (take i bytes) state found) bytes i past ∙ ap (λ m. later (accepts state None) m found) n

-- the step of a scan, by what was computed
pub scan_next : (bytes : List ℕ) (i : ℕ) (state after : State) (c : ByteClass) (k : Option ItemKind) (found more whole : Option Found) → i < length bytes
    → c ≡ class_of (get_or bytes i 0) → k ≡ accepts state (Some c) → more ≡ later k i found → after ≡ step (take i bytes) state (get_or bytes i 0)
    → scan (take i bytes) state found (drop i bytes) ≡ whole → scan (take (i + 1) bytes) after more (drop (i + 1) bytes) ≡ whole
scan_next bytes i state after c k found more whole within classed accepted found_later stepped is =
    ap (λ s. scan (take (i + 1) bytes) s more (drop (i + 1) bytes)) stepped
    ∙ ap (λ m. scan (take (i + 1) bytes) (step (take i bytes) state (get_or bytes i 0)) m (drop (i + 1) bytes))
    (found_later ∙ ap (λ x. later x i found) (accepted ∙ ap (λ x. accepts state (Some x)) classed))
    ∙ sym (scan_step bytes i state found within) ∙ is

pub reach_next : (bytes : List ℕ) (i : ℕ) (state after : State) → i < length bytes → after ≡ step (take i bytes) state (get_or bytes i 0) → reach state ≤ i → reach after ≤ i + 1
reach_next bytes i state after within stepped h =
    let there : i ≤ length bytes = omega arith in
    let n : length (take i bytes) ≡ i = length-take-le i bytes there in
    let r : reach (step (take i bytes) state (get_or bytes i 0)) ≤ length (take i bytes) + 1 = reaches (take i bytes) state (get_or bytes i 0) (omega arith) in
    omega (arith, r, n, ap reach stepped)
