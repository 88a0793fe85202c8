-- The machine that reads an item byte by byte.
use Rattle.std.specs.Prelude.{ℕ, ◌+◌, ◌-◌, ◌==◌, ◌&&◌, ◌||◌, not, Bool, true, nat_lt, if◌then◌else◌, List, [], ◌∷◌, ◌++◌, length, get_or, Option, Some, None}
use Rattle.sq_syntax.specs.Bytes.{class_of}
use Rattle.sq_syntax.specs.Classes.{is_blank, is_no_newline, is_digit, is_sign, continues_tag, continues_word, begins_word, in_operator, is_special, breaks_off}
use Rattle.sq_syntax.specs.declared.class.ByteClass.{ByteClass}
use Rattle.sq_syntax.specs.declared.class.ByteClass.TheVariants as class
use Rattle.sq_syntax.specs.declared.item.ItemKind.{ItemKind}
use Rattle.sq_syntax.specs.declared.item.ItemKind.TheVariants as kind
use Rattle.sq_lexer.specs.declared.machine.State.{State}
use Rattle.sq_lexer.specs.declared.machine.State.TheVariants as at
use Rattle.sq_lexer.specs.declared.machine.Found.{Found}

abbrev pub start : ByteClass → State
start class.Blank = at.Blank
start class.Newline = at.Blank
start class.LetterE = at.LetterE
start class.Letter = at.Word
start class.Zero = at.Whole
start class.Digit = at.Whole
start class.Point = at.LeadingPoint
start class.DoubleQuote = at.InsideDouble
start class.SingleQuote = at.InsideSingle
start class.Plus = at.Lone class.Plus
start class.Dash = at.Lone class.Dash
start class.Slash = at.Lone class.Slash
start class.Star = at.Lone class.Star
start class.At = at.Lone class.At
start class.Dollar = at.DollarSign
start class.Colon = at.Colon
start class.Backslash = at.Dead
start class.Plain = at.Lone class.Plain
start class.Special = at.Lone class.Special
start class.Bracket = at.Punct
start class.Other = at.Dead

abbrev pub line_start : ByteClass → State
line_start class.Backslash = at.BackslashLine
line_start c = start c

abbrev pub blank : ByteClass → State
blank c = if is_blank c then at.Blank else at.Dead

abbrev pub line_comment : ByteClass → State
line_comment c = if is_no_newline c then at.LineComment else at.Dead

abbrev pub backslash_line : ByteClass → State
backslash_line c = if is_no_newline c then at.BackslashLine else at.Dead

abbrev pub word : ByteClass → State
word c = if continues_word c then at.Word else at.Dead

abbrev pub letter_e : ByteClass → State
letter_e class.SingleQuote = at.InsideEscaped
letter_e c = word c

abbrev pub named : ByteClass → State
named c = if continues_word c then at.Named else at.Dead

abbrev pub parameter : ByteClass → State
parameter c = if is_digit c then at.Parameter else at.Dead

abbrev pub inside_double : ByteClass → State
inside_double class.DoubleQuote = at.AfterDouble
inside_double _ = at.InsideDouble

abbrev pub after_double : ByteClass → State
after_double class.DoubleQuote = at.InsideDouble
after_double _ = at.Dead

abbrev pub inside_single : ByteClass → State
inside_single class.SingleQuote = at.AfterSingle
inside_single _ = at.InsideSingle

abbrev pub after_single : ByteClass → State
after_single class.SingleQuote = at.InsideSingle
after_single _ = at.Dead

abbrev pub inside_escaped : ByteClass → State
inside_escaped class.SingleQuote = at.AfterEscaped
inside_escaped class.Backslash = at.Escape
inside_escaped _ = at.InsideEscaped

abbrev pub after_escaped : ByteClass → State
after_escaped class.SingleQuote = at.InsideEscaped
after_escaped _ = at.Dead

abbrev pub after_whole : ByteClass → State
after_whole class.Point = at.WholePoint
after_whole class.LetterE = at.ExponentMark
after_whole _ = at.Dead

abbrev pub whole : ByteClass → State
whole c = if is_digit c then at.Whole else after_whole c

abbrev pub point : ByteClass → State
point c = if is_digit c then at.Fraction else at.Dead

abbrev pub after_fraction : ByteClass → State
after_fraction class.LetterE = at.ExponentMark
after_fraction _ = at.Dead

abbrev pub fraction : ByteClass → State
fraction c = if is_digit c then at.Fraction else after_fraction c

abbrev pub exponent : ByteClass → State
exponent c = if is_digit c then at.Exponent else at.Dead

abbrev pub exponent_mark : ByteClass → State
exponent_mark c = if is_digit c then at.Exponent else (if is_sign c then at.ExponentSign else at.Dead)

abbrev pub opened : ByteClass → State
opened class.Dash = at.LineComment
opened class.Slash = at.Comment 0
opened _ = at.Named

abbrev pub operator : Bool → ByteClass → ByteClass → State
operator special last c = if in_operator c && not (breaks_off last (Some c)) then at.Operator (special || is_special c) c else at.Dead

abbrev pub lone : ByteClass → ByteClass → State
lone last c = if breaks_off last (Some c) then opened last else operator (is_special last) last c

abbrev pub comment : ℕ → ByteClass → State
comment depth class.Slash = at.CommentSlash depth
comment depth class.Star = at.CommentStar depth
comment depth _ = at.Comment depth

abbrev pub comment_slash : ℕ → ByteClass → State
comment_slash depth class.Star = at.Comment (depth + 1)
comment_slash depth c = comment depth c

abbrev pub closed : ℕ → State
closed depth = if depth == 0 then at.CommentEnd else at.Comment (depth - 1)

abbrev pub comment_star : ℕ → ByteClass → State
comment_star depth class.Slash = closed depth
comment_star depth c = comment depth c

abbrev pub colon : ByteClass → State
colon class.Colon = at.Punct
colon _ = at.Dead

-- a dollar, and then this class: the mark of a dollar quote has this many bytes if it ends here
abbrev pub dollar_sign : ℕ → ByteClass → State
dollar_sign size class.Dollar = at.Dollar size 0
dollar_sign size class.Digit = at.Parameter
dollar_sign size c = if begins_word c then at.Tag else at.Dead

abbrev pub tag : ℕ → ByteClass → State
tag size class.Dollar = at.Dollar size 0
tag size c = if continues_tag c then at.Tag else at.Dead

-- how many bytes of the mark, which stands in front of what was seen, have come after one more byte
abbrev pub matched_after : List ℕ → ℕ → ℕ → ℕ
matched_after seen matched b = if b == get_or seen matched 0 then matched + 1 else (if b == 36 then 1 else 0)

abbrev pub dollar : List ℕ → ℕ → ℕ → ℕ → State
dollar seen size matched b = if nat_lt matched size then at.Dollar size (matched_after seen matched b) else at.Dead

-- the state after one more byte, behind those that were seen
abbrev pub step : List ℕ → State → ℕ → State
step seen at.Start b = start (class_of b)
step seen at.LineStart b = line_start (class_of b)
step seen at.Dead b = at.Dead
step seen at.Blank b = blank (class_of b)
step seen at.LineComment b = line_comment (class_of b)
step seen (at.Comment depth) b = comment depth (class_of b)
step seen (at.CommentSlash depth) b = comment_slash depth (class_of b)
step seen (at.CommentStar depth) b = comment_star depth (class_of b)
step seen at.CommentEnd b = at.Dead
step seen at.BackslashLine b = backslash_line (class_of b)
step seen at.LetterE b = letter_e (class_of b)
step seen at.Word b = word (class_of b)
step seen at.InsideDouble b = inside_double (class_of b)
step seen at.AfterDouble b = after_double (class_of b)
step seen at.InsideSingle b = inside_single (class_of b)
step seen at.AfterSingle b = after_single (class_of b)
step seen at.InsideEscaped b = inside_escaped (class_of b)
step seen at.AfterEscaped b = after_escaped (class_of b)
step seen at.Escape b = at.InsideEscaped
step seen at.DollarSign b = dollar_sign (length seen + 1) (class_of b)
step seen at.Tag b = tag (length seen + 1) (class_of b)
step seen (at.Dollar size matched) b = dollar seen size matched b
step seen at.Parameter b = parameter (class_of b)
step seen at.Named b = named (class_of b)
step seen at.Whole b = whole (class_of b)
step seen at.WholePoint b = point (class_of b)
step seen at.LeadingPoint b = point (class_of b)
step seen at.Fraction b = fraction (class_of b)
step seen at.ExponentMark b = exponent_mark (class_of b)
step seen at.ExponentSign b = exponent (class_of b)
step seen at.Exponent b = exponent (class_of b)
step seen (at.Lone last) b = lone last (class_of b)
step seen (at.Operator special last) b = operator special last (class_of b)
step seen at.Colon b = colon (class_of b)
step seen at.Punct b = at.Dead

-- where a line begins, or elsewhere
abbrev pub begin : Bool → State
begin first = if first then at.LineStart else at.Start

-- a bound of what the state counts, by the bytes that were seen
abbrev pub reach : State → ℕ
reach (at.Comment depth) = depth
reach (at.CommentSlash depth) = depth
reach (at.CommentStar depth) = depth
reach (at.Dollar size matched) = size
reach _ = 0

-- a form does not end before a further quote mark
abbrev pub unless_double : ItemKind → Option ByteClass → Option ItemKind
unless_double k (Some class.DoubleQuote) = None
unless_double k _ = Some k

abbrev pub unless_single : ItemKind → Option ByteClass → Option ItemKind
unless_single k (Some class.SingleQuote) = None
unless_single k _ = Some k

abbrev pub ended_operator : Bool → ByteClass → Option ByteClass → Option ItemKind
ended_operator may_end last next = if not (breaks_off last next) && (may_end || not (is_sign last)) then Some kind.Operator else None

-- what the bytes so far are where this byte, or the end, comes next
abbrev pub accepts : State → Option ByteClass → Option ItemKind
accepts at.Blank next = Some kind.Blank
accepts at.LineComment next = Some kind.LineComment
accepts at.CommentEnd next = Some kind.BlockComment
accepts at.BackslashLine next = Some kind.BackslashLine
accepts at.LetterE next = unless_single kind.Word next
accepts at.Word next = Some kind.Word
accepts at.AfterDouble next = unless_double kind.Quoted next
accepts at.AfterSingle next = unless_single kind.Text next
accepts at.AfterEscaped next = unless_single kind.EText next
accepts (at.Dollar size matched) next = if matched == size then Some kind.Dollar else None
accepts at.Parameter next = Some kind.Parameter
accepts at.Named next = Some kind.Named
accepts at.Whole next = Some kind.Number
accepts at.Fraction next = Some kind.Number
accepts at.Exponent next = Some kind.Number
accepts at.LeadingPoint next = Some kind.Punct
accepts (at.Lone last) next = ended_operator true last next
accepts (at.Operator special last) next = ended_operator special last next
accepts at.Punct next = Some kind.Punct
accepts _ next = None

-- the state after these bytes
abbrev pub run : List ℕ → State → List ℕ → State
run seen state [] = state
run seen state (b ∷ bytes) = run (seen ++ b ∷ []) (step seen state b) bytes

abbrev pub later : Option ItemKind → ℕ → Option Found → Option Found
later None size found = found
later (Some k) size found = Some (record { kind = k; size = size })

-- the longest front that is accepted, of what was seen and these bytes, where this was found before
unfoldable pub scan : List ℕ → State → Option Found → List ℕ → Option Found
scan seen state found [] = later (accepts state None) (length seen) found
scan seen state found (b ∷ bytes) = scan (seen ++ b ∷ []) (step seen state b) (later (accepts state (Some (class_of b))) (length seen) found) bytes
