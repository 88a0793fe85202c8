-- What a token of each class is, and what stands between tokens: predicates on whole lists of bytes
-- (PostgreSQL 16 manual, section 4.1 "Lexical Structure").
use Rattle.std.specs.Prelude.{◌≡◌, ◌≢◌, ℕ, ◌+◌, ◌-◌, ◌==◌, ◌&&◌, ◌||◌, Option, Some, None, Bool, true, false, not, IsTrue, nat_eq, List, [], ◌∷◌, ◌++◌, length, if◌then◌else◌}
use Rattle.std.specs.List.{flat_map, starts_with}
use Rattle.sq_syntax.specs.Bytes.{class_of}
use Rattle.sq_syntax.specs.declared.class.ByteClass.{ByteClass}
use Rattle.sq_syntax.specs.declared.class.ByteClass.TheVariants as class

-- the class of the byte that comes next, if one does
abbrev pub next_class : List ℕ → Option ByteClass
next_class [] = None
next_class (b ∷ bytes) = Some (class_of b)

-- the class of each byte passes the test
abbrev pub each : (ByteClass → Bool) → List ℕ → Bool
each test [] = true
each test (b ∷ bytes) = test (class_of b) && each test bytes

-- a blank or a newline
abbrev pub is_blank : ByteClass → Bool
is_blank class.Blank = true
is_blank class.Newline = true
is_blank _ = false

-- any byte but a newline
abbrev pub is_no_newline : ByteClass → Bool
is_no_newline class.Newline = false
is_no_newline _ = true

-- a letter, `_`, or a byte of a character beyond ASCII: the first byte of a Word (4.1.1)
abbrev pub begins_word : ByteClass → Bool
begins_word class.Letter = true
begins_word class.LetterE = true
begins_word _ = false

-- a digit, `0` included
abbrev pub is_digit : ByteClass → Bool
is_digit class.Zero = true
is_digit class.Digit = true
is_digit _ = false

-- what may stand in the tag of a dollar quote behind its first byte
abbrev pub continues_tag : ByteClass → Bool
continues_tag class.Letter = true
continues_tag class.LetterE = true
continues_tag class.Zero = true
continues_tag class.Digit = true
continues_tag _ = false

-- what may stand in a Word behind its first byte: a dollar too (4.1.1)
abbrev pub continues_word : ByteClass → Bool
continues_word class.Dollar = true
continues_word c = continues_tag c

-- `+` or `-`
abbrev pub is_sign : ByteClass → Bool
is_sign class.Plus = true
is_sign class.Dash = true
is_sign _ = false

-- Blanks: one or more of them.
abbrev pub IsBlank : List ℕ → Type 0
IsBlank bytes = (bytes ≢ []) × IsTrue (each is_blank bytes)

-- Line comment (4.1.5): two dashes, and no newline behind them.
abbrev pub IsLineComment : List ℕ → Type 0
IsLineComment [] = ⊥
IsLineComment (b ∷ []) = ⊥
IsLineComment (b ∷ c ∷ bytes) = (class_of b ≡ class.Dash) × (class_of c ≡ class.Dash) × IsTrue (each is_no_newline bytes)

-- what a byte and the next are inside a block comment: they open one more, close one, or neither
pub data Pair : Type 0 where
  opening : Pair
  closing : Pair
  neither : Pair

-- of two classes
abbrev pub pair : ByteClass → ByteClass → Pair
pair class.Slash class.Star = opening
pair class.Star class.Slash = closing
pair _ _ = neither

-- no bytes
abbrev pub is_empty : List ℕ → Bool
is_empty [] = true
is_empty (b ∷ bytes) = false

-- the one of three that fits
abbrev pub choose : Pair → Bool → Bool → Bool → Bool
choose opening a b c = a
choose closing a b c = b
choose neither a b c = c

-- these bytes, round which this many further comments are open, close the outermost with the last byte
abbrev pub closes : ℕ → List ℕ → Bool
closes depth [] = false
closes depth (b ∷ []) = false
closes depth (b ∷ c ∷ bytes) = choose (pair (class_of b) (class_of c)) (closes (depth + 1) bytes) (if depth == 0 then is_empty bytes else closes (depth - 1) bytes) (closes depth (c ∷ bytes))

-- Block comment (4.1.5): `/*`, and what closes it; comments nest.
abbrev pub IsBlockComment : List ℕ → Type 0
IsBlockComment [] = ⊥
IsBlockComment (b ∷ []) = ⊥
IsBlockComment (b ∷ c ∷ bytes) = (class_of b ≡ class.Slash) × (class_of c ≡ class.Star) × IsTrue (closes 0 bytes)

-- A line that begins with a backslash, to before the newline: a command for the client.
abbrev pub IsBackslashLine : List ℕ → Type 0
IsBackslashLine [] = ⊥
IsBackslashLine (b ∷ bytes) = (class_of b ≡ class.Backslash) × IsTrue (each is_no_newline bytes)

-- Word (4.1.1): a letter, and then letters, digits and dollars.
abbrev pub IsWord : List ℕ → Type 0
IsWord [] = ⊥
IsWord (b ∷ bytes) = IsTrue (begins_word (class_of b)) × IsTrue (each continues_word bytes)

-- `E` or `e`
abbrev pub begins_escape : ByteClass → Bool
begins_escape class.LetterE = true
begins_escape _ = false

-- `E` or `e` alone
abbrev pub is_lone_e : List ℕ → Bool
is_lone_e [] = false
is_lone_e (b ∷ []) = begins_escape (class_of b)
is_lone_e (b ∷ c ∷ bytes) = false

-- a mark that stands inside its own quotes is doubled
abbrev pub doubled : ℕ → ℕ → List ℕ
doubled mark b = if b == mark then b ∷ b ∷ [] else b ∷ []

-- a mark, the inside, and a mark
abbrev pub quoted : ℕ → List ℕ → List ℕ
quoted mark inside = mark ∷ (flat_map (doubled mark) inside ++ mark ∷ [])

-- Quoted (4.1.1) with double quotes, Text (4.1.2.1) with single ones.
abbrev pub IsQuoted : ℕ → List ℕ → Type 0
IsQuoted mark bytes = (inside : List ℕ) × (bytes ≡ quoted mark inside)

-- of a byte and the next in an EText: a backslash takes the next with it, two quotes are one, and no quote stands alone
abbrev pub choose_escaped : ByteClass → ByteClass → Bool → Bool → Bool
choose_escaped class.Backslash d past next = past
choose_escaped class.SingleQuote class.SingleQuote past next = past
choose_escaped class.SingleQuote d past next = false
choose_escaped c d past next = next

-- a single quote
abbrev pub is_single_quote : ByteClass → Bool
is_single_quote class.SingleQuote = true
is_single_quote _ = false

-- the inside of an EText and its closing quote
abbrev pub closes_escaped : List ℕ → Bool
closes_escaped [] = false
closes_escaped (b ∷ []) = is_single_quote (class_of b)
closes_escaped (b ∷ c ∷ bytes) = choose_escaped (class_of b) (class_of c) (closes_escaped bytes) (closes_escaped (c ∷ bytes))

-- EText (4.1.2.2): `E` or `e`, a quote, and then bytes in which a backslash takes the next with it.
abbrev pub IsEText : List ℕ → Type 0
IsEText [] = ⊥
IsEText (b ∷ []) = ⊥
IsEText (b ∷ c ∷ bytes) = (class_of b ≡ class.LetterE) × (class_of c ≡ class.SingleQuote) × IsTrue (closes_escaped bytes)

-- nothing, or a Word without a dollar
abbrev pub is_tag : List ℕ → Bool
is_tag [] = true
is_tag (b ∷ bytes) = begins_word (class_of b) && each continues_tag bytes

-- the mark of a dollar quote: a dollar, a tag, a dollar
abbrev pub IsMark : List ℕ → Type 0
IsMark mark = (tag : List ℕ) × (mark ≡ 36 ∷ (tag ++ 36 ∷ [])) × IsTrue (is_tag tag)

-- these bytes begin with the mark
abbrev pub begins : List ℕ → List ℕ → Bool
begins [] bytes = true
begins (m ∷ mark) [] = false
begins (m ∷ mark) (b ∷ bytes) = (b == m) && begins mark bytes

-- the mark stands at the end of the bytes, and begins nowhere before
abbrev pub ends_first : List ℕ → List ℕ → Bool
ends_first mark [] = false
ends_first mark (b ∷ bytes) = if begins mark (b ∷ bytes) then length (b ∷ bytes) == length mark else ends_first mark bytes

-- Dollar (4.1.2.4): a mark, and then the bytes up to where the same mark first stands again, with it.
abbrev pub IsDollar : List ℕ → Type 0
IsDollar bytes = (mark inside : List ℕ) × IsMark mark × (bytes ≡ mark ++ inside) × IsTrue (ends_first mark inside)

-- one or more digits
abbrev pub IsDigits : List ℕ → Type 0
IsDigits digits = (digits ≢ []) × IsTrue (each is_digit digits)

-- an exponent, or nothing
pub data IsExponent : List ℕ → Type 0 where
  absent : IsExponent []
  unsigned : (mark : ℕ) (digits : List ℕ) → class_of mark ≡ class.LetterE → IsDigits digits → IsExponent (mark ∷ digits)
  signed : (mark sign : ℕ) (digits : List ℕ) → class_of mark ≡ class.LetterE → IsTrue (is_sign (class_of sign)) → IsDigits digits → IsExponent (mark ∷ sign ∷ digits)

-- Number (4.1.2.6): digits and perhaps an exponent; or digits or none, a point, digits and perhaps an exponent.
pub data IsNumber : List ℕ → Type 0 where
  integer : (digits exponent : List ℕ) → IsDigits digits → IsExponent exponent → IsNumber (digits ++ exponent)
  decimal : (digits : List ℕ) (mark : ℕ) (fraction exponent : List ℕ) → IsTrue (each is_digit digits) → class_of mark ≡ class.Point → IsDigits fraction → IsExponent exponent
      → IsNumber (digits ++ mark ∷ (fraction ++ exponent))

-- Parameter (4.1.2, and 4.2.2): a dollar and digits that do not begin with `0`.
abbrev pub IsParameter : List ℕ → Type 0
IsParameter [] = ⊥
IsParameter (b ∷ []) = ⊥
IsParameter (b ∷ c ∷ bytes) = (class_of b ≡ class.Dollar) × (class_of c ≡ class.Digit) × IsTrue (each is_digit bytes)

-- Named: `@` and, at once, a Word.
abbrev pub IsNamed : List ℕ → Type 0
IsNamed [] = ⊥
IsNamed (b ∷ bytes) = (class_of b ≡ class.At) × IsWord bytes

-- a byte of an operator (4.1.3)
abbrev pub in_operator : ByteClass → Bool
in_operator class.Plus = true
in_operator class.Dash = true
in_operator class.Slash = true
in_operator class.Star = true
in_operator class.Plain = true
in_operator class.Special = true
in_operator class.At = true
in_operator _ = false

-- an operator that holds one of these may end in a sign
abbrev pub is_special : ByteClass → Bool
is_special class.Special = true
is_special class.At = true
is_special _ = false

-- some byte is such a one
abbrev pub holds_special : List ℕ → Bool
holds_special [] = false
holds_special (b ∷ bytes) = is_special (class_of b) || holds_special bytes

-- the last class of these, the first being given
abbrev pub last_class : ByteClass → List ℕ → ByteClass
last_class c [] = c
last_class c (b ∷ bytes) = last_class (class_of b) bytes

-- a byte that no operator holds where this one comes next: a comment begins there, or a Named
abbrev pub breaks_off : ByteClass → Option ByteClass → Bool
breaks_off class.Dash (Some class.Dash) = true
breaks_off class.Slash (Some class.Star) = true
breaks_off class.At (Some c) = begins_word c
breaks_off _ _ = false

-- the operator breaks off nowhere in these bytes, the first being given, where this byte, or the end, comes next
abbrev pub holds_together : ByteClass → List ℕ → Option ByteClass → Bool
holds_together c [] next = not (breaks_off c next)
holds_together c (b ∷ bytes) next = not (breaks_off c (Some (class_of b))) && holds_together (class_of b) bytes next

-- an operator of several bytes ends in a sign only if it holds a special one
abbrev pub may_stand : List ℕ → Bool
may_stand [] = false
may_stand (b ∷ []) = true
may_stand (b ∷ c ∷ bytes) = holds_special (b ∷ c ∷ bytes) || not (is_sign (last_class (class_of c) bytes))

-- Operator (4.1.3): bytes of operators, in which no comment and no Named begins.
abbrev pub is_operator : List ℕ → Option ByteClass → Bool
is_operator [] next = false
is_operator (b ∷ bytes) next = each in_operator (b ∷ bytes) && (holds_together (class_of b) bytes next && may_stand (b ∷ bytes))

-- a bracket, a comma, a semicolon, or a point
abbrev pub is_lone_punct : ByteClass → Bool
is_lone_punct class.Bracket = true
is_lone_punct class.Point = true
is_lone_punct _ = false

-- Punct (4.1.4): one of those, or `::`.
abbrev pub IsPunct : List ℕ → Type 0
IsPunct [] = ⊥
IsPunct (b ∷ []) = IsTrue (is_lone_punct (class_of b))
IsPunct (b ∷ c ∷ []) = (class_of b ≡ class.Colon) × (class_of c ≡ class.Colon)
IsPunct (b ∷ c ∷ d ∷ bytes) = ⊥

-- what stands behind the spaces and tabs at the front
abbrev pub past_spaces : List ℕ → List ℕ
past_spaces [] = []
past_spaces (b ∷ bytes) = if b == 32 || b == 9 then past_spaces bytes else b ∷ bytes

-- Note: a line comment whose text, after spaces and tabs, begins `name:`
abbrev pub is_note : List ℕ → Bool
is_note [] = false
is_note (b ∷ []) = false
is_note (b ∷ c ∷ bytes) = starts_with nat_eq (past_spaces bytes) (110 ∷ 97 ∷ 109 ∷ 101 ∷ 58 ∷ [])
