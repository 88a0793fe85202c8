-- The next item of a file: a token, or a piece of what stands between tokens.
use Rattle.std.specs.Prelude.{◌≡◌, ◌≢◌, ℕ, ◌≤◌, ◌==◌, ◌&&◌, ◌||◌, Bool, true, false, not, IsTrue, List, [], ◌∷◌, ◌++◌, length, Option, Some, None, if◌then◌else◌}
use Rattle.sq_syntax.specs.Bytes.{class_of}
use Rattle.sq_syntax.specs.Classes.{next_class, IsBlank, IsLineComment, IsBlockComment, IsBackslashLine, IsWord, is_lone_e, IsQuoted, IsEText, IsDollar, IsNumber, IsParameter, IsNamed, is_operator, IsPunct, is_note, begins_word, continues_tag}
use Rattle.sq_syntax.specs.declared.class.ByteClass.{ByteClass}
use Rattle.sq_syntax.specs.declared.class.ByteClass.TheVariants as class
use Rattle.sq_syntax.specs.declared.item.ItemKind.{ItemKind}
use Rattle.sq_syntax.specs.declared.item.ItemKind.TheVariants as kind
use Rattle.sq_syntax.specs.declared.item.Stop.{Stop}
use Rattle.sq_syntax.specs.declared.item.Stop.TheVariants.{Unterminated, BadByte}
use Rattle.sq_syntax.specs.declared.token.TokenKind.{TokenKind}
use Rattle.sq_syntax.specs.declared.token.TokenKind.TheVariants as token

-- These bytes are an item of the kind where the rest follows; `first` says that they begin a line.
-- A closing quote is not followed by a further one, since the two would be a doubled one,
-- and `E` before a quote begins an EText and is no Word.
abbrev pub IsItem : Bool → ItemKind → List ℕ → List ℕ → Type 0
IsItem first kind.Blank bytes rest = IsBlank bytes
IsItem first kind.LineComment bytes rest = IsLineComment bytes
IsItem first kind.BlockComment bytes rest = IsBlockComment bytes
IsItem first kind.BackslashLine bytes rest = (first ≡ true) × IsBackslashLine bytes
IsItem first kind.Word bytes rest = IsWord bytes × (next_class rest ≡ Some class.SingleQuote → is_lone_e bytes ≡ false)
IsItem first kind.Quoted bytes rest = IsQuoted 34 bytes × (next_class rest ≢ Some class.DoubleQuote)
IsItem first kind.Text bytes rest = IsQuoted 39 bytes × (next_class rest ≢ Some class.SingleQuote)
IsItem first kind.EText bytes rest = IsEText bytes × (next_class rest ≢ Some class.SingleQuote)
IsItem first kind.Dollar bytes rest = IsDollar bytes
IsItem first kind.Number bytes rest = IsNumber bytes
IsItem first kind.Parameter bytes rest = IsParameter bytes
IsItem first kind.Named bytes rest = IsNamed bytes
IsItem first kind.Operator bytes rest = IsTrue (is_operator bytes (next_class rest))
IsItem first kind.Punct bytes rest = IsPunct bytes

-- The next item is the longest at the front of the bytes. Of a form with an opening mark only one front can count,
-- since it ends at the first closing mark; elsewhere the longest front of any class counts.
pub record IsNext (first : Bool) (bytes : List ℕ) (kind : ItemKind) (item rest : List ℕ) : Type 0 where
  pub whole : bytes ≡ item ++ rest
  pub stands : IsItem first kind item rest
  pub longest : (other : ItemKind) (front after : List ℕ) → bytes ≡ front ++ after → IsItem first other front after → length front ≤ length item

-- no front of the bytes is an item
abbrev pub NoItem : Bool → List ℕ → Type 0
NoItem first bytes = (kind : ItemKind) (front after : List ℕ) → bytes ≡ front ++ after → IsItem first kind front after → ⊥

-- no Word begins with what comes next
abbrev pub stops_word : Option ByteClass → Bool
stops_word None = true
stops_word (Some c) = not (begins_word c)

-- why an item is refused: a Number or Parameter runs into a Word, or nothing stands between the marks of a Quoted
abbrev pub fault_of : ItemKind → List ℕ → List ℕ → Option Stop
fault_of kind.Number item rest = if stops_word (next_class rest) then None else Some BadByte
fault_of kind.Parameter item rest = if stops_word (next_class rest) then None else Some BadByte
fault_of kind.Quoted item rest = if length item == 2 then Some Unterminated else None
fault_of _ item rest = None

-- a dollar
abbrev pub is_dollar : ByteClass → Bool
is_dollar class.Dollar = true
is_dollar _ = false

-- the rest of a tag, and a dollar
abbrev pub closes_tag : List ℕ → Bool
closes_tag [] = false
closes_tag (b ∷ bytes) = is_dollar (class_of b) || (continues_tag (class_of b) && closes_tag bytes)

-- a tag and a dollar
abbrev pub begins_tag : List ℕ → Bool
begins_tag [] = false
begins_tag (b ∷ bytes) = is_dollar (class_of b) || (begins_word (class_of b) && closes_tag bytes)

-- a star comes next
abbrev pub is_star_next : Option ByteClass → Bool
is_star_next (Some class.Star) = true
is_star_next _ = false

-- a single quote comes next
abbrev pub is_quote_next : Option ByteClass → Bool
is_quote_next (Some class.SingleQuote) = true
is_quote_next _ = false

-- the opening mark of a quoted form or of a block comment, its first class being given
abbrev pub opens_with : ByteClass → List ℕ → Bool
opens_with class.DoubleQuote bytes = true
opens_with class.SingleQuote bytes = true
opens_with class.LetterE bytes = is_quote_next (next_class bytes)
opens_with class.Slash bytes = is_star_next (next_class bytes)
opens_with class.Dollar bytes = begins_tag bytes
opens_with _ bytes = false

-- the opening mark of a quoted form or of a block comment stands here
abbrev pub opens : List ℕ → Bool
opens [] = false
opens (b ∷ bytes) = opens_with (class_of b) bytes

-- why no item begins here
abbrev pub stop_at : List ℕ → Stop
stop_at bytes = if opens bytes then Unterminated else BadByte

-- the token that an item is, if it is one
abbrev pub token_kind : ItemKind → List ℕ → Option TokenKind
token_kind kind.Blank item = None
token_kind kind.LineComment item = if is_note item then Some token.Note else None
token_kind kind.BlockComment item = None
token_kind kind.BackslashLine item = None
token_kind kind.Word item = Some token.Word
token_kind kind.Quoted item = Some token.Quoted
token_kind kind.Text item = Some token.Text
token_kind kind.EText item = Some token.EText
token_kind kind.Dollar item = Some token.Dollar
token_kind kind.Number item = Some token.Number
token_kind kind.Parameter item = Some token.Parameter
token_kind kind.Named item = Some token.Named
token_kind kind.Operator item = Some token.Operator
token_kind kind.Punct item = Some token.Punct
