-- The classes of bytes.
use Rattle.std.specs.Prelude.{ℕ, ◌==◌, ◌||◌, Bool, nat_le, if◌then◌else◌}
use Rattle.std.specs.Char.{is_ascii_digit, is_ascii_alphabetic}
use Rattle.sq_syntax.specs.declared.class.ByteClass.{ByteClass}
use Rattle.sq_syntax.specs.declared.class.ByteClass.TheVariants.{Blank, Newline, LetterE, Letter, Zero, Digit, Point, DoubleQuote, SingleQuote, Plus, Dash, Slash, Star, At, Dollar, Colon, Backslash, Plain, Special, Bracket, Other}

-- a space, a tab, a carriage return, a form feed or a vertical tab
unfoldable pub is_blank_byte : ℕ → Bool
is_blank_byte b = b == 32 || b == 9 || b == 13 || b == 12 || b == 11

-- `e` or `E`
unfoldable pub is_letter_e : ℕ → Bool
is_letter_e b = b == 101 || b == 69

-- an ASCII letter, `_`, or a byte of a character beyond ASCII
unfoldable pub is_letter : ℕ → Bool
is_letter b = is_ascii_alphabetic b || b == 95 || nat_le 128 b

-- a digit, where it is no `0`
unfoldable pub is_nonzero_digit : ℕ → Bool
is_nonzero_digit b = is_ascii_digit b

-- `<`, `>` or `=`
unfoldable pub is_plain : ℕ → Bool
is_plain b = b == 60 || b == 62 || b == 61

-- `~ ! # % ^ & |`, a backtick or `?`: with `@`, what lets an operator end in `+` or `-` (manual, 4.1.3)
unfoldable pub is_special : ℕ → Bool
is_special b = b == 126 || b == 33 || b == 35 || b == 37 || b == 94 || b == 38 || b == 124 || b == 96 || b == 63

-- `( ) [ ] ,` or `;`
unfoldable pub is_bracket : ℕ → Bool
is_bracket b = b == 40 || b == 41 || b == 91 || b == 93 || b == 44 || b == 59

-- the class of a byte that is no quote mark and no dollar
unfoldable pub plain_class : ℕ → ByteClass
plain_class b =
    if is_blank_byte b then Blank
    else (if b == 10 then Newline
    else (if is_letter_e b then LetterE
    else (if is_letter b then Letter
    else (if b == 48 then Zero
    else (if is_nonzero_digit b then Digit
    else (if b == 46 then Point
    else (if b == 43 then Plus
    else (if b == 45 then Dash
    else (if b == 47 then Slash
    else (if b == 42 then Star
    else (if b == 64 then At
    else (if b == 58 then Colon
    else (if b == 92 then Backslash
    else (if is_plain b then Plain
    else (if is_special b then Special
    else (if is_bracket b then Bracket
    else Other))))))))))))))))

-- what a byte is to the lexer
unfoldable pub class_of : ℕ → ByteClass
class_of b =
    if b == 34 then DoubleQuote
    else (if b == 39 then SingleQuote
    else (if b == 36 then Dollar
    else plain_class b))
