-- What stands at the front of a text, and the rest of it.
use Rattle.std.specs.Prelude.{ℕ, suc, zero, ◌==◌, ◌||◌, ◌&&◌, ◌-◌, nat_eq, Bool, List, [], ◌∷◌, ◌++◌, codes, length, take, drop, if◌then◌else◌, Option, Some, None, option_map}
use Rattle.std.specs.List.{prefix_len, starts_with}
use Rattle.std.specs.Cmp.Lexicographic.{pointwise}
use Rattle.std.specs.Char.{is_ascii_alphanumeric}
use Rattle.sq_reader.specs.declared.parts.Class.{Class}
use Rattle.sq_reader.specs.declared.parts.Class.TheVariants.{Word, Spelling, Path, Newline, Bracket}

abbrev pub Text : Type 0
Text = List ℕ

-- what is read at the front of a text, and the rest behind it
abbrev pub Part : Type 0 → Type 0
Part A = Option (A × Text)

-- what is read, and then what is read with it
infixl 10 ◌>>=◌
abbrev pub ◌>>=◌ : {A B : Type 0} → Option A → (A → Option B) → Option B
None >>= f = None
(Some x) >>= f = f x

abbrev pub same : Text → Text → Bool
same a b = pointwise nat_eq a b

-- the rest of a text behind this front
abbrev pub behind : Text → Text → Option Text
behind front text = if same (take (length front) text) front then Some (drop (length front) text) else None

-- the front of a text before this end
abbrev pub before : Text → Text → Option Text
before end text = if same (drop (length text - length end) text) end then Some (take (length text - length end) text) else None

-- the bytes of a name, of a type, of an import's path, of empty lines, and of an array's brackets
abbrev pub allows : Class → ℕ → Bool
allows Word b = is_ascii_alphanumeric b || (b == 95)
allows Spelling b = is_ascii_alphanumeric b || (b == 95) || (b == 46) || (b == 91) || (b == 93)
allows Path b = is_ascii_alphanumeric b || (b == 95) || (b == 46) || (b == 45) || (b == 47)
allows Newline b = b == 10
allows Bracket b = (b == 91) || (b == 93)

-- the longest front of such bytes
abbrev pub run : Class → Text → Text
run class text = take (prefix_len (allows class) text) text

-- the rest behind the longest front of such bytes
abbrev pub after_run : Class → Text → Text
after_run class text = drop (prefix_len (allows class) text) text

-- such bytes, one or more, as many as there are
unfoldable pub run_at : Class → Text → Part Text
run_at class text = if prefix_len (allows class) text == 0 then None else Some (run class text, after_run class text)

-- one and then more, where there is one
abbrev pub first_and : {A : Type 0} → Part A → Text → (Text → List A × Text) → List A × Text
first_and None text more = ([], text)
first_and (Some x) text more = (x.0 ∷ (more x.1).0, (more x.1).1)

-- at most so many, one after another
abbrev pub many_from : {A : Type 0} → (Text → Part A) → ℕ → Text → List A × Text
many_from at zero text = ([], text)
many_from at (suc n) text = first_and (at text) text (many_from at n)

-- one after another, as long as one stands at the front; each takes a byte or more
abbrev pub many : {A : Type 0} → (Text → Part A) → Text → List A × Text
many at text = many_from at (length text) text

-- the same, one or more
abbrev pub not_none : {A : Type 0} → List A × Text → Part (List A)
not_none ([], rest) = None
not_none (x ∷ xs, rest) = Some (x ∷ xs, rest)

-- what is written outside of a raw string: the string is left behind its back-quote, and entered again
pub record Outside : Type 0 where
  pub bytes : Text
  pub taken : ℕ

-- a back-quote, a carriage return or U+FEFF in quotes, and how many bytes that takes
unfoldable pub outside_at : Text → Option Outside
outside_at text =
    if starts_with nat_eq text (codes "+\"`\"+`") then Some (record { bytes = 96 ∷ []; taken = 6 })
    else if starts_with nat_eq text (codes "+\"\\r\"+`") then Some (record { bytes = 13 ∷ []; taken = 7 })
    else if starts_with nat_eq text (codes "+\"\\ufeff\"+`") then Some (record { bytes = 239 ∷ 187 ∷ 191 ∷ []; taken = 11 })
    else None

-- these stand in no raw string as they are
abbrev pub is_outside : ℕ → Text → Bool
is_outside b bs = (b == 13) || ((b == 239) && starts_with nat_eq bs (187 ∷ 191 ∷ []))

-- a text before what is read
abbrev pub onto : Text → Part Text → Part Text
onto text part = option_map (λ x. (text ++ x.0, x.1)) part

-- at a back-quote the string ends, or is left for what is written outside
abbrev pub at_quote : Option Outside → Text → (ℕ → Part Text) → Part Text
at_quote None bs more = Some ([], bs)
at_quote (Some outside) bs more = onto outside.bytes (more outside.taken)

-- a byte of a raw string, and what follows it
abbrev pub raw_byte : ℕ → Text → (ℕ → Part Text) → Part Text
raw_byte b bs more = if b == 96 then at_quote (outside_at bs) bs more else if is_outside b bs then None else onto (b ∷ []) (more 0)

-- what the rest of a raw string stands for, up to its closing back-quote, where so many bytes were read before
abbrev pub raw_after : Text → ℕ → Part Text
raw_after [] read = None
raw_after (b ∷ bs) (suc read) = raw_after bs read
raw_after (b ∷ bs) zero = raw_byte b bs (raw_after bs)

-- what a raw string stands for behind its first back-quote
abbrev pub raw_at : Text → Part Text
raw_at text = raw_after text 0
