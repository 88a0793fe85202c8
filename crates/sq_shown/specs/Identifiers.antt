-- The identifiers that written files give to names of SQL.
use Rattle.std.specs.Prelude.{ℕ, ◌==◌, ◌+◌, ◌-◌, Bool, ◌&&◌, ◌||◌, nat_lt, nat_eq, if◌then◌else◌, List, [], ◌∷◌, ◌++◌, length, take, flat_map, count_by, bytes_eq, codes, decimal}
use Rattle.std.specs.List.{ends_with, list_any}
use Rattle.std.specs.Char.{is_ascii_alphanumeric, is_ascii_digit, to_ascii_uppercase, to_ascii_lowercase}
use Rattle.std.specs.Prelude.{map}
use Rattle.sq_shown.specs.Lines.{Text}
use Rattle.sq_shown.specs.Words.{is_word_byte}

-- a word that ends, where it has a byte
abbrev pub ended : Text → List Text
ended [] = []
ended (byte ∷ bytes) = (byte ∷ bytes) ∷ []

-- the words of a name whose first word has begun with these bytes
abbrev pub words_after : Text → Text → List Text
words_after begun [] = ended begun
words_after begun (byte ∷ bytes) = if is_ascii_alphanumeric byte then words_after (begun ++ byte ∷ []) bytes else ended begun ++ words_after [] bytes

-- the words of a name: what stands between bytes that are no ASCII letters and digits
abbrev pub words : Text → List Text
words name = words_after [] name

-- a text with its first byte raised, where that is a letter
abbrev pub raised : Text → Text
raised [] = []
raised (byte ∷ bytes) = to_ascii_uppercase byte ∷ bytes

-- a text with its first byte lowered, where that is a letter
abbrev pub lowered : Text → Text
lowered [] = []
lowered (byte ∷ bytes) = to_ascii_lowercase byte ∷ bytes

-- a word within an identifier: `id` becomes `ID`, and every other word is raised
abbrev pub pascal_word : Text → Text
pascal_word word = if bytes_eq word (codes "id") then codes "ID" else raised word

-- an identifier begins with a letter: this one is put before a text that is empty or begins with a digit
abbrev pub with_letter : ℕ → Text → Text
with_letter letter [] = letter ∷ []
with_letter letter (byte ∷ bytes) = if is_ascii_digit byte then letter ∷ byte ∷ bytes else byte ∷ bytes

-- the identifier of a field, a model or an enumeration
unfoldable pub pascal : Text → Text
pascal name = with_letter 88 (flat_map pascal_word (words name))

-- the first word lowered whole, the others as within any identifier
abbrev pub camel_words : List Text → Text
camel_words [] = []
camel_words (word ∷ later) = map to_ascii_lowercase word ++ flat_map pascal_word later

-- the identifier of a single parameter
abbrev pub camel : Text → Text
camel name = with_letter 120 (camel_words (words name))

-- whether a text ends with one of these
abbrev pub ends_with_any : List Text → Text → Bool
ends_with_any ends text = list_any (λ end. ends_with nat_eq text end) ends

-- a text without its last bytes
abbrev pub without_last : ℕ → Text → Text
without_last count text = take (length text - count) text

-- the singular of a table's name, by its end: the first case that applies
abbrev pub singular : Text → Text
singular name =
    -- `ies` becomes `y`, in a name of more than four bytes
    if ends_with nat_eq name (codes "ies") && nat_lt 4 (length name) then without_last 3 name ++ codes "y"
    -- these lose `es`
    else if ends_with_any (codes "sses" ∷ codes "shes" ∷ codes "ches" ∷ codes "xes" ∷ []) name then without_last 2 name
    -- these stay
    else if ends_with_any (codes "ss" ∷ codes "us" ∷ codes "is" ∷ []) name then name
    -- any other `s` is lost
    else if ends_with nat_eq name (codes "s") then without_last 1 name
    else name

-- a name of another schema than `public` has the schema's name and `_` before it
abbrev pub in_schema : Text → Text → Text
in_schema schema name = if bytes_eq schema (codes "public") then name else schema ++ codes "_" ++ name

-- the identifier of a table's model
unfoldable pub model_identifier : Text → Text → Text
model_identifier schema name = pascal (in_schema schema (singular name))

-- an identifier that so many equal ones stand before in its list: from the second on it has its number
abbrev pub with_number : Text → ℕ → Text
with_number identifier earlier = if earlier == 0 then identifier else identifier ++ codes "_" ++ decimal (earlier + 1)

-- an identifier after these in one list
unfoldable pub numbered : List Text → Text → Text
numbered earlier identifier = with_number identifier (count_by (λ other. bytes_eq other identifier) earlier)

-- the keywords of Go
abbrev pub go_keywords : List Text
go_keywords =
    codes "break" ∷ codes "case" ∷ codes "chan" ∷ codes "const" ∷ codes "continue"
    ∷ codes "default" ∷ codes "defer" ∷ codes "else" ∷ codes "fallthrough" ∷ codes "for"
    ∷ codes "func" ∷ codes "go" ∷ codes "goto" ∷ codes "if" ∷ codes "import"
    ∷ codes "interface" ∷ codes "map" ∷ codes "package" ∷ codes "range" ∷ codes "return"
    ∷ codes "select" ∷ codes "struct" ∷ codes "switch" ∷ codes "type" ∷ codes "var" ∷ []

-- what the written methods name themselves
abbrev pub names_in_use : List Text
names_in_use =
    codes "ctx" ∷ codes "q" ∷ codes "db" ∷ codes "err" ∷ codes "row"
    ∷ codes "rows" ∷ codes "items" ∷ codes "i" ∷ codes "result" ∷ codes "arg"
    ∷ codes "sql" ∷ codes "context" ∷ codes "time" ∷ codes "json" ∷ codes "uuid"
    ∷ codes "pq" ∷ codes "pqtype" ∷ codes "driver" ∷ codes "fmt" ∷ codes "string"
    ∷ codes "int16" ∷ codes "int32" ∷ codes "int64" ∷ codes "float32" ∷ codes "float64"
    ∷ codes "bool" ∷ codes "byte" ∷ codes "error" ∷ codes "nil" ∷ codes "append"
    ∷ codes "true" ∷ codes "false" ∷ []

-- whether a name is a keyword of Go
abbrev pub is_keyword : Text → Bool
is_keyword name = list_any (bytes_eq name) go_keywords

-- whether a parameter or a constant may not have this name
abbrev pub is_taken : Text → Bool
is_taken name = is_keyword name || list_any (bytes_eq name) names_in_use

-- a name that is taken gets a last `_`
abbrev pub freed : Text → Text
freed name = if is_taken name then name ++ codes "_" else name

-- the name of the constant that holds a query's text
unfoldable pub constant_name : Text → Text
constant_name query = freed (lowered query)

-- the parts between slashes that have a byte, of a text whose first part has begun with these bytes
abbrev pub parts_after : Text → Text → List Text
parts_after begun [] = ended begun
parts_after begun (byte ∷ bytes) = if byte == 47 then ended begun ++ parts_after [] bytes else parts_after (begun ++ byte ∷ []) bytes

-- the last of these texts, or this one where there is none
abbrev pub last_after : Text → List Text → Text
last_after otherwise [] = otherwise
last_after otherwise (text ∷ texts) = last_after text texts

-- the last part of a text between slashes that isn't empty, or an empty text where there is none
abbrev pub last_part : Text → Text
last_part text = last_after [] (parts_after [] text)

-- a byte that may stand in a word, or `_` for any other
abbrev pub word_byte : ℕ → ℕ
word_byte byte = if is_word_byte byte then byte else 95

-- a name that is a keyword gets a last `_`
abbrev pub keyword_freed : Text → Text
keyword_freed name = if is_keyword name then name ++ codes "_" else name

-- the package of the files in a folder: the folder's last part with `_` for each byte of no word, behind `_` where
-- nothing is left or a digit is first, and before `_` where it is a keyword
unfoldable pub package_name : Text → Text
package_name out = keyword_freed (with_letter 95 (map word_byte (last_part out)))
