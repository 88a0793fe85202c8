-- The words and signs that the grammar knows, and what it sees of a token (PostgreSQL manual, section 4.1 and appendix C).
use Rattle.std.specs.Prelude.{ℕ, ◌&&◌, not, Bool, true, false, if◌then◌else◌, List, [], ◌∷◌, ◌-◌, ◌==◌, drop, take, length, codes, bytes_eq, Option, Some, None}
use Rattle.std.specs.List.{list_any}
use Rattle.sq_base.specs.Folding.{folded, whole_front}
use Rattle.sq_syntax.specs.declared.symbol.Symbol.{Symbol}
use Rattle.sq_syntax.specs.declared.symbol.Symbol.TheVariants as s
use Rattle.sq_syntax.specs.declared.symbol.Reading.{Reading}
use Rattle.sq_syntax.specs.declared.symbol.Reading.TheVariants as reading
use Rattle.sq_syntax.specs.declared.symbol.Lexeme.{Lexeme}
use Rattle.sq_syntax.specs.declared.name.Identifier.{Identifier}
use Rattle.sq_syntax.specs.declared.token.TokenKind.{TokenKind}
use Rattle.sq_syntax.specs.declared.token.TokenKind.TheVariants as kind
use Rattle.sq_syntax.specs.declared.token.Token.{Token}

-- ---- words and signs

-- the bytes of a symbol; letters are lower-case
abbrev pub text : Symbol → List ℕ
text s.Open = codes "("
text s.Close = codes ")"
text s.OpenSquare = codes "["
text s.CloseSquare = codes "]"
text s.Comma = codes ","
text s.Semicolon = codes ";"
text s.Dot = codes "."
text s.Colons = codes "::"
text s.Power = codes "^"
text s.Times = codes "*"
text s.Divide = codes "/"
text s.Modulo = codes "%"
text s.Plus = codes "+"
text s.Minus = codes "-"
text s.Less = codes "<"
text s.Greater = codes ">"
text s.Equal = codes "="
text s.LessEqual = codes "<="
text s.GreaterEqual = codes ">="
text s.NotEqual = codes "<>"
text s.All = codes "all"
text s.And = codes "and"
text s.Any = codes "any"
text s.Arg = codes "arg"
text s.Array = codes "array"
text s.As = codes "as"
text s.Asc = codes "asc"
text s.At = codes "at"
text s.Between = codes "between"
text s.By = codes "by"
text s.Case = codes "case"
text s.Cast = codes "cast"
text s.Character = codes "character"
text s.Coalesce = codes "coalesce"
text s.Collate = codes "collate"
text s.Cross = codes "cross"
text s.CurrentDate = codes "current_date"
text s.CurrentTimestamp = codes "current_timestamp"
text s.Desc = codes "desc"
text s.Distinct = codes "distinct"
text s.Double = codes "double"
text s.Else = codes "else"
text s.End = codes "end"
text s.Except = codes "except"
text s.Exists = codes "exists"
text s.Extract = codes "extract"
text s.False = codes "false"
text s.Filter = codes "filter"
text s.First = codes "first"
text s.For = codes "for"
text s.From = codes "from"
text s.Full = codes "full"
text s.Greatest = codes "greatest"
text s.Group = codes "group"
text s.Having = codes "having"
text s.Ilike = codes "ilike"
text s.In = codes "in"
text s.Inner = codes "inner"
text s.Intersect = codes "intersect"
text s.Is = codes "is"
text s.IsNull = codes "isnull"
text s.Join = codes "join"
text s.Key = codes "key"
text s.Last = codes "last"
text s.Least = codes "least"
text s.Left = codes "left"
text s.Like = codes "like"
text s.Limit = codes "limit"
text s.LocalTimestamp = codes "localtimestamp"
text s.Locked = codes "locked"
text s.Materialized = codes "materialized"
text s.Narg = codes "narg"
text s.No = codes "no"
text s.Not = codes "not"
text s.NotNull = codes "notnull"
text s.NoWait = codes "nowait"
text s.Null = codes "null"
text s.NullIf = codes "nullif"
text s.Nulls = codes "nulls"
text s.Of = codes "of"
text s.Offset = codes "offset"
text s.On = codes "on"
text s.Or = codes "or"
text s.Order = codes "order"
text s.Outer = codes "outer"
text s.Precision = codes "precision"
text s.Right = codes "right"
text s.Row = codes "row"
text s.Rows = codes "rows"
text s.Select = codes "select"
text s.Share = codes "share"
text s.Skip = codes "skip"
text s.Slice = codes "slice"
text s.Some = codes "some"
text s.Sqlc = codes "sqlc"
text s.Symmetric = codes "symmetric"
text s.Then = codes "then"
text s.Time = codes "time"
text s.True = codes "true"
text s.Union = codes "union"
text s.Unknown = codes "unknown"
text s.Update = codes "update"
text s.Using = codes "using"
text s.Varying = codes "varying"
text s.When = codes "when"
text s.Where = codes "where"
text s.With = codes "with"
text s.Without = codes "without"
text s.Zone = codes "zone"

-- the symbols that are words
abbrev pub words : List Symbol
words =
    s.All ∷ s.And ∷ s.Any ∷ s.Arg ∷ s.Array ∷ s.As ∷ s.Asc ∷ s.At ∷ s.Between ∷ s.By ∷ s.Case ∷ s.Cast ∷ s.Character ∷
    s.Coalesce ∷ s.Collate ∷ s.Cross ∷ s.CurrentDate ∷ s.CurrentTimestamp ∷ s.Desc ∷ s.Distinct ∷ s.Double ∷ s.Else ∷ s.End ∷
    s.Except ∷ s.Exists ∷ s.Extract ∷ s.False ∷ s.Filter ∷ s.First ∷ s.For ∷ s.From ∷ s.Full ∷ s.Greatest ∷ s.Group ∷ s.Having ∷
    s.Ilike ∷ s.In ∷ s.Inner ∷ s.Intersect ∷ s.Is ∷ s.IsNull ∷ s.Join ∷ s.Key ∷ s.Last ∷ s.Least ∷ s.Left ∷ s.Like ∷ s.Limit ∷
    s.LocalTimestamp ∷ s.Locked ∷ s.Materialized ∷ s.Narg ∷ s.No ∷ s.Not ∷ s.NotNull ∷ s.NoWait ∷ s.Null ∷ s.NullIf ∷ s.Nulls ∷
    s.Of ∷ s.Offset ∷ s.On ∷ s.Or ∷ s.Order ∷ s.Outer ∷ s.Precision ∷ s.Right ∷ s.Row ∷ s.Rows ∷ s.Select ∷ s.Share ∷ s.Skip ∷
    s.Slice ∷ s.Some ∷ s.Sqlc ∷ s.Symmetric ∷ s.Then ∷ s.Time ∷ s.True ∷ s.Union ∷ s.Unknown ∷ s.Update ∷ s.Using ∷ s.Varying ∷
    s.When ∷ s.Where ∷ s.With ∷ s.Without ∷ s.Zone ∷ []

-- the symbols that are signs
abbrev pub signs : List Symbol
signs =
    s.Open ∷ s.Close ∷ s.OpenSquare ∷ s.CloseSquare ∷ s.Comma ∷ s.Semicolon ∷ s.Dot ∷ s.Colons ∷ s.Power ∷ s.Times ∷ s.Divide ∷
    s.Modulo ∷ s.Plus ∷ s.Minus ∷ s.Less ∷ s.Greater ∷ s.Equal ∷ s.LessEqual ∷ s.GreaterEqual ∷ s.NotEqual ∷ []

-- the first of these symbols that has the bytes
abbrev pub find : List Symbol → List ℕ → Option Symbol
find [] bytes = None
find (x ∷ symbols) bytes = if bytes_eq (text x) bytes then Some x else find symbols bytes

abbrev pub by_symbol : (List ℕ → Reading) → List ℕ → Option Symbol → Reading
by_symbol other bytes None = other bytes
by_symbol other bytes (Some x) = reading.Symbol x

-- a folded word as the grammar sees it
unfoldable pub word_reading : List ℕ → Reading
word_reading word = by_symbol reading.Word word (find words word)

-- a sign or an operator as the grammar sees it
unfoldable pub sign_reading : List ℕ → Reading
sign_reading bytes = by_symbol reading.Operator bytes (find signs bytes)

-- ---- names

-- the words of the grammar that are names without quotes too
abbrev pub is_free : Symbol → Bool
is_free s.Arg = true
is_free s.At = true
is_free s.By = true
is_free s.Character = true
is_free s.Coalesce = true
is_free s.Double = true
is_free s.Extract = true
is_free s.Filter = true
is_free s.First = true
is_free s.Greatest = true
is_free s.Key = true
is_free s.Last = true
is_free s.Least = true
is_free s.Locked = true
is_free s.Materialized = true
is_free s.Narg = true
is_free s.No = true
is_free s.NoWait = true
is_free s.NullIf = true
is_free s.Nulls = true
is_free s.Of = true
is_free s.Precision = true
is_free s.Row = true
is_free s.Rows = true
is_free s.Share = true
is_free s.Skip = true
is_free s.Slice = true
is_free s.Sqlc = true
is_free s.Time = true
is_free s.Unknown = true
is_free s.Update = true
is_free s.Varying = true
is_free s.Without = true
is_free s.Zone = true
is_free _ = false

-- the other words that are names only where they are quoted
abbrev pub reserved_words : List (List ℕ)
reserved_words =
    codes "analyse" ∷ codes "analyze" ∷ codes "asymmetric" ∷ codes "both" ∷ codes "check" ∷ codes "column" ∷ codes "constraint" ∷
    codes "create" ∷ codes "default" ∷ codes "deferrable" ∷ codes "do" ∷ codes "fetch" ∷ codes "foreign" ∷ codes "grant" ∷
    codes "initially" ∷ codes "into" ∷ codes "lateral" ∷ codes "leading" ∷ codes "localtime" ∷ codes "natural" ∷ codes "only" ∷
    codes "overlaps" ∷ codes "placing" ∷ codes "primary" ∷ codes "references" ∷ codes "returning" ∷ codes "session_user" ∷
    codes "similar" ∷ codes "table" ∷ codes "to" ∷ codes "trailing" ∷ codes "unique" ∷ codes "user" ∷ codes "variadic" ∷
    codes "window" ∷ []

abbrev pub among : List (List ℕ) → List ℕ → Bool
among words word = list_any (λ w. bytes_eq w word) words

-- a name: a quoted one, or a word that is not reserved
abbrev pub is_name : Reading → Bool
is_name (reading.Symbol x) = is_free x
is_name (reading.Word word) = not (among reserved_words word)
is_name (reading.Quoted name) = true
is_name _ = false

-- words that are no name of an output or a source without AS before them, beside those below
abbrev pub tied_words : List (List ℕ)
tied_words =
    codes "char" ∷ codes "day" ∷ codes "hour" ∷ codes "minute" ∷ codes "month" ∷ codes "over" ∷ codes "second" ∷ codes "within" ∷
    codes "year" ∷ []

-- a name that may stand for an output or a source without AS before it
abbrev pub is_bare_label : Reading → Bool
is_bare_label (reading.Symbol s.Character) = false
is_bare_label (reading.Symbol s.Filter) = false
is_bare_label (reading.Symbol s.Precision) = false
is_bare_label (reading.Symbol s.Varying) = false
is_bare_label (reading.Symbol s.Without) = false
is_bare_label (reading.Symbol x) = is_free x
is_bare_label (reading.Word word) = not (among reserved_words word) && not (among tied_words word)
is_bare_label (reading.Quoted name) = true
is_bare_label _ = false

-- a name as it is spelled
abbrev pub name_reading : Bool → List ℕ → Reading
name_reading true name = reading.Quoted name
name_reading false name = word_reading name

abbrev pub identifier_reading : Identifier → Reading
identifier_reading name = name_reading name.is_quoted name.name

-- ---- tokens

-- each doubled quote is one; whether the byte before is the first of two
abbrev pub undoubled : Bool → List ℕ → List ℕ
undoubled after [] = []
undoubled after (b ∷ bytes) = if after && (b == 34) then undoubled false bytes else b ∷ undoubled (b == 34) bytes

-- what stands between the first and the last byte
abbrev pub within : List ℕ → List ℕ
within bytes = take (length bytes - 2) (drop 1 bytes)

-- the name of a quoted token
abbrev pub quoted_name : List ℕ → List ℕ
quoted_name bytes = whole_front 63 (undoubled false (within bytes))

-- what the grammar sees of a token of this kind and these bytes
abbrev pub kind_reading : TokenKind → List ℕ → Reading
kind_reading kind.Word bytes = word_reading (folded bytes)
kind_reading kind.Quoted bytes = reading.Quoted (quoted_name bytes)
kind_reading kind.Text bytes = reading.Text bytes
kind_reading kind.EText bytes = reading.EText bytes
kind_reading kind.Dollar bytes = reading.Dollar bytes
kind_reading kind.Number bytes = reading.Number bytes
kind_reading kind.Parameter bytes = reading.Parameter bytes
kind_reading kind.Named bytes = reading.Named (folded (drop 1 bytes))
kind_reading kind.Operator bytes = sign_reading (if bytes_eq bytes (codes "!=") then codes "<>" else bytes)
kind_reading kind.Punct bytes = sign_reading bytes
kind_reading kind.Note bytes = reading.Note

-- a token as the grammar sees it
abbrev pub lexeme : Token → Lexeme
lexeme token = record { reading = kind_reading token.kind token.bytes; place = token.place }
