-- The statements of a schema file that are passed over, by their leading words: they change no schema, or change in it what queries do
-- not see.
use Rattle.std.specs.Prelude.{ℕ, Bool, false, ◌&&◌, ◌||◌, not, if◌then◌else◌, codes, List, [], ◌∷◌, drop}
use Rattle.sq_syntax.specs.declared.symbol.Reading.{Reading}
use Rattle.sq_syntax.specs.declared.symbol.Symbol.TheVariants as s
use Rattle.sq_syntax.specs.Schemas.{letters_of, is}
use Rattle.sq_syntax.specs.Symbols.{among, is_name}
use Rattle.sq_grammar.specs.Ahead.{Lexemes}
use Rattle.sq_grammar.specs.Reading.{begins}
use Rattle.sq_grammar.specs.Schemas.{begins_letters, begins_sign}

-- ---- words. A word in quotes is none of them.

-- statements that are passed over by their first word
abbrev pub other_statements : List (List ℕ)
other_statements =
    codes "set" ∷ codes "reset" ∷ codes "select" ∷ codes "insert" ∷ codes "update" ∷ codes "delete" ∷ codes "with" ∷ codes "truncate" ∷ codes "grant" ∷ codes "revoke" ∷ codes "comment" ∷ codes "begin"
    ∷ codes "start" ∷ codes "commit" ∷ codes "rollback" ∷ codes "end" ∷ codes "do" ∷ codes "call" ∷ codes "analyze" ∷ codes "vacuum" ∷ codes "cluster" ∷ codes "refresh" ∷ codes "lock" ∷ codes "notify" ∷ codes "listen" ∷ []

abbrev pub change_words : List (List ℕ)
change_words = codes "create" ∷ codes "alter" ∷ codes "drop" ∷ []

-- what is created, altered and dropped beside schemas, tables, types and domains
abbrev pub other_things : List (List ℕ)
other_things =
    codes "index" ∷ codes "extension" ∷ codes "sequence" ∷ codes "function" ∷ codes "procedure" ∷ codes "routine" ∷ codes "trigger" ∷ codes "aggregate" ∷ codes "operator" ∷ codes "cast" ∷ codes "collation" ∷ codes "policy"
    ∷ codes "role" ∷ codes "user" ∷ codes "group" ∷ codes "rule" ∷ codes "publication" ∷ codes "subscription" ∷ codes "statistics" ∷ codes "database" ∷ codes "language" ∷ codes "server" ∷ codes "foreign" ∷ codes "tablespace"
    ∷ codes "event" ∷ codes "view" ∷ codes "materialized" ∷ codes "text" ∷ codes "default" ∷ []

-- words that may stand before it, beside OR REPLACE
abbrev pub modifiers : List (List ℕ)
modifiers = codes "unique" ∷ codes "recursive" ∷ codes "constraint" ∷ codes "trusted" ∷ []

abbrev pub is_one_of : List (List ℕ) → Reading → Bool
is_one_of words r = among words (letters_of r)

abbrev pub begins_one_of : List (List ℕ) → Lexemes → Bool
begins_one_of words [] = false
begins_one_of words (x ∷ rest) = is_one_of words x.reading

-- the tokens after all such words
abbrev pub past_modifiers : Lexemes → Lexemes
past_modifiers (x ∷ y ∷ rest) =
    if is_one_of modifiers x.reading then past_modifiers (y ∷ rest) else (if is (codes "or") x.reading && is (codes "replace") y.reading then past_modifiers rest else x ∷ y ∷ rest)
past_modifiers tokens = tokens

-- ---- names

-- the tokens after a name, where one comes first
abbrev pub past_name : Lexemes → Lexemes
past_name [] = []
past_name (x ∷ rest) = if is_name x.reading then rest else x ∷ rest

abbrev pub past_part : Lexemes → Lexemes
past_part tokens = if begins s.Dot tokens then past_name (drop 1 tokens) else tokens

-- the same of a name with that of its schema
abbrev pub past_qualified_name : Lexemes → Lexemes
past_qualified_name tokens = past_part (past_name tokens)

abbrev pub past_unlogged : Lexemes → Lexemes
past_unlogged tokens = if begins_sign (codes "unlogged") tokens then drop 1 tokens else tokens

abbrev pub past_if_not_exists : Lexemes → Lexemes
past_if_not_exists tokens = if begins_letters (codes "if") (codes "not") tokens && begins_sign (codes "exists") (drop 2 tokens) then drop 3 tokens else tokens

-- ---- statements, without their first word

-- TYPE name, without AS ENUM behind it
abbrev pub is_other_type : Lexemes → Bool
is_other_type tokens = begins_sign (codes "type") tokens && not (begins_letters (codes "as") (codes "enum") (past_qualified_name (drop 1 tokens)))

-- TABLE name, with PARTITION OF behind it
abbrev pub is_partition : Lexemes → Bool
is_partition tokens = begins_sign (codes "table") tokens && begins_letters (codes "partition") (codes "of") (past_qualified_name (past_if_not_exists (drop 1 tokens)))

-- SCHEMA name, with OWNER behind it
abbrev pub is_owner : Lexemes → Bool
is_owner tokens = begins_sign (codes "schema") tokens && begins_sign (codes "owner") (past_name (drop 1 tokens))

-- ---- statements

abbrev pub passes_other_thing : Lexemes → Bool
passes_other_thing tokens = begins_one_of change_words tokens && begins_one_of other_things (past_modifiers (drop 1 tokens))

abbrev pub passes_create : Lexemes → Bool
passes_create tokens = begins_sign (codes "create") tokens && (is_other_type (drop 1 tokens) || is_partition (past_unlogged (drop 1 tokens)))

abbrev pub passes_alter : Lexemes → Bool
passes_alter tokens = begins_sign (codes "alter") tokens && (is_owner (drop 1 tokens) || begins_sign (codes "domain") (drop 1 tokens))

unfoldable pub passed_over : Lexemes → Bool
passed_over tokens =
    begins_one_of other_statements tokens || (passes_other_thing tokens || (passes_create tokens || passes_alter tokens))
