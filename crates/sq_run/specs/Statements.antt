-- The first queries that are read: for columns of one table.
use Rattle.std.specs.Prelude.{ℕ, suc, zero, ◌&&◌, not, Bool, true, false, if◌then◌else◌, List, [], ◌∷◌, length, codes, Option, None, Some, ◌-◌, take, drop}
use Rattle.std.specs.List.{list_all}
use Rattle.std.specs.Option.{option_map}
use denote.Enum.Bare.{sameb}
use Rattle.sq_syntax.specs.contracts.TokenKind.{the_type}
use Rattle.sq_syntax.specs.declared.token.Token.{Token}
use Rattle.sq_syntax.specs.declared.token.TokenKind.{TokenKind}
use Rattle.sq_syntax.specs.declared.token.TokenKind.TheVariants.{Word, Note, Punct}
use Rattle.sq_run.specs.declared.statements.Named.{Named}
use Rattle.sq_run.specs.declared.statements.Select.{Select}
use Rattle.sq_plan.specs.Options.{◌>>=◌}
use Rattle.sq_run.specs.Names.{same_word, name_text}

-- a part of a statement, and the tokens after it
abbrev pub Part : Type 0 → Type 0
Part A = Option (A × List Token)

-- whether two tokens are of one kind
unfoldable pub same_kind : TokenKind → TokenKind → Bool
same_kind a b = sameb the_type a b

-- whether a token of this kind is this word in any letter case, or this mark
abbrev pub is : TokenKind → List ℕ → Token → Bool
is kind text token = same_kind token.kind kind && same_word token.bytes text

-- whether a token ends a statement
abbrev pub is_end : Token → Bool
is_end token = is Punct (codes ";") token

-- whether a token isn't a comment that names a query
abbrev pub is_no_note : TokenKind → Bool
is_no_note Note = false
is_no_note _ = true

-- the tokens after this word or mark
unfoldable pub after : TokenKind → List ℕ → List Token → Option (List Token)
after kind text [] = None
after kind text (token ∷ tokens) = if is kind text token then Some tokens else None

-- a name at its place
abbrev pub named : Token → List ℕ → Named
named token name = record { name = name; place = token.place }

-- a name
unfoldable pub name_at : List Token → Part Named
name_at [] = None
name_at (token ∷ tokens) = option_map (λ name. (named token name, tokens)) (name_text token.kind token.bytes)

-- what follows an item of a list: a comma and more items, or the closing word or mark
unfoldable pub next : TokenKind → List ℕ → List Token → Part Bool
next kind close tokens = elim (after Punct (codes ",") tokens) [
  | Some later ↦ Some (true, later)
  | None ↦ option_map (λ later. (false, later)) (after kind close tokens)
]

-- an item before the items after it
abbrev pub with_item : {A : Type 0} → A → Part (List A) → Part (List A)
with_item item later = option_map (λ r. (item ∷ r.0, r.1)) later

-- at most so many items with commas between them, up to the closing word or mark
abbrev pub items_from : {A : Type 0} → (List Token → Part A) → TokenKind → List ℕ → ℕ → List Token → Part (List A)
items_from item kind close zero tokens = None
items_from {A = A} item kind close (suc n) tokens = do
  first ← item tokens
  more ← next kind close first.1
  if more.0 then with_item first.0 (items_from {A = A} item kind close n more.1) else Some (first.0 ∷ [], more.1)

-- items with commas between them, up to the closing word or mark
abbrev pub items_at : {A : Type 0} → (List Token → Part A) → TokenKind → List ℕ → List Token → Part (List A)
items_at item kind close tokens = items_from item kind close (length tokens) tokens

-- nothing follows
unfoldable pub ended : List Token → Option (Unit {0})
ended [] = Some tt
ended (token ∷ tokens) = None

-- whether a token stands inside a statement: it neither ends one nor names a query
abbrev pub is_inner : Token → Bool
is_inner token = is_no_note token.kind && not (is_end token)

abbrev pub are_inner : List Token → Bool
are_inner tokens = list_all is_inner tokens

-- whether tokens are those of a single statement: there are some, and each stands inside it
abbrev pub is_single : List Token → Bool
is_single [] = false
is_single (token ∷ tokens) = are_inner (token ∷ tokens)

-- tokens, where they are those of a single statement
abbrev pub single : List Token → Option (List Token)
single tokens = if is_single tokens then Some tokens else None

-- the one statement of a file, which a semicolon ends, without it
unfoldable pub one_statement : List Token → Option (List Token)
one_statement tokens = do
  end ← after Punct (codes ";") (drop (length tokens - 1) tokens)
  single (take (length tokens - 1) tokens)

-- SELECT name {, name} FROM name
unfoldable pub select : List Token → Option Select
select tokens = do
  tokens ← after Word (codes "select") tokens
  outputs ← items_at name_at Word (codes "from") tokens
  table ← name_at outputs.1
  end ← ended table.1
  Some (record { outputs = outputs.0; table = table.0 })
