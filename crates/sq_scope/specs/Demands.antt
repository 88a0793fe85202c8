-- The types of parameters: each occurrence is given a type where it stands, and the statement's parameters are
-- settled at the end (sqlc documentation, Naming parameters).
use Rattle.std.specs.Prelude.{ℕ, ◌+◌, zero, suc, max, ◌==◌, ◌&&◌, ◌||◌, not, Bool, true, false, nat_lt, if◌then◌else◌, List, [], ◌∷◌, ◌++◌, Option, Some, None, Result, Ok, Err, codes, decimal, filter, fold}
use Rattle.std.specs.List.{list_all, list_any}
use Rattle.sq_base.specs.declared.code.Code.TheVariants.{Conflict, Undetermined}
use Rattle.sq_base.specs.declared.place.Place.{Place}
use Rattle.sq_base.specs.declared.refusal.Refusal.{Refusal}
use Rattle.sq_base.specs.declared.types.PgType.{PgType}
use Rattle.sq_base.specs.declared.types.Scalar.TheVariants.{Text}
use Rattle.sq_base.specs.Refusals.{refused_naming}
use Rattle.sq_catalog.specs.Contents.{Contents}
use Rattle.sq_catalog.specs.UserTypes.{base}
use Rattle.sq_shown.specs.declared.signature.Param.{Param}
use Rattle.sq_core.specs.declared.weak.Weak.{Weak}
use Rattle.sq_core.specs.Forms.{weak_holds}
use Rattle.sq_core.specs.Values.{is_unknown, same_type}
use Rattle.sq_scope.specs.declared.demands.Demand.{Demand}
use Rattle.sq_scope.specs.Answers.{◌>>=◌, refused_keeping}
use Rattle.sq_catalog.specs.TypeWords.{type_word}

-- The order of the text.

abbrev pub is_before : Place → Place → Bool
is_before one other =
    if one.line == other.line then nat_lt one.column other.column else nat_lt one.line other.line

-- an occurrence in front of the first that stands behind it in the text, so behind those of its own place
abbrev pub inserted : Demand → List Demand → List Demand
inserted demand [] = demand ∷ []
inserted demand (other ∷ others) =
    if is_before demand.place other.place then demand ∷ other ∷ others else other ∷ inserted demand others

-- occurrences in order of their places, those of one place in the order in which they were noted
unfoldable pub in_order : List Demand → List Demand
in_order demands = fold (λ sorted demand. inserted demand sorted) [] demands

-- The type of one parameter.

abbrev pub is_one_of : ℕ → Demand → Bool
is_one_of number demand = demand.number == number

-- the occurrences of a parameter
abbrev pub of_number : ℕ → List Demand → List Demand
of_number number demands = filter (is_one_of number) demands

abbrev pub is_given : PgType → Bool
is_given of = not (is_unknown of)

-- the type that is given, after one more occurrence: one that is given none changes nothing, and a second type is
-- refused at its place
abbrev pub joined : Contents → Option PgType → PgType → Place → Result (Option PgType) Refusal
joined c None of place = if is_given of then Ok (Some of) else Ok None
joined c (Some given) of place =
    if not (is_given of) || same_type given of then Ok (Some given)
    else Err (refused_keeping Conflict place (type_word c given) (type_word c of))

-- the type that occurrences give; a domain gives its base type
abbrev pub type_given : Contents → Option PgType → List Demand → Result (Option PgType) Refusal
type_given c given [] = Ok given
type_given c given (demand ∷ demands) =
    joined c given (base c demand.of) demand.place >>= (λ of. type_given c of demands)

abbrev pub text : PgType
text = record { scalar = Text; array = false }

-- a parameter that nothing gives a type is text
abbrev pub or_text : Option PgType → PgType
or_text None = text
or_text (Some of) = of

-- What is said of one parameter.

-- where an occurrence may be null by its own words, where the type is weak, and where all places may be null
abbrev pub is_nullable : Weak → PgType → List Demand → Bool
is_nullable weak of demands =
    list_any (λ demand. demand.narg) demands || weak_holds weak of || list_all (λ demand. demand.nullable_place) demands

-- a name that is said, and else the next
abbrev pub or_name : Option (List ℕ) → Option (List ℕ) → Option (List ℕ)
or_name None next = next
or_name (Some name) next = Some name

-- the first name that is said
abbrev pub first_name : List Demand → Option (List ℕ)
first_name [] = None
first_name (demand ∷ demands) = or_name demand.name (first_name demands)

-- the name of a parameter that nothing names
abbrev pub or_numbered : ℕ → Option (List ℕ) → List ℕ
or_numbered number None = codes "dollar_" ++ decimal number
or_numbered number (Some name) = name

-- a parameter of a type, by its occurrences
abbrev pub param : Weak → ℕ → List Demand → PgType → Param
param weak number demands of = record {
  number = number;
  name = or_numbered number (first_name demands);
  of = of;
  nullable = is_nullable weak of demands;
}

-- a number without an occurrence is refused at the statement's first token
abbrev pub settled_one : Contents → Weak → Place → ℕ → List Demand → Result Param Refusal
settled_one c weak first number [] = Err (refused_naming Undetermined first (codes "$" ++ decimal number))
settled_one c weak first number (demand ∷ demands) =
    type_given c None (demand ∷ demands) >>= (λ of. Ok (param weak number (demand ∷ demands) (or_text of)))

-- All parameters.

-- the greatest number
abbrev pub most : List Demand → ℕ
most demands = fold (λ most demand. max most demand.number) 0 demands

-- the occurrences of so many parameters from this number on
abbrev pub groups_from : ℕ → ℕ → List Demand → List (List Demand)
groups_from number zero demands = []
groups_from number (suc more) demands = of_number number demands ∷ groups_from (number + 1) more demands

-- the occurrences of each parameter, from the first to that of the greatest number
abbrev pub groups : List Demand → List (List Demand)
groups demands = groups_from 1 (most demands) demands

-- parameters from their occurrences, from this number on
abbrev pub settled_from : Contents → Weak → Place → ℕ → List (List Demand) → Result (List Param) Refusal
settled_from c weak first number [] = Ok []
settled_from c weak first number (group ∷ groups) =
    settled_one c weak first number group
    >>= (λ param. settled_from c weak first (number + 1) groups >>= (λ params. Ok (param ∷ params)))

-- the parameters of a statement whose first token has this place
unfoldable pub settled : Contents → Weak → Place → List Demand → Result (List Param) Refusal
settled c weak first demands = settled_from c weak first 1 (groups (in_order demands))
