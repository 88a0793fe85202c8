-- The common type of a list (PostgreSQL manual, section 10.5).
use Rattle.std.specs.Prelude.{Bool, true, false, not, ◌&&◌, if◌then◌else◌, List, [], ◌∷◌, Option, Some, None, find}
use Rattle.std.specs.List.{list_all}
use Rattle.sq_base.specs.declared.types.PgType.{PgType}
use Rattle.sq_base.specs.declared.types.Scalar.{Scalar}
use Rattle.sq_base.specs.declared.types.Scalar.TheVariants.{Text, Unknown}
use Rattle.sq_base.specs.Types.{category, preferred}
use Rattle.sq_overload.specs.declared.answer.Common.{Common}
use Rattle.sq_overload.specs.declared.answer.Common.TheVariants.{Agreed, Differ}
use Rattle.sq_overload.specs.Converts.{is_known, is_one_type, is_one_category, converts}

-- the candidate after one more known type: it is replaced by a type to which it converts and which
-- does not convert to it, until a preferred type stands
abbrev pub next_candidate : PgType → PgType → PgType
next_candidate candidate of =
    if not (preferred candidate) && converts candidate of && not (converts of candidate) then of
    else candidate

-- whether a known type does not convert to the candidate
abbrev pub differs : PgType → PgType → Bool
differs candidate of = is_known of && not (converts of candidate)

-- the candidate, unless a type differs from it
abbrev pub agreed_unless : PgType → Option PgType → Common
agreed_unless candidate None = Agreed candidate
agreed_unless candidate (Some of) = Differ candidate of

-- the candidate, where every known type converts to it, and else with the first that does not
abbrev pub agreed : PgType → List PgType → Common
agreed candidate types = agreed_unless candidate (find (differs candidate) types)

-- the candidate so far and what is left of the types: it stops at the first known type of another
-- category than the first known type
abbrev pub settled : PgType → List PgType → PgType → List PgType → Common
settled first types candidate [] = agreed candidate types
settled first types candidate (of ∷ left) =
    if not (is_known of) then settled first types candidate left
    else if is_one_category (category of) (category first) then settled first types (next_candidate candidate of) left
    else Differ candidate of

-- the type of a list of which nothing is known
abbrev pub text : PgType
text = record { scalar = Text; array = false }

-- whether a type is that of what has no type yet
abbrev pub is_unknown : Scalar → Bool
is_unknown Unknown = true
is_unknown _ = false

-- the type of all of these, a domain too, where they have one
abbrev pub one_type : List PgType → Option PgType
one_type [] = None
one_type (first ∷ types) =
    if not (is_unknown first.scalar) && list_all (is_one_type first) types then Some first else None

-- the common type of a list of several types, with its first known type
abbrev pub common_of_several : List PgType → Option PgType → Common
common_of_several types None = Agreed text
common_of_several types (Some first) = settled first types first types

-- the common type, unless all have one type
abbrev pub common_unless : List PgType → Option PgType → Common
common_unless types (Some of) = Agreed of
common_unless types None = common_of_several types (find is_known types)

-- the common type of a list, or the candidate and the first type that does not agree with it
abbrev pub common : List PgType → Common
common types = common_unless types (one_type types)
