-- The casts between types (PostgreSQL manual, chapter 10 and the page of CREATE CAST).
use Rattle.std.specs.Prelude.{Bool, true, false, ◌&&◌, ◌||◌, ◌==◌, if◌then◌else◌, List, [], ◌∷◌}
use Rattle.std.specs.List.{list_any}
use Rattle.sq_base.specs.declared.types.PgType.{PgType}
use Rattle.sq_base.specs.declared.types.Scalar.{Scalar}
use Rattle.sq_base.specs.declared.types.Scalar.TheVariants.{SmallInt, Integer, BigInt, Real, DoublePrecision, Numeric, Boolean, Text, Varchar, Character, Bytea, Date, Time, Timestamp, TimestampTz, Interval, Uuid, Json, Jsonb, Opaque, Enum, Domain, Unknown}
use Rattle.sq_base.specs.declared.conversion.Cast.{Cast}
use Rattle.sq_base.specs.declared.conversion.Cast.TheVariants.{Same, Implicit, Assignment, Explicit, Nothing}
use Rattle.sq_base.specs.Types.{inet, cidr, citext, money}

-- whether two scalar types are one
abbrev pub is_same : Scalar → Scalar → Bool
is_same SmallInt SmallInt = true
is_same Integer Integer = true
is_same BigInt BigInt = true
is_same Real Real = true
is_same DoublePrecision DoublePrecision = true
is_same Numeric Numeric = true
is_same Boolean Boolean = true
is_same Text Text = true
is_same Varchar Varchar = true
is_same Character Character = true
is_same Bytea Bytea = true
is_same Date Date = true
is_same Time Time = true
is_same Timestamp Timestamp = true
is_same TimestampTz TimestampTz = true
is_same Interval Interval = true
is_same Uuid Uuid = true
is_same Json Json = true
is_same Jsonb Jsonb = true
is_same (Opaque place) (Opaque other) = place == other
is_same (Enum id) (Enum other) = id == other
is_same (Domain id) (Domain other) = id == other
is_same Unknown Unknown = true
is_same _ _ = false

-- whether a scalar type is one of these
abbrev pub is_one_of : Scalar → List Scalar → Bool
is_one_of of types = list_any (is_same of) types

-- the implicit casts: what each scalar type converts to in every context
abbrev pub implicit : Scalar → List Scalar
implicit SmallInt = Integer ∷ BigInt ∷ Real ∷ DoublePrecision ∷ Numeric ∷ []
implicit Integer = BigInt ∷ Real ∷ DoublePrecision ∷ Numeric ∷ []
implicit BigInt = Real ∷ DoublePrecision ∷ Numeric ∷ []
implicit Numeric = Real ∷ DoublePrecision ∷ []
implicit Real = DoublePrecision ∷ []
implicit Text = Varchar ∷ Character ∷ []
implicit Varchar = Text ∷ Character ∷ []
implicit Character = Text ∷ Varchar ∷ []
implicit Date = Timestamp ∷ TimestampTz ∷ []
implicit Timestamp = TimestampTz ∷ []
implicit Time = Interval ∷ []
-- cidr to inet; citext to text and varchar
implicit (Opaque place) =
    if place == cidr then Opaque inet ∷ []
    else if place == citext then Text ∷ Varchar ∷ []
    else []
implicit _ = []

-- the assignment casts that are not to a string: what each scalar type converts to where it is
-- assigned to a column
abbrev pub assignment : Scalar → List Scalar
assignment BigInt = Integer ∷ SmallInt ∷ Opaque money ∷ []
assignment Integer = SmallInt ∷ Opaque money ∷ []
assignment Real = SmallInt ∷ Integer ∷ BigInt ∷ Numeric ∷ []
assignment DoublePrecision = SmallInt ∷ Integer ∷ BigInt ∷ Numeric ∷ Real ∷ []
assignment Numeric = SmallInt ∷ Integer ∷ BigInt ∷ Opaque money ∷ []
assignment Timestamp = Date ∷ Time ∷ []
assignment TimestampTz = Date ∷ Time ∷ Timestamp ∷ []
assignment Interval = Time ∷ []
assignment Json = Jsonb ∷ []
assignment Jsonb = Json ∷ []
-- inet to cidr; money to numeric
assignment (Opaque place) =
    if place == inet then Opaque cidr ∷ []
    else if place == money then Numeric ∷ []
    else []
assignment _ = []

-- the string types, to which every type converts by assignment, and which convert to every type
-- by an explicit cast, where there is no stronger cast
abbrev pub strings : List Scalar
strings = Text ∷ Varchar ∷ Character ∷ Opaque citext ∷ []

-- the explicit casts that are not from a string
abbrev pub explicit : Scalar → List Scalar
explicit Integer = Boolean ∷ []
explicit Boolean = Integer ∷ []
explicit Jsonb = Boolean ∷ SmallInt ∷ Integer ∷ BigInt ∷ Real ∷ DoublePrecision ∷ Numeric ∷ []
explicit _ = []

-- how a scalar type converts to another: by the strongest cast that there is
abbrev pub scalar_cast : Scalar → Scalar → Cast
scalar_cast from to =
    if is_same from to then Same
    else if is_one_of to (implicit from) then Implicit
    else if is_one_of to (assignment from) || is_one_of to strings then Assignment
    else if is_one_of to (explicit from) || is_one_of from strings then Explicit
    else Nothing

-- how a type converts to another: an array to an array as its element does, an array to the
-- strings by assignment, the strings to an array by an explicit cast
abbrev pub cast : PgType → PgType → Cast
cast from to =
    if from.array && to.array then scalar_cast from.scalar to.scalar
    else if from.array then (if is_one_of to.scalar strings then Assignment else Nothing)
    else if to.array then (if is_one_of from.scalar strings then Explicit else Nothing)
    else scalar_cast from.scalar to.scalar
