-- Types that a test takes for one are one, and a type converts to itself.
use Rattle.std.proofs.Common.{◌≡◌, Bool, true, false, not, ◌&&◌, if◌then◌else◌, refl, ap}
use Rattle.std.proofs.lemmas.Bool.{eqb-true, eq-eqb}
use Rattle.sq_base.specs.declared.types.PgType.{PgType}
use Rattle.sq_base.specs.declared.types.Scalar.{Scalar}
use Rattle.sq_base.specs.declared.types.Scalar.TheVariants.{SmallInt, Integer, BigInt, Real, DoublePrecision, Numeric, Boolean, Text, Varchar, Character, Bytea, Date, Time, Timestamp, TimestampTz, Interval, Uuid, Json, Jsonb, Opaque, Enum, Domain, Unknown}
use Rattle.sq_base.specs.declared.conversion.Cast.TheVariants.{Same}
use Rattle.sq_base.specs.Casts.{cast, is_same, scalar_cast}
use Rattle.sq_overload.specs.Converts.{converts, is_known, is_one_type, is_same_answer}

pub and_left : (a b : Bool) → (a && b) ≡ true → a ≡ true
and_left true b both = refl
and_left false b both = both

pub and_right : (a b : Bool) → (a && b) ≡ true → b ≡ true
and_right true b both = both
and_right false b both = cc

is_same-true : (a b : Scalar) → is_same a b ≡ true → a ≡ b
is_same-true SmallInt SmallInt same = refl
is_same-true Integer Integer same = refl
is_same-true BigInt BigInt same = refl
is_same-true Real Real same = refl
is_same-true DoublePrecision DoublePrecision same = refl
is_same-true Numeric Numeric same = refl
is_same-true Boolean Boolean same = refl
is_same-true Text Text same = refl
is_same-true Varchar Varchar same = refl
is_same-true Character Character same = refl
is_same-true Bytea Bytea same = refl
is_same-true Date Date same = refl
is_same-true Time Time same = refl
is_same-true Timestamp Timestamp same = refl
is_same-true TimestampTz TimestampTz same = refl
is_same-true Interval Interval same = refl
is_same-true Uuid Uuid same = refl
is_same-true Json Json same = refl
is_same-true Jsonb Jsonb same = refl
is_same-true (Opaque place) (Opaque other) same = ap Opaque (eqb-true _ _ same)
is_same-true (Enum id) (Enum other) same = ap Enum (eqb-true _ _ same)
is_same-true (Domain id) (Domain other) same = ap Domain (eqb-true _ _ same)
is_same-true Unknown Unknown same = refl
is_same-true _ _ same = cc

is_same_answer-true : (a b : Bool) → is_same_answer a b ≡ true → a ≡ b
is_same_answer-true true true same = refl
is_same_answer-true true false same = cc
is_same_answer-true false true same = cc
is_same_answer-true false false same = refl

pub is_one_type-true : (a b : PgType) → is_one_type a b ≡ true → a ≡ b
is_one_type-true a b same =
    let scalars : a.scalar ≡ b.scalar = is_same-true a.scalar b.scalar (and_left _ _ same) in
    let arrays : a.array ≡ b.array = is_same_answer-true a.array b.array (and_right (is_same a.scalar b.scalar) _ same) in
    λ i. record { scalar = scalars i; array = arrays i }

is_same-same : (a : Scalar) → is_same a a ≡ true
is_same-same SmallInt = refl
is_same-same Integer = refl
is_same-same BigInt = refl
is_same-same Real = refl
is_same-same DoublePrecision = refl
is_same-same Numeric = refl
is_same-same Boolean = refl
is_same-same Text = refl
is_same-same Varchar = refl
is_same-same Character = refl
is_same-same Bytea = refl
is_same-same Date = refl
is_same-same Time = refl
is_same-same Timestamp = refl
is_same-same TimestampTz = refl
is_same-same Interval = refl
is_same-same Uuid = refl
is_same-same Json = refl
is_same-same Jsonb = refl
is_same-same (Opaque place) = eq-eqb _ _ refl
is_same-same (Enum id) = eq-eqb _ _ refl
is_same-same (Domain id) = eq-eqb _ _ refl
is_same-same Unknown = refl

scalar_cast-same : (of : Scalar) → scalar_cast of of ≡ Same
scalar_cast-same of = rw (is_same-same of) refl

cast_at : (of : Scalar) (array : Bool) → cast (record { scalar = of; array = array }) (record { scalar = of; array = array }) ≡ Same
cast_at of true = scalar_cast-same of
cast_at of false = scalar_cast-same of

-- a known type converts to itself
pub converts-same : (of : PgType) → is_known of ≡ true → converts of of ≡ true
converts-same of known = rw (known, cast_at of.scalar of.array) refl
