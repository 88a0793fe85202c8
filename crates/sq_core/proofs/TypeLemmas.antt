-- Tests of types, and of truth values.
use Rattle.std.proofs.Common.{◌≡◌, Bool, true, false, not, ◌&&◌, ◌||◌, refl, ap}
use Rattle.std.proofs.lemmas.Bool.{eqb-true, eq-eqb}
use Rattle.sq_base.specs.declared.types.PgType.{PgType}
use Rattle.sq_base.specs.declared.types.Scalar.{Scalar}
use Rattle.sq_base.specs.declared.types.Scalar.TheVariants.{SmallInt, Integer, BigInt, Real, DoublePrecision, Numeric, Boolean, Text, Varchar, Character, Bytea, Date, Time, Timestamp, TimestampTz, Interval, Uuid, Json, Jsonb, Opaque, Enum, Domain, Unknown}
use Rattle.sq_base.specs.Casts.{is_same}
use Rattle.sq_core.specs.Values.{same_bool, same_type}

is_same-true : (a b : Scalar) → is_same a b ≡ true → a ≡ b
is_same-true SmallInt SmallInt same = refl
is_same-true Integer Integer same = refl
is_same-true BigInt BigInt same = refl
is_same-true Real Real same = refl
is_same-true DoublePrecision DoublePrecision same = refl
is_same-true Numeric Numeric same = refl
is_same-true Boolean Boolean same = refl
is_same-true Text Text same = refl
is_same-true Varchar Varchar same = refl
is_same-true Character Character same = refl
is_same-true Bytea Bytea same = refl
is_same-true Date Date same = refl
is_same-true Time Time same = refl
is_same-true Timestamp Timestamp same = refl
is_same-true TimestampTz TimestampTz same = refl
is_same-true Interval Interval same = refl
is_same-true Uuid Uuid same = refl
is_same-true Json Json same = refl
is_same-true Jsonb Jsonb same = refl
is_same-true (Opaque place) (Opaque other) same = ap Opaque (eqb-true _ _ same)
is_same-true (Enum id) (Enum other) same = ap Enum (eqb-true _ _ same)
is_same-true (Domain id) (Domain other) same = ap Domain (eqb-true _ _ same)
is_same-true Unknown Unknown same = refl
is_same-true _ _ same = cc

same_bool-true : (a b : Bool) → same_bool a b ≡ true → a ≡ b
same_bool-true true true same = refl
same_bool-true true false same = cc
same_bool-true false true same = cc
same_bool-true false false same = refl

pub and_left : (a b : Bool) → (a && b) ≡ true → a ≡ true
and_left true b both = refl
and_left false b both = both

pub and_right : (a b : Bool) → (a && b) ≡ true → b ≡ true
and_right true b both = both
and_right false b both = cc

-- types that the test takes for one are one
pub same_type-true : (a b : PgType) → same_type a b ≡ true → a ≡ b
same_type-true a b same =
    let scalars : a.scalar ≡ b.scalar = is_same-true a.scalar b.scalar (and_left _ _ same) in
    let arrays : a.array ≡ b.array = same_bool-true a.array b.array (and_right (is_same a.scalar b.scalar) _ same) in
    λ i. record { scalar = scalars i; array = arrays i }

is_same-same : (a : Scalar) → is_same a a ≡ true
is_same-same SmallInt = refl
is_same-same Integer = refl
is_same-same BigInt = refl
is_same-same Real = refl
is_same-same DoublePrecision = refl
is_same-same Numeric = refl
is_same-same Boolean = refl
is_same-same Text = refl
is_same-same Varchar = refl
is_same-same Character = refl
is_same-same Bytea = refl
is_same-same Date = refl
is_same-same Time = refl
is_same-same Timestamp = refl
is_same-same TimestampTz = refl
is_same-same Interval = refl
is_same-same Uuid = refl
is_same-same Json = refl
is_same-same Jsonb = refl
is_same-same (Opaque place) = eq-eqb place place refl
is_same-same (Enum id) = eq-eqb id id refl
is_same-same (Domain id) = eq-eqb id id refl
is_same-same Unknown = refl

same_bool-same : (b : Bool) → same_bool b b ≡ true
same_bool-same true = refl
same_bool-same false = refl

pub both_true : (a b : Bool) → a ≡ true → b ≡ true → (a && b) ≡ true
both_true a b left right = rw (left, right)

-- a type is one with itself
pub same_type-same : (a : PgType) → same_type a a ≡ true
same_type-same a = both_true _ _ (is_same-same a.scalar) (same_bool-same a.array)

pub or_left : (a b : Bool) → a ≡ true → (a || b) ≡ true
or_left a b left = rw left

pub or_right : (a b : Bool) → b ≡ true → (a || b) ≡ true
or_right true b right = refl
or_right false b right = right

-- what is true of one of two is true of the one that is wider
pub or_grows : (a b c d : Bool) → (a ≡ true → b ≡ true) → (c ≡ true → d ≡ true) → (a || c) ≡ true → (b || d) ≡ true
or_grows true b c d left right holds = rw (left refl)
or_grows false true c d left right holds = refl
or_grows false false c d left right holds = right holds

pub or_neither : (a b : Bool) → a ≡ false → (a || b) ≡ true → b ≡ true
or_neither true b not_left either = cc
or_neither false b not_left either = either

pub or_none : (a b : Bool) → (a || b) ≡ false → (a ≡ false) × (b ≡ false)
or_none true b none = cc
or_none false b none = (refl, none)

pub not_false : (b : Bool) → not b ≡ true → b ≡ false
not_false true is = cc
not_false false is = refl
