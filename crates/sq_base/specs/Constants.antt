-- The types of number constants (PostgreSQL manual, section 4.1.2.6).
use Rattle.std.specs.Prelude.{ℕ, Bool, false, ◌&&◌, ◌+◌, ◌-◌, ◌*◌, if◌then◌else◌, List, nat_le, fold}
use Rattle.std.specs.List.{list_all}
use Rattle.sq_base.specs.declared.types.PgType.{PgType}
use Rattle.sq_base.specs.declared.types.Scalar.{Scalar}
use Rattle.sq_base.specs.declared.types.Scalar.TheVariants.{Integer, BigInt, Numeric}

-- whether a byte is a digit, from 0 to 9
abbrev pub is_digit : ℕ → Bool
is_digit byte = nat_le 48 byte && nat_le byte 57

-- the number that digits say
abbrev pub value : List ℕ → ℕ
value digits = fold (λ before digit. before * 10 + (digit - 48)) 0 digits

-- the type of a whole number: integer, else bigint, else numeric
abbrev pub type_of_value : ℕ → Scalar
type_of_value number =
    if nat_le number 2147483647 then Integer
    else if nat_le number 9223372036854775807 then BigInt
    else Numeric

-- the type of a number constant: with a point or an exponent it is numeric
abbrev pub constant_scalar : List ℕ → Scalar
constant_scalar text = if list_all is_digit text then type_of_value (value text) else Numeric

abbrev pub constant_type : List ℕ → PgType
constant_type text = record { scalar = constant_scalar text; array = false }
