-- What holds of every row that is picked, and of every common type.
use Rattle.std.specs.Prelude.{◌≡◌, ℕ, Bool, true, ◌&&◌, List, IsSomeAnd, slice_get}
use Rattle.std.specs.List.{AllByRecursion, list_all}
use Rattle.sq_base.specs.declared.types.PgType.{PgType}
use Rattle.sq_builtin.specs.declared.row.Pattern.{Pattern}
use Rattle.sq_builtin.specs.declared.row.Pattern.TheVariants.{Is as Takes}
use Rattle.sq_builtin.specs.declared.row.Shape.{Shape}
use Rattle.sq_builtin.specs.declared.row.Shape.TheVariants.{Is as Gives}
use Rattle.sq_builtin.specs.Entries.{Entry}
use Rattle.sq_builtin.specs.Rows.{rows}
use Rattle.sq_overload.specs.declared.answer.Common.TheVariants.{Agreed}
use Rattle.sq_overload.specs.declared.answer.Picked.TheVariants.{One}
use Rattle.sq_overload.specs.declared.fit.Fit.TheVariants.{Accepting}
use Rattle.sq_overload.specs.CommonType.{common}
use Rattle.sq_overload.specs.Converts.{is_known, converts}
use Rattle.sq_overload.specs.Resolution.{all_fit, pick}

-- a number is that of an entry which accepts the arguments: each of these is unknown, or converts to the input's type in
-- every context, or is what the input's name says
abbrev pub Accepts : List Entry → List PgType → ℕ → Type 0
Accepts entries args number =
    IsSomeAnd (slice_get entries number) (λ entry. all_fit Accepting entry.inputs args ≡ true)

-- an entry that is picked accepts the arguments
abbrev pub PickedAccepts : Type 0
PickedAccepts =
    (entries : List Entry) (args : List PgType) (number : ℕ) → pick entries args ≡ One number → Accepts entries args number

-- a type, if it is known, converts to another in every context
abbrev pub Turns : PgType → PgType → Type 0
Turns to of = is_known of ≡ true → converts of to ≡ true

-- types that agree convert to their common type
abbrev pub AgreedConvert : Type 0
AgreedConvert = (types : List PgType) (to : PgType) → common types ≡ Agreed to → AllByRecursion (Turns to) types

-- whether the type of an input, if it is one, is known and no domain
abbrev pub is_base_input : Pattern → Bool
is_base_input (Takes of) = is_known of
is_base_input _ = true

-- whether the type of a result, if it is one, is known and no domain
abbrev pub is_base_result : Shape → Bool
is_base_result (Gives of) = is_known of
is_base_result _ = true

-- whether every type of an entry is known and no domain
abbrev pub has_base_types : Entry → Bool
has_base_types entry = list_all is_base_input entry.inputs && is_base_result entry.result

-- the entries of a name and a count have such types alone
abbrev pub RowsHaveBaseTypes : Type 0
RowsHaveBaseTypes = (name : List ℕ) (count : ℕ) → list_all has_base_types (rows name count) ≡ true
