-- Which picked rows are rows of the built-in table, and what a call of one gives.
use Rattle.std.specs.Prelude.{◌≡◌, Bool, true, false, not, ◌&&◌, ◌||◌, if◌then◌else◌, List, [], ◌∷◌, map, flat_map, length}
use Rattle.std.specs.List.{list_any}
use Rattle.sq_base.specs.declared.types.PgType.{PgType}
use Rattle.sq_base.specs.declared.types.Scalar.{Scalar}
use Rattle.sq_base.specs.declared.types.Scalar.TheVariants.{Domain, Enum, Text, Unknown}
use Rattle.sq_builtin.specs.declared.row.Kind.{Kind as RowKind}
use Rattle.sq_builtin.specs.declared.row.Kind.TheVariants.{Aggregate}
use Rattle.sq_builtin.specs.declared.row.Pattern.{Pattern}
use Rattle.sq_builtin.specs.declared.row.Pattern.TheVariants.{Is as Takes, AnyArray, AnyElement, AnyNonArray, AnyEnum, Any}
use Rattle.sq_builtin.specs.declared.row.Shape.{Shape}
use Rattle.sq_builtin.specs.declared.row.Shape.TheVariants.{Is as Gives, SameArray, SameElement, ArrayOf}
use Rattle.sq_builtin.specs.Entries.{Entry}
use Rattle.sq_builtin.specs.Rows.{rows}
use Rattle.sq_catalog.specs.Contents.{Contents}
use Rattle.sq_core.specs.declared.routine.Routine.{Routine}
use Rattle.sq_core.specs.Answer.{pure}
use Rattle.sq_core.specs.Items.{Run, expecting, item_of}
use Rattle.sq_core.specs.Values.{Value, Null, Tag, Kind, kind, kind_of, fits, tag, same_bool, same_type, is_null, truth_tag, array_tag, element_tag, any_nullable}

abbrev pub is_enum : Scalar → Bool
is_enum (Enum id) = true
is_enum _ = false

-- whether a type is one of the table's: no domain, and known
abbrev pub is_plain : Scalar → Bool
is_plain (Domain id) = false
is_plain Unknown = false
is_plain _ = true

-- whether an input of this pattern admits a type, where the polymorphic inputs of the row have this element
abbrev pub admits : PgType → Pattern → PgType → Bool
admits element (Takes of) given = same_type of given
admits element AnyArray given = not element.array && same_type (array_tag element) given
admits element AnyElement given = same_type element given
admits element AnyNonArray given = not given.array && same_type element given
admits element AnyEnum given = is_enum given.scalar && (not given.array && same_type element given)
admits element Any given = true

-- whether an input of this pattern takes a type
abbrev pub takes : PgType → Pattern → PgType → Bool
takes element pattern given = is_plain given.scalar && admits element pattern given

abbrev pub all_take : PgType → List Pattern → List PgType → Bool
all_take element [] [] = true
all_take element (pattern ∷ patterns) (of ∷ given) = takes element pattern of && all_take element patterns given
all_take element _ _ = false

-- whether the result of this shape is of a type
abbrev pub gives : PgType → Shape → PgType → Bool
gives element (Gives of) result = same_type of result
gives element SameArray result = same_type (array_tag element) result
gives element SameElement result = same_type element result
gives element ArrayOf result = not element.array && same_type (array_tag element) result

abbrev pub is_aggregate : RowKind → Bool
is_aggregate Aggregate = true
is_aggregate _ = false

-- whether a picked row is an entry of the table, where its polymorphic inputs have this element
abbrev pub is_entry_at : Bool → Routine → Entry → PgType → Bool
is_entry_at aggregate routine entry element =
    same_bool aggregate (is_aggregate entry.kind)
    && (same_bool routine.strict entry.strict && (same_bool routine.may_null entry.may_null
    && (all_take element entry.inputs routine.given && gives element entry.result routine.of)))

-- the elements that a row's polymorphic inputs may have: its types and the elements of its arrays
abbrev pub elements : List PgType → List PgType
elements given = record { scalar = Text; array = false } ∷ flat_map (λ of. of ∷ element_tag of ∷ []) given

abbrev pub is_entry : Bool → Routine → Entry → Bool
is_entry aggregate routine entry = list_any (is_entry_at aggregate routine entry) (elements routine.given)

-- whether a picked row is one of the table, of an aggregate or of none
unfoldable pub is_routine : Bool → Routine → Bool
is_routine aggregate routine = list_any (is_entry aggregate routine) (rows routine.name (length routine.given))

-- each argument is null or of the given type's tag
abbrev pub have_tags : List Tag → List Value → Bool
have_tags [] [] = true
have_tags (of ∷ given) (value ∷ values) = fits (kind of true) value && have_tags given values
have_tags _ _ = false

abbrev pub given_tags : Contents → Routine → List Tag
given_tags contents routine = map (tag contents) routine.given

-- the result of a row: null where the row is strict and an argument is null, else the item, null only where the row may
-- give it
abbrev pub computed : Contents → Routine → List Value → Run Value
computed contents routine values =
    if routine.strict && list_any is_null values then pure Null
    else item_of (kind_of contents routine.of routine.may_null)

-- a call: the row is one of the table, and the arguments have its types' tags
abbrev pub called : Contents → Routine → List Value → Run Value
called contents routine values =
    expecting (is_routine false routine
    && have_tags (given_tags contents routine) values) (computed contents routine values)

-- whether a call may be null: where the row may give it, or is strict and some argument may be null
abbrev pub call_mark : Routine → List Kind → Bool
call_mark routine kinds = routine.may_null || (routine.strict && any_nullable kinds)

-- a row of the table over operands of these tags
pub record CallTyped (contents : Contents) (routine : Routine) (operands : List Tag) : Type 0 where
  pub row : is_routine false routine ≡ true
  pub given : operands ≡ given_tags contents routine

-- a comparison: a row with a truth value as its result, null exactly where an operand is
pub record IsComparison (contents : Contents) (routine : Routine) (left right : Tag) : Type 0 where
  pub row : CallTyped contents routine (left ∷ right ∷ [])
  pub strict : routine.strict ≡ true
  pub never_null : routine.may_null ≡ false
  pub result : tag contents routine.of ≡ truth_tag
