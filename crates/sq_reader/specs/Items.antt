-- The items of a file: what each declares, and whether what it uses stands in its file.
use Rattle.std.specs.Prelude.{ℕ, zero, suc, ◌==◌, ◌||◌, ◌&&◌, not, nat_eq, Bool, true, false, List, [], ◌∷◌, ◌++◌, codes, length, if◌then◌else◌, Option, Some, None, Result, Ok, Err}
use Rattle.std.specs.List.{list_any, list_all, starts_with, ends_with}
use Rattle.std.specs.Option.{option_map_or}
use Rattle.std.specs.Char.{is_ascii_uppercase}
use Rattle.sq_shown.specs.declared.signature.ShownField.{ShownField}
use Rattle.sq_reader.specs.Parts.{Text, same, behind, before, run, after_run}
use Rattle.sq_reader.specs.Forms.{struct_at, row_at, constant_at, method_at}
use Rattle.sq_reader.specs.declared.parts.Class.TheVariants.{Word, Newline, Bracket}
use Rattle.sq_reader.specs.declared.forms.Struct.{Struct}
use Rattle.sq_reader.specs.declared.forms.Constant.{Constant}
use Rattle.sq_reader.specs.declared.forms.Method.{Method}
use Rattle.sq_reader.specs.declared.forms.Targets.{Targets}
use Rattle.sq_reader.specs.declared.forms.Targets.TheVariants.{Whole, Fields}
use Rattle.sq_reader.specs.declared.items.Spot.{Spot}
use Rattle.sq_reader.specs.declared.items.Source.{Source}
use Rattle.sq_reader.specs.declared.items.Item.{Item}
use Rattle.sq_reader.specs.declared.items.Space.TheVariants.{Package, Methods}
use Rattle.sq_reader.specs.declared.items.Meaning.TheVariants.{Plain, Model, Query}
use Rattle.sq_reader.specs.declared.items.Space.{Space}
use Rattle.sq_reader.specs.declared.items.Group.{Group}
use Rattle.sq_reader.specs.declared.items.Group.TheVariants.{Models, Calls}
use Rattle.sq_reader.specs.declared.items.Fixed.{Fixed}
use Rattle.sq_reader.specs.declared.items.Fixed.TheVariants.{Interface, New, Queries, WithTx}

-- what is read, and the rest behind it, or the first spot at which nothing that may stand there stands
abbrev pub Read : Type 0 → Type 0
Read A = Result (A × Text) Spot

-- what is read, and then what is read with it
infixl 10 ◌>>=◌
abbrev pub ◌>>=◌ : {A B : Type 0} → Result A Spot → (A → Result B Spot) → Result B Spot
(Err spot) >>= f = Err spot
(Ok x) >>= f = f x

-- what stands there, or else the spot
abbrev pub stands : {A : Type 0} → Option A → Spot → Result A Spot
stands None spot = Err spot
stands (Some x) spot = Ok x

abbrev pub is_empty : Text → Bool
is_empty text = length text == 0

-- an item's spot is that of its first line that is not empty, or the end
abbrev pub spot : ℕ → Text → Spot
spot file text = record { file = file; left = length (after_run Newline text) }

-- USES

-- whether this is a path's last part
abbrev pub is_last_part : Text → Text → Bool
is_last_part part path = option_map_or (λ front. is_empty front || ends_with nat_eq front (codes "/")) (before part path) false

-- a package is imported by a path whose last part it is
abbrev pub is_imported : List Text → Text → Bool
is_imported imports package_name = list_any (λ path. is_last_part package_name path) imports

-- the package before the dot of a type, where it has one
abbrev pub package_of : Text → Option Text
package_of of = if starts_with nat_eq (after_run Word (after_run Bracket of)) (codes ".") then Some (run Word (after_run Bracket of)) else None

abbrev pub begins_upper : Text → Bool
begins_upper [] = false
begins_upper (b ∷ bs) = is_ascii_uppercase b

-- a type of a package has its import; one that begins with an upper-case letter is an enumeration of the files, and none is written yet
abbrev pub base_stands : List Text → Text → Option Text → Bool
base_stands imports base None = not (begins_upper base)
base_stands imports base (Some package_name) = is_imported imports package_name

abbrev pub type_stands : List Text → Text → Bool
type_stands imports of = base_stands imports (after_run Bracket of) (package_of of)

abbrev pub fields_stand : List Text → List ShownField → Bool
fields_stand imports fields = list_all (λ field. type_stands imports field.of) fields

-- the type of a whole row is a type; that of a struct is looked up later
abbrev pub result_stands : List Text → Targets → Text → Bool
result_stands imports Whole result = type_stands imports result
result_stands imports (Fields names) result = true

-- THE ITEMS OF MODELS AND QUERIES

-- a model's struct is declared in the package
abbrev pub model_item : Source → Text → Struct → Item
model_item source text found = record { spot = spot source.file text; space = Package; name = found.name; declared = fields_stand source.imports found.fields; meaning = Model found.fields }

-- a query's constant is declared in the package
abbrev pub constant_item : Source → Text → Constant → Item
constant_item source text constant = record { spot = spot source.file text; space = Package; name = constant.name; declared = true; meaning = Plain }

-- the struct of a query's rows is declared in the package, where it stands
abbrev pub row_items : Source → Text → Option Struct → List Item
row_items source text None = []
row_items source text (Some row) = record { spot = spot source.file text; space = Package; name = row.name; declared = fields_stand source.imports row.fields; meaning = Plain } ∷ []

-- a method uses context, the constant before it, and its result's type
abbrev pub method_stands : Source → Constant → Method → Bool
method_stands source constant method = is_imported source.imports (codes "context") && same method.constant constant.name && result_stands source.imports method.targets method.result

-- a query's method is declared among the methods
abbrev pub method_item : Source → Text → Constant → Option Struct → Method → Item
method_item source text constant row method = record {
  spot = spot source.file text;
  space = Methods;
  name = constant.query;
  declared = method_stands source constant method;
  meaning = Query (record { command = constant.command; text = constant.text; row = row; result = method.result; targets = method.targets });
}

-- a model
abbrev pub model_group : Source → Text → Read (List Item)
model_group source text = do
  found ← stands (struct_at text) (spot source.file text)
  Ok (model_item source text found.0 ∷ [], found.1)

-- the items of a query, of which the second was read here and the last there
abbrev pub query_items : Source → Text → Text → Text → Constant → Option Struct → Method → List Item
query_items source text here there constant row method = constant_item source text constant ∷ row_items source here row ++ method_item source there constant row method ∷ []

-- a query: its constant, the struct of its rows where it has one, and its method
unfoldable pub query_group : Source → Text → Read (List Item)
query_group source text = do
  constant ← stands (constant_at text) (spot source.file text)
  row ← Ok (row_at constant.0.query constant.1)
  method ← stands (method_at constant.0.query row.1) (spot source.file row.1)
  Ok (query_items source text constant.1 row.1 constant.0 row.0 method.0, method.1)

abbrev pub group_at : Group → Source → Text → Read (List Item)
group_at Models source text = model_group source text
group_at Calls source text = query_group source text

abbrev pub with_items : List Item → Result (List Item) Spot → Result (List Item) Spot
with_items items (Ok more) = Ok (items ++ more)
with_items items (Err spot) = Err spot

-- a group, and those behind it where it is not the last
abbrev pub further : (Text → Result (List Item) Spot) → List Item × Text → Result (List Item) Spot
further more group = if is_empty group.1 then Ok group.0 else with_items group.0 (more group.1)

-- by at most so many groups
abbrev pub groups_from : Group → Source → ℕ → Text → Result (List Item) Spot
groups_from group source zero text = Err (spot source.file text)
groups_from group source (suc n) text = group_at group source text >>= further (groups_from group source n)

-- the items of models or queries up to the end, each with an empty line before it; without any there is one empty line
abbrev pub groups : Group → Source → Text → Result (List Item) Spot
groups group source text = if same text (codes "\n") then Ok [] else groups_from group source (length text) text

-- THE ITEMS OF DB.GO

abbrev pub fixed_text : Fixed → Text
fixed_text Interface = codes "\ntype DBTX interface {\n\tExecContext(context.Context, string, ...interface{}) (sql.Result, error)\n\tPrepareContext(context.Context, string) (*sql.Stmt, error)\n\tQueryContext(context.Context, string, ...interface{}) (*sql.Rows, error)\n\tQueryRowContext(context.Context, string, ...interface{}) *sql.Row\n}\n"
fixed_text New = codes "\nfunc New(db DBTX) *Queries {\n\treturn &Queries{db: db}\n}\n"
fixed_text Queries = codes "\ntype Queries struct {\n\tdb DBTX\n}\n"
fixed_text WithTx = codes "\nfunc (q *Queries) WithTx(tx *sql.Tx) *Queries {\n\treturn &Queries{db: tx}\n}\n"

-- WithTx is a method, and the others are declared in the package
abbrev pub fixed_space : Fixed → Space
fixed_space WithTx = Methods
fixed_space _ = Package

abbrev pub fixed_name : Fixed → Text
fixed_name Interface = codes "DBTX"
fixed_name New = codes "New"
fixed_name Queries = codes "Queries"
fixed_name WithTx = codes "WithTx"

-- the packages that each uses
abbrev pub fixed_stands : List Text → Fixed → Bool
fixed_stands imports Interface = is_imported imports (codes "context") && is_imported imports (codes "sql")
fixed_stands imports New = true
fixed_stands imports Queries = true
fixed_stands imports WithTx = is_imported imports (codes "sql")

abbrev pub fixed_item : Source → Text → Fixed → Item
fixed_item source text fixed = record { spot = spot source.file text; space = fixed_space fixed; name = fixed_name fixed; declared = fixed_stands source.imports fixed; meaning = Plain }

abbrev pub fixed_at : Fixed → Source → Text → Read Item
fixed_at fixed source text = do
  rest ← stands (behind (fixed_text fixed) text) (spot source.file text)
  Ok (fixed_item source text fixed, rest)

-- nothing stands behind these items
abbrev pub ended : List Item → Source → Text → Result (List Item) Spot
ended items source text = if is_empty text then Ok items else Err (spot source.file text)

-- the four declarations of db.go, and no more
unfoldable pub database_items : Source → Text → Result (List Item) Spot
database_items source text = do
  interface ← fixed_at Interface source text
  new ← fixed_at New source interface.1
  queries ← fixed_at Queries source new.1
  with_tx ← fixed_at WithTx source queries.1
  ended (interface.0 ∷ new.0 ∷ queries.0 ∷ with_tx.0 ∷ []) source with_tx.1
