-- The file db.go is read again.
use Rattle.std.proofs.Common.{◌≡◌, true, List, [], ◌∷◌, ◌++◌, codes, Ok}
use Rattle.sq_shown.specs.Layout as layout
use Rattle.sq_reader.specs.Parts.{Text}
use Rattle.sq_reader.specs.Items.{spot, database_items}
use Rattle.sq_reader.specs.Reading.{file_items}
use Rattle.sq_reader.specs.Readable.{is_run}
use Rattle.sq_reader.specs.declared.parts.Class.TheVariants.{Word}
use Rattle.sq_reader.specs.declared.items.Item.{Item}
use Rattle.sq_reader.specs.declared.items.Spot.{Spot}
use Rattle.sq_reader.specs.declared.items.Space.TheVariants.{Package, Methods, Files}
use Rattle.sq_reader.proofs.FilesAgain.{file_again, database_imports}
use Rattle.sq_reader.proofs.QueriesAgain.{plain}

-- its items
abbrev pub database_names : Spot → Spot → Spot → Spot → Spot → List Item
database_names s0 s1 s2 s3 s4 = plain s0 Files (codes "db.go") ∷ plain s1 Package (codes "DBTX") ∷ plain s2 Package (codes "New") ∷ plain s3 Package (codes "Queries") ∷ plain s4 Methods (codes "WithTx") ∷ []

fourth : Text
fourth = codes "\n" ++ (layout.with_tx ++ [])

third : Text
third = codes "\n" ++ (layout.queries_struct ++ fourth)

second : Text
second = codes "\n" ++ (layout.new_function ++ third)

first : Text
first = codes "\n" ++ (layout.dbtx ++ second)

pub database_again : (package_name : Text) → is_run Word package_name ≡ true →
    (s0 : Spot) × (s1 : Spot) × (s2 : Spot) × (s3 : Spot) × (s4 : Spot) × (file_items 0 (layout.db_file package_name) ≡ Ok (database_names s0 s1 s2 s3 s4))
unfolding layout.db_file layout.db_declarations database_items first second third fourth
database_again package_name word = (
  spot 0 (layout.db_file package_name).bytes,
  spot 0 first,
  spot 0 second,
  spot 0 third,
  spot 0 fourth,
  file_again 0 (codes "db.go") package_name layout.db_imports layout.db_declarations first word (database_imports (layout.declaration_block layout.db_declarations)),
)
