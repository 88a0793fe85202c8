-- What a catalogue holds.
use Rattle.std.specs.Prelude.{ℕ, List}
use Rattle.sq_catalog.specs.declared.table.Table.{Table}
use Rattle.sq_catalog.specs.declared.table.EnumType.{EnumType}
use Rattle.sq_catalog.specs.declared.table.DomainType.{DomainType}

-- the names of the schemas, and the tables, enumerations and domains, each in the order in which
-- they were made
pub record Contents : Type 0 where
  pub schemas : List (List ℕ)
  pub tables : List Table
  pub enums : List EnumType
  pub domains : List DomainType
  -- how many ids have been given to tables, enumerations and domains: the next id
  pub given : ℕ
