-- Worked rows of the grammar of changes of data.
use Rattle.std.proofs.Common.{◌≡◌, ℕ, true, false, List, [], ◌∷◌, Option, Some, None, refl}
use Rattle.std.specs.Prelude.{codes}
use Rattle.sq_base.specs.declared.place.Place.{Place}
use Rattle.sq_syntax.specs.declared.symbol.Symbol.TheVariants as s
use Rattle.sq_syntax.specs.declared.symbol.Reading.TheVariants as reading
use Rattle.sq_syntax.specs.declared.name.Identifier.{Identifier}
use Rattle.sq_syntax.specs.declared.name.QualifiedName.{QualifiedName}
use Rattle.sq_syntax.specs.declared.query.Output.TheVariants as output
use Rattle.sq_syntax.specs.declared.statement.Conflict.TheVariants as conflict_kind
use Rattle.sq_syntax.specs.declared.statement.ConflictTarget.TheVariants as target
use Rattle.sq_syntax.specs.declared.statement.Given.{Given}
use Rattle.sq_syntax.specs.declared.statement.Given.TheVariants as given_kind
use Rattle.sq_syntax.specs.declared.statement.InsertSource.TheVariants as source_kind
use Rattle.sq_syntax.specs.declared.statement.Statement.{Statement}
use Rattle.sq_syntax.specs.declared.statement.Statement.TheVariants as statement
use Rattle.sq_syntax.specs.declared.statement.TableAlias.{TableAlias}
use Rattle.sq_syntax.specs.Symbols.{word_reading}
use Rattle.sq_syntax.specs.Statements.{spelled_statement, well_levelled_statement, statement_height}

abbrev here : Place
here = record { file = 0; line = 0; column = 0 }

abbrev name_of : List ℕ → Identifier
name_of word = record { name = word; is_quoted = false; place = here }

abbrev t : QualifiedName
t = record { schema = None; name = name_of (codes "t") }

abbrev by_default : Given
by_default = given_kind.Default here

-- INSERT INTO t (a) VALUES ( .. ) ON CONFLICT (a) DO NOTHING RETURNING *
abbrev inserted : List Given → Statement
inserted values = statement.Insert (record {
  place = here;
  first = 0;
  last = 0;
  with = [];
  table = t;
  alias = None;
  columns = name_of (codes "a") ∷ [];
  source = source_kind.Values (record { place = here; values = values } ∷ []);
  conflict = Some (conflict_kind.Nothing here (Some (target.Columns (name_of (codes "a") ∷ []) None)));
  returning = record { place = here; first = 0; last = 0; form = output.Star } ∷ [];
})

insert_is_spelled : spelled_statement (inserted (by_default ∷ by_default ∷ []))
    ≡ reading.Word (codes "insert") ∷ reading.Word (codes "into") ∷ reading.Word (codes "t") ∷ reading.Symbol s.Open ∷ reading.Word (codes "a") ∷ reading.Symbol s.Close ∷ reading.Word (codes "values") ∷ reading.Symbol s.Open ∷
    reading.Word (codes "default") ∷ reading.Symbol s.Comma ∷ reading.Word (codes "default") ∷ reading.Symbol s.Close ∷ reading.Symbol s.On ∷ reading.Word (codes "conflict") ∷ reading.Symbol s.Open ∷ reading.Word (codes "a") ∷
    reading.Symbol s.Close ∷ reading.Word (codes "do") ∷ reading.Word (codes "nothing") ∷ reading.Word (codes "returning") ∷ reading.Symbol s.Times ∷ []
unfolding word_reading
insert_is_spelled = refl

insert_is_well_levelled : well_levelled_statement (inserted (by_default ∷ [])) ≡ true
unfolding word_reading
insert_is_well_levelled = refl

empty_row_is_refused : well_levelled_statement (inserted []) ≡ false
unfolding word_reading
empty_row_is_refused = refl

insert_has_no_height : statement_height (inserted (by_default ∷ [])) ≡ 0
insert_has_no_height = refl

-- DELETE FROM t set
deleted : Statement
deleted = statement.Delete (record { place = here; first = 0; last = 0; with = []; table = t; alias = Some (record { has_as = false; name = name_of (codes "set") }); using = []; condition = None; returning = [] })

delete_is_spelled : spelled_statement deleted ≡ reading.Word (codes "delete") ∷ reading.Symbol s.From ∷ reading.Word (codes "t") ∷ reading.Word (codes "set") ∷ []
unfolding word_reading deleted
delete_is_spelled = refl

delete_is_well_levelled : well_levelled_statement deleted ≡ true
unfolding word_reading deleted
delete_is_well_levelled = refl

-- UPDATE t .. SET a = DEFAULT
abbrev updated : Option TableAlias → Statement
updated alias = statement.Update (record { place = here; first = 0; last = 0; with = []; table = t; alias = alias; sets = record { column = name_of (codes "a"); value = by_default } ∷ []; from = []; condition = None; returning = [] })

update_is_spelled : spelled_statement (updated (Some (record { has_as = true; name = name_of (codes "set") })))
    ≡ reading.Symbol s.Update ∷ reading.Word (codes "t") ∷ reading.Symbol s.As ∷ reading.Word (codes "set") ∷ reading.Word (codes "set") ∷ reading.Word (codes "a") ∷ reading.Symbol s.Equal ∷ reading.Word (codes "default") ∷ []
unfolding word_reading
update_is_spelled = refl

set_is_a_name_behind_as : well_levelled_statement (updated (Some (record { has_as = true; name = name_of (codes "set") }))) ≡ true
unfolding word_reading
set_is_a_name_behind_as = refl

set_is_no_name_alone : well_levelled_statement (updated (Some (record { has_as = false; name = name_of (codes "set") }))) ≡ false
unfolding word_reading
set_is_no_name_alone = refl

other_name_alone : well_levelled_statement (updated (Some (record { has_as = false; name = name_of (codes "u") }))) ≡ true
unfolding word_reading
other_name_alone = refl
