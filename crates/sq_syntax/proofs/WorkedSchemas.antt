-- Worked rows of the grammar of schema statements.
use Rattle.std.proofs.Common.{◌≡◌, ℕ, true, false, List, [], ◌∷◌, None, refl}
use Rattle.std.specs.Prelude.{codes}
use Rattle.sq_base.specs.declared.place.Place.{Place}
use Rattle.sq_syntax.specs.declared.symbol.Symbol.TheVariants as s
use Rattle.sq_syntax.specs.declared.symbol.Reading.{Reading}
use Rattle.sq_syntax.specs.declared.symbol.Reading.TheVariants as reading
use Rattle.sq_syntax.specs.declared.name.Identifier.{Identifier}
use Rattle.sq_syntax.specs.declared.name.QualifiedName.{QualifiedName}
use Rattle.sq_syntax.specs.declared.name.TypeName.{TypeName}
use Rattle.sq_syntax.specs.declared.name.TypeWord.TheVariants as type_word
use Rattle.sq_syntax.specs.declared.name.TimeZone.TheVariants as zone
use Rattle.sq_syntax.specs.declared.ddl.ConstraintForm.TheVariants as constraint_kind
use Rattle.sq_syntax.specs.declared.ddl.Ddl.{Ddl}
use Rattle.sq_syntax.specs.declared.ddl.Ddl.TheVariants as ddl
use Rattle.sq_syntax.specs.declared.ddl.Element.TheVariants as element_kind
use Rattle.sq_syntax.specs.declared.ddl.TableAction.TheVariants as table_action
use Rattle.sq_syntax.specs.declared.ddl.TableChange.TheVariants as table_change
use Rattle.sq_syntax.specs.Symbols.{word_reading}
use Rattle.sq_syntax.specs.Schemas.{spelled_ddl, well_levelled_ddl}

abbrev here : Place
here = record { file = 0; line = 0; column = 0 }

abbrev name_of : List ℕ → Identifier
name_of word = record { name = word; is_quoted = false; place = here }

abbrev named : List ℕ → QualifiedName
named word = record { schema = None; name = name_of word }

abbrev an_integer : TypeName
an_integer = record { word = type_word.Named (named (codes "int")); size = []; zone = zone.Unsaid; arrays = [] }

abbrev word : List ℕ → Reading
word letters = reading.Word letters

-- CREATE TABLE t (a int DEFAULT .. NOT NULL)
abbrev created : List Reading → Ddl
created run = ddl.CreateTable (record {
  place = here;
  first = 0;
  last = 0;
  form = record {
    is_unlogged = false;
    if_not_exists = false;
    name = named (codes "t");
    elements = element_kind.Column (record { name = name_of (codes "a"); of = an_integer; constraints = record { name = None; form = constraint_kind.Default run } ∷ record { name = None; form = constraint_kind.NotNull } ∷ [] }) ∷ [];
    tails = [];
  };
})

abbrev call_of_now : List Reading
call_of_now = word (codes "now") ∷ reading.Symbol s.Open ∷ reading.Symbol s.Close ∷ []

table_is_spelled : spelled_ddl (created call_of_now)
    ≡ word (codes "create") ∷ word (codes "table") ∷ word (codes "t") ∷ reading.Symbol s.Open ∷ word (codes "a") ∷ word (codes "int") ∷ word (codes "default") ∷ word (codes "now") ∷ reading.Symbol s.Open ∷ reading.Symbol s.Close ∷
    reading.Symbol s.Not ∷ reading.Symbol s.Null ∷ reading.Symbol s.Close ∷ []
unfolding word_reading
table_is_spelled = refl

table_is_well_levelled : well_levelled_ddl (created call_of_now) ≡ true
unfolding word_reading
table_is_well_levelled = refl

open_bracket_is_refused : well_levelled_ddl (created (word (codes "now") ∷ reading.Symbol s.Open ∷ [])) ≡ false
unfolding word_reading
open_bracket_is_refused = refl

default_ends_before_not : well_levelled_ddl (created (word (codes "x") ∷ reading.Symbol s.Not ∷ [])) ≡ false
unfolding word_reading
default_ends_before_not = refl

default_takes_its_first_token : well_levelled_ddl (created (reading.Symbol s.Null ∷ [])) ≡ true
unfolding word_reading
default_takes_its_first_token = refl

-- ALTER TABLE name ..
abbrev altered : List ℕ → List Reading → Ddl
altered table run = ddl.AlterTable (record {
  place = here;
  first = 0;
  last = 0;
  form = record { if_exists = false; has_only = false; name = named table; has_star = false; change = table_change.Actions (table_action.Other run ∷ []) };
})

owner_is_a_run : well_levelled_ddl (altered (codes "t") (word (codes "owner") ∷ word (codes "to") ∷ word (codes "app") ∷ [])) ≡ true
unfolding word_reading
owner_is_a_run = refl

point_is_of_the_name : well_levelled_ddl (altered (codes "s") (reading.Symbol s.Dot ∷ word (codes "t") ∷ word (codes "owner") ∷ [])) ≡ false
unfolding word_reading
point_is_of_the_name = refl

if_is_no_table : well_levelled_ddl (altered (codes "if") (reading.Symbol s.Exists ∷ word (codes "t") ∷ [])) ≡ false
unfolding word_reading
if_is_no_table = refl

comma_ends_an_action : well_levelled_ddl (altered (codes "t") (word (codes "x") ∷ reading.Symbol s.Comma ∷ word (codes "y") ∷ [])) ≡ false
unfolding word_reading
comma_ends_an_action = refl

set_not_null_is_no_run : well_levelled_ddl (altered (codes "t") (word (codes "alter") ∷ word (codes "column") ∷ word (codes "a") ∷ word (codes "set") ∷ reading.Symbol s.Not ∷ reading.Symbol s.Null ∷ [])) ≡ false
unfolding word_reading
set_not_null_is_no_run = refl

set_default_is_a_run : well_levelled_ddl (altered (codes "t") (word (codes "alter") ∷ word (codes "a") ∷ word (codes "set") ∷ word (codes "default") ∷ reading.Number (codes "1") ∷ [])) ≡ true
unfolding word_reading
set_default_is_a_run = refl
