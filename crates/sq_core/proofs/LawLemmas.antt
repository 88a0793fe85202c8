-- The first laws.
use Rattle.std.proofs.Common.{◌≡◌, ℕ, zero, suc, length, Bool, true, false, ◌&&◌, if◌then◌else◌, List, [], ◌∷◌, map, refl, ap, sym, subst, ◌∙◌}
use Rattle.std.specs.List.{AllZip}
use Rattle.sq_catalog.specs.Contents.{Contents}
use Rattle.sq_catalog.specs.declared.table.Table.{Table}
use Rattle.sq_builtin.specs.Functions.{none, one, two, three, four, five, six, seven, eight, ten, twelve, fourteen, sixteen}
use Rattle.sq_builtin.specs.Operators.{operators}
use Rattle.sq_builtin.specs.Rows.{table}
use Rattle.sq_core.specs.declared.node.Node.{Node}
use Rattle.sq_core.specs.declared.routine.Operation.TheVariants.{Call}
use Rattle.sq_shown.specs.declared.signature.Param.{Param}
use Rattle.sq_core.specs.Answer.{Stuck, ◌>>=◌, go_on, pure, stuck, all_of}
use Rattle.sq_core.specs.Frames.{Setting}
use Rattle.sq_core.specs.Operations.{Meaning, apply}
use Rattle.sq_core.specs.Run.{node_run}
use Rattle.sq_core.specs.Items.{Item, Run}
use Rattle.sq_core.specs.Laws.{AggregatesAreStrict, PlusIsARow, integer, text_tag, plus, TextAdditionIsStuck}
use Rattle.sq_core.specs.Routines.{called, computed, have_tags, is_routine}
use Rattle.sq_catalog.specs.UserTypes.{steps_under}
use Rattle.sq_core.specs.Values.{Value, Database, Tagged, scalar_tag, tag, integer_tag, DatabaseFits, RowsFit, empty_tables, table_kinds}
use Rattle.sq_core.proofs.StoredLemmas.{runs-hidden}

pub empty_fit : (contents : Contents) → DatabaseFits contents (empty_tables contents)
empty_fit contents = each contents.tables
  where
    each : (tables : List Table) → AllZip (λ table. RowsFit (table_kinds contents table)) tables (map (λ (table : Table). []) tables)
    each [] = tt
    each (one ∷ tables) = (tt, each tables)

base-integer : (contents : Contents) (steps : ℕ) → steps_under steps contents integer ≡ integer
base-integer contents zero = refl
base-integer contents (suc steps) = base-integer contents steps

pub tag-integer : (contents : Contents) → tag contents integer ≡ integer_tag
tag-integer contents = ap (λ of. record { scalar = scalar_tag of.scalar; array = of.array }) (base-integer contents (length contents.domains))

stuck_where : (a b : Bool) (run : Run Value) (oracle : List Item) → b ≡ false → (if a && b then run else stuck) oracle ≡ Stuck
stuck_where true b run oracle fails = rw fails refl
stuck_where false b run oracle fails = refl

called_text : (contents : Contents) (number : ℕ) (right : Value) (oracle : List Item) → called contents plus (Tagged text_tag number ∷ right ∷ []) oracle ≡ Stuck
called_text contents number right oracle =
    stuck_where (is_routine false plus) (have_tags (tag contents integer ∷ tag contents integer ∷ []) (Tagged text_tag number ∷ right ∷ [])) (computed contents plus (Tagged text_tag number ∷ right ∷ [])) oracle
    (subst (λ t. have_tags (t ∷ t ∷ []) (Tagged text_tag number ∷ right ∷ []) ≡ false) (sym (tag-integer contents)) refl)

pub text_addition : (contents : Contents) (params : List Param) (database : Database) (arguments : List Value) (left right : Node) (setting : Setting) → TextAdditionIsStuck contents params database arguments left right setting
text_addition contents params database arguments left right setting number value oracle rest last left_gives right_gives =
    let runs : Node → Meaning = node_run contents params database arguments in
    (λ i. apply contents (Call plus) (runs-hidden contents params database arguments (left ∷ right ∷ []) i) setting oracle)
    ∙ ap (λ answer. go_on (go_on answer (λ a. all_of (runs right setting ∷ []) >>= (λ more. pure (a ∷ more)))) (called contents plus)) left_gives
    ∙ ap (λ answer. go_on (go_on (go_on answer (λ b. pure (b ∷ []))) (λ more. pure (Tagged text_tag number ∷ more))) (called contents plus)) right_gives
    ∙ called_text contents number value last

pub plus_row : PlusIsARow
unfolding is_routine table operators none one two three four five six seven eight ten twelve fourteen sixteen
plus_row = record { row = refl; no_row = refl }

pub aggregates_strict : AggregatesAreStrict
unfolding table operators none one two three four five six seven eight ten twelve fourteen sixteen
aggregates_strict = refl
