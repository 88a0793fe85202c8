use Rattle.std.proofs.Common.{◌≡◌, ◌<◌, List, length, set, Some, subst, sym, refl}
use Rattle.sq_catalog.specs.Answers.{Answers}
use Rattle.sq_catalog.specs.Catalogue.{place_of_table, table_altered}
use Rattle.sq_catalog.specs.declared.table.Table.{Table}
use Rattle.sq_catalog.specs.Contents.{Contents}
use Rattle.sq_catalog.proofs.Changed.{altered_at}
use Rattle.sq_catalog.proofs.catalogue.Catalogue.alter_table.Goals as goal

pub returns-in-Some : goal.returns-in-Some
returns-in-Some c =
    let before : Contents = record {
      schemas = c.self.inside.schemas.items;
      tables = c.self.inside.tables.items;
      enums = c.self.inside.enums.items;
      domains = c.self.inside.domains.items;
      given = c.self.inside.given;
    } in
    let same : before ≡ c.args.self.now = c.self.view_is in
    let found : Some c.in-Some.at ≡ place_of_table before c.as_str.result.now c.as_str-2.result.now =
    subst (λ (v : Contents). Some c.in-Some.at ≡ place_of_table v c.as_str.result.now c.as_str-2.result.now) (sym same) c.in-Some.ensures.place in
    let within : c.in-Some.at < length before.tables = subst (λ (v : Contents). c.in-Some.at < length v.tables) (sym same) c.in-Some.ensures.within in
    let tables : List Table = set before.tables c.in-Some.at c.act.new.table in
    let after : Contents = record before { tables = tables } in
    subst (λ (v : Contents). Answers v (table_altered v c.args.table c.args.action) after c.act.result) same
    (altered_at before c.args.table c.args.action c.as_str.result.now c.as_str-2.result.now tables c.in-Some.at c.index_mut.result.now c.act.new.table c.act.result
    c.as_str.ensures c.as_str-2.ensures found within c.index_mut.ensures.value refl c.act.ensures)
