use Rattle.std.proofs.Common.{◌≡◌, ◌<◌, ℕ, List, length, set, Some, Result, subst, sym, refl}
use Rattle.sq_catalog.specs.Answers.{Answers}
use Rattle.sq_catalog.specs.Columns.{placed}
use Rattle.sq_catalog.specs.Contents.{Contents}
use Rattle.sq_catalog.specs.UserTypes.{place_of_enum, labelled, label_added}
use Rattle.sq_catalog.specs.declared.change.Cause.{Cause}
use Rattle.sq_catalog.specs.declared.table.EnumType.{EnumType}
use Rattle.sq_catalog.proofs.LabelsAgain.{labelled_at}
use Rattle.sq_catalog.proofs.catalogue.Catalogue.add_value.Goals as goal

pub returns : goal.returns
returns c =
    let before : Contents = record {
      schemas = c.self.inside.schemas.items;
      tables = c.self.inside.tables.items;
      enums = c.self.inside.enums.items;
      domains = c.self.inside.domains.items;
      given = c.self.inside.given;
    } in
    let same : before ≡ c.args.self.now = c.self.view_is in
    let change : List (List ℕ) → Result (List (List ℕ)) Cause = λ (labels : List (List ℕ)). label_added labels c.args.label c.args.if_not_exists c.args.beside in
    let found : Some c.in-Some.at ≡ place_of_enum before c.as_str.result.now c.as_str-2.result.now =
    subst (λ (v : Contents). Some c.in-Some.at ≡ place_of_enum v c.as_str.result.now c.as_str-2.result.now) (sym same) c.in-Some.ensures.place in
    let within : c.in-Some.at < length before.enums = subst (λ (v : Contents). c.in-Some.at < length v.enums) (sym same) c.in-Some.ensures.within in
    let labels : List (List ℕ) = c.add_label.new.labels in
    let enums : List EnumType = set before.enums c.in-Some.at (record c.index_mut.result.now { labels = labels }) in
    let after : Contents = record before { enums = enums } in
    subst (λ (v : Contents). Answers v (labelled v c.args.name change (placed v.enums (place_of_enum v c.args.schema c.args.name))) after c.add_label.result) same
    (labelled_at before c.args.schema c.args.name c.as_str.result.now c.as_str-2.result.now change enums c.in-Some.at c.index_mut.result.now labels c.add_label.result
    c.as_str.ensures c.as_str-2.ensures found within c.index_mut.ensures.value refl c.add_label.ensures)
