use Rattle.sq_run.proofs.Calls.{within}
use Rattle.sq_run.proofs.Causes.{caused, compiled, owed}
use Rattle.sq_run.proofs.Headlined.{headlined}
use Rattle.sq_run.proofs.Kept.{kept}
use Rattle.sq_run.proofs.Printed.{printed}
use Rattle.sq_run.proofs.Says.{Laws}
use Rattle.sq_run.proofs.Stated.{stated}
use Rattle.sq_run.proofs.run.sqlc.Goals as goal

pub returns : goal.returns
returns g c =
    let laws : Laws = record {
      begins = c.empty_is_catalogue.ensures;
      replays = c.replay_keeps.ensures;
      sound = c.typed_is_never_stuck.ensures;
      typed = c.select_of_columns_is_typed.ensures;
      written = c.text_is_as_written.ensures;
      read = c.reads_as_written.ensures;
      models = c.identifiers_are_words.ensures.models;
      constants = c.identifiers_are_words.ensures.constants;
      packages = c.identifiers_are_words.ensures.packages;
      rows = c.identifiers_are_words.ensures.rows;
      field_words = c.fields_are_words.ensures.fields;
      column_words = c.fields_are_words.ensures.columns;
      fields_apart = c.fields_are_apart.ensures.fields;
      again = c.printed_tokens_are_read_again.ensures.list;
      columns_apart = c.fields_are_apart.ensures.columns;
    } in
    rw (← c.as_slice.ensures.value) (record {
      runs = c.run.ensures;
      stated = stated c.run.ensures;
      cause = caused c.run.ensures;
      owed = owed c.run.ensures;
      compiles = compiled c.run.ensures;
      kept = kept c.run.ensures;
      printed = printed c.run.ensures;
      calls = within c.run.ensures;
      headline = headlined laws _ _ _ _ (caused c.run.ensures) (kept c.run.ensures);
    })
