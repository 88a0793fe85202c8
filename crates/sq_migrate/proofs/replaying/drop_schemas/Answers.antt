use Rattle.std.proofs.Common.{◌≡◌, ◌<◌, ◌+◌, ◌∙◌, length, get_or, drop, arith, sym, ap}
use Rattle.sq_migrate.specs.Asked.{schema_drop_asked}
use Rattle.sq_migrate.specs.Replay.{state, schemas_dropped}
use Rattle.sq_migrate.proofs.Gathered.{next_item}
use Rattle.sq_migrate.proofs.replaying.drop_schemas.Goals as goal

pub loop-name-preserved : goal.loop-name-preserved
loop-name-preserved c =
    let names = c.args.x.now.names in
    let at = c.loop-name.name-index in
    let within : at < length names = omega (arith, ap length c.as_slice-name-items.ensures) in
    let is : c.name-item.result ≡ get_or names at c.name-item.result = c.name-item.is ∙ ap (λ xs. get_or xs at c.name-item.result) c.as_slice-name-items.ensures in
    ap (λ s. schemas_dropped c.args.place c.args.x.now s (drop (at + 1) names)) (c.in_ok-do_asked.ensures (schema_drop_asked c.args.x.now c.name-item.result) c.schema_drop_asked-asked.ensures)
    ∙ sym (ap (schemas_dropped c.args.place c.args.x.now (state c.loop-name.catalogue c.loop-name.refusals)) (next_item names at c.name-item.result within is))
    ∙ c.loop-name.invariant
