use Rattle.std.proofs.Common.{rules, ◌≡◌, ◌&&◌, not, false}
use Rattle.sq_catalog.specs.Dropping.{holds}
use Rattle.sq_catalog.proofs.Held.{held_goes}
use Rattle.sq_catalog.proofs.catalogue.Catalogue.drop_held.Goals as goal

pub returns : goal.returns
returns c =
    let free : (not c.args.cascade && holds c.args.self.now c.as_str.result.now) ≡ false = search rules in
    held_goes c.args.self.now c.remove_held.new.self c.args.schema c.as_str.result.now c.as_str-2.result.now c.args.cascade c.remove_held.result c.as_str.ensures c.as_str-2.ensures free c.remove_held.ensures
