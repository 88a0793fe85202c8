use Rattle.std.proofs.Common.{◌∙◌, refl, sym}
use Rattle.sq_catalog.specs.UserTypes.{instead}
use Rattle.sq_catalog.proofs.ChangedAt.{put_there}
use Rattle.sq_catalog.proofs.labels.set_label.Goals as goal

pub returns : goal.returns
returns c = c.set.ensures ∙ sym (put_there (instead c.args.to) c.args.to c.args.labels.now c.args.at (λ x. refl) c.requires)
