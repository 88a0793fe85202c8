use Rattle.std.proofs.Common.{Option, Err, ap, sym, ◌∙◌}
use Rattle.sq_reader.specs.Parts.{Text}
use Rattle.sq_reader.specs.Items.{stands, spot}
use Rattle.sq_reader.proofs.files.header_standing.Goals as goal

pub returns-in-Ok : goal.returns-in-Ok
returns-in-Ok c = ap (λ (found : Option Text). stands found (spot c.args.number c.args.text.now)) c.in-Ok.ensures.part

pub returns-in-Err-Absent : goal.returns-in-Err-Absent
returns-in-Err-Absent c =
    ap (λ (found : Option Text). stands found (spot c.args.number c.args.text.now)) (rw c.in-Err-Absent.field-0-is at c.in-Err-Absent.ensures.part)
    ∙ ap Err (sym c.spot_of.ensures)
