use Rattle.std.proofs.Common.{◌≡◌, ◌++◌, drop, map}
use Rattle.sq_plan.specs.Lines.{finding_line}
use Rattle.sq_plan.proofs.deliver.finding_lines.Given as goal

abbrev pub invariant-loop-finding : goal.invariant-loop-finding
invariant-loop-finding l = l.lines ++ map finding_line (drop l.finding-index l.findings) ≡ map finding_line l.findings
