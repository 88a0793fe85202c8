use Rattle.std.proofs.Common.{rules, refl}
use Rattle.sq_base.proofs.Held.{put_here, put_elsewhere}
use Rattle.sq_base.proofs.still_out.StillOutOut.put.Goals.{in-Ok, in-Err}
use Rattle.sq_base.proofs.still_out.StillOutOut.put.Goals as goal

pub returns-clause-put : goal.returns-clause-put
returns-clause-put c = elim c.match-put_new.branch [
  | in-Ok w ↦ rw (w.result-is, ← c.self.view_is) record {
    others = λ other apart. rw w.in-Ok.ensures.ok (put_elsewhere c.args.path.now c.args.bytes.now other apart c.self.inside.files);
    file = rw w.in-Ok.ensures.ok (put_here c.args.path.now c.args.bytes.now c.self.inside.files);
    calls = search rules;
    faults = search rules;
  }
  | in-Err w ↦ rw (w.result-is, ← c.self.view_is) record {
    others = λ other apart. rw w.in-Err.ensures.err refl;
    file = tt;
    calls = search rules;
    faults = search rules;
  }
]
