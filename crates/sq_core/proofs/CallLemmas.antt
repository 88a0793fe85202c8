-- Calls one after the other are never stuck.
use Rattle.std.proofs.Common.{List, [], ◌∷◌}
use Rattle.std.specs.List.{AllByRecursion}
use Rattle.sq_catalog.specs.Contents.{Contents}
use Rattle.sq_shown.specs.declared.signature.Output.{Output}
use Rattle.sq_core.specs.declared.weak.Weak.{Weak}
use Rattle.sq_core.specs.Answer.{Answer, Gives, Fault, Stuck, AnswerKeeps}
use Rattle.sq_core.specs.Calls.{Call, CallFits, answered, after, NoneStuck}
use Rattle.sq_core.specs.Changes.{Outcomes}
use Rattle.sq_core.specs.Items.{Item}
use Rattle.sq_core.specs.Sound.{AnswerFits}
use Rattle.sq_core.specs.Values.{Database, DatabaseFits}
use Rattle.sq_core.proofs.StatementSoundness.{typed_never_stuck}

after_fits : (contents : Contents) (database : Database) (outputs : List Output) (answer : Answer Item Outcomes) → DatabaseFits contents database → AnswerKeeps (AnswerFits contents outputs) answer → DatabaseFits contents (after database answer)
after_fits contents database outputs (Gives outcomes oracle) fitting keeps = keeps.database
after_fits contents database outputs Fault fitting keeps = fitting
after_fits contents database outputs Stuck fitting keeps = absurd keeps

pub none_stuck : (contents : Contents) (weak : Weak) (calls : List Call) (database : Database) → DatabaseFits contents database → AllByRecursion (CallFits contents weak) calls → NoneStuck contents database calls
none_stuck contents weak [] database fitting fit = fitting
none_stuck contents weak (call ∷ calls) database fitting fit =
    let keeps : AnswerKeeps (AnswerFits contents call.query.outputs) (answered contents database call) =
    (typed_never_stuck contents weak call.query.core call.query.params call.query.outputs fit.0.typed).answers_fit call.language database call.arguments fit.0.counted fitting fit.0.arguments call.oracle in
    (fitting, keeps, none_stuck contents weak calls (after database (answered contents database call)) (after_fits contents database call.query.outputs (answered contents database call) fitting keeps) fit.1)
