use Rattle.std.proofs.Common.{ap, sym, ◌∙◌}
use Rattle.replay.specs.Replay.{replay_answer}
use Rattle.replay.proofs.Runs.{apart}
use Rattle.exports_replay.specs.Calls.{replay_by}
use Rattle.exports_replay.proofs.biidhaqun_replay.Goals as goal

pub returns-in-Ok : goal.returns-in-Ok
returns-in-Ok c =
    let a = c.replay.ensures in
    (ap replay_by (sym c.in-Ok.is ∙ a.0), (a.1.0, λ m₀ x₀ es o e fine. a.1.1 m₀ x₀ es o e _ c.in-Ok.is))

pub returns-in-Err : goal.returns-in-Err
unfolding replay_answer
returns-in-Err c =
    let a = c.replay.ensures in
    rw c.refusal_of-refusal.ensures (ap replay_by (sym c.in-Err.is ∙ a.0), (a.1.0, λ m₀ x₀ es o e fine. apart (sym c.in-Err.is ∙ rw fine at a.0)))
