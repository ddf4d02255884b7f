-- What the call over a list of offers answers.
use Rattle.std.specs.Prelude.{ℕ, Result, Ok, Err}
use Rattle.refusals.specs.declared.Refusal.{Refusal}
use Rattle.exports_replay.specs.declared.Replay.{Replay}

abbrev pub replay_by : Result ℕ Refusal → Replay
replay_by (Ok accepted) = record { number = 0; place = 0; accepted = accepted }
replay_by (Err e) = record { number = e.0; place = e.1; accepted = 0 }
