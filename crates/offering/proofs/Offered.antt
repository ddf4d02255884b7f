-- What an offer is said to leave. Assumes nothing.
use Rattle.integers.proofs.Kit.{◌≡◌, ◌∙◌, refl, ap}
use Rattle.std.specs.Prelude.{Ok, Err}
use Rattle.tables.specs.Tables.{Tables}
use Rattle.refusals.specs.Verdicts.{Verdict, ◌before◌, left}
use Rattle.levels.specs.Storage.{LentLevel, Lent, level_of}
use Rattle.levels.specs.Judged.{offer_verdict}
use Rattle.runs.specs.State.{raised, offered}

-- a refusal, of the list that is handed in or of the offer, leaves all as it was
handed-offered : (m : Tables) (x : Lent) (l : LentLevel) (h : Verdict)
    → left (h before offer_verdict m x l) (raised m x (level_of m l)) x ≡ left h (offered m x l) x
unfolding offered
handed-offered m x l (Ok u) = refl
handed-offered m x l (Err e) = refl

-- what is left by a verdict v
pub settled-offered : (m : Tables) (x : Lent) (l : LentLevel) (h : Verdict) {v : Verdict} {z : Lent} → v ≡ (h before offer_verdict m x l)
    → z ≡ left v (raised m x (level_of m l)) x → z ≡ left h (offered m x l) x
settled-offered m x l h e k = k ∙ ap (λ (w : Verdict). left w (raised m x (level_of m l)) x) e ∙ handed-offered m x l h
