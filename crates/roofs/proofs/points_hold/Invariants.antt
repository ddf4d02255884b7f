use Rattle.roofs.proofs.Prelude.{ℕ, ◌≡◌, List, ℤ, pos, get_or, Counts, Verdict, Fine, model_in, unless, first_of, covers_backups, Level, ceiling_in, CeilingOf}
use Rattle.levels.specs.Storage.{point_in}
use Rattle.roofs.proofs.points_hold.Given as goal

-- the verdict on point i
abbrev pub verdict : Counts → List ℕ → List ℕ → List ℤ → Level → List ℕ → List ℤ → ℕ → Verdict
verdict c T O R L offered at i = unless (covers_backups (model_in c T O R) L (point_in c.states offered i) (get_or at i (pos 0))) 15 i

abbrev pub invariant-loop-i : goal.invariant-loop-i
invariant-loop-i l = (L : Level) → CeilingOf l.c.states (ceiling_in l.c.states l.corners l.weights l.gains l.points) L
    → first_of l.i (verdict l.c l.transition l.observation l.reward L l.offered l.at) ≡ Fine
