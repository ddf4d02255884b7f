use Rattle.roofs.proofs.Prelude.{ℕ, ◌≡◌, List, ℤ, Counts, Verdict, Fine, model_in, unless, first_of, covers_backups, Level, ceiling_in, CeilingOf}
use Rattle.plans.specs.Level.{corner_weight}
use Rattle.levels.specs.Storage.{corner_in}
use Rattle.roofs.proofs.corners_hold.Given as goal

-- the verdict on corner s
abbrev pub verdict : Counts → List ℕ → List ℕ → List ℤ → Level → List ℤ → ℕ → Verdict
verdict c T O R L offered s = unless (covers_backups (model_in c T O R) L (corner_weight s) (corner_in offered s)) 14 s

abbrev pub invariant-loop-s : goal.invariant-loop-s
invariant-loop-s l = (L : Level) → CeilingOf l.c.states (ceiling_in l.c.states l.corners l.weights l.gains l.points) L
    → first_of l.s (verdict l.c l.transition l.observation l.reward L l.offered) ≡ Fine
