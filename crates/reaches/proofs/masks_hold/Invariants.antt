use Rattle.integers.proofs.Kit.{◌≡◌, ℕ, Bool, List, get_or}
use Rattle.tables.specs.declared.Counts.{Counts}
use Rattle.refusals.specs.Verdicts.{Verdict, Fine, unless, first_of}
use Rattle.tables.specs.Storage.{choice_in}
use Rattle.masks.specs.Masks.{covered_in}
use Rattle.reaches.specs.Steps.{reached_in}
use Rattle.reaches.proofs.masks_hold.Given as goal

-- whether vector v keeps to what is covered, were its action a
abbrev pub keeps : Counts → List ℕ → List ℕ → List ℕ → List ℕ → List ℕ → ℕ → ℕ → Bool
keeps c transition observation masks choices covering v a =
    reached_in c.states c.observations transition observation masks (covered_in covering v) a (choice_in c.observations choices v)

-- the verdict on vector v
abbrev pub verdict : Counts → List ℕ → List ℕ → List ℕ → List ℕ → List ℕ → List ℕ → ℕ → Verdict
verdict c transition observation masks actions choices covering v =
    unless (keeps c transition observation masks choices covering v (get_or actions v 0)) 21 v

abbrev pub invariant-loop-v : goal.invariant-loop-v
invariant-loop-v l = first_of l.v (verdict l.c l.transition l.observation l.masks l.actions l.choices l.covering) ≡ Fine
