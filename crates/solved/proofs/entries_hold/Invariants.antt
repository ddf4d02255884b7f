use Rattle.solved.proofs.Prelude.{◌≡◌, Verdict}
use Rattle.integers.proofs.Kit.{ℕ, ◌+◌, leb, nat_abs}
use Rattle.refusals.specs.Verdicts.{Fine, first_of, unless}
use Rattle.plans.specs.Limits.{range}
use Rattle.stated.specs.Steps.{ReadTo}
use Rattle.solved.specs.Steps.{vectors_over}
use Rattle.plans.specs.Level.{Level}
use Rattle.solved.proofs.entries_hold.Given as goal

-- the verdict on vector v of a level
abbrev pub verdict : ℕ → ℕ → Level → ℕ → Verdict
verdict n limit W v = first_of n (λ s. unless (leb (nat_abs (W.entry v s)) limit) 11 v)

abbrev pub invariant-loop-v : goal.invariant-loop-v
invariant-loop-v l = record {
  read : ReadTo l.c.states l.c.observations l.alpha l.graph l.v l.p l.q;
  fine : first_of l.v (verdict l.c.states (range (l.t + 1)) (vectors_over l.c l.transition l.observation l.reward l.masks l.entries l.standing l.t
      l.alpha l.graph)) ≡ Fine;
}
