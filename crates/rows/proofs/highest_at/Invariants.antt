use Rattle.std.proofs.Common.{◌≡◌}
use Rattle.tables.specs.Storage.{entry_in}
use Rattle.plans.specs.Rows.{highest}
use Rattle.rows.proofs.highest_at.Given as goal

abbrev pub invariant-loop-a : goal.invariant-loop-a
invariant-loop-a l = l.most ≡ highest l.a (λ v. entry_in l.n l.rows v l.s.0)
