use Rattle.integers.proofs.Kit.{◌≡◌, ◌∙◌, sym, arith, rules, pos, get_or, to_z, of_z, w64}
use Rattle.integers.proofs.Words.{answer}
use Rattle.integers.proofs.Lists.{padded-at, padded-none, padded-turn}
use Rattle.tables.specs.Limits.{max_states}
use Rattle.sparse.specs.Steps.{onward_said, backup_said}
use Rattle.sparse.proofs.Cells.{onward-within}
use Rattle.sparse.proofs.backups.Goals as goal

pub loop-s-init : goal.loop-s-init
loop-s-init c = sym (padded-none _ _ _)

pub backup_from-requires-clause-later_bound : goal.backup_from-requires-clause-later_bound
backup_from-requires-clause-later_bound c =
    let cell = get_or c.onward-later.result c.loop-s.s (pos 0) in
    let same : to_z w64 (of_z w64 cell) ≡ cell = search rules in
    let is : cell ≡ onward_said c.args.n c.args.list.now c.args.f.now c.loop-s.s c.args.a.0
    = rw c.onward-later.ensures (padded-at (pos 0) max_states _ _ c.loop-s.s (pos 0) c.loop-s-test.true) in
    rw (same, is) (onward-within c.requires.columns_fit c.requires.within c.requires.n_le_max_states.0 c.loop-s-test.true)

pub loop-s-preserved : goal.loop-s-preserved
unfolding backup_said
loop-s-preserved c =
    let cell = get_or c.onward-later.result c.loop-s.s (pos 0) in
    let same : to_z w64 (of_z w64 cell) ≡ cell = search rules in
    let is : cell ≡ onward_said c.args.n c.args.list.now c.args.f.now c.loop-s.s c.args.a.0
    = rw c.onward-later.ensures (padded-at (pos 0) max_states _ _ c.loop-s.s (pos 0) c.loop-s-test.true) in
    padded-turn _ _ _ _ c.loop-s.invariant (answer c.backup_from.type_inv (c.backup_from.ensures ∙ rw (same, is))) (omega arith)
