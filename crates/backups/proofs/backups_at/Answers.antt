use Rattle.backups.proofs.Prelude.{sym, arith, answer}
use Rattle.integers.proofs.Lists.{padded-none, padded-turn}
use Rattle.sums.proofs.Regroup.{transitions-fit, observations-fit, rewards-fit}
use Rattle.backups.proofs.Roofs.{light-below}
use Rattle.backups.proofs.backups_at.Goals as goal

pub loop-a-init : goal.loop-a-init
loop-a-init c = sym (padded-none _ _ _)

pub backup_at-requires-clause-below : goal.backup_at-requires-clause-below
backup_at-requires-clause-below c = light-below c.requires.light

pub backup_at-requires-clause-engine_fits : goal.backup_at-requires-clause-engine_fits
backup_at-requires-clause-engine_fits c =
    let s = c.args in
    let h = c.requires.roof in
    let a = c.loop-a.a in
    let l = c.loop-a-test.true in (
      record {
        transitions = transitions-fit s.c s.transition.now s.observation.now s.reward.now h.valid h.stored a l;
        listed = c.requires.lists a l;
      },
      (
        observations-fit s.c s.transition.now s.observation.now s.reward.now h.valid h.stored a l,
        rewards-fit s.c s.transition.now s.observation.now s.reward.now h.valid h.stored a l,
      ),
    )

pub loop-a-preserved : goal.loop-a-preserved
loop-a-preserved c =
    padded-turn _ _ _ _ c.loop-a.invariant (answer c.backup_at.type_inv c.backup_at.ensures) (omega (arith, c.requires.roof.valid.few_actions))
