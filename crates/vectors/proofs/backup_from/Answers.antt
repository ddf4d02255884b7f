use Rattle.vectors.proofs.Prelude.{◌≡◌, ◌∙◌, refl, w64, to_z, of_z, to_z-of_z, ◌·◌, K, reward_in, answer}
use Rattle.sums.proofs.Regroup.{backup-fits}
use Rattle.vectors.proofs.backup_from.Goals as goal

pub add_scaled-requires-clause-a_bound : goal.add_scaled-requires-clause-a_bound
unfolding K
add_scaled-requires-clause-a_bound c =
    let a = c.args in
    let r = c.requires in
    let (_, (_, (state, discount))) = r.n_le_max_states in
    let now : to_z w64 (of_z w64 c.scaled-now.result) ≡ K · reward_in a.n a.reward.now a.s.0 a.a.0
    = answer c.scaled-now.type_inv (c.scaled-now.ensures ∙ rw (answer c.reward_at.type_inv c.reward_at.ensures) refl) in
    rw (now, to_z-of_z c.ranges.later) (backup-fits a.later r.rewards_fit state discount r.later_bound)

pub returns : goal.returns
unfolding K
returns c =
    let a = c.args in
    let now : to_z w64 (of_z w64 c.scaled-now.result) ≡ K · reward_in a.n a.reward.now a.s.0 a.a.0
    = answer c.scaled-now.type_inv (c.scaled-now.ensures ∙ rw (answer c.reward_at.type_inv c.reward_at.ensures) refl) in
    answer c.add_scaled.type_inv (c.add_scaled.ensures ∙ rw (now, to_z-of_z c.ranges.later) refl)
