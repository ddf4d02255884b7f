use Rattle.written.proofs.Prelude.{◌<◌, ℕ, List, subst, subst⁻¹, arith, reward_text, reward_in, HasRoom, Wrote, parts_none, parts-room, parts_more}
use Rattle.integers.proofs.Kit.{ℤ}
use Rattle.integers.proofs.Words.{answer}
use Rattle.written.proofs.put_rewards_of.Goals as goal

-- the reward in a state
part : ℕ → ℕ → List ℤ → ℕ → List ℕ
part n a cells s = reward_text a s (reward_in n cells s a)

pub loop-s-init : goal.loop-s-init
loop-s-init c = parts_none _

pub put_reward-next-requires : goal.put_reward-next-requires
unfolding part
put_reward-next-requires c =
    let a = c.args in
    let l = c.loop-s in
    let below : l.s < a.n = omega arith in
    subst⁻¹ (λ (v : ℤ). HasRoom l.next (reward_text a.a l.s v) l.out) (answer c.reward_at-v.type_inv c.reward_at-v.ensures)
    (parts-room a.n (part a.n a.a a.cells.now) l.s below c.requires.has_room l.invariant)

pub loop-s-preserved : goal.loop-s-preserved
unfolding part
loop-s-preserved c =
    let a = c.args in
    let l = c.loop-s in
    let below : l.s < a.n = omega arith in
    parts_more a.n (part a.n a.a a.cells.now) l.s below c.requires.has_room l.invariant
    (subst (λ (v : ℤ). Wrote l.next (reward_text a.a l.s v) l.out c.put_reward-next.result c.put_reward-next.new.out)
    (answer c.reward_at-v.type_inv c.reward_at-v.ensures) c.put_reward-next.ensures)
