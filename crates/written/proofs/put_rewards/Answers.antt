use Rattle.written.proofs.Prelude.{◌<◌, ℕ, List, arith, parts_to, reward_text, rewards_text, reward_in, parts_none, parts-room, parts_more, parts-end}
use Rattle.integers.proofs.Kit.{ℤ}
use Rattle.written.proofs.put_rewards.Goals as goal

-- the rewards of an action
part : ℕ → List ℤ → ℕ → List ℕ
part n cells a = parts_to n (λ s. reward_text a s (reward_in n cells s a))

pub loop-a-init : goal.loop-a-init
loop-a-init c = parts_none _

pub put_rewards_of-next-requires-clause-has_room : goal.put_rewards_of-next-requires-clause-has_room
unfolding part rewards_text
put_rewards_of-next-requires-clause-has_room c =
    let l = c.loop-a in
    let below : l.a < c.args.m = omega arith in
    parts-room c.args.m (part c.args.n c.args.cells.now) l.a below c.requires.has_room l.invariant

pub loop-a-preserved : goal.loop-a-preserved
unfolding part rewards_text
loop-a-preserved c =
    let l = c.loop-a in
    let below : l.a < c.args.m = omega arith in
    parts_more c.args.m (part c.args.n c.args.cells.now) l.a below c.requires.has_room l.invariant c.put_rewards_of-next.ensures

pub returns : goal.returns
unfolding part rewards_text
returns c = parts-end c.args.m (part c.args.n c.args.cells.now) c.loop-a.a (omega arith) c.loop-a.invariant
