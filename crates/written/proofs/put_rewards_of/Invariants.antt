use Rattle.written.proofs.Prelude.{Wrote, parts_to, reward_text, reward_in}
use Rattle.written.proofs.put_rewards_of.Given as goal

abbrev pub invariant-loop-s : goal.invariant-loop-s
invariant-loop-s l = Wrote l.at (parts_to l.s (λ s. reward_text l.a s (reward_in l.n l.cells s l.a))) l.initial.out l.next l.out
