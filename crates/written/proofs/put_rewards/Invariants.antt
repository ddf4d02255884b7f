use Rattle.written.proofs.Prelude.{Wrote, parts_to, reward_text, reward_in}
use Rattle.written.proofs.put_rewards.Given as goal

abbrev pub invariant-loop-a : goal.invariant-loop-a
invariant-loop-a l =
    Wrote l.at (parts_to l.a (λ a. parts_to l.n (λ s. reward_text a s (reward_in l.n l.cells s a)))) l.initial.out l.next l.out
