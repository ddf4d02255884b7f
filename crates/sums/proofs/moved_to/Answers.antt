use Rattle.std.proofs.Common.{◌≡◌, sym, ◌∙◌, arith}
use Rattle.integers.proofs.Sums.{total-none, total-step}
use Rattle.sums.specs.Steps.{moved_in}
use Rattle.sums.proofs.Regroup.{moved-part}
use Rattle.sums.proofs.moved_to.Goals as goal

pub loop-s-init : goal.loop-s-init
loop-s-init c = sym (total-none _)

pub add_moved-sum-requires : goal.add_moved-sum-requires
add_moved-sum-requires c =
    let r = c.requires in
    let s = c.loop-s.s in
    let (states, (_, state)) = r.n_le_max_states in (
      rw c.loop-s.invariant (moved-part r.transitions_fit r.below state states s (omega arith)),
      (r.below.below s (omega arith), rw c.transition_at-t.ensures (r.transitions_fit.transition s (omega arith) c.args.to.0 state)),
    )

pub loop-s-preserved : goal.loop-s-preserved
loop-s-preserved c = c.add_moved-sum.ensures ∙ rw c.transition_at-t.ensures (total-step _ _ c.loop-s.invariant)

pub returns : goal.returns
unfolding moved_in
returns c = let e : c.loop-s.s ≡ c.args.n = omega arith in rw e at c.loop-s.invariant
