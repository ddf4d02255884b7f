use Rattle.stated.proofs.Prelude.{◌∙◌, max_observations}
use Rattle.integers.proofs.Kit.{ap}
use Rattle.integers.proofs.Lists.{padded-cong}
use Rattle.solver.proofs.Files.{vector-fine, node-fine, both-on}
use Rattle.stated.specs.Stated.{chosen_over}
use Rattle.stated.proofs.said_at.Goals as goal

pub unwrap-x-requires : goal.unwrap-x-requires
unwrap-x-requires c = let (v_in, read) = c.requires.v_bound in vector-fine _ _ _ _ read v_in _ c.alpha_at.ensures

pub unwrap-y-requires : goal.unwrap-y-requires
unwrap-y-requires c = let (v_in, read) = c.requires.v_bound in node-fine _ _ _ _ read v_in _ c.node_at.ensures

pub returns : goal.returns
returns c =
    let a = c.args in
    let (v_in, read) = c.requires.v_bound in
    let t = (both-on _ _ _ _ read v_in _ _ c.alpha_at.ensures c.node_at.ensures).said _ _ c.unwrap-x.ensures c.unwrap-y.ensures in
    record {
      action = t.action;
      ticks = t.ticks;
      chosen = c.choices_of-chosen.ensures ∙ padded-cong 0 max_observations a.k _ _ (λ o l. ap (chosen_over a.t) (t.next o l));
      onward = t.onward;
    }
