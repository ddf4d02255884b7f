use Rattle.alphas.proofs.Prelude.{action}
use Rattle.alphas.proofs.action_at.Goals as goal

pub returns : goal.returns
unfolding action
returns c = c.number_at.ensures
