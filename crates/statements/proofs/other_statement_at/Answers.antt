use Rattle.std.proofs.lemmas.Grind.{common_steps}
use Rattle.integers.proofs.Kit.{arith}
use Rattle.statements.specs.Statements.{observation_or_reward_by}
use Rattle.statements.proofs.other_statement_at.Goals as goal

pub returns-in_default : goal.returns-in_default
unfolding observation_or_reward_by
returns-in_default c = λ t. let other = c.reward_statement_at.ensures t c.args.observation.now in grind (arith, common_steps)
