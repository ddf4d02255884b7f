use Rattle.std.proofs.lemmas.Grind.{common_steps}
use Rattle.integers.proofs.Kit.{arith}
use Rattle.statements.specs.Statements.{one_statement_by}
use Rattle.statements.proofs.statement_at.Goals as goal

pub returns-in_default : goal.returns-in_default
unfolding one_statement_by
returns-in_default c = let other = c.other_statement_at.ensures c.args.transition.now in grind (arith, common_steps)
