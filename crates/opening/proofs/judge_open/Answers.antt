use Rattle.integers.proofs.Kit.{◌≤◌, ◌*◌, sym, arith, mul-le-mul}
use Rattle.tables.specs.Limits.{max_states, max_actions}
use Rattle.tables.specs.Storage.{tables_in}
use Rattle.tables.proofs.Accepted.{tables-valid}
use Rattle.opening.proofs.judge_open.Goals as goal

pub complete-requires : goal.complete-requires
complete-requires c =
    let a = c.args in
    let v = tables-valid (tables_in a.c a.transition.now a.observation.now a.reward.now) (sym c.in_ok-judge_tables.ensures) in
    rw c.fresh-s.ensures (v.few_states, (v.few_observations, (omega arith, omega arith)))

pub overflow_mul-cells : goal.overflow_mul-cells
overflow_mul-cells c =
    let a = c.args in
    let v = tables-valid (tables_in a.c a.transition.now a.observation.now a.reward.now) (sym c.in_ok-judge_tables.ensures) in
    let few : a.c.actions * a.c.states ≤ max_actions * max_states = mul-le-mul v.few_actions v.few_states in
    omega arith
