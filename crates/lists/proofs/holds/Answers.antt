use Rattle.refusals.proofs.Refusals.{err-fine}
use Rattle.tables.specs.Storage.{tables_in}
use Rattle.lists.proofs.Fitting.{table_fits}
use Rattle.lists.proofs.holds.Goals as goal

pub is_list-requires : goal.is_list-requires
is_list-requires c =
    table_fits (tables_in c.args.c c.args.transition.now c.args.observation.now c.args.reward.now)
    (err-fine c.judge_tables.ensures c.is_err.ensures.value c.if-is_err.false)
