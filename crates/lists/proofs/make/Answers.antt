use Rattle.std.proofs.Common.{refl, sym, ◌∙◌, rules}
use Rattle.integers.proofs.Kit.{le-leb, lt-leb}
use Rattle.tables.specs.Storage.{tables_in}
use Rattle.columns.specs.Columns.{list_verdict, listed_of}
use Rattle.lists.proofs.Fitting.{table_fits}
use Rattle.lists.proofs.make.Goals as goal

pub returns-in_err-judge_tables : goal.returns-in_err-judge_tables
unfolding list_verdict listed_of
returns-in_err-judge_tables c =
    let refused = sym c.judge_tables.ensures ∙ c.in_err-judge_tables.was in
    record { value = rw refused (search rules); list_after = rw refused refl }

pub size-requires : goal.size-requires
size-requires c =
    table_fits (tables_in c.args.c c.args.transition.now c.args.observation.now c.args.reward.now)
    (sym c.judge_tables.ensures ∙ c.in_ok-judge_tables.was)

pub returns-then-list-size : goal.returns-then-list-size
unfolding list_verdict listed_of
returns-then-list-size c =
    let fine = sym c.judge_tables.ensures ∙ c.in_ok-judge_tables.was in
    let short = lt-leb _ _ (rw c.size.ensures at c.if-list-size.true) in
    record { value = rw (fine, short) refl; list_after = rw (fine, short) refl }

pub put_list-requires-clause-table_fits : goal.put_list-requires-clause-table_fits
put_list-requires-clause-table_fits c =
    table_fits (tables_in c.args.c c.args.transition.now c.args.observation.now c.args.reward.now)
    (sym c.judge_tables.ensures ∙ c.in_ok-judge_tables.was)

pub returns : goal.returns
unfolding list_verdict listed_of
returns c =
    let fine = sym c.judge_tables.ensures ∙ c.in_ok-judge_tables.was in
    let room = le-leb _ _ (rw c.size.ensures at c.if-list-size.false) in
    record { value = rw (fine, room) refl; list_after = rw (fine, room) c.put_list.ensures }
