use Rattle.integers.proofs.Kit.{List, ℤ}
use Rattle.tables.specs.Tables.{Tables}
use Rattle.tables.specs.Limits.{max_vectors}
use Rattle.tables.specs.Storage.{tables_in}
use Rattle.levels.specs.Storage.{LentLevel, Lent, cells, rows, lent, lent_for, standing_at}
use Rattle.runs.proofs.Judged.{RowsIn, Accepted, accepted}
use Rattle.rows.specs.Steps.{Ready}
use Rattle.rows.proofs.Stepped.{ready, seen}
use Rattle.accepting.proofs.Raised.{lays, raised_is}
use Rattle.accepting.proofs.settle.Goals as goal
use Rattle.accepting.proofs.settle.Goals.{In_ok-verdict}

-- what is lent
abbrev tables : In_ok-verdict → Tables
tables c = tables_in c.args.c c.args.transition.now c.args.observation.now c.args.reward.now

abbrev certifier : In_ok-verdict → Lent
certifier c =
    let a = c.args in
    lent a.state.now (cells a.actions.now a.choices.now a.masks.now a.entries.now a.corners.now a.weights.now a.values.now)
    (rows a.informed.now a.qmdp.now)

abbrev offered : In_ok-verdict → LentLevel
offered c =
    let a = c.args in
    lent_for a.vectors a.points
    (cells a.newactions.now a.newchoices.now a.newmasks.now a.newentries.now a.newcorners.now a.newweights.now a.newvalues.now)

passed : (c : In_ok-verdict) → Accepted max_vectors (tables c) (certifier c) (offered c)
passed c = accepted max_vectors (tables c) (certifier c) (offered c) (c.requires c.in_ok-verdict.was)

pub raise_standing-requires : goal.raise_standing-requires
raise_standing-requires c = let p = passed (goal.at.raise_standing-requires c).In_ok-verdict in (p.standing.state-long, p.room)

pub lay_level-requires-clause-lays : goal.lay_level-requires-clause-lays
lay_level-requires-clause-lays c =
    let f = (goal.at.lay_level-requires-clause-lays c).In_ok-verdict in
    let p = passed f in
    lays (tables f) (certifier f).cells p.standing.valid-tables p.shaped.few_vectors p.shaped.few_points p.held

pub lay_level-requires-clause-lays_2 : goal.lay_level-requires-clause-lays_2
lay_level-requires-clause-lays_2 c =
    let f = (goal.at.lay_level-requires-clause-lays_2 c).In_ok-verdict in
    let p = passed f in
    lays (tables f) (offered f).cells p.standing.valid-tables p.shaped.few_vectors p.shaped.few_points p.given

-- the rows that stand are within the range of their level
pub step-requires-clause-ready : goal.step-requires-clause-ready
step-requires-clause-ready c =
    let f = (goal.at.step-requires-clause-ready c).In_ok-verdict in
    let a = c.args in
    let p = (passed f).standing in
    let made : (cells : List ℤ) → RowsIn a.c.actions a.c.states (standing_at a.state.now).number cells
    → Ready a.c a.transition.now a.reward.now cells = λ cells r.
    ready a.c a.transition.now a.observation.now a.reward.now p.valid-tables p.stored-tables cells _ p.few-levels r.long
    r.entry in
    (made a.informed.now p.informed, made a.qmdp.now p.qmdp)

pub step-requires-clause-seen : goal.step-requires-clause-seen
step-requires-clause-seen c =
    let a = c.args in
    let p = (passed (goal.at.step-requires-clause-seen c).In_ok-verdict).standing in
    seen a.c a.transition.now a.observation.now a.reward.now p.valid-tables p.stored-tables

pub returns-clause-qmdp_after : goal.returns-clause-qmdp_after
returns-clause-qmdp_after c =
    let f = (goal.at.returns-clause-qmdp_after c).In_ok-verdict in
    rw c.in_ok-verdict.was
    (raised_is (tables f) (certifier f) (offered f) c.raise_standing.ensures c.lay_level.ensures c.step.ensures.informed_after c.step.ensures.qmdp_after)
