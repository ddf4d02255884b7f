use Rattle.integers.proofs.Kit.{◌≡◌, rules}
use Rattle.std.specs.Prelude.{Err}
use Rattle.tables.specs.Tables.{Tables}
use Rattle.tables.specs.Storage.{tables_in}
use Rattle.levels.specs.Storage.{Lent, cells, rows, lent}
use Rattle.blocks.specs.Blocks.{Packed, packed}
use Rattle.replay.proofs.Runs.{list-packs, given}
use Rattle.replay.proofs.replay.Goals as goal
use Rattle.replay.proofs.replay.Goals.{After-passed-made}

-- what is lent
abbrev tables : After-passed-made → Tables
tables c = let a = c.args in tables_in a.c a.transition.now a.observation.now a.reward.now

abbrev certifier : After-passed-made → Lent
certifier c =
    let a = c.args in
    lent a.state.now (cells a.actions.now a.choices.now a.masks.now a.entries.now a.corners.now a.weights.now a.values.now)
    (rows a.informed.now a.qmdp.now)

abbrev offers : After-passed-made → Packed
offers c =
    let a = c.args in
    packed a.v a.p a.vectors.now a.points.now
    (cells a.newactions.now a.newchoices.now a.newmasks.now a.newentries.now a.newcorners.now a.newweights.now a.newvalues.now)

pub offer_all-accepted-requires : goal.offer_all-accepted-requires
offer_all-accepted-requires c =
    let s = (goal.at.offer_all-accepted-requires c).After-passed-made in
    list-packs (tables s) (certifier s) (offers s) s.args.count _ (s.judge_list-verdict.ensures s.args.choices.now) s.passed-made.ensures

pub returns-in_err-verdict : goal.returns-in_err-verdict
returns-in_err-verdict c =
    let s = (goal.at.returns-in_err-verdict c).After-passed-made in
    let z = c.offer_all-accepted.new in
    let same : c.from_residual.result ≡ Err c.in_err-verdict.field-0.0 = search rules in
    rw same (rw c.in_err-verdict.was at (given (tables s) (certifier s) (offers s) s.args.count _
    {y = lent z.state (cells z.actions z.choices z.masks z.entries z.corners z.weights z.values) (rows z.informed z.qmdp)}
    (s.judge_list-verdict.ensures s.args.choices.now) s.passed-made.ensures c.offer_all-accepted.ensures.0 c.offer_all-accepted.ensures.1))

pub returns : goal.returns
returns c =
    let s = (goal.at.returns c).After-passed-made in
    let z = c.offer_all-accepted.new in
    rw c.in_ok-verdict.was at (given (tables s) (certifier s) (offers s) s.args.count _
    {y = lent z.state (cells z.actions z.choices z.masks z.entries z.corners z.weights z.values) (rows z.informed z.qmdp)}
    (s.judge_list-verdict.ensures s.args.choices.now) s.passed-made.ensures c.offer_all-accepted.ensures.0 c.offer_all-accepted.ensures.1)
