use Rattle.integers.proofs.Kit.{◌∙◌, sym, arith}
use Rattle.tables.specs.Tables.{Tables}
use Rattle.tables.specs.Storage.{tables_in}
use Rattle.levels.specs.Storage.{LentLevel, Lent, cells, rows, lent, lent_for}
use Rattle.judging.proofs.Shapes.{not-held, known, at_the_top, miscounted, small, short, no_room, left}
use Rattle.judging.proofs.judge_shape.Goals as goal
use Rattle.judging.proofs.judge_shape.Goals.{After-standing_holds}

-- what is lent
abbrev tables : After-standing_holds → Tables
tables c = let a = c.args in tables_in a.c a.transition.now a.observation.now a.reward.now

abbrev certifier : After-standing_holds → Lent
certifier c =
    let a = c.args in
    lent a.state.now (cells a.actions.now a.choices.now a.masks.now a.entries.now a.corners.now a.weights.now a.values.now)
    (rows a.informed.now a.qmdp.now)

abbrev offered : After-standing_holds → LentLevel
offered c =
    let a = c.args in
    lent_for a.vectors a.points
    (cells a.newactions.now a.newchoices.now a.newmasks.now a.newentries.now a.newcorners.now a.newweights.now a.newvalues.now)

pub returns-then-not-standing_holds : goal.returns-then-not-standing_holds
returns-then-not-standing_holds c =
    let s = (goal.at.returns-then-not-standing_holds c).After-standing_holds in
    not-held (tables s) (certifier s) (offered s)
    (sym (c.standing_holds.ensures c.args.choices.now) ∙ c.if-not-standing_holds.true)

pub standing_in-s-requires : goal.standing_in-s-requires
standing_in-s-requires c =
    let s = (goal.at.standing_in-s-requires c).After-standing_holds in
    (known (tables s) (certifier s) (offered s)
    (sym (c.standing_holds.ensures c.args.choices.now) ∙ c.if-not-standing_holds.false)).state-long

pub returns-then-s-ge-LEVELS : goal.returns-then-s-ge-LEVELS
returns-then-s-ge-LEVELS c =
    let s = (goal.at.returns-then-s-ge-LEVELS c).After-standing_holds in
    at_the_top (tables s) (certifier s) (offered s)
    (sym (c.standing_holds.ensures c.args.choices.now) ∙ c.if-not-standing_holds.false) c.standing_in-s.ensures c.if-s-ge-LEVELS.true

pub returns-then-not-counts_hold : goal.returns-then-not-counts_hold
returns-then-not-counts_hold c =
    let s = (goal.at.returns-then-not-counts_hold c).After-standing_holds in
    miscounted (tables s) (certifier s) (offered s)
    (sym (c.standing_holds.ensures c.args.choices.now) ∙ c.if-not-standing_holds.false) c.standing_in-s.ensures c.if-s-ge-LEVELS.false
    (sym c.counts_hold.ensures ∙ c.if-not-counts_hold.true)

pub complete-requires : goal.complete-requires
complete-requires c =
    let s = (goal.at.complete-requires c).After-standing_holds in
    small (tables s) (certifier s) (offered s)
    (sym (c.standing_holds.ensures c.args.choices.now) ∙ c.if-not-standing_holds.false) c.standing_in-s.ensures c.if-s-ge-LEVELS.false
    (sym c.counts_hold.ensures ∙ c.if-not-counts_hold.false)

pub returns-then-not-complete : goal.returns-then-not-complete
returns-then-not-complete c =
    let s = (goal.at.returns-then-not-complete c).After-standing_holds in
    short (tables s) (certifier s) (offered s)
    (sym (c.standing_holds.ensures c.args.choices.now) ∙ c.if-not-standing_holds.false) c.standing_in-s.ensures c.if-s-ge-LEVELS.false
    (sym c.counts_hold.ensures ∙ c.if-not-counts_hold.false) (sym c.complete.ensures ∙ c.if-not-complete.true)

pub complete-requires-2 : goal.complete-requires-2
complete-requires-2 c =
    let s = (goal.at.complete-requires-2 c).After-standing_holds in
    small (tables s) (certifier s) (offered s)
    (sym (c.standing_holds.ensures c.args.choices.now) ∙ c.if-not-standing_holds.false) c.standing_in-s.ensures c.if-s-ge-LEVELS.false
    (sym c.counts_hold.ensures ∙ c.if-not-counts_hold.false)

pub returns-then-not-complete-2 : goal.returns-then-not-complete-2
returns-then-not-complete-2 c =
    let s = (goal.at.returns-then-not-complete-2 c).After-standing_holds in
    no_room (tables s) (certifier s) (offered s)
    (sym (c.standing_holds.ensures c.args.choices.now) ∙ c.if-not-standing_holds.false) c.standing_in-s.ensures c.if-s-ge-LEVELS.false
    (sym c.counts_hold.ensures ∙ c.if-not-counts_hold.false) (sym c.complete.ensures ∙ c.if-not-complete.false)
    (sym c.complete-2.ensures ∙ c.if-not-complete-2.true)

pub judge_level-requires-clause-states_le_max_states : goal.judge_level-requires-clause-states_le_max_states
judge_level-requires-clause-states_le_max_states c =
    let s = (goal.at.judge_level-requires-clause-states_le_max_states c).After-standing_holds in
    let (states, (observations, (vectors, points))) = small (tables s) (certifier s) (offered s)
    (sym (c.standing_holds.ensures c.args.choices.now) ∙ c.if-not-standing_holds.false) c.standing_in-s.ensures c.if-s-ge-LEVELS.false
    (sym c.counts_hold.ensures ∙ c.if-not-counts_hold.false) in
    (states, (observations, (vectors, (points, omega arith))))

pub returns : goal.returns
returns c =
    let s = (goal.at.returns c).After-standing_holds in
    left (tables s) (certifier s) (offered s)
    (sym (c.standing_holds.ensures c.args.choices.now) ∙ c.if-not-standing_holds.false) c.standing_in-s.ensures c.if-s-ge-LEVELS.false
    (sym c.counts_hold.ensures ∙ c.if-not-counts_hold.false) (sym c.complete.ensures ∙ c.if-not-complete.false)
    (sym c.complete-2.ensures ∙ c.if-not-complete-2.false) c.judge_level.ensures
