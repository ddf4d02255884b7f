use Rattle.integers.proofs.Kit.{◌≡◌, ◌∙◌, rules}
use Rattle.tables.specs.Limits.{max_vectors}
use Rattle.tables.specs.Tables.{Tables}
use Rattle.tables.specs.Storage.{tables_in}
use Rattle.levels.specs.Storage.{LentLevel, Lent, cells, rows, lent, lent_for}
use Rattle.columns.specs.Steps.{Lists}
use Rattle.lists.proofs.Fitting.{list-listed}
use Rattle.runs.proofs.Judged.{Fitting, fitting}
use Rattle.judging.proofs.Offers.{refused-21, refused-13, left-14, reaching, judging, standing-roof, offered-roof, offered-shaped}
use Rattle.judging.proofs.judge_backups.Goals as goal
use Rattle.judging.proofs.judge_backups.Goals.{After-standing_in-s}

-- what is lent
abbrev tables : After-standing_in-s → Tables
tables c = let a = c.args in tables_in a.c a.transition.now a.observation.now a.reward.now

abbrev certifier : After-standing_in-s → Lent
certifier c =
    let a = c.args in
    lent a.state.now (cells a.actions.now a.choices.now a.masks.now a.entries.now a.corners.now a.weights.now a.values.now)
    (rows a.informed.now a.qmdp.now)

abbrev offered : After-standing_in-s → LentLevel
offered c =
    let a = c.args in
    lent_for a.vectors a.points
    (cells a.newactions.now a.newchoices.now a.newmasks.now a.newentries.now a.newcorners.now a.newweights.now a.newvalues.now)

known : (c : After-standing_in-s) → Fitting max_vectors (tables c) (certifier c) (offered c)
known c = fitting max_vectors (tables c) (certifier c) (offered c) c.requires.newvalues_value

lists : (c : After-standing_in-s) → Lists c.args.c c.args.transition.now c.args.list.now
lists c = list-listed (tables c) c.args.list.now (known c).standing.valid-tables c.requires.list_value

pub standing_in-s-requires : goal.standing_in-s-requires
standing_in-s-requires c = (fitting max_vectors _ _ _ c.requires.newvalues_value).standing.state-long

pub masks_hold-requires-clause-reaching : goal.masks_hold-requires-clause-reaching
masks_hold-requires-clause-reaching c =
    let s = (goal.at.masks_hold-requires-clause-reaching c).After-standing_in-s in reaching (tables s) (certifier s) (offered s) (known s)

pub masks_hold-requires-clause-by_index : goal.masks_hold-requires-clause-by_index
masks_hold-requires-clause-by_index c =
    let s = (goal.at.masks_hold-requires-clause-by_index c).After-standing_in-s in
    λ v b. lists s _ ((offered-shaped (tables s) (certifier s) (offered s) (known s)).action_in v b)

pub returns-in_err-masks_hold : goal.returns-in_err-masks_hold
returns-in_err-masks_hold c =
    let s = (goal.at.returns-in_err-masks_hold c).After-standing_in-s in
    let same : c.from_residual.result ≡ c.masks_hold.result = search rules in
    same ∙ refused-21 (tables s) (certifier s) (offered s) c.masks_hold.ensures c.in_err-masks_hold.was

pub floors_hold-requires-clause-judging : goal.floors_hold-requires-clause-judging
floors_hold-requires-clause-judging c =
    let s = (goal.at.floors_hold-requires-clause-judging c).After-standing_in-s in judging (tables s) (certifier s) (offered s) (known s)

pub floors_hold-requires-clause-lists : goal.floors_hold-requires-clause-lists
floors_hold-requires-clause-lists c = lists (goal.at.floors_hold-requires-clause-lists c).After-standing_in-s

pub returns-in_err-floors_hold : goal.returns-in_err-floors_hold
returns-in_err-floors_hold c =
    let s = (goal.at.returns-in_err-floors_hold c).After-standing_in-s in
    let same : c.from_residual-in_err-floors_hold.result ≡ c.floors_hold.result = search rules in
    same ∙ refused-13 (tables s) (certifier s) (offered s) c.masks_hold.ensures c.in_ok-masks_hold.was c.floors_hold.ensures c.in_err-floors_hold.was

pub roof_holds-requires-clause-roofed : goal.roof_holds-requires-clause-roofed
roof_holds-requires-clause-roofed c =
    let s = (goal.at.roof_holds-requires-clause-roofed c).After-standing_in-s in
    rw c.standing_in-s.ensures (standing-roof (tables s) (certifier s) (offered s) (known s))

pub roof_holds-requires-clause-roofed_2 : goal.roof_holds-requires-clause-roofed_2
roof_holds-requires-clause-roofed_2 c =
    let s = (goal.at.roof_holds-requires-clause-roofed_2 c).After-standing_in-s in offered-roof (tables s) (certifier s) (offered s) (known s)

pub roof_holds-requires-clause-lists : goal.roof_holds-requires-clause-lists
roof_holds-requires-clause-lists c = lists (goal.at.roof_holds-requires-clause-lists c).After-standing_in-s

pub returns : goal.returns
returns c =
    let s = (goal.at.returns c).After-standing_in-s in
    left-14 (tables s) (certifier s) (offered s) c.masks_hold.ensures c.in_ok-masks_hold.was c.floors_hold.ensures c.in_ok-floors_hold.was
    (rw c.standing_in-s.ensures at c.roof_holds.ensures)
