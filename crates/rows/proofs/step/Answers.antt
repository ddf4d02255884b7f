use Rattle.rows.proofs.Prelude.{◌*◌, pos, ◌∙◌}
use Rattle.integers.proofs.Kit.{replicate}
use Rattle.tables.specs.Limits.{max_states, max_actions}
use Rattle.rows.proofs.Stepped.{cells-few, rows-pasted}
use Rattle.rows.proofs.step.Goals as goal

pub returns-clause-informed_after : goal.returns-clause-informed_after
returns-clause-informed_after c =
    let a = c.args in
    c.paste.ensures ∙ rows-pasted a.c.actions a.c.states _ a.informed.now (replicate (max_actions * max_states) (pos 0)) c.step_informed.ensures
    (cells-few c.requires.ready.0)

pub returns-clause-qmdp_after : goal.returns-clause-qmdp_after
returns-clause-qmdp_after c =
    let a = c.args in
    c.paste-2.ensures ∙ rows-pasted a.c.actions a.c.states _ a.qmdp.now (replicate (max_actions * max_states) (pos 0))
    (c.step_qmdp.ensures a.observation.now) (cells-few c.requires.ready.0)
