use Rattle.integers.proofs.Kit.{◌∙◌, ◌*◌, pos}
use Rattle.integers.proofs.Lists.{paste-laid}
use Rattle.levels.proofs.Over.{same_cells}
use Rattle.laying.proofs.lay_level.Goals as goal

pub returns : goal.returns
returns c =
    let g = c.args in
    let p = c.requires.lays_2 in
    same_cells (c.paste.ensures ∙ paste-laid g.vectors g.actions.now g.newactions.now 0 p.actions_long)
    (c.paste-2.ensures ∙ paste-laid (g.vectors * g.k) g.choices.now g.newchoices.now 0 p.choices_long)
    c.lay_masks.ensures
    c.lay_entries.ensures
    (c.paste-3.ensures ∙ paste-laid g.n g.corners.now g.newcorners.now (pos 0) p.corners_long)
    (c.paste-4.ensures ∙ paste-laid (g.points * g.n) g.weights.now g.newweights.now 0 p.weights_long)
    (c.paste-5.ensures ∙ paste-laid g.points g.values.now g.newvalues.now (pos 0) p.values_long)
