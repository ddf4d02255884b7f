use Rattle.integers.proofs.Kit.{◌∙◌, refl, sym, true}
use Rattle.integers.proofs.Lists.{laid_none, laid-turn, same-laid}
use Rattle.tables.specs.Limits.{max_observations}
use Rattle.masks.specs.Masks.{mask_of}
use Rattle.opening.proofs.lay_level_0.Goals as goal

pub returns-clause-actions_after : goal.returns-clause-actions_after
returns-clause-actions_after c =
    let a = c.args.actions.now in laid-turn (λ v. 0) 0 a 0 (sym (laid_none (λ v. 0) a)) refl c.requires.actions_nonzero.0

pub returns-clause-choices_after : goal.returns-clause-choices_after
returns-clause-choices_after c =
    c.paste.ensures ∙ same-laid 0 max_observations c.args.k c.args.choices.now c.requires.n_nonzero.1.1

pub returns-clause-masks_after : goal.returns-clause-masks_after
returns-clause-masks_after c =
    let a = c.args.masks.now in
    let all = mask_of c.args.n (λ s. true) in
    laid-turn (λ v. all) 0 a c.all.result (sym (laid_none (λ v. all) a)) c.all.ensures c.requires.actions_nonzero.1.1.0
