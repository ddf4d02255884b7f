use Rattle.vectors.proofs.Prelude.{◌∙◌, refl, answer}
use Rattle.sums.specs.Steps.{backup_in}
use Rattle.sums.proofs.Regroup.{onward-limit}
use Rattle.vectors.proofs.backup.Goals as goal

pub backup_from-requires-clause-later_bound : goal.backup_from-requires-clause-later_bound
backup_from-requires-clause-later_bound c =
    let r = c.requires in
    let (states, (_, (state, _))) = r.n_le_max_states in
    rw (answer c.onward-later.type_inv c.onward-later.ensures) (onward-limit r.transitions_fit r.within state states)

pub returns : goal.returns
unfolding backup_in
returns c = answer c.backup_from.type_inv (c.backup_from.ensures ∙ rw (answer c.onward-later.type_inv c.onward-later.ensures) refl)
