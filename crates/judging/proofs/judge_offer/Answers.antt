use Rattle.integers.proofs.Kit.{◌≡◌, ◌∙◌, sym, rules}
use Rattle.judging.proofs.Offers.{refused-shape, left-backups}
use Rattle.judging.proofs.judge_offer.Goals as goal

pub returns-in_err-judge_shape : goal.returns-in_err-judge_shape
returns-in_err-judge_shape c =
    let same : c.from_residual.result ≡ c.judge_shape.result = search rules in
    rw (sym c.holds.ensures ∙ c.if-not-holds.false) (same ∙ refused-shape _ _ _ c.judge_shape.ensures c.in_err-judge_shape.was)

pub returns : goal.returns
returns c =
    rw (sym c.holds.ensures ∙ c.if-not-holds.false) (left-backups _ _ _ c.judge_shape.ensures c.in_ok-judge_shape.was c.judge_backups.ensures)
