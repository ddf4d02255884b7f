use Rattle.std.specs.Prelude.{Ok, Err}
use Rattle.alphas.proofs.Prelude.{ℕ, refl, ap, ◌∙◌, List, arith, rules, Words, Answer, got, ◌then◌, handed, gave-back, still-read, Unread}
use Rattle.alphas.proofs.Prelude.{decimal, several}
use Rattle.integers.proofs.Kit.{ℤ}
use Rattle.alphas.specs.Alphas.{Alpha, alpha}
use Rattle.alphas.proofs.alpha_at.Goals as goal

-- what follows the action
abbrev made : ℕ → List ℤ → Words → Answer Alpha
made a ts ws = got (record { action = a; ticks = ts }) ws

abbrev after : ℕ → ℕ → Words → Answer Alpha
after n a ws = several decimal n ws then made a

pub returns-in_err-action : goal.returns-in_err-action
unfolding alpha
returns-in_err-action c =
    let x = c.action_at in
    let m : Unread x.result (Err c.in_err-action.field-0.0) = search rules in
    gave-back _ _ _ _ _ x.result _ (after c.args.n) m (handed _ c.from_residual.ensures) x.ensures.is refl

pub returns-in_err-ticks : goal.returns-in_err-ticks
unfolding alpha
returns-in_err-ticks c =
    let m : Unread c.action_at.result (Ok c.in_ok-action.action) = search rules in
    let m' : Unread c.ticks_at.result (Err c.in_err-ticks.field-0.0) = search rules in
    let x = rw (still-read c.action_at.result m) at c.action_at.ensures in
    gave-back _ _ _ _ _ c.ticks_at.result _ (made c.in_ok-action.action.value) m' (handed _ c.from_residual-in_err-ticks.ensures) c.ticks_at.ensures.is
    (ap (λ (x : Answer ℕ). x then after c.args.n) x.is)

pub returns : goal.returns
unfolding alpha
returns c =
    let m : Unread c.action_at.result (Ok c.in_ok-action.action) = search rules in
    let m' : Unread c.ticks_at.result (Ok c.in_ok-ticks.field-0) = search rules in
    let x = rw (still-read c.action_at.result m) at c.action_at.ensures in
    let y = rw (still-read c.ticks_at.result m') at c.ticks_at.ensures in (
      ap (λ (t : Answer (List ℤ)). t then made c.in_ok-action.action.value) y.is ∙ ap (λ (x : Answer ℕ). x then after c.args.n) x.is,
      (omega (arith, x.onward, y.since), y.since.1),
    )
