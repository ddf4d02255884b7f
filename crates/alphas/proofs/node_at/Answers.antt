use Rattle.std.specs.Prelude.{Ok, Err}
use Rattle.alphas.proofs.Prelude.{ℕ, ◌<◌, refl, ◌≡◌, ap, ◌∙◌, List, arith, rules, Words, words_in, between, Answer, got, ◌then◌, handed, gave-back}
use Rattle.alphas.proofs.Prelude.{still-read, Unread, action, next_node, several}
use Rattle.alphas.specs.Alphas.{PolicyNode, node}
use Rattle.alphas.proofs.node_at.Goals as goal
use Rattle.alphas.proofs.node_at.Goals.{In_ok-action}

-- what follows the action, and the node's number
abbrev made : ℕ → List ℕ → Words → Answer PolicyNode
made a os ws = got (record { action = a; next = os }) ws

abbrev after : ℕ → ℕ → Words → Answer PolicyNode
after k a ws = several next_node k ws then made a

abbrev numbered : ℕ → ℕ → Words → Answer PolicyNode
numbered k _ ws = action ws then after k

pub returns-in_err-number : goal.returns-in_err-number
unfolding node
returns-in_err-number c =
    let x = c.number_at in
    let m : Unread x.result (Err c.in_err-number.field-0.0) = search rules in
    gave-back _ _ _ _ _ x.result _ (numbered c.args.k) m (handed _ c.from_residual.ensures) x.ensures.is refl

pub returns-in_err-action : goal.returns-in_err-action
unfolding node
returns-in_err-action c =
    let m : Unread c.number_at.result (Ok c.in_ok-number.number) = search rules in
    let m' : Unread c.action_at.result (Err c.in_err-action.field-0.0) = search rules in
    let x = rw (still-read c.number_at.result m) at c.number_at.ensures in
    gave-back _ _ _ _ _ c.action_at.result _ (after c.args.k) m' (handed _ c.from_residual-in_err-action.ensures) c.action_at.ensures.is
    (ap (λ (x : Answer ℕ). x then numbered c.args.k) x.is)

-- the number and the action were read: how far, and what is left
record Left (c : In_ok-action) : Type 0 where
  past : c.args.at < c.in_ok-action.action.next
  is : (several next_node c.args.k (words_in between c.args.file.now c.in_ok-action.action.next) then made c.in_ok-action.action.value)
      ≡ node c.args.k c.args.i (words_in between c.args.file.now c.args.at)

left : (c : In_ok-action) → Left c
unfolding node
left c =
    let m : Unread c.number_at.result (Ok c.in_ok-number.number) = search rules in
    let m' : Unread c.action_at.result (Ok c.in_ok-action.action) = search rules in
    let x = rw (still-read c.number_at.result m) at c.number_at.ensures in
    let y = rw (still-read c.action_at.result m') at c.action_at.ensures in
    record {
      past = omega (arith, x.onward, y.onward);
      is = ap (λ (x : Answer ℕ). x then after c.args.k) y.is ∙ ap (λ (x : Answer ℕ). x then numbered c.args.k) x.is;
    }

pub returns-in_err-nodes : goal.returns-in_err-nodes
returns-in_err-nodes c =
    let z = c.nexts_at in
    let m : Unread z.result (Err c.in_err-nodes.field-0.0) = search rules in
    gave-back _ _ _ _ _ z.result _ (made c.in_ok-action.action.value) m (handed _ c.from_residual-in_err-nodes.ensures) z.ensures.is
    (left (goal.at.returns-in_err-nodes c).In_ok-action).is

pub returns : goal.returns
returns c =
    let m : Unread c.nexts_at.result (Ok c.in_ok-nodes.field-0) = search rules in
    let z = rw (still-read c.nexts_at.result m) at c.nexts_at.ensures in
    let h = left (goal.at.returns c).In_ok-action in (
      ap (λ (t : Answer (List ℕ)). t then made c.in_ok-action.action.value) z.is ∙ h.is,
      (omega (arith, h.past, z.since), z.since.1),
    )
