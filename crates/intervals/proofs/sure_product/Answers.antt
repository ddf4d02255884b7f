use Rattle.integers.proofs.Kit.{◌≤◌, ◌<◌, ◌+◌, ◌≡◌, ◌∙◌, sym, arith, rules, ℕ, ℤ, List, get_or, pos, nat_abs, w64, to_z, of_z, ◌*◌, ◌^◌, lit<}
use Rattle.integers.proofs.Words.{answer}
use Rattle.integers.specs.Whole.{◌·◌, sum_to, Below}
use Rattle.integers.proofs.Sums.{sum-none, sum_step}
use Rattle.tables.specs.Limits.{max_states, max_weight, max_entry}
use Rattle.tables.specs.Storage.{weight_in}
use Rattle.products.proofs.Weighed.{weighed-fits}
use Rattle.intervals.specs.Steps.{weight_for}
use Rattle.intervals.proofs.Ranges.{weight-by, least-sum}
use Rattle.intervals.proofs.sure_product.Goals as goal

module _ (over under : List ℕ) (cells : List ℤ) (at : ℕ) where
  -- the entry of a state, and the weight that it takes
  abbrev entry : ℕ → ℤ
  entry s = get_or cells (at + s) (pos 0)

  abbrev weight : ℕ → ℕ
  weight s = weight_for (weight_in over s) (weight_in under s) (entry s)

  -- the next term of the sum fits
  term-fits : (n s : ℕ) {sum a : ℤ} {k : ℕ} → n ≤ max_states → Below max_weight n over × Below max_weight n under
      → ((s : ℕ) → s < n → 0 < weight_in over s + weight_in under s → nat_abs (entry s) ≤ max_entry)
      → sum ≡ sum_to s (λ i. weight i · entry i) → k ≡ weight s → a ≡ entry s → s < n → (k < 2 ^ 63) × (nat_abs sum + k * nat_abs a < 2 ^ 63)
  term-fits n s few fit within so_far k a l =
      weighed-fits weight entry (λ i l. weight-by _ _ (λ w. w ≤ max_weight) (fit.0.below i l) (fit.1.below i l) (entry i))
      (λ i l above. within i l
      (weight-by _ _ (λ w. 0 < w → 0 < weight_in over i + weight_in under i) (λ h. omega arith) (λ h. omega arith) (entry i) above))
      s so_far k a l (lit< tt) (omega arith)

pub loop-s-init : goal.loop-s-init
loop-s-init c = sym (sum-none _)

pub add_scaled-sum-requires-clause-k_bound : goal.add_scaled-sum-requires-clause-k_bound
add_scaled-sum-requires-clause-k_bound c =
    let a = c.args in
    let e = entry a.over.now a.under.now a.cells.now a.at c.loop-s.s in
    let same : to_z w64 (of_z w64 e) ≡ e = search rules in
    (term-fits a.over.now a.under.now a.cells.now a.at a.n c.loop-s.s c.requires.n_le_max_states.0 c.requires.below c.requires.by_index
    c.loop-s.invariant (rw same at c.weight_for.ensures) same c.loop-s-test.true).0

pub add_scaled-sum-requires-clause-a_bound : goal.add_scaled-sum-requires-clause-a_bound
add_scaled-sum-requires-clause-a_bound c =
    let a = c.args in
    let e = entry a.over.now a.under.now a.cells.now a.at c.loop-s.s in
    let same : to_z w64 (of_z w64 e) ≡ e = search rules in
    (term-fits a.over.now a.under.now a.cells.now a.at a.n c.loop-s.s c.requires.n_le_max_states.0 c.requires.below c.requires.by_index
    c.loop-s.invariant (rw same at c.weight_for.ensures) same c.loop-s-test.true).1

pub loop-s-preserved : goal.loop-s-preserved
loop-s-preserved c =
    let a = c.args in
    let e = entry a.over.now a.under.now a.cells.now a.at c.loop-s.s in
    let same : to_z w64 (of_z w64 e) ≡ e = search rules in
    answer c.add_scaled-sum.type_inv (c.add_scaled-sum.ensures ∙ rw (same, rw same at c.weight_for.ensures) (sum_step _ _ c.loop-s.invariant))

pub returns : goal.returns
returns c =
    let a = c.args in
    let e : c.loop-s.s ≡ a.n = omega arith in
    rw e at c.loop-s.invariant
    ∙ sym (least-sum a.n (weight_in a.over.now) (weight_in a.under.now) (entry a.over.now a.under.now a.cells.now a.at))
