use Rattle.integers.proofs.Kit.{◌≡◌, ◌∙◌, sym, ap, ℤ, pos, ℕ, ◌/◌, ◌%◌, arith, rules, get_or, cond, w64, to_z, of_z}
use native.Mathlib.Nat.{mod-lt, div-lt_iff_lt-mul, div-add-mod'}
use Rattle.integers.specs.Cells.{laid, laid_rows}
use Rattle.integers.proofs.Words.{back, answer}
use Rattle.integers.proofs.Lists.{laid_none, laid-turn}
use Rattle.tables.specs.Storage.{entry_in}
use Rattle.masks.specs.Masks.{covered_in}
use Rattle.plans.specs.Prices.{fallen}
use Rattle.pricing.proofs.Moved.{still-here}
use Rattle.pricing.proofs.lower_entries.Invariants.{entry}
use Rattle.pricing.proofs.lower_entries.Goals as goal

pub loop-i-init : goal.loop-i-init
loop-i-init c = sym (laid_none _ _)

-- what is handed on is the entry of that vector at that state
pub lowered-requires-clause-pos_bound : goal.lowered-requires-clause-pos_bound
lowered-requires-clause-pos_bound c =
    let a = c.args in
    let i = c.loop-i.i in
    let p = c.requires.vectors in
    let read : to_z w64 (of_z w64 (get_or c.loop-i.entries i (pos 0))) ≡ entry_in a.n a.entries.now (i / a.n) (i % a.n)
    = back (get_or c.loop-i.entries i (pos 0)) (search rules) ∙ still-here i _ a.entries.now c.loop-i.invariant
    ∙ ap (λ (j : ℕ). get_or a.entries.now j (pos 0)) (sym (div-add-mod' i a.n)) in
    rw read (p.entry (i / a.n) ((div-lt_iff_lt-mul p.some_states).1 c.loop-i-test.true) (i % a.n) (mod-lt i p.some_states))

pub loop-i-preserved : goal.loop-i-preserved
loop-i-preserved c =
    let a = c.args in
    let i = c.loop-i.i in
    let read : to_z w64 (of_z w64 (get_or c.loop-i.entries i (pos 0))) ≡ entry_in a.n a.entries.now (i / a.n) (i % a.n)
    = back (get_or c.loop-i.entries i (pos 0)) (search rules) ∙ still-here i _ a.entries.now c.loop-i.invariant
    ∙ ap (λ (j : ℕ). get_or a.entries.now j (pos 0)) (sym (div-add-mod' i a.n)) in
    laid-turn (entry a.n a.limit a.k a.masks.now a.entries.now) i a.entries.now (pos 0) c.loop-i.invariant
    (answer c.lowered.type_inv (c.lowered.ensures
    ∙ ap (λ (z : ℤ). cond (covered_in a.masks.now (i / a.n) (i % a.n)) (fallen a.limit z a.k) z) read))
    (omega (arith, c.requires.vectors.entries_long))

pub returns : goal.returns
unfolding laid_rows
returns c =
    let a = c.args in
    c.loop-i.invariant ∙ ap (λ (j : ℕ). laid j (entry a.n a.limit a.k a.masks.now a.entries.now) a.entries.now) (omega arith)
