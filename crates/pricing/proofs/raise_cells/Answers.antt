use Rattle.integers.proofs.Kit.{◌≡◌, ◌∙◌, ◌+◌, ◌<◌, sym, ap, List, ℤ, pos, ℕ, arith, rules, get_or, set, length, drop}
use mathlib.Core.List.{◌++◌}
use lib.ListN.{take-append-drop, get_or-append}
use lib.Seq.{length-take-le, set-append_left}
use Rattle.integers.specs.Cells.{laid}
use Rattle.integers.proofs.Words.{back, answer}
use Rattle.integers.proofs.Lists.{laid_none, laid-turn}
use Rattle.plans.specs.Prices.{risen}
use Rattle.pricing.specs.Steps.{raised_in}
use Rattle.pricing.proofs.Moved.{still-here}
use Rattle.pricing.proofs.raise_cells.Goals as goal

-- the cells that are moved, before those that stay: the next one is as it was, and is then moved
module _ (count i : ℕ) (f : ℕ → ℤ) (xs cells : List ℤ) (so_far : cells ++ drop count xs ≡ laid i f xs) (inside : i < length cells) where
  next-here : get_or cells i (pos 0) ≡ get_or xs i (pos 0)
  next-here = sym (get_or-append cells (drop count xs) (pos 0) i inside) ∙ still-here i f xs so_far

  next-moved : {y : ℤ} → y ≡ f i → i < length xs → set cells i y ++ drop count xs ≡ laid (i + 1) f xs
  next-moved e l = sym (set-append_left cells (drop count xs) i _ inside) ∙ laid-turn f i xs (pos 0) so_far e l

pub loop-cell-init : goal.loop-cell-init
loop-cell-init c = take-append-drop c.args.count c.args.cells.now ∙ sym (laid_none _ _)

pub risen-requires : goal.risen-requires
risen-requires c =
    let a = c.args in
    let r = c.requires in
    let i = c.loop-cell.cell-index in
    let cells = c.loop-cell.cell-items in
    let below : i < a.count = omega (arith, length-take-le a.count a.cells.now r.within.long) in
    let here = next-here a.count i _ a.cells.now cells c.loop-cell.invariant (omega arith) in
    rw (back (get_or cells i (pos 0)) (search rules), here) (
      omega (arith, r.limit_le_max_entry),
      (omega (arith, r.limit_le_max_entry), omega (arith, r.within.within i below, r.limit_le_max_entry)),
    )

pub loop-cell-preserved : goal.loop-cell-preserved
loop-cell-preserved c =
    let a = c.args in
    let i = c.loop-cell.cell-index in
    let cells = c.loop-cell.cell-items in
    let here = next-here a.count i _ a.cells.now cells c.loop-cell.invariant (omega arith) in
    let moved = c.risen.ensures ∙ ap (λ (z : ℤ). risen a.limit z a.k) (back (get_or cells i (pos 0)) (search rules) ∙ here) in
    next-moved a.count i _ a.cells.now cells c.loop-cell.invariant (omega arith) (answer c.risen.type_inv moved)
    (omega (arith, length-take-le a.count a.cells.now c.requires.within.long, c.requires.within.long))

pub returns : goal.returns
returns c =
    let a = c.args in
    let e : c.loop-cell.cell-index ≡ a.count = omega (arith, length-take-le a.count a.cells.now c.requires.within.long) in
    c.loop-cell.invariant ∙ ap (λ (i : ℕ). laid i (raised_in a.limit a.k a.cells.now) a.cells.now) e
