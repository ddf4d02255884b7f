use Rattle.integers.proofs.Kit.{ℕ, ◌≡◌, ◌∙◌, sym, Bool, true, List, arith, get_or}
use Rattle.integers.specs.Search.{every}
use Rattle.integers.proofs.Searches.{every-none, every_more, every-not}
use Rattle.masks.specs.Masks.{mask_of, covered_in}
use Rattle.masks.specs.Steps.{includes}
use Rattle.masks.proofs.Bits.{includes-every}
use Rattle.reaches.proofs.chosen_cover.Goals as goal

-- a mask that has all states covers each
covers-all : (masks : List ℕ) (n : ℕ) {i j all : ℕ} {r : Bool} → all ≡ mask_of n (λ s. true) → i ≡ j → r ≡ includes (get_or masks i 0) all
    → r ≡ every n (covered_in masks j)
covers-all masks n {j = j} made is said = said ∙ rw (made, is) (includes-every n (get_or masks j 0) (λ s. true))

pub loop-o-init : goal.loop-o-init
loop-o-init c = every-none _

pub returns-then-not-has : goal.returns-then-not-has
returns-then-not-has c =
    let said = covers-all c.args.masks.now c.args.n c.all-all.ensures c.choice_at-chosen.ensures c.if-not-has.ensures in
    sym (every-not _ _ c.loop-o.o (omega arith) (sym said))

pub loop-o-preserved : goal.loop-o-preserved
loop-o-preserved c =
    let said = covers-all c.args.masks.now c.args.n c.all-all.ensures c.choice_at-chosen.ensures c.if-not-has.ensures in
    every_more _ _ c.loop-o.invariant (sym said)
