use Rattle.std.proofs.lemmas.Iterator.{cases_from_any, YieldsList-from_slice}
use Rattle.std.specs.Bool.{MatchBool}
use Rattle.std.specs.List.{AllWithin, HoldsAt}
use lib.Seq.{length-take-le, get_or-take}
use Rattle.integers.proofs.Kit.{◌≡◌, ◌≤◌, ◌<◌, sym, true, false, Bool, ℕ, List, length, take, arith, rules}
use Rattle.integers.proofs.Searches.{some_at, some-none}
use Rattle.masks.specs.Steps.{includes, some_includes}
use Rattle.masks.proofs.some_has.Goals as goal

-- what is found of the first n masks: one that has the states, or that none has
found : (b : Bool) (n states : ℕ) (masks : List ℕ) → n ≤ length masks
    → MatchBool b ((v : ℕ) × (v < length (take n masks)) × HoldsAt (λ m. includes m states ≡ true) (take n masks) v)
    (AllWithin (λ m. includes m states ≡ false) (take n masks) 0 (length (take n masks)))
    → b ≡ some_includes masks n states
found true n states masks l h =
    let k : h.0 < n = omega (arith, length-take-le n masks l) in
    sym (some_at n _ h.0 k (rw (get_or-take n masks h.0 0 k) at (h.2 0)))
found false n states masks l h =
    let long = length-take-le n masks l in
    sym (some-none n _ (λ v k. rw (get_or-take n masks v 0 k) at (h v 0 (omega arith) (omega arith))))

pub returns : goal.returns
returns c =
    let a = c.args in
    found _ a.vectors a.states a.masks.now c.requires
    (cases_from_any _ _ _ (λ m. includes m a.states ≡ true) (λ m. includes m a.states ≡ false) c.any.ensures.ran
    (YieldsList-from_slice (take a.vectors a.masks.now) cc) (λ x q k. search rules) (λ x q k. search rules))
