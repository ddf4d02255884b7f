use Rattle.std.proofs.Common.{◌<◌, Bool, false, take, tests}
use Rattle.std.proofs.lemmas.Iterator.{cases_from_all, YieldsList-from_slice}
use Rattle.std.specs.Bool.{MatchBool}
use Rattle.std.specs.List.{AllWithin, HoldsAt}
use lib.Seq.{length-take-le, get_or-take}
use Rattle.levels.proofs.Prelude.{◌≡◌, ◌≤◌, sym, true, ℕ, List, length, get_or, ltb, lt-ltb, le-ltb, arith, rules}
use Rattle.integers.proofs.Searches.{at_every, every-not}
use Rattle.integers.specs.Search.{every}
use Rattle.levels.proofs.shape.actions_exist.Goals as goal

-- what is found of the first n actions holds of each, or not
exist : (b : Bool) (m n : ℕ) (actions : List ℕ) → n ≤ length actions
    → MatchBool b (AllWithin (λ a. a < m) (take n actions) 0 (length (take n actions)))
    ((v : ℕ) × (v < length (take n actions)) × HoldsAt (λ a. m ≤ a) (take n actions) v)
    → b ≡ every n (λ v. ltb (get_or actions v 0) m)
exist true m n actions l h =
    let long = length-take-le n actions l in
    sym (at_every n _ (λ v k. lt-ltb _ _ (rw (get_or-take n actions v 0 k) at (h v 0 (omega arith) (omega arith)))))
exist false m n actions l h =
    let k : h.0 < n = omega (arith, length-take-le n actions l) in
    sym (every-not n _ h.0 k (le-ltb _ _ (rw (get_or-take n actions h.0 0 k) at (h.2 0))))

pub returns : goal.returns
returns c =
    let a = c.args in
    exist _ a.m a.vectors a.actions.now c.requires
    (cases_from_all _ _ _ (λ x. x < a.m) (λ x. a.m ≤ x) c.all.ensures.ran
    (YieldsList-from_slice (take a.vectors a.actions.now) cc) (λ x q k. search (rules, tests)) (λ x q k. search (rules, tests)))
