use Rattle.integers.proofs.Kit.{◌≡◌, ◌∙◌, refl, sym, Bool, ◌||◌, true, false, arith}
use mathlib.Core.Bool.{not, or-true}
use Rattle.integers.specs.Search.{every}
use Rattle.integers.proofs.Searches.{every-none, every_more, every-not}
use Rattle.tables.specs.Storage.{transition_in, observation_in, choice_in}
use Rattle.masks.specs.Masks.{covered, covered_in}
use Rattle.reaches.specs.Steps.{reached_in}
use Rattle.reaches.proofs.Regroup.{reached-regrouped, reached-all}
use Rattle.reaches.proofs.reached_covered.Invariants.{from, asked}
use Rattle.reaches.proofs.reached_covered.Goals as goal
use Rattle.reaches.proofs.reached_covered.Goals.{Start, then-reached_by+else-not-seen_covered, else-reached_by}

-- what is asked state by state is the definition
regrouped : (c : Start)
    → let a = c.args in
    reached_in a.n a.k a.transition.now a.observation.now a.masks.now (covered a.mask) a.a.0
    (choice_in a.k a.choices.now a.v.0)
    ≡ every a.n (asked a.transition.now a.observation.now a.masks.now a.choices.now a.n a.k a.v.0 a.a.0 a.mask)
regrouped c =
    let a = c.args in
    reached-regrouped a.n a.k (λ s s'. transition_in a.n a.transition.now s a.a.0 s')
    (observation_in a.n a.k a.observation.now a.a.0)
    (λ o. covered_in a.masks.now (choice_in a.k a.choices.now a.v.0 o)) (covered a.mask)

pub returns-then-chosen_cover : goal.returns-then-chosen_cover
returns-then-chosen_cover c =
    let a = c.args in
    sym (reached-all a.n a.k (λ s s'. transition_in a.n a.transition.now s a.a.0 s')
    (observation_in a.n a.k a.observation.now a.a.0) (λ o. covered_in a.masks.now (choice_in a.k a.choices.now a.v.0 o))
    (covered a.mask) (sym c.if-chosen_cover.ensures))

pub loop-to-init : goal.loop-to-init
loop-to-init c = every-none _

-- a state that is reached and not covered refuses
refuses : {r s : Bool} → r ≡ true → s ≡ false → (not r || s) ≡ false
refuses e f = rw (e, f) refl

pub returns-then-not-seen_covered : goal.returns-then-not-seen_covered
returns-then-not-seen_covered c =
    sym (regrouped (goal.at.returns-then-not-seen_covered c).Start ∙ every-not _ _ c.loop-to.to (omega arith)
    (refuses (sym c.if-reached_by.ensures) (sym c.if-not-seen_covered.ensures)))

pub loop-to-preserved : goal.loop-to-preserved
loop-to-preserved c =
    let a = c.args in
    every_more _ _ c.loop-to.invariant (elim c.if-reached_by.branch [
      | then-reached_by+else-not-seen_covered w ↦
          rw (sym w.if-not-seen_covered.ensures) (or-true (not (from a.transition.now a.n a.a.0 a.mask c.loop-to.to)))
      | else-reached_by w ↦ rw (sym c.reached_by.ensures ∙ w.if-reached_by.false) refl
    ])

pub returns : goal.returns
returns c =
    let e : c.loop-to.to ≡ c.args.n = omega arith in
    sym (regrouped (goal.at.returns c).Start ∙ rw e at c.loop-to.invariant)
