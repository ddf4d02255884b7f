use Rattle.integers.proofs.Kit.{◌≡◌, refl, sym, false, arith, eq-eqb, ne_eqb, or-true}
use Rattle.integers.proofs.Searches.{every-none, every_more, every-not}
use Rattle.tables.specs.Storage.{observation_in, choice_in}
use Rattle.masks.specs.Masks.{covered_in}
use Rattle.reaches.proofs.seen_covered.Goals as goal

pub loop-o-init : goal.loop-o-init
loop-o-init c = every-none _

pub returns-then-not-covers : goal.returns-then-not-covers
returns-then-not-covers c =
    let a = c.args in
    let hidden : covered_in a.masks.now (choice_in a.k a.choices.now a.v.0 c.loop-o.o) a.to.0 ≡ false
    = sym (rw c.choice_at-chosen.ensures at c.if-not-covers.ensures) in
    let weight = observation_in a.n a.k a.observation.now a.a.0 a.to.0 c.loop-o.o in
    let seen : weight ≡ 0 → ⊥ = λ z. absurd (omega (arith, c.observation_at.ensures)) in
    sym (every-not _ _ c.loop-o.o (omega arith) (rw (ne_eqb weight 0 seen, hidden) refl))

pub loop-o-preserved : goal.loop-o-preserved
loop-o-preserved c = every_more _ _ c.loop-o.invariant (grind (arith, eq-eqb, or-true))
