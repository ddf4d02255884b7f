use Rattle.stated.proofs.Prelude.{arith, rules, ◌≡◌, sym, ◌∙◌, first-none, first_more, first-here}
use Rattle.levels.specs.Judged.{numbers_in}
use Rattle.stated.proofs.Choices.{numbers-said}
use Rattle.stated.proofs.numbers_hold.Invariants.{verdict}
use Rattle.stated.proofs.numbers_hold.Goals as goal
use Rattle.stated.proofs.numbers_hold.Goals.{After-vector_exists}

-- the verdict, by the vector's own number
said : (c : After-vector_exists) → c.vector_exists.result ≡ verdict c.args.alpha.now c.args.graph.now c.args.c c.args.standing c.args.t c.loop-v.v
said c = c.vector_exists.ensures ∙ numbers-said c.said_at-x.ensures c.args.c.actions c.args.standing

pub loop-v-init : goal.loop-v-init
loop-v-init c = (c.requires.start, first-none _)

pub returns-in_err-vector_exists : goal.returns-in_err-vector_exists
unfolding numbers_in
returns-in_err-vector_exists c =
    let e = said (goal.at.returns-in_err-vector_exists c).After-vector_exists in
    let same : c.from_residual.result ≡ c.vector_exists.result = search rules in
    let was = c.in_err-vector_exists.was in
    same ∙ was ∙ sym (first-here _ _ c.loop-v.v c.loop-v-test.true c.loop-v.invariant.1 (sym e ∙ was))

pub loop-v-preserved : goal.loop-v-preserved
loop-v-preserved c =
    let e = said (goal.at.loop-v-preserved c).After-vector_exists in
    (c.said_at-x.ensures.onward, first_more _ c.loop-v.v c.loop-v.invariant.1 (sym e ∙ c.in_ok-vector_exists.was))

pub returns : goal.returns
unfolding numbers_in
returns c = let e : c.loop-v.v ≡ c.args.count = omega arith in sym (rw e at c.loop-v.invariant.1)
