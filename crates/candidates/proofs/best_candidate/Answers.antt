use Rattle.integers.proofs.Kit.{List, ℕ, ℤ, arith}
use Rattle.integers.proofs.Words.{answer}
use Rattle.tables.specs.declared.Counts.{Counts}
use Rattle.backups.specs.Steps.{Light}
use Rattle.candidates.specs.Steps.{Upon}
use Rattle.candidates.proofs.Actions.{Asked, weights-below, vector-fits, vector-product, best-first, best-larger, best-not-larger, best-found}
use Rattle.candidates.proofs.best_candidate.Goals as goal
use Rattle.candidates.proofs.best_candidate.Goals.{then-most-here, else-most-here}

asked : {c : Counts} {T O : List ℕ} {R : List ℤ} {masks : List ℕ} {entries : List ℤ} {vectors : ℕ} {p : List ℕ}
    → Upon c T O R masks entries vectors → Light c.states p → Asked c T O R masks entries vectors p
asked u l = record { upon = u; light = l }

-- ---- the first action
pub vector_for-best-requires-clause-below : goal.vector_for-best-requires-clause-below
vector_for-best-requires-clause-below c = weights-below (asked c.requires.upon c.requires.light)

pub vector_for-best-requires-clause-engine_fits : goal.vector_for-best-requires-clause-engine_fits
vector_for-best-requires-clause-engine_fits c =
    let some = c.requires.upon.valid.some_actions in
    (vector-fits (asked c.requires.upon c.requires.light) 0 some (c.requires.lists 0 some)).1.1.1.0

pub vector_for-best-requires-clause-by_index : goal.vector_for-best-requires-clause-by_index
vector_for-best-requires-clause-by_index c =
    let some = c.requires.upon.valid.some_actions in
    (vector-fits (asked c.requires.upon c.requires.light) 0 some (c.requires.lists 0 some)).1.1.1.1.0

pub vector_for-best-requires-clause-masked_fit : goal.vector_for-best-requires-clause-masked_fit
vector_for-best-requires-clause-masked_fit c =
    let some = c.requires.upon.valid.some_actions in
    (vector-fits (asked c.requires.upon c.requires.light) 0 some (c.requires.lists 0 some)).1.1.1.1.1

pub product-most-requires-clause-below : goal.product-most-requires-clause-below
product-most-requires-clause-below c =
    (vector-product (asked c.requires.upon c.requires.light) 0 c.vector_for-best.ensures c.requires.upon.valid.some_actions).1.0

pub product-most-requires-clause-by_index : goal.product-most-requires-clause-by_index
product-most-requires-clause-by_index c =
    (vector-product (asked c.requires.upon c.requires.light) 0 c.vector_for-best.ensures c.requires.upon.valid.some_actions).1.1

pub loop-a-init : goal.loop-a-init
loop-a-init c =
    best-first (asked c.requires.upon c.requires.light) c.vector_for-best.ensures (answer c.product-most.type_inv c.product-most.ensures)

-- ---- each further action
pub vector_for-next-requires-clause-below : goal.vector_for-next-requires-clause-below
vector_for-next-requires-clause-below c = weights-below c.loop-a.invariant.asked

pub vector_for-next-requires-clause-engine_fits : goal.vector_for-next-requires-clause-engine_fits
vector_for-next-requires-clause-engine_fits c =
    let l = c.loop-a-test.true in
    (vector-fits c.loop-a.invariant.asked c.loop-a.a l (c.requires.lists c.loop-a.a l)).1.1.1.0

pub vector_for-next-requires-clause-by_index : goal.vector_for-next-requires-clause-by_index
vector_for-next-requires-clause-by_index c =
    let l = c.loop-a-test.true in
    (vector-fits c.loop-a.invariant.asked c.loop-a.a l (c.requires.lists c.loop-a.a l)).1.1.1.1.0

pub vector_for-next-requires-clause-masked_fit : goal.vector_for-next-requires-clause-masked_fit
vector_for-next-requires-clause-masked_fit c =
    let l = c.loop-a-test.true in
    (vector-fits c.loop-a.invariant.asked c.loop-a.a l (c.requires.lists c.loop-a.a l)).1.1.1.1.1

pub product-here-requires-clause-below : goal.product-here-requires-clause-below
product-here-requires-clause-below c =
    (vector-product c.loop-a.invariant.asked c.loop-a.a c.vector_for-next.ensures c.loop-a-test.true).1.0

pub product-here-requires-clause-by_index : goal.product-here-requires-clause-by_index
product-here-requires-clause-by_index c =
    (vector-product c.loop-a.invariant.asked c.loop-a.a c.vector_for-next.ensures c.loop-a-test.true).1.1

pub loop-a-preserved : goal.loop-a-preserved
loop-a-preserved c =
    let so_far = c.loop-a.invariant in
    let found = c.vector_for-next.ensures in
    let here = answer c.product-here.type_inv c.product-here.ensures in
    elim c.if-most-here.branch [
      | then-most-here w ↦ best-larger so_far found here w.if-most-here.true w.action-is w.best-is w.most-is
      | else-most-here w ↦ best-not-larger so_far found here w.if-most-here.false w.action-is w.best-is w.most-is
    ]

pub returns : goal.returns
returns c = best-found c.loop-a.invariant (omega arith)
