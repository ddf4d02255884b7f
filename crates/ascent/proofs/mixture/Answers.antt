use Rattle.integers.proofs.Kit.{◌≡◌, ◌∙◌, refl, sym, arith, rules, length}
use lib.Seq.{ext_get_or}
use Rattle.integers.specs.Cells.{padded}
use Rattle.integers.proofs.Lists.{padded-none, padded-turn, padded-at, padded-length}
use Rattle.tables.specs.Limits.{max_states}
use Rattle.tables.specs.Storage.{weight_in}
use Rattle.ascent.proofs.mixture.Goals as goal

pub loop-s-init : goal.loop-s-init
loop-s-init c = sym (padded-none _ _ _)

pub loop-s-preserved : goal.loop-s-preserved
loop-s-preserved c = padded-turn _ _ _ _ c.loop-s.invariant refl (omega arith)

-- in the end they are as many as the start numbers, and the same at each place
pub returns : goal.returns
returns c =
    let start = c.args.start in
    let weights = padded 0 max_states max_states (weight_in start) in
    let e : c.loop-s.s ≡ max_states = omega arith in
    let long : length start ≡ max_states = search (rules, c.well_formed) in
    let many : length weights ≡ max_states = padded-length 0 max_states max_states _ (omega arith) in
    rw (c.loop-s.invariant, e) (ext_get_or 0 weights start (many ∙ sym long) (λ s b. padded-at 0 max_states max_states _ s 0 (omega (arith, many))))
