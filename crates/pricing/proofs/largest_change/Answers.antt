use Rattle.integers.proofs.Kit.{◌≡◌, ◌∙◌, ◌<◌, sym, ap, ℕ, arith, rules, get_or, pos, length, take}
use Rattle.std.proofs.Common.{max}
use Rattle.std.proofs.lemmas.Slice.Zip.{zip_turn, zip_end}
use lib.ListN.{length-append}
use lib.Seq.{get_or-take, length-take-le}
use Rattle.integers.specs.Whole.{largest_to}
use Rattle.integers.proofs.Sums.{largest-none, largest-more}
use Rattle.integers.proofs.Words.{back}
use Rattle.pricing.specs.Steps.{change_at}
use Rattle.pricing.proofs.largest_change.Goals as goal
use Rattle.pricing.proofs.largest_change.Goals.{In-Some}

-- the two rewards of a turn lie at one place
pair : (c : In-Some) → let i = length c.loop-old.yielded in
    (i < c.args.count) × (c.in-Some.old.now ≡ get_or c.args.reward.now i (pos 0)) × (c.in-Some.changed.now ≡ get_or c.args.new.now i (pos 0))
pair c =
    let a = c.args in
    let i = length c.loop-old.yielded in
    let turn = zip_turn (take a.count a.reward.now) (take a.count a.new.now) c.loop-old.yielded c.into_iter-old-iterator.result c.loop-old.old-iterator
    c.next.new.self c.next.result (search rules) (search rules) c.loop-old.yielded_by (c.in-Some.old, c.in-Some.changed) c.in-Some.is c.next.ensures.steps in
    let below : i < a.count = omega (arith, turn.0, length-take-le a.count a.reward.now c.requires.within.long) in
    (below, turn.2 (pos 0) ∙ get_or-take a.count a.reward.now i (pos 0) below, turn.3 (pos 0) ∙ get_or-take a.count a.new.now i (pos 0) below)

pub loop-old-init : goal.loop-old-init
loop-old-init c = sym (largest-none _)

pub apart-requires : goal.apart-requires
apart-requires c =
    let a = c.args in
    let i = length c.loop-old.yielded in
    let p = pair (goal.at.apart-requires c).In-Some in
    rw (p.1, p.2, back (get_or a.reward.now i (pos 0)) (search rules), back (get_or a.new.now i (pos 0)) (search rules))
    (c.requires.within.within i p.0, c.requires.within_2.within i p.0)

pub loop-old-preserved : goal.loop-old-preserved
loop-old-preserved c =
    let a = c.args in
    let i = length c.loop-old.yielded in
    let f = change_at a.reward.now a.new.now in
    let p = pair (goal.at.loop-old-preserved c).In-Some in
    let said : c.apart.result ≡ f i = c.apart.ensures ∙ rw (
      p.1,
      p.2,
      back (get_or a.reward.now i (pos 0)) (search rules),
      back (get_or a.new.now i (pos 0)) (search rules),
    ) in
    rw length-append
    (c.max-most.ensures ∙ ap (λ (z : ℕ). max z c.apart.result) c.loop-old.invariant ∙ ap (λ (z : ℕ). max (largest_to i f) z) said ∙ sym (largest-more i f))

pub returns : goal.returns
returns c =
    let a = c.args in
    let end = zip_end (take a.count a.reward.now) (take a.count a.new.now) c.loop-old.yielded c.into_iter-old-iterator.result c.loop-old.old-iterator
    c.next.new.self c.next.result (search rules) (search rules) c.loop-old.yielded_by c.in-None.is c.next.ensures.steps in
    let e : length c.loop-old.yielded ≡ a.count =
    omega (arith, end, length-take-le a.count a.reward.now c.requires.within.long, length-take-le a.count a.new.now c.requires.within_2.long) in
    rw e at c.loop-old.invariant
