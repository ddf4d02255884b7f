use Rattle.integers.proofs.Kit.{◌≡◌, ◌∙◌, refl, sym, ap, Bool, List, ℕ, ◌<◌, ◌^◌, arith, rules, w64, to_z, of_z, ℤ, pos, mag, get_or, le_z}
use Rattle.integers.specs.Cells.{padded}
use Rattle.integers.proofs.Lists.{padded-at}
use Rattle.integers.proofs.Words.{answer, back}
use Rattle.tables.specs.Limits.{max_states}
use Rattle.refusals.proofs.Refusals.{first-here, first_more, first-none}
use Rattle.floors.proofs.Floors.{floors-are, entry-unread, acts-in, observations-here, Ready, ready, entry-passes, entry-fails}
use Rattle.floors.proofs.floors_hold.Goals as goal
use Rattle.floors.proofs.floors_hold.Goals.{After-foreseen-f, then-covers+else-not-entry_holds, else-covers}

-- the vector with its action and what it foresees
taken : (c : After-foreseen-f) → Ready c.requires.judging c.vectors-test.true c.action.ensures c.foreseen-f.result
taken c = ready c.requires.judging c.vectors-test.true c.action.ensures c.foreseen-f.ensures

-- the answer, by the entry's own backup
said : (n s : ℕ) (bs : List ℤ) (g : ℕ → ℤ) (x : ℤ) (b : Bool) → mag (get_or bs s (pos 0)) < 2 ^ 63 → bs ≡ padded (pos 0) max_states n g → s < n
    → b ≡ le_z x (to_z w64 (of_z w64 (get_or bs s (pos 0)))) → b ≡ le_z x (g s)
said n s bs g x b fits made l e =
    e ∙ ap (le_z x) (back _ fits ∙ ap (λ (bs : List ℤ). get_or bs s (pos 0)) made ∙ padded-at (pos 0) max_states n g s (pos 0) l)

pub vectors-init : goal.vectors-init
vectors-init c = (refl, first-none _)

pub foreseen-f-requires-clause-observations_fit : goal.foreseen-f-requires-clause-observations_fit
foreseen-f-requires-clause-observations_fit c = observations-here c.requires.judging c.vectors-test.true c.action.ensures

pub backups-b-requires-clause-engine_fits : goal.backups-b-requires-clause-engine_fits
backups-b-requires-clause-engine_fits c = record {
  transitions = (taken (goal.at.backups-b-requires-clause-engine_fits c).After-foreseen-f).transitions;
  listed = c.requires.lists _ (acts-in c.requires.judging c.vectors-test.true c.action.ensures);
}

pub backups-b-requires-clause-rewards_fit : goal.backups-b-requires-clause-rewards_fit
backups-b-requires-clause-rewards_fit c = (taken (goal.at.backups-b-requires-clause-rewards_fit c).After-foreseen-f).rewards

pub backups-b-requires-clause-within : goal.backups-b-requires-clause-within
backups-b-requires-clause-within c = (taken (goal.at.backups-b-requires-clause-within c).After-foreseen-f).within

pub loop-s-init : goal.loop-s-init
loop-s-init c = (c.vectors.invariant.0, first-none _)

pub loop-s-preserved : goal.loop-s-preserved
loop-s-preserved c =
    let s = c.loop-s.s in
    let r = taken (goal.at.loop-s-preserved c).After-foreseen-f in (
      c.loop-s.invariant.0,
      first_more _ _ c.loop-s.invariant.1 (elim c.if-covers.branch [
        | then-covers+else-not-entry_holds w ↦
            let fits : mag (get_or c.backups-b.result s (pos 0)) < 2 ^ 63 = search rules in
            entry-passes c.requires.judging c.vectors-test.true c.action.ensures r s (sym c.covers.ensures ∙ w.if-covers.true)
            (answer w.entry_at-e.type_inv w.entry_at-e.ensures)
            (said _ s _ _ _ _ fits c.backups-b.ensures c.loop-s-test.true w.entry_holds.ensures) w.if-not-entry_holds.false
        | else-covers w ↦ entry-unread _ _ _ _ _ _ _ _ _ _ _ _ (sym c.covers.ensures ∙ w.if-covers.false)
      ]),
    )

pub vectors-preserved : goal.vectors-preserved
vectors-preserved c =
    let e : c.loop-s.s ≡ c.args.c.states = omega arith in
    (c.loop-s.invariant.0, first_more _ _ c.vectors.invariant.1 (rw e at c.loop-s.invariant.1))

pub returns-after-vectors : goal.returns-after-vectors
returns-after-vectors c =
    let e : c.vectors.v ≡ c.args.vectors = omega arith in
    c.vectors.invariant.0 ∙ sym (rw e at c.vectors.invariant.1) ∙ sym (floors-are _ _ _ _ _ _ _ _ _ _ _)

pub returns-then-not-entry_holds : goal.returns-then-not-entry_holds
returns-then-not-entry_holds c =
    let s = c.loop-s.s in
    let fits : mag (get_or c.backups-b.result s (pos 0)) < 2 ^ 63 = search rules in
    let failed = entry-fails c.requires.judging c.vectors-test.true c.action.ensures (taken (goal.at.returns-then-not-entry_holds c).After-foreseen-f) s
    (sym c.covers.ensures ∙ c.if-covers.true) (answer c.entry_at-e.type_inv c.entry_at-e.ensures)
    (said _ s _ _ _ _ fits c.backups-b.ensures c.loop-s-test.true c.entry_holds.ensures) c.if-not-entry_holds.true in
    sym
    (floors-are _ _ _ _ _ _ _ _ _ _ _
    ∙ first-here _ _ _ c.vectors-test.true c.vectors.invariant.1 (first-here _ _ _ c.loop-s-test.true c.loop-s.invariant.1 failed))
