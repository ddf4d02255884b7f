use Rattle.std.proofs.Common.{◌≡◌, ℕ, sym, ◌∙◌, List, [], arith, true, false}
use Rattle.integers.proofs.Kit.{lt-ltb, ltb}
use Rattle.tables.specs.Limits.{max_vectors}
use Rattle.refusals.proofs.Refusals.{breaks, passes}
use Rattle.levels.specs.declared.Standing.{Standing}
use Rattle.levels.specs.Storage.{standing_at}
use Rattle.runs.specs.State.{standing_verdict}
use Rattle.runs.proofs.Judged.{standing-true}
use Rattle.asking.proofs.judge_standing.Goals as goal

-- no level was accepted, or some was
none_stands : (state : List ℕ) {s : Standing} → s ≡ standing_at state → s.number ≡ 0 → ltb 0 (standing_at state).number ≡ false
none_stands state e z = rw (rw e at z)

some_stands : (state : List ℕ) {s : Standing} → s ≡ standing_at state → (s.number ≡ 0 → ⊥) → ltb 0 (standing_at state).number ≡ true
some_stands state {s} e n = let above : ltb 0 s.number ≡ true = lt-ltb 0 s.number (omega arith) in rw e at above

pub returns-then-not-standing_holds : goal.returns-then-not-standing_holds
unfolding standing_verdict
returns-then-not-standing_holds c choices = breaks _ (sym (c.standing_holds.ensures choices) ∙ c.if-not-standing_holds.true)

pub standing_in-s-requires : goal.standing_in-s-requires
standing_in-s-requires c = (standing-true max_vectors _ _ (sym (c.standing_holds.ensures []) ∙ c.if-not-standing_holds.false)).state-long

pub returns-then-s-eq0 : goal.returns-then-s-eq0
unfolding standing_verdict
returns-then-s-eq0 c choices =
    passes 7 0 (sym (c.standing_holds.ensures choices) ∙ c.if-not-standing_holds.false)
    (rw (none_stands c.args.state.now c.standing_in-s.ensures c.if-s-eq0.true))

pub returns : goal.returns
unfolding standing_verdict
returns c choices =
    passes 7 0 (sym (c.standing_holds.ensures choices) ∙ c.if-not-standing_holds.false)
    (rw (some_stands c.args.state.now c.standing_in-s.ensures c.if-s-eq0.false))
