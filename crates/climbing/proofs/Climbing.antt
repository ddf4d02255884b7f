-- The calls of a certifier that climbs refuse nothing: demand 3 over the list of levels that it was offered. Assumes nothing.
--
-- In order: room in its arrays; one event more; a level that can be built upon; a mixture that is a point; climbing.
use Rattle.std.specs.Result.{IsOk}
use Rattle.integers.proofs.Kit.{◌≡◌, ◌∙◌, refl, ap, sym, subst, true, List, [], ◌∷◌, ℕ, ◌≤◌, ◌<◌, ◌+◌, ◌*◌, arith}
use Rattle.integers.proofs.Kit.{mul-le-mul, add-zero, le-leb, lt-ltb, length}
use mathlib.Core.List.{◌++◌}
use Rattle.integers.specs.Whole.{total_to}
use Rattle.integers.proofs.Searches.{and_is, at_every, some_at}
use Rattle.integers.proofs.Sums.{total-part}
use Rattle.tables.specs.Tables.{Tables}
use Rattle.refusals.specs.Verdicts.{Verdict, Fine, left}
use Rattle.tables.specs.Limits.{max_states, max_actions, max_observations, max_weight, max_levels}
use Rattle.tables.specs.Model.{Model, Valid}
use Rattle.tables.specs.Storage.{weight_in, counts_of, model_of}
use Rattle.tables.specs.Steps.{Stored}
use Rattle.tables.proofs.Accepted.{tables-fine}
use Rattle.tables.proofs.Fitting.{sizes}
use Rattle.plans.specs.Level.{Level, level0, covers_all, IsPoint}
use Rattle.plans.specs.Build.{some_covers_all, built}
use Rattle.plans.proofs.Agreement.{some-covers-counts, point-weights, some-covers-all-agree}
use Rattle.levels.specs.Storage.{Cells, Lent, lent_for, level_of, point_in, over}
use Rattle.levels.specs.Judged.{offer_verdict}
use Rattle.levels.proofs.Laws.{passed, fine_before}
use Rattle.levels.proofs.Over.{covers-elsewhere, Complete, complete-is, complete-true, over_agree}
use Rattle.runs.specs.State.{open_verdict, opened, offered, mixture_holds, totals_of, answer_for, build_verdict, built_from, built_of}
use Rattle.runs.specs.Demand3.{ModelAccepted, Event, offer, Certifier, certifier, handed, run, counted, acceptances, Claim, claimed_by, claimed, after}
use Rattle.runs.specs.Demand3.{steps, tally, stepped, claim0, claim, BuildHolds, PointsHold}
use Rattle.runs.proofs.Demand3.{run-append, acceptances-append, claimed-append, in-force}
use Rattle.climbing.specs.Climb.{blank_cells, blank}

-- ---- room in its arrays
-- the first point's weights are those of the mixture
first-point : (n : ℕ) (b : List ℕ) (i s : ℕ) → i < 1 → point_in n b i s ≡ weight_in b s
first-point n b i s l =
    let first : i ≡ 0 = omega arith in
    let place : 0 * n + s ≡ s = omega arith in
    rw (first, place)

module _ (m : Tables) (v : Valid (model_of m)) where
  -- for a vector at each corner and at one point, and for fewer
  blank-complete : {vectors points : ℕ} {weights : List ℕ} → vectors ≤ max_states + 1 → points ≤ 1 → max_states ≡ length weights
      → Complete m (lent_for vectors points (blank_cells weights))
  blank-complete {vectors} {points} {weights} lv lp long =
      let choices : vectors * m.observations ≤ (max_states + 1) * max_observations = mul-le-mul lv v.few_observations in
      let entries : vectors * m.states ≤ (max_states + 1) * max_states = mul-le-mul lv v.few_states in
      let weights : points * m.states ≤ 1 * max_states = mul-le-mul lp v.few_states in
      record {
        choices = choices;
        read = record {
          actions = lv;
          masks = lv;
          entries = entries;
          corners = v.few_states;
          weights = omega (arith, weights, long);
          values = lp;
        };
      }

  -- the tables open in them
  pub blank-opens : Stored (counts_of m) m.transition m.observation m.reward → ModelAccepted m blank
  unfolding open_verdict level0
  blank-opens stored =
      let s = sizes (record { actions = v.few_actions; states = v.few_states; observations = v.few_observations }) in
      fine_before (tables-fine m v stored) (passed 9 0 (and_is refl
      (and_is (complete-is m (lent_for 1 0 blank.cells) (blank-complete (omega arith) (omega arith) refl))
      (and_is (le-leb (m.actions * m.states) (max_actions * max_states) s.rows) (le-leb (m.actions * m.states) (max_actions * max_states) s.rows)))))

  -- and each level that is built of a point has room
  pub blank-points : (point : List ℕ) → max_states ≡ length point → IsPoint m.states (weight_in point) → PointsHold m blank 1 (blank_cells point)
  blank-points point long total =
      let more : m.states + 1 ≤ max_states + 1 = omega (arith, v.few_states) in
      record {
        few = omega arith;
        total = λ i k. point-weights m.states (λ s l. first-point m.states point i s k) total;
        answer_room = complete-is m (answer_for m 1 (blank_cells point)) (blank-complete more (omega arith) long);
        certifier_room = complete-is m (answer_for m 1 blank.cells) (blank-complete more (omega arith) refl);
      }

-- ---- one event more
run_more : (y : Certifier) (es : List Event) (e : Event) → run y (es ++ (e ∷ [])) ≡ handed (run y es) e
unfolding run
run_more y es e = run-append y es (e ∷ [])

acceptances-more : (y : Certifier) (es : List Event) (e : Event) → acceptances y (es ++ (e ∷ [])) ≡ acceptances y es + counted (run y es) e
unfolding acceptances
acceptances-more y es e = acceptances-append y es (e ∷ []) ∙ ap (λ (n : ℕ). acceptances y es + n) (add-zero _)

claimed-more : (t : ℕ) (y : Certifier) (c : Claim) (es : List Event) (e : Event)
    → claimed t y c (es ++ (e ∷ [])) ≡ claimed_by (t + acceptances y es) (run y es) e (claimed t y c es)
unfolding claimed
claimed-more t y c es e = claimed-append t y c es (e ∷ [])

-- ---- a level that can be built upon
-- where each vector covers all states, some vector does
covers-some : (M : Model) (W : Level) → 0 < W.vectors → ((v s : ℕ) → W.covers v s ≡ true) → some_covers_all M W ≡ true
unfolding covers_all
covers-some M W one all = some_at W.vectors _ 0 one (at_every M.states (W.covers 0) (λ s l. all 0 s))

-- ---- a mixture that is a point
mixture-holds : (n : ℕ) (b : List ℕ) → n ≤ length b → IsPoint n (weight_in b) → mixture_holds n b ≡ true
mixture-holds n b long total =
    and_is (le-leb n (length b) long)
    (and_is (at_every n _ (λ s l. le-leb (weight_in b s) max_weight (omega (arith, total, total-part n (weight_in b) s l))))
    (lt-ltb 0 (total_to n (weight_in b)) (omega (arith, total))))

-- ---- climbing
-- slices z that were opened blank on tables m and then left by t acceptances, of which the last is of a level that can be built upon
pub record Climbed (t : ℕ) (m : Tables) (z : Lent) : Type 0 where
  pub events : List Event
  pub opens : ModelAccepted m blank
  pub left : certifier m z ≡ after m blank events
  pub accepted : steps m blank events ≡ t
  pub covers : some_covers_all (model_of m) (claim m blank events).level ≡ true

pub climbed-0 : {m : Tables} {z : Lent} → ModelAccepted m blank → z ≡ opened m blank → Climbed 0 m z
unfolding run acceptances claimed level0
climbed-0 {m} o e = record {
  events = [];
  opens = o;
  left = ap (certifier m) e;
  accepted = refl;
  covers = covers-some (model_of m) level0 (omega arith) (λ v s. refl);
}

module _ {t : ℕ} {m : Tables} {z : Lent} {point : List ℕ} (k : Climbed t m z) (p : PointsHold m blank 1 (blank_cells point)) where
  -- above level 0, it is asked at the point
  pub totals-given : 0 < t → IsOk (totals_of m z point)
  totals-given some =
      let room = complete-true m (answer_for m 1 (blank_cells point)) p.answer_room in
      let total = point-weights m.states (λ s l. sym (first-point m.states point 0 s (let h : 0 < 1 = omega arith in h)))
      (p.total 0 (let h : 0 < 1 = omega arith in h)) in
      let mixture = mixture-holds m.states point (omega (arith, room.read.weights)) total in
      let counts = some-covers-counts (model_of m) (claim m blank k.events).level k.covers (weight_in point) in
      rw ((in-force m blank k.events k.opens k.left).totals (rw k.accepted some) point (mixture, counts)).given refl

  -- below the last level, the next one is built
  module _ (few : t < max_levels) where
    abbrev y : Cells
    y = built_of m z 1 (blank_cells point)

    build-holds : BuildHolds m z (claim m blank k.events) 1 (blank_cells point) (build_verdict m z 1 (blank_cells point)) y
    build-holds = (in-force m blank k.events k.opens k.left).build (rw k.accepted few) k.covers 1 (blank_cells point) p

    pub built-given : build_verdict m z 1 (blank_cells point) ≡ Fine
    built-given = build-holds.given

    -- what is read of it agrees with the built level, of which each vector covers all states
    built-covers : some_covers_all (model_of m) (level_of m (answer_for m 1 y)) ≡ true
    unfolding built
    built-covers =
        let W = built_from m (claim m blank k.events).level 1 (blank_cells point) in
        let one : 0 < m.states + 1 = omega arith in
        let agree = over_agree m W (blank_cells point) (covers-elsewhere m.states W (λ v s. refl)) in
        subst (λ (w : Cells). some_covers_all (model_of m) (level_of m (answer_for m 1 w)) ≡ true) (sym build-holds.level_is)
        (some-covers-all-agree (model_of m) W (level_of m (answer_for m 1 (over m W (blank_cells point)))) agree ∙ covers-some (model_of m) W one (λ v s. refl))

    -- the built level is one event more
    abbrev next : Event
    next = offer [] (answer_for m 1 y)

    abbrev begun : Certifier
    begun = certifier m (opened m blank)

    -- it is accepted, and claimed then
    next-counts : counted (run begun k.events) next ≡ 1
    next-counts = ap (λ (z : Certifier). counted z next) (sym k.left) ∙ ap tally build-holds.accepted

    next-claimed : (t : ℕ) (c : Claim) → (claimed_by t (run begun k.events) next c).level ≡ level_of m (answer_for m 1 y)
    next-claimed t c =
        ap (λ (z : Certifier). (claimed_by t z next c).level) (sym k.left)
        ∙ ap (λ (v : Verdict). (left v (stepped (model_of m) (level_of m (answer_for m 1 y)) c) c).level) build-holds.accepted

    next-climbed : Climbed (t + 1) m (offered m z (answer_for m 1 y))
    next-climbed = record {
      events = k.events ++ (next ∷ []);
      opens = k.opens;
      left = ap (λ (z : Certifier). handed z next) k.left ∙ sym (run_more begun k.events next);
      accepted = acceptances-more begun k.events next ∙ ap (λ (n : ℕ). steps m blank k.events + n) next-counts
          ∙ ap (λ (n : ℕ). n + 1) k.accepted;
      covers = ap (λ (c : Claim). some_covers_all (model_of m) c.level) (claimed-more 0 begun claim0 k.events next)
          ∙ ap (λ (L : Level). some_covers_all (model_of m) L) (next-claimed (0 + steps m blank k.events) (claim m blank k.events))
          ∙ built-covers;
    }

    -- what the calls leave, by their contracts
    module _ {w : Cells} (e : w ≡ y) where
      pub built-accepted : offer_verdict m z (answer_for m 1 w) ≡ Fine
      built-accepted = rw e build-holds.accepted

      pub climbed-next : {z' : Lent} → z' ≡ offered m z (answer_for m 1 w) → Climbed (t + 1) m z'
      climbed-next f = rw (f, e) next-climbed
