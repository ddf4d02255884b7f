-- Demand 3, proved over the definitions that the contracts name: what one event keeps (`Reached.antt`) holds of a list. Assumes nothing.
--
-- In order: a list after a list; offers alone; a list of events; what holds then; an answer that meets its equation has what demand 3 says of it.
use Rattle.std.specs.Prelude.{Result}
use Rattle.integers.proofs.Kit.{◌≡◌, ◌∙◌, refl, ap, sym, subst, true, List, [], ◌∷◌, ℕ, ◌<◌, ◌+◌, add-zero, zero-add}
use mathlib.Core.List.{◌++◌}
use native.Mathlib.Nat.{add_assoc}
use Rattle.tables.specs.Tables.{Tables}
use Rattle.refusals.specs.declared.Refusal.{Refusal}
use Rattle.refusals.specs.Verdicts.{Verdict}
use Rattle.tables.specs.Storage.{weight_in, model_of}
use Rattle.tables.specs.Limits.{max_vectors, max_levels}
use Rattle.plans.specs.Build.{some_covers_all}
use Rattle.plans.proofs.Bracket.{bracket}
use Rattle.plans.proofs.Rows.{rows-roof, best_row-cong}
use Rattle.levels.specs.Storage.{Cells, LentLevel, Lent, rows}
use Rattle.runs.specs.declared.Bounds.{Bounds}
use Rattle.runs.specs.State.{opened, offered, totals_of, build_verdict, built_of}
use Rattle.runs.specs.Demand3.{ModelAccepted, Event, offer, offers, Certifier, certifier, handed, run, counted, acceptances, Claim, claimed_by, claimed}
use Rattle.runs.specs.Demand3.{after, steps, claim0, claim, RowsAre, MixtureHolds, TotalsHold, BuildHolds, PointsHold, ClaimHolds, Demand3}
use Rattle.runs.proofs.Judged.{Held}
use Rattle.runs.proofs.Reached.{Reached, reached-open, reached-step, some_vectors, totals-fine, lower_is, sawtooth_is, best-row-is, upper_is, advice-is}
use Rattle.runs.proofs.Reached.{level-built, build-fine, built-accepted}

-- ---- a list after a list
pub run-append : (y : Certifier) (es fs : List Event) → run y (es ++ fs) ≡ run (run y es) fs
unfolding run
run-append y [] fs = refl
run-append y (e ∷ es) fs = run-append (handed y e) es fs

pub acceptances-append : (y : Certifier) (es fs : List Event) → acceptances y (es ++ fs) ≡ acceptances y es + acceptances (run y es) fs
unfolding run acceptances
acceptances-append y [] fs = sym (zero-add _)
acceptances-append y (e ∷ es) fs = ap (λ (n : ℕ). counted y e + n) (acceptances-append (handed y e) es fs) ∙ sym (add_assoc _ _ _)

pub claimed-append : (t : ℕ) (y : Certifier) (c : Claim) (es fs : List Event)
    → claimed t y c (es ++ fs) ≡ claimed (t + acceptances y es) (run y es) (claimed t y c es) fs
unfolding run acceptances claimed
claimed-append t y c [] fs = ap (λ (n : ℕ). claimed n y c fs) (sym (add-zero t))
claimed-append t y c (e ∷ es) fs =
    claimed-append (t + counted y e) (handed y e) (claimed_by t y e c) es fs
    ∙ ap (λ (n : ℕ). claimed n (run (handed y e) es) (claimed (t + counted y e) (handed y e) (claimed_by t y e c) es) fs) (add_assoc _ _ _)

-- ---- offers alone
pub offers-append : (ls ks : List LentLevel) → offers (ls ++ ks) ≡ offers ls ++ offers ks
unfolding offers
offers-append [] ks = refl
offers-append (l ∷ ls) ks = ap (λ (es : List Event). offer [] l ∷ es) (offers-append ls ks)

-- the tables stay in force
pub offers-keep : (m : Tables) (x : Lent) (ls : List LentLevel) → run (certifier m x) (offers ls) ≡ certifier m (run (certifier m x) (offers ls)).lent
unfolding run offers
offers-keep m x [] = refl
offers-keep m x (l ∷ ls) = offers-keep m (offered m x l) ls

-- ---- a list of events
-- by induction over the list, each event by `reached-step`
reached-run : (x₀ : Cells) (es : List Event) (t : ℕ) (c : Claim) (y : Certifier) → Reached y.tables x₀ t c y.lent
    → Reached (run y es).tables x₀ (t + acceptances y es) (claimed t y c es) (run y es).lent
unfolding run acceptances claimed
reached-run x₀ [] t c y r = rw (add-zero t) r
reached-run x₀ (e ∷ es) t c y r =
    rw (← add_assoc t (counted y e) (acceptances (handed y e) es)) (reached-run x₀ es _ _ (handed y e) (reached-step r e))

pub reached : (m : Tables) (x : Lent) → ModelAccepted m x → (es : List Event)
    → Reached (after m x es).tables x.cells (steps m x es) (claim m x es) (after m x es).lent
reached m x o es = rw (zero-add (steps m x es)) at (reached-run x.cells es 0 claim0 (certifier m (opened m x)) (reached-open m x o))

-- ---- what holds then
module _ (x : Lent) {m : Tables} {z : Lent} {t : ℕ} {c : Claim} (r : Reached m x.cells t c z) where
  rows_are : RowsAre m z t c
  rows_are =
      let some = r.stands.valid-tables.some_actions in
      record {
        informed_is = r.informed_is;
        qmdp_is = r.qmdp_is;
        below = λ a h s b. rw (r.informed_is a h s b, r.qmdp_is a h s b) (r.rows-certified.below a h s b);
        roof = λ b π f. rw (best_row-cong (model_of m) some _ _ r.informed_is b) (rows-roof some r.rows-certified π f b);
      }

  totals-hold : 0 < t → (b : List ℕ) → MixtureHolds m c b → TotalsHold m t c b (totals_of m z b)
  unfolding totals_of
  totals-hold h b e =
      rw (totals-fine r b h e.0 e.1) record {
        answer = _;
        given = refl;
        lower_is = lower_is r b;
        sawtooth_is = sawtooth_is r b;
        informed_is = best-row-is r b;
        upper_is = upper_is r b;
        gap_is = refl;
        action_is = advice-is r b;
        bracket = bracket r.stands.valid-tables.some_actions r.certified r.rows-certified (some_vectors r) (weight_in b) e.1;
      }

  build-holds : t < max_levels → some_covers_all (model_of m) c.level ≡ true → (count : ℕ) (y : Cells) → PointsHold m x count y
      → BuildHolds m z c count y (build_verdict m z count y) (built_of m z count y)
  unfolding built_of
  build-holds h some count y p =
      let points : PointsHold m record { state = []; cells = x.cells; rows = rows [] [] } count y =
      record { few = p.few; total = p.total; answer_room = p.answer_room; certifier_room = p.certifier_room } in
      rw (build-fine r h count y points some) record {
        given = refl;
        level_is = level-built r count y;
        accepted = built-accepted r h count y points some;
      }

  holds_then : ClaimHolds x (certifier m z) t c
  holds_then = record {
    state = record { number = r.number; standing = r.agrees };
    rows = rows_are;
    totals = totals-hold;
    build = build-holds;
  }

-- Demand 3: what holds after any list of offers and new prices, of any content, to the certifier that opening left on accepted tables.
-- By induction over the list, `Reached` holds after it. Level 0 is certified for plans of no steps, and is read from the slices over which it was laid. A
-- refused event changes nothing. An accepted level passed every test: it has the shape of the next level and meets its inequalities over the standing
-- level. Inequalities read only parts that agree, so it meets them over the level that is claimed too, and is certified with one step more
-- (`certified-next`), and so are the rows (`rows_next`). New prices move all numbers so far that they are certified for the plans of the new model
-- (`reached-prices`). Nothing else is asked of the level before: whether it was accepted or moved, later levels go on from what is certified of it.
-- Totals are given, since `Reached` passes 7, the number is above 0 and some vector counts. They are those of the level that is claimed, with which the
-- standing one agrees, and the totals of a certified level bracket what plans earn (`bracket`). Building is not refused either, if some vector covers all
-- states: the built level has the shape of the next level and meets its inequalities over the standing one (`built-shaped`, `built-meets`); what is laid of
-- it agrees with it, so it passes every test of an offer. Qed.
pub demand3 : (m : Tables) (x : Lent) → ModelAccepted m x → (es : List Event) → Demand3 m x es
demand3 m x o es = holds_then x (reached m x o es)

-- ---- an answer that meets its equation has what demand 3 says of it
-- the tables at hand are those in force
module _ {m : Tables} {y : Lent} (m₀ : Tables) (x : Lent) (es : List Event) (o : ModelAccepted m₀ x) (q : certifier m y ≡ after m₀ x es) where
  pub in-force : ClaimHolds x (certifier m y) (steps m₀ x es) (claim m₀ x es)
  in-force = subst (λ (z : Certifier). ClaimHolds x z (steps m₀ x es) (claim m₀ x es)) (sym q) (demand3 m₀ x o es)

  pub stands-in-force : Held max_vectors m y
  stands-in-force = subst (λ (z : Certifier). Held max_vectors z.tables z.lent) (sym q) (reached m₀ x o es).stands

pub totals-demand : (m : Tables) (y : Lent) (b : List ℕ) (r : Result Bounds Refusal) → r ≡ totals_of m y b
    → (m₀ : Tables) (x : Lent) (es : List Event) → ModelAccepted m₀ x → certifier m y ≡ after m₀ x es → 0 < steps m₀ x es
    → MixtureHolds m (claim m₀ x es) b → TotalsHold m (steps m₀ x es) (claim m₀ x es) b r
totals-demand m y b r e m₀ x es o q h mixture = rw e ((in-force m₀ x es o q).totals h b mixture)

pub build-demand : (m : Tables) (z : Lent) (count : ℕ) (y : Cells) (v : Verdict) (y' : Cells) → v ≡ build_verdict m z count y → y' ≡ built_of m z count y
    → (m₀ : Tables) (x : Lent) (es : List Event) → ModelAccepted m₀ x → certifier m z ≡ after m₀ x es → steps m₀ x es < max_levels
    → some_covers_all (model_of m) (claim m₀ x es).level ≡ true → PointsHold m x count y → BuildHolds m z (claim m₀ x es) count y v y'
build-demand m z count y v y' e f m₀ x es o q h some points = rw (e, f) ((in-force m₀ x es o q).build h some count y points)
