-- What totals within ranges say after any list of offers and new prices, proved over the definitions that the contract names. Assumes nothing.
use Rattle.std.specs.Prelude.{Result}
use Rattle.integers.proofs.Kit.{◌≡◌, ◌∙◌, refl, sym, subst, List, ℕ, ◌<◌, arith, lt-ltb}
use Rattle.tables.specs.Tables.{Tables}
use Rattle.refusals.specs.declared.Refusal.{Refusal}
use Rattle.refusals.specs.Verdicts.{Fine}
use Rattle.tables.specs.Limits.{max_vectors}
use Rattle.tables.specs.Storage.{weight_in, model_of}
use Rattle.plans.specs.Level.{Level}
use Rattle.plans.specs.Intervals.{lower_within, upper_within}
use Rattle.plans.proofs.Agreement.{some-counts-agree}
use Rattle.plans.proofs.Intervals.{between, lower-within-agree, upper-within-agree}
use Rattle.levels.specs.Storage.{Cells, Lent, level_of, number_in, standing_in}
use Rattle.levels.proofs.Laws.{passed, fine_before}
use Rattle.runs.specs.Demand3.{ModelAccepted, Event, Certifier, Claim, certifier, after, steps, claim}
use Rattle.runs.proofs.Judged.{standing-is}
use Rattle.runs.proofs.Reached.{Reached, some_vectors}
use Rattle.runs.proofs.Demand3.{reached}
use Rattle.runs.specs.State.{standing_verdict}
use Rattle.intervals.specs.declared.Enclosing.{Enclosing}
use Rattle.intervals.specs.Intervals.{within_verdict, within_of}
use Rattle.intervals.specs.Claim.{RangesHold, WithinHolds, WithinClaim}

module _ {m : Tables} {x₀ : Cells} {t : ℕ} {c : Claim} {x : Lent} (r : Reached m x₀ t c x) (h : 0 < t) (lows highs : List ℕ)
    (e : RangesHold m c lows highs) where
  within-fine : within_verdict m x lows highs ≡ Fine
  unfolding within_verdict standing_verdict
  within-fine =
      let counted = some-counts-agree (model_of m) c.level (level_of m (standing_in x)) r.agrees (weight_in highs) in
      fine_before (fine_before (passed 7 0 (standing-is max_vectors m x r.stands)) (passed 16 0 (lt-ltb 0 (number_in x) (omega (arith, r.number)))))
      (fine_before (passed 24 0 e.ordered) (fine_before (passed 17 0 e.limits) (passed 22 0 (counted ∙ e.counted))))

  -- The answer is given: demand 3 passes 7 and 16, the ranges 24 and 17, and the vectors of the standing level count where those of the one that is claimed
  -- do. Its totals are those of that level, with which the standing one agrees, and that level is certified for t steps (`Reached`), so that its totals
  -- bracket what plans earn at every mixture inside (`between`). Qed.
  within-holds : WithinHolds m t c lows highs (within_of m x lows highs)
  unfolding within_of
  within-holds =
      let L : Level = level_of m (standing_in x) in
      rw within-fine record {
        answer = record {
          lower = lower_within (model_of m) L (weight_in lows) (weight_in highs);
          upper = upper_within (model_of m) L (weight_in lows) (weight_in highs);
        };
        given = refl;
        lower_is = lower-within-agree (model_of m) c.level L r.agrees (weight_in lows) (weight_in highs) (some_vectors r);
        upper_is = upper-within-agree (model_of m) c.level L r.agrees (weight_in lows) (weight_in highs);
        between = λ b inside. between r.certified (some_vectors r) (weight_in lows) (weight_in highs) b e.counted inside;
      }

-- the whole claim
pub within-claim : (m : Tables) (x : Lent) → ModelAccepted m x → (es : List Event) → WithinClaim m x es
within-claim m x o es h lows highs e = within-holds (reached m x o es) h lows highs e

-- an answer that meets its equation has what the claim says of it
pub within-demand : (m : Tables) (y : Lent) (lows highs : List ℕ) (r : Result Enclosing Refusal) → r ≡ within_of m y lows highs
    → (m₀ : Tables) (x : Lent) (es : List Event) → ModelAccepted m₀ x → certifier m y ≡ after m₀ x es → 0 < steps m₀ x es
    → RangesHold m (claim m₀ x es) lows highs → WithinHolds m (steps m₀ x es) (claim m₀ x es) lows highs r
within-demand m y lows highs r e m₀ x es o q h ranges =
    rw e
    (subst (λ (z : Certifier). RangesHold z.tables (claim m₀ x es) lows highs
    → WithinHolds z.tables (steps m₀ x es) (claim m₀ x es) lows highs (within_of z.tables z.lent lows highs)) (sym q)
    (within-claim m₀ x o es h lows highs) ranges)
