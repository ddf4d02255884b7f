-- Accepted levels are certified, and the totals of a certified level bracket what plans earn. Assumes nothing.
use Rattle.integers.proofs.Kit.{◌≡◌, true, ℕ, ◌<◌, ◌^◌, suc, arith, ℤ, ◌≤ℤ◌}
use Rattle.integers.specs.Whole.{◌·◌}
use Rattle.integers.proofs.Order.{lesser-by}
use Rattle.tables.specs.Limits.{K}
use Rattle.tables.specs.Model.{Model}
use Rattle.plans.specs.Plan.{earns_at}
use Rattle.plans.specs.Level.{Level, level0, Meets}
use Rattle.plans.specs.Totals.{some_counts, best, lower, advice, upper, Bracket}
use Rattle.plans.proofs.Certified.{Certified, RowsCertified}
use Rattle.plans.proofs.Floor.{earned-0, earned-next, floor}
use Rattle.plans.proofs.Ceiling.{roof, corner-0, corner-next, point-next}
use Rattle.plans.proofs.Agreement.{best-exists, best-counts, counts-covers}
use Rattle.plans.proofs.Rows.{rows-roof}

pub certified-0 : (M : Model) → Certified M 0 level0
unfolding level0
certified-0 M = record {
  vector = λ v l. earned-0 M v;
  corner = λ s l π h. corner-0 M s π;
  point = λ i l π h. absurd (omega arith);
}

-- a level that meets its inequalities over a certified one is certified with one step more
pub certified-next : {M : Model} {t : ℕ} {L : Level} → Certified M t L → (W : Level) → Meets M L W → Certified M (suc t) W
certified-next {M} {t} {L} c W m = record {
  vector = λ v l. earned-next M t L W c.vector v (m.vector v l);
  corner = corner-next M t L c W m;
  point = point-next M t L c W m;
}

-- Some plan opens with the advice and earns at least the lower total; no plan earns more than the upper.
-- The lower total is the product of the best vector that counts, and the advice is its action. That vector exists, so it has a plan that fits the model,
-- opens with that action and earns at least the product, since all weight lies on states that it covers (`floor`). The upper total is the ceiling or the
-- best informed row, and no plan that fits passes either (`roof`, `rows-roof`). Qed.
pub bracket : {M : Model} {t : ℕ} {L : Level} {F Q : ℕ → ℕ → ℤ} → 0 < M.actions → Certified M t L → RowsCertified M t F Q → 0 < L.vectors
    → (b : ℕ → ℕ) → some_counts M L b ≡ true → Bracket M t L F b
unfolding lower advice upper
bracket {M} {t} {L} some c r h b counted =
    let e = c.vector (best M L b) (best-exists M L b h) in
    record {
      plan = e.plan;
      fits = e.fits;
      opens = e.opens;
      floor = floor e b (counts-covers M.states L b (best M L b) (best-counts M L b counted));
      roof = λ π f. lesser-by (λ z. earns_at M π b ≤ℤ (K ^ t) · z) _ _ (λ _. roof c π f b) (λ _. rows-roof some r π f b);
    }
