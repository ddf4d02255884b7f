-- Laws of the steps that read a vector of both files. Assumes nothing.
--
--   over-later, over-hyphen, over_first      what a next node stands for
--   chosen-said, long-said                   what it chooses
--   numbers-said, chooses-said, reached-said 10 and 21 of one vector
use Rattle.integers.proofs.Kit.{◌≡◌, ◌∙◌, refl, ap, sym, true, Bool, cond, List, ℕ, ◌≤◌, ◌<◌, suc, zero, arith, ne_eqb, eq-eqb, ltb, length, get_or}
use Rattle.integers.proofs.Lists.{padded-at, padded-length}
use Rattle.integers.proofs.Searches.{every-cong}
use Rattle.refusals.specs.Verdicts.{Verdict, ◌before◌, unless, first_of}
use Rattle.tables.specs.Limits.{max_observations}
use Rattle.tables.specs.Storage.{choice_in}
use Rattle.tables.proofs.Fitting.{alone_at}
use Rattle.refusals.proofs.Refusals.{first_cong}
use Rattle.masks.specs.Masks.{covered, mask_of}
use Rattle.masks.proofs.Bits.{mask-covers}
use Rattle.reaches.specs.Steps.{reached_in, Chooses}
use Rattle.alphas.specs.Alphas.{no_node}
use Rattle.solver.specs.Files.{action_at}
use Rattle.stated.specs.declared.Said.{Said}
use Rattle.stated.specs.Stated.{chosen_over}
use Rattle.stated.specs.Steps.{choices_at, SaysVector}

-- ---- what a next node stands for

pub over-later : (t next : ℕ) → 0 < t → next ≡ chosen_over t next
over-later zero next h = absurd (omega arith)
over-later (suc t) next h = refl

pub over-hyphen : (t next : ℕ) → t ≤ 0 → next ≡ no_node → 0 ≡ chosen_over t next
over-hyphen zero next h e = sym (ap (λ (b : Bool). cond b 0 next) (eq-eqb next no_node e))
over-hyphen (suc t) next h e = absurd (omega arith)

pub over_first : (t next : ℕ) → t ≤ 0 → (next ≡ no_node → ⊥) → next ≡ chosen_over t next
over_first zero next h e = sym (ap (λ (b : Bool). cond b 0 next) (ne_eqb next no_node e))
over_first (suc t) next h e = absurd (omega arith)

-- ---- 10 and 21 of one vector

module _ {n k t v : ℕ} {alphaFile graphFile : List ℕ} {r : Said} (says : SaysVector n k t alphaFile graphFile v r) where
  pub chosen-said : (o : ℕ) → o < k → get_or r.chosen o 0 ≡ choices_at k t graphFile v o
  chosen-said o l = ap (λ (xs : List ℕ). get_or xs o 0) says.chosen ∙ padded-at 0 max_observations k (choices_at k t graphFile v) o 0 l

  pub long-said : k ≤ max_observations → length r.chosen ≡ max_observations
  long-said few = rw says.chosen (padded-length 0 max_observations k (choices_at k t graphFile v) few)

  -- as a table of one row
  row-said : (o : ℕ) → o < k → choice_in k r.chosen 0 o ≡ choices_at k t graphFile v o
  row-said o l = alone_at k r.chosen o ∙ chosen-said o l

  pub numbers-said : (m standing : ℕ)
      → (unless (ltb r.action.0 m) 10 v before first_of k (λ o. unless (ltb (get_or r.chosen o 0) standing) 10 v))
      ≡ (unless (ltb (action_at n alphaFile v) m) 10 v before first_of k (λ o. unless (ltb (choices_at k t graphFile v o) standing) 10 v))
  numbers-said m standing =
      ap (λ (a : ℕ). unless (ltb a m) 10 v before first_of k (λ o. unless (ltb (get_or r.chosen o 0) standing) 10 v)) says.action
      ∙ ap (λ (w : Verdict). unless (ltb (action_at n alphaFile v) m) 10 v before w)
      (first_cong k _ _ (λ o l. ap (λ (x : ℕ). unless (ltb x standing) 10 v) (chosen-said o l)))

  pub chooses-said : {masks : List ℕ} → k ≤ max_observations → ((o : ℕ) → o < k → choices_at k t graphFile v o < length masks) → Chooses k masks r.chosen 0
  chooses-said few h = record {
    row = omega arith;
    stored = omega (arith, long-said few);
    vector = λ o l. rw (row-said o l) (h o l);
  }

  -- the mask of all states covers each
  pub reached-said : (T O masks : List ℕ) {all : ℕ} → all ≡ mask_of n (λ s. true)
      → reached_in n k T O masks (covered all) r.action.0 (choice_in k r.chosen 0)
      ≡ reached_in n k T O masks (λ s. true) (action_at n alphaFile v) (choices_at k t graphFile v)
  reached-said T O masks e =
      rw (says.action, e) (every-cong n _ _ (λ s b. rw (mask-covers n (λ s. true) s b) (every-cong k _ _ (λ o l. rw (row-said o l)))))
