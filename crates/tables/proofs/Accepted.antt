-- Tables that are not refused are valid and long enough, and the other way round. Assumes nothing.
--
-- In order: counts, cells and rows; a model that is not refused is valid, and the other way round; the same of tables in slices.
use Rattle.integers.proofs.Kit.{◌≡◌, true, ℕ, ◌≤◌, ◌<◌, arith, le-leb, leb-true, eq-eqb, eqb-true, leb}
use Rattle.integers.specs.Whole.{total_to}
use Rattle.integers.proofs.Searches.{and-true, and_is, every-at, at_every}
use Rattle.refusals.specs.Verdicts.{Fine}
use Rattle.tables.specs.Tables.{Tables}
use Rattle.tables.specs.Limits.{one}
use Rattle.tables.specs.Model.{Model, Valid}
use Rattle.tables.specs.Storage.{counts_of, model_of}
use Rattle.tables.specs.Steps.{Stored}
use Rattle.tables.specs.Judged.{count_within, cells_within, limits_hold, rows_total, model_verdict, tables_verdict}
use Rattle.refusals.proofs.Refusals.{before-fine, unless-fine, fine-at, at-fine}
use Rattle.tables.proofs.Fitting.{stored-true, stored_is}

pub count-true : (limit n : ℕ) → count_within limit n ≡ true → (0 < n) × (n ≤ limit)
count-true limit n e =
    let h = and-true (leb 1 n) (leb n limit) e in
    (omega (arith, leb-true 1 n h.0), leb-true n limit h.1)

count-is : (limit n : ℕ) → 0 < n → n ≤ limit → count_within limit n ≡ true
count-is limit n h l = and_is (le-leb 1 n (omega arith)) (le-leb n limit l)

module _ (m n w : ℕ) (cell : ℕ → ℕ → ℕ → ℕ) where
  pub cells-true : cells_within m n w cell ≡ true → (a : ℕ) → a < m → (s : ℕ) → s < n → (x : ℕ) → x < w → cell a s x ≤ one
  cells-true e a la s ls x lx =
      leb-true _ _ (every-at w _ (every-at n _ (every-at m _ e a la) s ls) x lx)

  cells_is : ((a : ℕ) → a < m → (s : ℕ) → s < n → (x : ℕ) → x < w → cell a s x ≤ one) → cells_within m n w cell ≡ true
  cells_is h = at_every m _ (λ a la. at_every n _ (λ s ls. at_every w _ (λ x lx. le-leb _ _ (h a la s ls x lx))))

  rows-fine : (number : ℕ) → rows_total number m n w cell ≡ Fine → (a : ℕ) → a < m → (s : ℕ) → s < n → total_to w (λ x. cell a s x) ≡ one
  unfolding rows_total
  rows-fine number e a la s ls = eqb-true _ _ (unless-fine _ _ _ (fine-at _ n (fine-at _ m e a la) s ls))

  rows_is : (number : ℕ) → ((a : ℕ) → a < m → (s : ℕ) → s < n → total_to w (λ x. cell a s x) ≡ one) → rows_total number m n w cell ≡ Fine
  unfolding rows_total
  rows_is number h = at-fine _ m (λ a la. at-fine _ n (λ s ls. rw (eq-eqb _ _ (h a la s ls))))

module _ (M : Model) where
  pub valid : model_verdict M ≡ Fine → Valid M
  unfolding model_verdict limits_hold
  valid e =
      let h = before-fine _ _ e in
      let l = unless-fine _ 3 0 h.0 in
      let rows = before-fine _ _ h.1 in
      let c = and-true _ _ l in
      let d = and-true _ _ c.1 in
      let t = and-true _ _ d.1 in
      let o = and-true _ _ t.1 in
      let n = and-true _ _ c.0 in
      let m = and-true _ _ n.1 in
      record {
        some_states = (count-true _ _ n.0).0;
        few_states = (count-true _ _ n.0).1;
        some_actions = (count-true _ _ m.0).0;
        few_actions = (count-true _ _ m.0).1;
        some_observations = (count-true _ _ m.1).0;
        few_observations = (count-true _ _ m.1).1;
        discount_limit = leb-true _ _ d.0;
        transition_limit = cells-true _ _ _ (λ a s s'. M.transition s a s') t.0;
        observation_limit = cells-true _ _ _ (λ a s' o. M.observation a s' o) o.0;
        reward_limit = λ a la s ls. leb-true _ _ (every-at _ _ (every-at _ _ o.1 a la) s ls);
        transition_row = rows-fine _ _ _ (λ a s s'. M.transition s a s') 5 rows.0;
        observation_row = rows-fine _ _ _ (λ a s' o. M.observation a s' o) 6 rows.1;
      }

  pub is-valid : Valid M → model_verdict M ≡ Fine
  unfolding model_verdict limits_hold
  is-valid v =
      let limits : limits_hold M ≡ true =
      and_is
      (and_is (count-is _ _ v.some_states v.few_states) (and_is (count-is _ _ v.some_actions v.few_actions)
      (count-is _ _ v.some_observations v.few_observations)))
      (and_is (le-leb _ _ v.discount_limit)
      (and_is (cells_is _ _ _ (λ a s s'. M.transition s a s') v.transition_limit)
      (and_is (cells_is _ _ _ (λ a s' o. M.observation a s' o) v.observation_limit)
      (at_every _ _ (λ a la. at_every _ _ (λ s ls. le-leb _ _ (v.reward_limit a la s ls))))))) in
      rw (limits, rows_is _ _ _ (λ a s s'. M.transition s a s') 5 v.transition_row) (rows_is _ _ _ (λ a s' o. M.observation a s' o) 6 v.observation_row)

module _ (m : Tables) where
  -- handed-in tables that are fine are so as a model, and are long enough for their counts
  pub tables-valid : tables_verdict m ≡ Fine → Valid (model_of m)
  unfolding tables_verdict model_verdict
  tables-valid e =
      let h = before-fine _ _ e in
      valid (model_of m) (rw (and-true (limits_hold (model_of m)) _ (unless-fine _ 3 0 h.0)).0 h.1)

  pub tables-stored : tables_verdict m ≡ Fine → Stored (counts_of m) m.transition m.observation m.reward
  unfolding tables_verdict
  tables-stored e = stored-true m (and-true (limits_hold (model_of m)) _ (unless-fine _ 3 0 (before-fine _ _ e).0)).1

  pub tables-fine : Valid (model_of m) → Stored (counts_of m) m.transition m.observation m.reward → tables_verdict m ≡ Fine
  unfolding tables_verdict model_verdict
  tables-fine v s =
      let h = before-fine _ _ (is-valid (model_of m) v) in
      rw (unless-fine (limits_hold (model_of m)) 3 0 h.0, stored_is m s) h.1
