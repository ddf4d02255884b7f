use Rattle.integers.proofs.Kit.{◌≡◌, ◌∙◌, sym, [], ℕ, ◌≤◌, ◌*◌, arith, mul-le-mul}
use Rattle.std.proofs.lemmas.Result.{err_from_is_err_and}
use Rattle.integers.specs.Whole.{largest_to}
use Rattle.tables.specs.Tables.{Tables}
use Rattle.tables.specs.Limits.{max_entry}
use Rattle.plans.specs.Limits.{range}
use Rattle.levels.specs.declared.Standing.{Standing}
use Rattle.levels.specs.Storage.{Lent, standing_at}
use Rattle.runs.proofs.Prices.{Priced, priced}
use Rattle.pricing.specs.Steps.{max_move, change_at}
use Rattle.pricing.proofs.Moved.{change-is}
use Rattle.pricing.proofs.Priced.{rewards-within, new-within, change-few, levels-few, move-few, limit-few, vectors-ask, corners-ask, points-ask}
use Rattle.pricing.proofs.Priced.{informed-ask, qmdp-ask, priced-refused, priced-fine}
use Rattle.pricing.proofs.reprice.Goals as goal

-- the limit is small, and so is the move
small : (m : Tables) (x : Lent) (m' : Tables) → Priced m x m' → {s : Standing} → s ≡ standing_at x.state → {limit d : ℕ} → limit ≡ range s.number
    → d ≡ largest_to (m.actions * m.states) (change_at m.reward m'.reward) → (limit ≤ max_entry) × (d * s.number ≤ max_move)
small m x m' p e el ed = (
  limit-few m x p.standing e el,
  move-few m x p.standing e (rw ed
      (change-few (m.actions * m.states) m.reward m'.reward (rewards-within m p.standing.valid-tables p.standing.stored-tables) (new-within m x m' p))),
)

pub returns-in_err-judge_prices : goal.returns-in_err-judge_prices
returns-in_err-judge_prices c choices =
    let p = err_from_is_err_and c.from_residual.result c.from_residual.ensures.1 in
    let e = c.in_err-judge_prices.ensures choices in
    (rw (p.1, p.2) e, priced-refused _ _ _ e)

pub standing_in-s-requires : goal.standing_in-s-requires
standing_in-s-requires c = (priced _ _ _ (sym (c.in_ok-judge_prices.ensures []))).standing.state-long

pub range_of-limit-requires : goal.range_of-limit-requires
range_of-limit-requires c =
    levels-few _ _ (priced _ _ _ (sym (c.in_ok-judge_prices.ensures []))).standing c.standing_in-s.ensures

pub overflow_mul-cells : goal.overflow_mul-cells
overflow_mul-cells c =
    let v = (priced _ _ _ (sym (c.in_ok-judge_prices.ensures []))).standing.valid-tables in
    omega (arith, mul-le-mul v.few_actions v.few_states)

pub largest_change-requires-clause-within : goal.largest_change-requires-clause-within
largest_change-requires-clause-within c =
    let h = (priced _ _ _ (sym (c.in_ok-judge_prices.ensures []))).standing in
    rewards-within _ h.valid-tables h.stored-tables

pub largest_change-requires-clause-within_2 : goal.largest_change-requires-clause-within_2
largest_change-requires-clause-within_2 c = new-within _ _ _ (priced _ _ _ (sym (c.in_ok-judge_prices.ensures [])))

pub overflow_mul-k : goal.overflow_mul-k
overflow_mul-k c =
    let p = priced _ _ _ (sym (c.in_ok-judge_prices.ensures [])) in
    let few : c.largest_change.result * c.standing_in-s.result.number ≤ max_move
    = (small _ _ _ p c.standing_in-s.ensures c.range_of-limit.ensures c.largest_change.ensures).1 in
    omega (arith, few)

pub lower_entries-requires : goal.lower_entries-requires
lower_entries-requires c =
    let p = priced _ _ _ (sym (c.in_ok-judge_prices.ensures [])) in record {
      vectors = vectors-ask _ _ p.standing c.standing_in-s.ensures c.range_of-limit.ensures;
      limit_le_max_entry = small _ _ _ p c.standing_in-s.ensures c.range_of-limit.ensures c.largest_change.ensures;
    }

pub raise_cells-requires : goal.raise_cells-requires
raise_cells-requires c =
    let p = priced _ _ _ (sym (c.in_ok-judge_prices.ensures [])) in record {
      within = corners-ask _ _ p.standing c.standing_in-s.ensures c.range_of-limit.ensures;
      limit_le_max_entry = small _ _ _ p c.standing_in-s.ensures c.range_of-limit.ensures c.largest_change.ensures;
    }

pub raise_values-requires : goal.raise_values-requires
raise_values-requires c =
    let p = priced _ _ _ (sym (c.in_ok-judge_prices.ensures [])) in record {
      priced_points = points-ask _ _ p.standing c.standing_in-s.ensures c.range_of-limit.ensures;
      limit_le_max_entry = small _ _ _ p c.standing_in-s.ensures c.range_of-limit.ensures c.largest_change.ensures;
    }

pub raise_cells-requires-2 : goal.raise_cells-requires-2
raise_cells-requires-2 c =
    let p = priced _ _ _ (sym (c.in_ok-judge_prices.ensures [])) in record {
      within = informed-ask _ _ p.standing c.standing_in-s.ensures c.range_of-limit.ensures;
      limit_le_max_entry = small _ _ _ p c.standing_in-s.ensures c.range_of-limit.ensures c.largest_change.ensures;
    }

pub raise_cells-requires-3 : goal.raise_cells-requires-3
raise_cells-requires-3 c =
    let p = priced _ _ _ (sym (c.in_ok-judge_prices.ensures [])) in record {
      within = qmdp-ask _ _ p.standing c.standing_in-s.ensures c.range_of-limit.ensures;
      limit_le_max_entry = small _ _ _ p c.standing_in-s.ensures c.range_of-limit.ensures c.largest_change.ensures;
    }

pub returns : goal.returns
returns c choices =
    let fine = sym (c.in_ok-judge_prices.ensures choices) in
    let p = priced _ _ _ fine in (
      sym fine,
      priced-fine _ _ _ fine c.standing_in-s.ensures c.range_of-limit.ensures
          (c.largest_change.ensures ∙ change-is _ _ p.standing.valid-tables.some_states p.same.states_same)
          c.lower_entries.ensures c.raise_cells.ensures c.raise_values.ensures c.raise_cells-2.ensures c.raise_cells-3.ensures,
    )
