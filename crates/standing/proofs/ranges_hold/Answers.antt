use Rattle.std.proofs.Common.{◌≡◌, ◌∙◌, ◌≤◌, arith, rules}
use Rattle.tables.specs.Limits.{max_entry}
use Rattle.plans.proofs.Built.{range-limit}
use Rattle.standing.proofs.Stages.{entries-refused, corners-refused, values-left}
use Rattle.standing.proofs.ranges_hold.Goals as goal

pub entries_within-requires-clause-vectors_le_max_vectors : goal.entries_within-requires-clause-vectors_le_max_vectors
entries_within-requires-clause-vectors_le_max_vectors c =
    let (states, (levels, (vectors, _))) = c.requires.n_le_max_states in
    let small : c.range_of-limit.result ≤ max_entry = rw c.range_of-limit.ensures (range-limit c.args.t levels) in
    (vectors, (states, omega (arith, small)))

pub returns-in_err-entries_within : goal.returns-in_err-entries_within
returns-in_err-entries_within c =
    let a = c.args in
    let same : c.from_residual.result ≡ c.entries_within.result = search rules in
    same ∙ entries-refused a.n a.t a.vectors a.points a.masks.now a.entries.now a.corners.now a.weights.now a.values.now
    c.range_of-limit.ensures c.entries_within.ensures c.in_err-entries_within.was

pub rows_within-requires-clause-rows_le_max_vectors : goal.rows_within-requires-clause-rows_le_max_vectors
rows_within-requires-clause-rows_le_max_vectors c =
    let (states, (levels, _)) = c.requires.n_le_max_states in
    let small : c.range_of-limit.result ≤ max_entry = rw c.range_of-limit.ensures (range-limit c.args.t levels) in
    (omega (arith, states), (omega arith, omega (arith, small)))

pub returns-in_err-rows_within : goal.returns-in_err-rows_within
returns-in_err-rows_within c =
    let a = c.args in
    let same : c.from_residual-in_err-rows_within.result ≡ c.rows_within.result = search rules in
    same ∙ corners-refused a.n a.t a.vectors a.points a.masks.now a.entries.now a.corners.now a.weights.now a.values.now
    c.range_of-limit.ensures c.entries_within.ensures c.in_ok-entries_within.was c.rows_within.ensures c.in_err-rows_within.was

pub values_within-requires-clause-n_le_max_states : goal.values_within-requires-clause-n_le_max_states
values_within-requires-clause-n_le_max_states c =
    let (states, (levels, (_, points))) = c.requires.n_le_max_states in
    (states, (points, rw c.range_of-limit.ensures (range-limit c.args.t levels)))

pub returns : goal.returns
returns c =
    let a = c.args in
    values-left a.n a.t a.vectors a.points a.masks.now a.entries.now a.corners.now a.weights.now a.values.now
    c.range_of-limit.ensures c.entries_within.ensures c.in_ok-entries_within.was c.rows_within.ensures c.in_ok-rows_within.was c.values_within.ensures
