use Rattle.std.proofs.Common.{◌≤◌, arith}
use Rattle.tables.specs.Limits.{max_entry}
use Rattle.plans.proofs.Built.{range-limit}
use Rattle.standing.proofs.rows_hold.Goals as goal

pub rows_within-requires-clause-rows_le_max_vectors : goal.rows_within-requires-clause-rows_le_max_vectors
rows_within-requires-clause-rows_le_max_vectors c =
    let limit : c.range_of.result ≤ max_entry = rw c.range_of.ensures (range-limit c.args.t c.requires.1.1) in
    (omega (arith, c.requires.0), (c.requires.1.0, omega (arith, limit)))
