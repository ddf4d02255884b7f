use Rattle.solved.proofs.Prelude.{arith}
use Rattle.integers.proofs.Kit.{◌<◌}
use Rattle.builder.proofs.Levels.{filled_none, filled_more}
use Rattle.solved.proofs.Vectors.{row_made}
use Rattle.solved.proofs.write_vectors.Goals as goal

pub loop-v-init : goal.loop-v-init
loop-v-init c = record { read = c.requires.solving.files.start; filled = filled_none _ _ _ }

pub number-requires : goal.number-requires
number-requires c =
    let below : c.loop-v.v < c.args.count = omega arith in
    (row_made c.row_at-x.result c.requires.solving below c.row_at-x.ensures).action_in

pub loop-v-preserved : goal.loop-v-preserved
loop-v-preserved c =
    let below : c.loop-v.v < c.args.count = omega arith in
    let f = c.requires.solving.files in
    record {
      read = c.row_at-x.ensures.onward;
      filled = filled_more _ _ _ c.requires.rows_fit c.loop-v.invariant.filled below
          (row_made c.row_at-x.result c.requires.solving below c.row_at-x.ensures) f.few_observations f.few_states c.number.ensures c.all-all.ensures
          (rw c.start.ensures at c.paste.ensures) (rw c.start-in-loop-v.ensures at c.paste-in-loop-v.ensures);
    }
