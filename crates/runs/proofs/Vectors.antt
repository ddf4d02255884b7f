-- Acceptance of built levels, over the most vectors that a level may have; 32 and 1,000 are two uses. Assumes nothing.
use Rattle.integers.proofs.Kit.{refl, ℕ, suc, add-one}
use Rattle.tables.specs.Limits.{max_vectors}
use Rattle.tables.specs.Model.{Model}
use Rattle.tables.specs.Storage.{model_of}
use Rattle.plans.specs.Level.{Level}
use Rattle.plans.specs.Build.{built}
use Rattle.plans.proofs.Built.{built-shaped, built-meets}
use Rattle.plans.proofs.Agreement.{shaped-agree, meets-agree}
use Rattle.levels.specs.Storage.{level_of, point_in, over, number_in, standing_in}
use Rattle.levels.proofs.Over.{covers-elsewhere, complete-true, complete-long, over-long, over_agree}
use Rattle.runs.specs.State.{answer_for, built_from}
use Rattle.runs.specs.Vectors.{BuiltAccepted}
use Rattle.runs.proofs.Judged.{standing-true, accepts}

-- The built level has a vector for each state and each point; it has the shape of the next level and meets its inequalities
-- over the standing one (`built-shaped`, `built-meets`). What is laid of it agrees with it, so it passes every test of an offer. Qed.
pub built-accepted : (most : ℕ) → BuiltAccepted most
unfolding built
built-accepted most m x h room some count y points enough =
    let held = standing-true most m x h in
    let M : Model = model_of m in
    let S : Level = level_of m (standing_in x) in
    let weight = point_in m.states y.weights in
    let W : Level = built_from m S count y in
    let v = held.valid-tables in
    let complete = complete-true m (answer_for m count y) points.answer_room in
    let agree = over_agree m W y (covers-elsewhere m.states W (λ v s. refl)) in
    accepts most m x (answer_for m count (over m W y)) record {
      standing = held;
      room = room;
      given = complete-long m (over-long m W y complete) complete;
      held = complete-true m (answer_for m count x.cells) points.certifier_room;
      shaped = rw (add-one (number_in x)) (shaped-agree M W _ agree (suc (number_in x))
          (built-shaped M S (number_in x) v held.shaped count weight points.few points.total enough));
      meets = meets-agree M S W _ agree (built-meets M S (number_in x) v held.shaped count weight points.few points.total some);
    }

pub accepted-32 : BuiltAccepted 32
accepted-32 = built-accepted 32

pub accepted-1000 : BuiltAccepted max_vectors
accepted-1000 = built-accepted max_vectors
