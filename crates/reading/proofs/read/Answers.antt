use Rattle.integers.proofs.Kit.{◌≡◌, ◌∙◌, refl, ℕ, ◌*◌, arith, le-leb, length, length-replicate, pos}
use Rattle.integers.proofs.Lists.{paste-laid}
use Rattle.tables.specs.Limits.{max_states, max_actions, max_observations}
use Rattle.tables.specs.Storage.{counts_of, model_of}
use Rattle.tables.specs.Steps.{Stored}
use Rattle.tables.specs.Model.{Valid}
use Rattle.tables.proofs.Fitting.{Long, Sizes, sizes, stored-true}
use Rattle.bodies.specs.Body.{ModelFile}
use Rattle.bodies.specs.Steps.{file_in}
use Rattle.modelfile.specs.ModelFile.{Room, room}
use Rattle.modelfile.proofs.Opens.{opens, read-valid}
use Rattle.reading.specs.Reading.{file_for, read_verdict}
use Rattle.reading.proofs.read.Goals as goal
use Rattle.reading.proofs.read.Goals.{In_ok-c}

-- ---- what was read, in the arrays that it was read into
abbrev drafted : In_ok-c → ModelFile
drafted c = let x = c.read.new in file_in c.in_ok-c.c x.transition x.observation x.reward x.start

abbrev lent : In_ok-c → Room
lent c = let a = c.args in room (length a.transition.now) (length a.observation.now) (length a.reward.now)

long : (c : In_ok-c) → Long (drafted c).tables
long c = let x = c.read.auto in record {
  transition = x.transition ∙ length-replicate {A = ℕ} (max_actions * max_states * max_states) 0;
  observation = x.observation ∙ length-replicate {A = ℕ} (max_actions * max_states * max_observations) 0;
  reward = x.reward ∙ length-replicate (max_actions * max_states) (pos 0);
}

start-long : (c : In_ok-c) → length (drafted c).start ≡ max_states
start-long c = c.read.auto.start ∙ length-replicate {A = ℕ} max_states 0

same : (c : In_ok-c) → let a = c.args in drafted c ≡ file_for a.file.now a.transition.now a.observation.now a.reward.now
same c = c.in_ok-c.ensures.start_after c.in_ok-c.c refl

valid : (c : In_ok-c) → Valid (model_of (drafted c).tables)
valid c = read-valid (lent c) c.args.file.now (same c) refl

few : (c : In_ok-c) → let m = (drafted c).tables in Sizes m.actions m.states m.observations
few c = let v = valid c in sizes record { actions = v.few_actions; states = v.few_states; observations = v.few_observations }

stored : (c : In_ok-c) → let a = c.args in Stored (counts_of (drafted c).tables) a.transition.now a.observation.now a.reward.now
stored c = stored-true _ (opens (lent c) c.args.file.now (same c) refl).tables-stored

pub overflow_mul-rows : goal.overflow_mul-rows
overflow_mul-rows c = omega (arith, (few (goal.at.overflow_mul-rows c).In_ok-c).rows)

pub overflow_mul-rows-2 : goal.overflow_mul-rows-2
overflow_mul-rows-2 c = omega (arith, (few (goal.at.overflow_mul-rows-2 c).In_ok-c).transitions)

pub paste-requires : goal.paste-requires
paste-requires c =
    let t = (goal.at.paste-requires c).In_ok-c in (omega (arith, (stored t).transitions), rw (long t).transition (few t).transitions)

pub overflow_mul-rows-3 : goal.overflow_mul-rows-3
overflow_mul-rows-3 c = omega (arith, (few (goal.at.overflow_mul-rows-3 c).In_ok-c).observed)

pub paste-requires-2 : goal.paste-requires-2
paste-requires-2 c =
    let t = (goal.at.paste-requires-2 c).In_ok-c in (omega (arith, (stored t).observed), rw (long t).observation (few t).observed)

pub paste-requires-3 : goal.paste-requires-3
paste-requires-3 c =
    let t = (goal.at.paste-requires-3 c).In_ok-c in (omega (arith, (stored t).rewards), rw (long t).reward (few t).rows)

pub paste-requires-4 : goal.paste-requires-4
paste-requires-4 c =
    let t = (goal.at.paste-requires-4 c).In_ok-c in (omega arith, omega (arith, start-long t, (valid t).few_states))

pub returns : goal.returns
unfolding read_verdict
returns c =
    let h = (goal.at.returns c).In_ok-c in
    let a = c.args in
    let x = drafted h in
    let m = x.tables in
    rw (← same h, le-leb _ _ c.if-start-n.false) (
      refl,
      (
        c.paste.ensures ∙ paste-laid (m.actions * m.states * m.states) a.transition.now m.transition 0 (rw (long h).transition (few h).transitions),
        (
          c.paste-2.ensures
              ∙ paste-laid (m.actions * m.states * m.observations) a.observation.now m.observation 0 (rw (long h).observation (few h).observed),
          (
            c.paste-3.ensures ∙ paste-laid (m.actions * m.states) a.reward.now m.reward (pos 0) (rw (long h).reward (few h).rows),
            c.paste-4.ensures ∙ paste-laid m.states a.start.now x.start 0 (omega (arith, start-long h, (valid h).few_states)),
          ),
        ),
      ),
    )
