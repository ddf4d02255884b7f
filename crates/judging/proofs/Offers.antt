-- An offer's tests in their two stages, and what the first leaves known for the second. Assumes nothing.
--
-- In order: the stages as the code goes through them; what is lent to the tests of 21 and 13 to 15.
use Rattle.integers.proofs.Kit.{◌≡◌, [], ℕ, ◌≤◌, ◌<◌, ◌+◌, arith, length}
use Rattle.tables.specs.Tables.{Tables}
use Rattle.refusals.specs.Verdicts.{Verdict, Fine, Refused, ◌before◌}
use Rattle.tables.specs.Limits.{max_vectors, max_levels}
use Rattle.tables.specs.Model.{Model}
use Rattle.tables.specs.Storage.{counts_of, model_in, model_of}
use Rattle.tables.specs.Steps.{rows_to}
use Rattle.tables.proofs.Fitting.{rows-stored}
use Rattle.refusals.proofs.Refusals.{stops, goes}
use Rattle.plans.specs.Level.{Level, Shaped, ceiling, gain, backup_at, follows}
use Rattle.plans.proofs.Built.{shaped-mono}
use Rattle.levels.specs.Storage.{LentLevel, Lent, level_of, floor_in, roof_in, number_in, standing_in}
use Rattle.levels.specs.Judged.{masks_verdict, floors_verdict, corners_verdict, points_verdict, shape_verdict, backups_verdict, offer_verdict, offer_up_to}
use Rattle.runs.proofs.Judged.{Fitting}
use Rattle.sums.proofs.Regroup.{transitions-fit, observations-fit}
use Rattle.reaches.specs.Steps.{ActionStored, Reaching}
use Rattle.backups.specs.Steps.{Roofed}
use Rattle.floors.specs.Steps.{Judging}
use Rattle.backups.proofs.Lent.{entries-lent, roof-lent}

module _ (m : Tables) (x : Lent) (l : LentLevel) where
  abbrev M : Model
  M = model_of m

  abbrev L : Level
  L = level_of m (standing_in x)

  abbrev W : Level
  W = level_of m l

  -- ---- the stages as the code goes through them
  module _ {shape : Verdict} (e : shape ≡ shape_verdict m x l) where
    pub refused-shape : {k i : ℕ} → shape ≡ Refused k i → shape ≡ offer_verdict m x l
    unfolding offer_up_to
    refused-shape f = stops _ e f

    pub left-backups : {backups : Verdict} → shape ≡ Fine → backups ≡ backups_verdict M L W → backups ≡ offer_verdict m x l
    unfolding offer_up_to
    left-backups f g = goes e f g

  -- of the standing level and the offered one, each test of 21 and 13 to 15 reads a part
  module _ {reached : Verdict}
      (r : reached
      ≡ masks_verdict (model_in (counts_of m) m.transition m.observation []) (floor_in m.states m.observations 0 [] [] x.cells.masks [])
      (floor_in m.states m.observations l.vectors l.cells.actions l.cells.choices l.cells.masks [])) where
    masks-read : reached ≡ masks_verdict M L W
    unfolding masks_verdict
    masks-read = r

    pub refused-21 : {k i : ℕ} → reached ≡ Refused k i → reached ≡ backups_verdict M L W
    unfolding backups_verdict
    refused-21 f = stops _ masks-read f

    module _ (d : reached ≡ Fine) {floor : Verdict}
        (e : floor ≡ floors_verdict M (floor_in m.states m.observations 0 [] [] x.cells.masks x.cells.entries)
        (floor_in m.states m.observations l.vectors l.cells.actions l.cells.choices l.cells.masks l.cells.entries)) where
      floor-read : floor ≡ floors_verdict M L W
      unfolding floors_verdict follows
      floor-read = e

      pub refused-13 : {k i : ℕ} → floor ≡ Refused k i → floor ≡ backups_verdict M L W
      unfolding backups_verdict
      refused-13 f = goes masks-read d (stops _ floor-read f)

      -- the corners and points of the standing level, and of the offered one
      abbrev standing : Level
      standing = roof_in m.states x.cells.corners (standing_in x).points x.cells.weights x.cells.values

      abbrev offered : Level
      offered = roof_in m.states l.cells.corners l.points l.cells.weights l.cells.values

      pub left-14 : floor ≡ Fine → {roof : Verdict} → roof ≡ (corners_verdict M standing offered before points_verdict M standing offered)
          → roof ≡ backups_verdict M L W
      unfolding backups_verdict corners_verdict points_verdict backup_at ceiling gain
      left-14 f g = goes masks-read d (goes floor-read f g)

  -- ---- what is lent to the tests of 21 and 13 to 15
  module _ (f : Fitting max_vectors m x l) where
    standing-shaped : Shaped M max_levels L
    standing-shaped = shaped-mono M L (number_in x) max_levels f.standing.few-levels f.standing.shaped

    pub offered-shaped : Shaped M max_levels W
    offered-shaped = shaped-mono M W (number_in x + 1) max_levels (omega (arith, f.room)) f.shaped

    action-stored : (a : ℕ) → a < m.actions → ActionStored m.states m.observations m.transition m.observation a
    action-stored a b =
        let valid = f.standing.valid-tables in
        let stored = f.standing.stored-tables in
        record {
          few_states = valid.few_states;
          few_observations = valid.few_observations;
          few_actions = omega (arith, valid.few_actions);
          transitions = (transitions-fit (counts_of m) m.transition m.observation m.reward valid stored a b).stored;
          observed = (observations-fit (counts_of m) m.transition m.observation m.reward valid stored a b).stored;
        }

    -- the offered vectors are within the limit, and their choices are stored
    row_below : {v : ℕ} → v < l.vectors → v < max_vectors
    row_below b = omega (arith, offered-shaped.few_vectors)

    row-stored : {v : ℕ} → v < l.vectors → rows_to m.observations v ≤ length l.cells.choices
    row-stored {v} b = rows-stored m.observations v l.vectors b f.given.choices

    pub reaching : Reaching (counts_of m) m.transition m.observation x.cells.masks l.vectors l.cells.actions l.cells.choices
        l.cells.masks
    reaching = record {
      some_states = f.standing.valid-tables.some_states;
      actions_long = f.given.read.actions;
      covering_long = f.given.read.masks;
      acts = λ v b. action-stored _ (offered-shaped.action_in v b);
      chooses = λ v b. record {
        row = row_below b;
        stored = row-stored b;
        vector = λ o h. omega (arith, f.chosen v b o h, f.standing.read.masks);
      };
    }

    pub judging : Judging (counts_of m) m.transition m.observation m.reward x.cells.masks x.cells.entries l.vectors l.cells.actions
        l.cells.choices l.cells.masks l.cells.entries
    judging = record {
      valid = f.standing.valid-tables;
      stored = f.standing.stored-tables;
      actions_long = f.given.read.actions;
      acts = offered-shaped.action_in;
      chosen = λ v b. record {
        vectors = (standing_in x).vectors;
        entries_fit = entries-lent m (standing_in x) f.standing.valid-tables f.standing.stored-tables f.standing.read standing-shaped;
        row = row_below b;
        stored = row-stored b;
        vector = f.chosen v b;
      };
      offers = entries-lent m l f.standing.valid-tables f.standing.stored-tables f.given.read offered-shaped;
    }

    pub standing-roof : Roofed (counts_of m) m.transition m.observation m.reward x.cells.corners (standing_in x).points x.cells.weights
        x.cells.values
    standing-roof = roof-lent m (standing_in x) f.standing.valid-tables f.standing.stored-tables f.standing.read standing-shaped

    pub offered-roof : Roofed (counts_of m) m.transition m.observation m.reward l.cells.corners l.points l.cells.weights
        l.cells.values
    offered-roof = roof-lent m l f.standing.valid-tables f.standing.stored-tables f.given.read offered-shaped
