-- A level adopted from a solver's files is accepted. Assumes nothing.
--
--   roof-fine       11 cannot meet the builder's corners and values
--   solved-meets    the level meets its inequalities
--   size-first, ..  the order of 1, 7, and 19 with 20
--   adopt-holds     the certifier accepts it, and decimals within their backups are kept
use Rattle.integers.proofs.Kit.{◌≡◌, ◌∙◌, ap, ◌&&◌, List, ℕ, ◌≤◌, ◌<◌, ◌+◌, ◌*◌, arith, add-one, le-leb, leb-true, lt-ltb, ltb-true, leb, length, ℤ}
use Rattle.integers.proofs.Kit.{refl, Bool, true, false, nat_abs}
use Rattle.integers.specs.Whole.{total_to}
use Rattle.integers.proofs.Order.{≤_trans, ·-mono, lesser-right, lesser-is}
use Rattle.integers.proofs.Rounding.{floor-≤}
use Rattle.integers.proofs.Searches.{and-true, and_is, at_every}
use Rattle.tables.specs.Tables.{Tables}
use Rattle.refusals.specs.Verdicts.{Fine, Refused, ◌before◌, unless}
use Rattle.tables.specs.Limits.{K, max_vectors, max_levels}
use Rattle.tables.specs.Model.{Model, Valid, backed_up}
use Rattle.tables.specs.Storage.{model_of}
use Rattle.tables.specs.Judged.{count_within}
use Rattle.refusals.proofs.Refusals.{before-fine, unless-fine}
use Rattle.plans.specs.Limits.{max_points, max_built, range}
use Rattle.plans.specs.Level.{Level, corner_weight, Meets, Shaped}
use Rattle.plans.specs.Build.{least_value}
use Rattle.plans.proofs.Ceiling.{corner-total}
use Rattle.plans.proofs.Built.{K-positive, value-meets, value-range}
use Rattle.plans.proofs.Agreement.{shaped-agree, meets-agree}
use Rattle.levels.specs.Storage.{Cells, Lent, level_of, over, number_in, standing_in}
use Rattle.levels.specs.Judged.{holds, masks_verdict, rows_within, values_within}
use Rattle.levels.proofs.Laws.{fine_before, numbers-in, masks-in}
use Rattle.levels.proofs.Over.{Complete, complete-true, complete-long, covers-elsewhere, over_agree, over-long}
use Rattle.runs.proofs.Judged.{Held, rows_is, values-is, tests-shaped, standing-true, accepts}
use Rattle.solver.specs.Files.{max_file, vectors_in, files_verdict}
use Rattle.solved.specs.Solved.{solved}
use Rattle.adoption.specs.Adopt.{solved_from, adopted_level, adopt_fits, adopt_verdict, adopted}
use Rattle.adoption.specs.Claim.{AdoptHolds}

-- ---- corners and values

-- The builder's corners and values over level t lie within the range of level t + 1, whatever the points' weights total.
-- A corner or value is the largest of the backups over K, rounded up. Backups lie within K × range (t + 1) times the total of the weights (`value-range`),
-- which is 1 at a corner; and 11 asks for no more of a value. Qed.
module _ (M : Model) (t : ℕ) (L : Level) (T : Valid M) (S : Shaped M t L) where
  corner-within : (s : ℕ) → s < M.states → nat_abs (least_value M L (corner_weight s)) ≤ range (t + 1)
  corner-within s l = rw (add-one t) (omega (arith, rw (corner-total M.states s l) at (value-range M L t T S (corner_weight s))))

  value-within : (p : ℕ → ℕ) → nat_abs (least_value M L p) ≤ total_to M.states p * range (t + 1)
  value-within p = rw (add-one t) (value-range M L t T S p)

pub roof-fine : (M : Model) (t : ℕ) (L W : Level) → Valid M → Shaped M t L
    → W.corner ≡ (λ s. least_value M L (corner_weight s)) → W.value ≡ (λ i. least_value M L (W.weight i))
    → (rows_within 11 M.states 1 (range (t + 1)) (λ s x. W.corner s)
    before values_within M.states W.points (range (t + 1)) W.weight W.value) ≡ Fine
roof-fine M t L W T S corners values =
    fine_before (rows_is 11 M.states 1 (range (t + 1)) (λ s x. W.corner s) (λ s l x b. rw (ap (λ (f : ℕ → ℤ). f s) corners) (corner-within M t L T S s l)))
    (values-is M.states W.points (range (t + 1)) W.weight W.value
    (λ i l. rw (ap (λ (f : ℕ → ℤ). f i) values) (value-within M t L T S (W.weight i))))

-- ---- the inequalities

-- Where its actions and choices exist and 21 is passed, a level from files meets its inequalities over the level that stands.
-- Its vectors cover all states, and from each 21 tests that the chosen vectors cover what is reached. An entry is at most its backup over K, rounded down,
-- so K times it is at most the backup. Corners and values are the builder's: K times the largest of the backups over K, rounded up, is at least each of
-- them (`value-meets`). Qed.
pub solved-meets : (M : Model) (t : ℕ) (L : Level) (alphaFile graphFile : List ℕ) (points : ℕ) (weight : ℕ → ℕ → ℕ)
    → let W = solved M t L alphaFile graphFile points weight in
    ((v : ℕ) → v < W.vectors → (W.action v < M.actions) × ((o : ℕ) → o < M.observations → W.choice v o < L.vectors))
    → masks_verdict M L W ≡ Fine → Meets M L W
unfolding solved backed_up
solved-meets M t L alphaFile graphFile points weight exist reached = record {
  vector = λ v l. record {
    action_exists = (exist v l).0;
    choice_exists = (exist v l).1;
    covers_reached = masks-in M L (solved M t L alphaFile graphFile points weight) reached v l;
    entry_holds = λ s b c. ≤_trans (·-mono K (lesser-right _ _)) (floor-≤ K K-positive _);
  };
  corner = λ s l a la. value-meets M L (corner_weight s) a la;
  point = λ i l a la. value-meets M L (weight i) a la;
}

-- ---- the call
few_points : {count : ℕ} → count ≤ max_built → count ≤ max_points
few_points h = omega arith

module _ (m : Tables) (x : Lent) (alphaFile graphFile : List ℕ) (count : ℕ) (y : Cells) where
  abbrev W : Level
  W = solved_from m x alphaFile graphFile count y

  abbrev sizes_hold : Bool
  sizes_hold = leb (length alphaFile) max_file && leb (length graphFile) max_file

  -- 1 comes first, then 7, then what the files are refused for, whatever else is wrong
  pub size-first : sizes_hold ≡ false → adopt_verdict m x alphaFile graphFile count y ≡ Refused 1 0
  unfolding adopt_verdict
  size-first e = rw e

  pub certifier-next : sizes_hold ≡ true → holds m x ≡ false → adopt_verdict m x alphaFile graphFile count y ≡ Refused 7 0
  unfolding adopt_verdict
  certifier-next e f = rw (e, f)

  pub files-then : {number place : ℕ} → sizes_hold ≡ true → holds m x ≡ true
      → files_verdict m.states m.observations alphaFile graphFile ≡ Refused number place
      → adopt_verdict m x alphaFile graphFile count y ≡ Refused number place
  unfolding adopt_verdict
  files-then e f g = rw (e, f, g)

  -- what 7 to 12 and 21 test
  record Tested : Type 0 where
    standing : Held max_vectors m x
    room : number_in x < max_levels
    given : Complete m (adopted_level m alphaFile count y)
    shaped : Shaped (model_of m) (number_in x + 1) W
    exist : (v : ℕ) → v < W.vectors → (W.action v < m.actions) × ((o : ℕ) → o < m.observations → W.choice v o < (standing_in x).vectors)
    reached : masks_verdict (model_of m) (level_of m (standing_in x)) W ≡ Fine

  tested : adopt_verdict m x alphaFile graphFile count y ≡ Fine → Tested
  unfolding adopt_verdict solved
  tested e =
      let one = before-fine (unless sizes_hold 1 0) _ e in
      let seven = before-fine (unless (holds m x) 7 0) _ one.1 in
      let files = before-fine (files_verdict m.states m.observations alphaFile graphFile) _ seven.1 in
      let eight = before-fine _ _ files.1 in
      let nine = before-fine _ _ eight.1 in
      let ten = before-fine _ _ nine.1 in
      let masks = before-fine _ _ ten.1 in
      let eleven = before-fine _ _ masks.1 in
      let sizes = and-true (count_within max_vectors (vectors_in m.states alphaFile)) _ (unless-fine (adopt_fits m alphaFile count y) 9 0 nine.0) in
      let points = and-true _ _ sizes.1 in
      let numbers = numbers-in 10 W.vectors m.actions m.observations (standing_in x).vectors W.action W.choice ten.0 in
      record {
        standing = standing-true max_vectors m x (unless-fine (holds m x) 7 0 seven.0);
        room = ltb-true (number_in x) max_levels (unless-fine _ 8 0 eight.0);
        given = complete-true m (adopted_level m alphaFile count y) points.1;
        shaped = tests-shaped max_vectors (model_of m) (number_in x + 1) W record {
          counts = and_is sizes.0 (le-leb count max_points (few_points (leb-true count max_built points.0)));
          actions = at_every _ _ (λ v l. lt-ltb _ _ (numbers v l).0);
          ranges = eleven.0;
          weights = eleven.1;
        };
        exist = numbers;
        reached = masks.0;
      }

  laid : adopt_verdict m x alphaFile graphFile count y ≡ Fine → adopted m x alphaFile graphFile count y ≡ over m W y
  unfolding adopted
  laid e = rw e

  -- What is adopted, the same certifier accepts, and a decimal within its backup is kept.
  -- 7 to 12 and 21 were tested, of the certifier and of the level itself (`tested`), and the level meets its inequalities, 13 to 15 (`solved-meets`). It is
  -- laid over the slices, which stay as long as they were, and what is read of them agrees with it: so that has its shape and meets its inequalities, and
  -- every test of an offer passes (`accepts`). The lesser of two is the first where that is at most the second (`lesser-is`). Qed.
  pub adopt-holds : adopt_verdict m x alphaFile graphFile count y ≡ Fine
      → AdoptHolds m x alphaFile graphFile count y (adopted m x alphaFile graphFile count y)
  unfolding solved
  adopt-holds e =
      let M : Model = model_of m in
      let L : Level = level_of m (standing_in x) in
      let h = tested e in
      let agree = over_agree m W y (covers-elsewhere m.states W (λ v s. refl)) in
      rw (laid e) record {
        accepted = λ room. accepts max_vectors m x (adopted_level m alphaFile count (over m W y)) record {
          standing = h.standing;
          room = h.room;
          given = complete-long m (over-long m W y h.given) h.given;
          held = complete-true m (adopted_level m alphaFile count x.cells) room;
          shaped = shaped-agree M W _ agree (number_in x + 1) h.shaped;
          meets = meets-agree M L W _ agree (solved-meets M (number_in x) L alphaFile graphFile count _ h.exist h.reached);
        };
        kept = λ v l s b d. agree.entry_same v l s b ∙ lesser-is _ _ d;
      }
