-- The call from its stages. Assumes nothing.
--
--   start_verdict, end_verdict                      1 to 9, and the rest: adopt-first, adopt-then join them
--   started                                       what 1 to 9 leave known
--   level-asks, roof-asks, vectors-ask            what the steps ask for is known then
--   level-said                                    10, 21, 11 and 12, as the steps test them
--   level-laid                                    the level over the slices, from its parts
--   answered-back, answered-fine                  what is answered, what is left, and what is claimed of it
use Rattle.std.specs.Prelude.{Result, Ok, Err}
use Rattle.integers.proofs.Kit.{◌≡◌, ◌∙◌, refl, ap, sym, subst, ◌&&◌, List, ℕ, ◌≤◌, ◌<◌, ◌+◌, ◌*◌, arith, leb-true, ltb-true, leb, ltb, length, ℤ}
use Rattle.integers.specs.Cells.{laid}
use Rattle.integers.proofs.Lists.{laid_rows-flat, laid-self}
use Rattle.integers.proofs.Searches.{and-true}
use Rattle.tables.specs.Tables.{Tables}
use Rattle.refusals.specs.declared.Refusal.{Refusal}
use Rattle.refusals.specs.Verdicts.{Verdict, Fine, ◌before◌, unless}
use Rattle.tables.specs.Limits.{max_vectors, max_levels}
use Rattle.tables.specs.Storage.{counts_of, model_of}
use Rattle.refusals.proofs.Refusals.{before-fine, unless-fine, refused-before}
use Rattle.plans.specs.Limits.{max_built, range}
use Rattle.plans.specs.Level.{Level, gain, ceiling, backup_at, corner_weight, follows, Shaped, IsPoint}
use Rattle.plans.specs.Build.{least_for, least_value}
use Rattle.plans.proofs.Built.{shaped-mono}
use Rattle.levels.specs.declared.Standing.{Standing}
use Rattle.levels.specs.Storage.{Cells, Lent, cells, level_of, roof_in, point_in, over, standing_at, number_in, standing_in}
use Rattle.levels.specs.Judged.{holds, numbers_in, numbers_verdict, masks_verdict, rows_within, values_within, ranges_verdict, weights_verdict}
use Rattle.levels.proofs.Laws.{numbers-in}
use Rattle.levels.proofs.Over.{Complete, complete-true}
use Rattle.runs.proofs.Judged.{Held, standing-true, weights-fine}
use Rattle.backups.specs.Steps.{Roofed}
use Rattle.candidates.specs.Steps.{top_built, Upon}
use Rattle.builder.specs.Steps.{RowsFit, Filled}
use Rattle.builder.proofs.Levels.{upon-lent, roofed-lent}
use Rattle.solver.specs.Files.{max_file, vectors_in, files_verdict}
use Rattle.solver.proofs.Files.{FilesRead, files-read}
use Rattle.stated.specs.Steps.{Files, masks_over}
use Rattle.solved.specs.Solved.{solved}
use Rattle.solved.specs.Steps.{vectors_over, Solving}
use Rattle.adoption.specs.Adopt.{solved_from, adopted_level, adopt_fits, solved_verdict, adopt_verdict, adopted, adopt_answer}
use Rattle.adoption.specs.Claim.{AdoptHolds}
use Rattle.adoption.proofs.Accepted.{roof-fine, adopt-holds}

-- ---- stages, one after the other

apart : (a b c d e w : Verdict) → (a before b before c before d before e before w) ≡ ((a before b before c before d before e) before w)
apart (Err r) b c d e w = refl
apart (Ok u) (Err r) c d e w = refl
apart (Ok u) (Ok v) (Err r) d e w = refl
apart (Ok u) (Ok v) (Ok x) (Err r) e w = refl
apart (Ok u) (Ok v) (Ok x) (Ok y) e w = refl

-- a stage that is fine is passed over
passed_over : (a b w : Verdict) → b ≡ Fine → ((a before b) before w) ≡ (a before w)
passed_over (Ok u) b w e = rw e
passed_over (Err r) b w e = refl

module _ (m : Tables) (x : Lent) (alphaFile graphFile : List ℕ) (count : ℕ) (y : Cells) where
  abbrev W : Level
  W = solved_from m x alphaFile graphFile count y

  -- its vectors, from what the steps read, over what stands
  abbrev floor : Standing → Level
  floor s =
      vectors_over (counts_of m) m.transition m.observation m.reward x.cells.masks x.cells.entries s.vectors s.number alphaFile
      graphFile

  -- 10, 21, 11 of the entries, and 12, as the steps test them
  abbrev numbers_tested : Standing → ℕ → Verdict
  numbers_tested s vectors = numbers_in 10 vectors m.actions m.observations s.vectors (floor s).action (floor s).choice

  abbrev masks_tested : Standing → ℕ → Verdict
  masks_tested s vectors = masks_over (counts_of m) m.transition m.observation x.cells.masks vectors (floor s).action (floor s).choice

  abbrev entries_tested : Standing → ℕ → Verdict
  entries_tested s vectors = rows_within 11 vectors m.states (range (s.number + 1)) (floor s).entry

  abbrev points_tested : Verdict
  points_tested = weights_verdict m.states count (point_in m.states y.weights)

  abbrev level_tested : Standing → ℕ → Verdict
  level_tested s vectors = numbers_tested s vectors before masks_tested s vectors before entries_tested s vectors before points_tested

  -- 1 to 9, and the rest
  abbrev pub start_verdict : Verdict
  start_verdict =
      unless (leb (length alphaFile) max_file && leb (length graphFile) max_file) 1 0
      before unless (holds m x) 7 0
      before files_verdict m.states m.observations alphaFile graphFile
      before unless (ltb (number_in x) max_levels) 8 0
      before unless (adopt_fits m alphaFile count y) 9 0

  abbrev pub end_verdict : Verdict
  end_verdict = solved_verdict (model_of m) (number_in x) (level_of m (standing_in x)) W

  adopt-apart : adopt_verdict m x alphaFile graphFile count y ≡ (start_verdict before end_verdict)
  unfolding adopt_verdict
  adopt-apart = apart (unless (leb (length alphaFile) max_file && leb (length graphFile) max_file) 1 0) (unless (holds m x) 7 0)
      (files_verdict m.states m.observations alphaFile graphFile) (unless (ltb (number_in x) max_levels) 8 0)
      (unless (adopt_fits m alphaFile count y) 9 0) end_verdict

  pub adopt-first : {e : Refusal} → start_verdict ≡ Err e → adopt_verdict m x alphaFile graphFile count y ≡ Err e
  adopt-first h = adopt-apart ∙ refused-before end_verdict h

  pub adopt-then : start_verdict ≡ Fine → adopt_verdict m x alphaFile graphFile count y ≡ end_verdict
  adopt-then h = adopt-apart ∙ ap (λ (v : Verdict). v before end_verdict) h

  -- what 1 to 9 leave known
  pub record Started : Type 0 where
    pub standing : Held max_vectors m x
    pub read : FilesRead m.states m.observations alphaFile graphFile
    pub room : number_in x < max_levels
    pub few_vectors : vectors_in m.states alphaFile ≤ max_vectors
    pub few : count ≤ max_built
    pub whole : Complete m (adopted_level m alphaFile count y)

  pub started : start_verdict ≡ Fine → Started
  started e =
      let e7 = before-fine (unless (leb (length alphaFile) max_file && leb (length graphFile) max_file) 1 0) _ e in
      let e19 = before-fine (unless (holds m x) 7 0) _ e7.1 in
      let e8 = before-fine (files_verdict m.states m.observations alphaFile graphFile) _ e19.1 in
      let e9 = before-fine (unless (ltb (number_in x) max_levels) 8 0) _ e8.1 in
      let sizes = and-true _ _ (unless-fine (adopt_fits m alphaFile count y) 9 0 e9.1) in
      let rest = and-true (leb count max_built) _ sizes.1 in
      record {
        standing = standing-true max_vectors m x (unless-fine _ 7 0 e19.0);
        read = files-read m.states m.observations alphaFile graphFile e8.0;
        room = ltb-true _ _ (unless-fine _ 8 0 e9.0);
        few_vectors = leb-true _ _ (and-true (leb 1 (vectors_in m.states alphaFile)) _ sizes.0).1;
        few = leb-true _ _ rest.0;
        whole = complete-true m (adopted_level m alphaFile count y) rest.1;
      }

  module _ (known : Started) where
    low : Shaped (model_of m) top_built (level_of m (standing_in x))
    low = shaped-mono (model_of m) (level_of m (standing_in x)) (number_in x) top_built (omega (arith, known.room)) known.standing.shaped

    upon : Upon (counts_of m) m.transition m.observation m.reward x.cells.masks x.cells.entries (standing_in x).vectors
    upon = upon-lent {m = m} {l = standing_in x} known.standing.valid-tables known.standing.stored-tables known.standing.read low

    files : Files m.states m.observations alphaFile graphFile (vectors_in m.states alphaFile)
    files = record {
      few_states = known.standing.valid-tables.few_states;
      few_observations = known.standing.valid-tables.few_observations;
      as_many = refl;
      start = known.read.start;
    }

    -- 11 cannot meet corners and values, so the rest is what the steps test
    end_is : level_tested (standing_at x.state) (vectors_in m.states alphaFile) ≡ end_verdict
    unfolding masks_verdict ranges_verdict solved follows
    end_is =
        ap (λ (v : Verdict). numbers_verdict m.actions m.observations (standing_in x).vectors W
        before masks_verdict (model_of m) (level_of m (standing_in x)) W before v)
        (sym (passed_over (rows_within 11 W.vectors m.states (range (number_in x + 1)) W.entry)
        (rows_within 11 m.states 1 (range (number_in x + 1)) (λ s x. W.corner s)
        before values_within m.states W.points (range (number_in x + 1)) W.weight W.value)
        (weights_verdict m.states count (point_in m.states y.weights))
        (roof-fine (model_of m) (number_in x) (level_of m (standing_in x)) W known.standing.valid-tables known.standing.shaped refl refl)))

    -- what stands and the number of vectors, as they were read
    module _ {s : Standing} {vectors : ℕ} (es : s ≡ standing_at x.state) (ev : vectors ≡ vectors_in m.states alphaFile) where
      pub level-asks : (Upon (counts_of m) m.transition m.observation m.reward x.cells.masks x.cells.entries s.vectors
          × ((s.number < max_levels) × (vectors ≤ max_vectors)))
          × (Files m.states m.observations alphaFile graphFile vectors × ((count ≤ max_built) × (count * m.states ≤ length y.weights)))
      level-asks = rw (es, ev) ((upon, (known.room, known.few_vectors)), (files, (known.few, known.whole.read.weights)))

      pub level-said : {v : Verdict} → v ≡ level_tested s vectors → v ≡ end_verdict
      level-said e = e ∙ rw (es, ev) end_is

      pub roof-asks : Roofed (counts_of m) m.transition m.observation m.reward x.cells.corners s.points x.cells.weights x.cells.values
      roof-asks =
          rw es (roofed-lent {m = m} {l = standing_in x} known.standing.valid-tables known.standing.stored-tables known.standing.read low)

      module _ (fine : end_verdict ≡ Fine) where
        tests : let s = standing_at x.state in let vectors = vectors_in m.states alphaFile in
            (numbers_tested s vectors ≡ Fine) × (points_tested ≡ Fine)
        tests =
            let s = standing_at x.state in
            let vectors = vectors_in m.states alphaFile in
            let numbers = before-fine (numbers_tested s vectors)
            (masks_tested s vectors before entries_tested s vectors before points_tested) (end_is ∙ fine) in
            let masks = before-fine (masks_tested s vectors) (entries_tested s vectors before points_tested) numbers.1 in
            (numbers.0, (before-fine (entries_tested s vectors) points_tested masks.1).1)

        exist : (v : ℕ) → v < vectors_in m.states alphaFile → let s = standing_at x.state in
            ((floor s).action v < m.actions) × ((o : ℕ) → o < m.observations → (floor s).choice v o < s.vectors)
        exist =
            let s = standing_at x.state in
            numbers-in 10 (vectors_in m.states alphaFile) m.actions m.observations s.vectors (floor s).action (floor s).choice tests.0

        solving : Solving (counts_of m) m.transition m.observation m.reward x.cells.masks x.cells.entries (standing_in x).vectors (number_in x)
            alphaFile graphFile (vectors_in m.states alphaFile)
        unfolding solved
        solving = record {
          upon = upon;
          below = known.room;
          few = known.few_vectors;
          files = files;
          acts = λ v l. (exist v l).0;
          chooses = λ v l. (exist v l).1;
        }

        pub vectors-ask : Solving (counts_of m) m.transition m.observation m.reward x.cells.masks x.cells.entries s.vectors s.number
            alphaFile graphFile vectors × RowsFit m.states m.observations vectors y.actions y.choices y.masks y.entries
        vectors-ask = rw (es, ev) (
          solving,
          record {
            actions_fit = known.whole.read.actions;
            choices_fit = known.whole.choices;
            masks_fit = known.whole.read.masks;
            entries_fit = known.whole.read.entries;
          },
        )

        pub points-are : (i : ℕ) → i < count → IsPoint m.states (point_in m.states y.weights i)
        points-are = weights-fine m.states count (point_in m.states y.weights) tests.1

        -- The level over the slices, from its parts: the vectors from the files over the standing vectors, least values from the standing corners and
        -- points; the weights of the points lie where they were given. Qed.
        pub level-laid : {actions choices masks : List ℕ} {made least worths : List ℤ}
            → Filled m.states m.observations (floor s) vectors y.actions y.choices y.masks y.entries actions choices masks made
            → least ≡ laid m.states (λ i. least_value (model_of m) (roof_in m.states x.cells.corners s.points x.cells.weights
            x.cells.values) (corner_weight i)) y.corners
            → worths ≡ laid count (λ i. least_value (model_of m) (roof_in m.states x.cells.corners s.points x.cells.weights x.cells.values)
            (point_in m.states y.weights i)) y.values
            → cells actions choices masks made least y.weights worths ≡ over m W y
        unfolding over solved follows least_value least_for backup_at ceiling gain
        level-laid f g h =
            let w = laid_rows-flat count m.states y.weights y.weights 0
            ∙ laid-self (count * m.states) y.weights 0 known.whole.read.weights in
            rw (f.actions_are, f.choices_are, f.masks_are, f.entries_are, g, h, w, es, ev)

  -- ---- what is answered, what is left in the slices, and what is claimed of it
  abbrev Answered : Result ℕ Refusal → Cells → Type 0
  Answered r z =
      (r ≡ adopt_answer (adopt_verdict m x alphaFile graphFile count y) (vectors_in m.states alphaFile))
      × ((z ≡ adopted m x alphaFile graphFile count y)
      × (adopt_verdict m x alphaFile graphFile count y ≡ Fine → AdoptHolds m x alphaFile graphFile count y z))

  answered : {r : Result ℕ Refusal} {z : Cells} → r ≡ adopt_answer (adopt_verdict m x alphaFile graphFile count y) (vectors_in m.states alphaFile)
      → z ≡ adopted m x alphaFile graphFile count y → Answered r z
  answered h e =
      (h, (e, λ f. subst (λ (c : Cells). AdoptHolds m x alphaFile graphFile count y c) (sym e) (adopt-holds m x alphaFile graphFile count y f)))

  pub answered-back : (r : Result ℕ Refusal) {e : Refusal} → r ≡ Err e → adopt_verdict m x alphaFile graphFile count y ≡ Err e → Answered r y
  unfolding adopted
  answered-back r e h = answered (e ∙ rw h) (rw h)

  pub answered-fine : {vectors : ℕ} {z : Cells} → adopt_verdict m x alphaFile graphFile count y ≡ Fine → vectors ≡ vectors_in m.states alphaFile
      → z ≡ over m W y → Answered (Ok vectors) z
  unfolding adopted
  answered-fine h v e = answered (rw (h, v)) (rw h e)
