-- 7, test by test: the first that fails refuses, and after those that were passed the rest decides. Assumes nothing.
--
-- The code reads what stands into s once its slice is long enough.
use Rattle.integers.proofs.Kit.{◌≡◌, ◌∙◌, refl, sym, true, false, Bool, ◌&&◌, [], ◌≤◌, ◌<◌, le-leb, lt-leb, leb, length, get_or}
use Rattle.tables.specs.Tables.{Tables}
use Rattle.refusals.specs.Verdicts.{Verdict, Fine, is_fine}
use Rattle.tables.specs.Limits.{max_vectors, max_levels}
use Rattle.tables.specs.Judged.{tables_verdict}
use Rattle.refusals.proofs.Refusals.{fine-is}
use Rattle.levels.specs.declared.Standing.{Standing}
use Rattle.levels.specs.Storage.{Lent, LentLevel, state_size, standing_at, level_in, level_of, readable, point_in, number_in, standing_in}
use Rattle.levels.specs.Judged.{counts_hold, actions_exist, ranges_verdict, weights_verdict, rows_hold, holds_up_to}
use Rattle.standing.proofs.Stages.{fails, holds_on, ranges-read}

module _ (m : Tables) (x : Lent) where
  pub tables-refused : is_fine (tables_verdict m) ≡ false → false ≡ holds_up_to max_vectors m x
  unfolding holds_up_to
  tables-refused e = fails _ e

  module _ (fine : tables_verdict m ≡ Fine) where
    pub state-short : length x.state < state_size → false ≡ holds_up_to max_vectors m x
    unfolding holds_up_to
    state-short l = holds_on (fine-is fine) (fails _ (lt-leb _ _ l))

    module _ (long : state_size ≤ length x.state) {s : Standing} (e : s ≡ standing_at x.state) where
      after-state : {b y : Bool} → y ≡ b → y ≡ (is_fine (tables_verdict m) && (leb state_size (length x.state) && b))
      after-state f = holds_on (fine-is fine) (holds_on (le-leb _ _ long) f)

      pub number-high : max_levels < s.number → false ≡ holds_up_to max_vectors m x
      unfolding holds_up_to
      number-high l = after-state (fails _ (rw e at (lt-leb _ _ l)))

      module _ (low : s.number ≤ max_levels) where
        after-number : {b y : Bool} → y ≡ b
            → y ≡ (is_fine (tables_verdict m) && (leb state_size (length x.state) && (leb (number_in x) max_levels && b)))
        after-number f = after-state (holds_on (rw e at (le-leb _ _ low)) f)

        pub counts-refused : counts_hold max_vectors s.vectors s.points ≡ false → false ≡ holds_up_to max_vectors m x
        unfolding holds_up_to
        counts-refused f = after-number (fails _ (rw e at f))

        module _ (counted : counts_hold max_vectors s.vectors s.points ≡ true) where
          -- what stands, as the code has read it
          abbrev stands : LentLevel
          stands = record { vectors = s.vectors; points = s.points; cells = x.cells }

          pub unreadable : readable m stands ≡ false → false ≡ holds_up_to max_vectors m x
          unfolding holds_up_to
          unreadable f = after-number (holds_on (rw e at counted) (fails _ (rw e at f)))

          module _ (read : readable m stands ≡ true) where
            abbrev acts : Bool
            acts = actions_exist m.actions s.vectors (λ v. get_or x.cells.actions v 0)

            pub no_action : acts ≡ false → false ≡ holds_up_to max_vectors m x
            unfolding holds_up_to
            no_action f = after-number (holds_on (rw e at counted) (holds_on (rw e at read) (fails _ (rw e at f))))

            module _ (act : acts ≡ true) where
              -- 11, of what stands
              abbrev ranged : Verdict
              ranged =
                  ranges_verdict m.states s.number
                  (level_in m.states 0 s.vectors [] [] x.cells.masks x.cells.entries x.cells.corners s.points x.cells.weights x.cells.values)

              ranges-stand : {v : Verdict} → ranged ≡ v
                  → ranges_verdict m.states (number_in x) (level_of m (standing_in x)) ≡ v
              ranges-stand {v} f =
                  let L = standing_in x in
                  sym (ranges-read m.states m.observations (number_in x) L.vectors L.points x.cells.actions x.cells.choices x.cells.masks
                  x.cells.entries x.cells.corners x.cells.weights x.cells.values)
                  ∙ (rw e at f)

              after-actions : {b y : Bool} → y ≡ b
                  → y ≡ (is_fine (tables_verdict m) && (leb state_size (length x.state) && (leb (number_in x) max_levels
                  && (counts_hold max_vectors (standing_in x).vectors (standing_in x).points && (readable m (standing_in x)
                  && (actions_exist m.actions (standing_in x).vectors (level_of m (standing_in x)).action && b))))))
              after-actions f = after-number (holds_on (rw e at counted) (holds_on (rw e at read) (holds_on (rw e at act) f)))

              pub ranges-refused : is_fine ranged ≡ false → false ≡ holds_up_to max_vectors m x
              unfolding holds_up_to
              ranges-refused f = after-actions (fails _ (rw (sym (ranges-stand refl)) at f))

              module _ (ranges : ranged ≡ Fine) where
                -- 12, of what stands
                abbrev totaled : Verdict
                totaled = weights_verdict m.states s.points (point_in m.states x.cells.weights)

                pub totals-refused : is_fine totaled ≡ false → false ≡ holds_up_to max_vectors m x
                unfolding holds_up_to
                totals-refused f = after-actions (holds_on (fine-is (ranges-stand ranges)) (fails _ (rw e at f)))

                module _ (totals : totaled ≡ Fine) where
                  pub informed-refused : rows_hold m.actions m.states s.number x.rows.informed ≡ false → false ≡ holds_up_to max_vectors m x
                  unfolding holds_up_to
                  informed-refused f =
                      after-actions (holds_on (fine-is (ranges-stand ranges)) (holds_on (fine-is (rw e at totals)) (fails _ (rw e at f))))

                  -- after all others the QMDP rows decide
                  pub qmdp-left : rows_hold m.actions m.states s.number x.rows.informed ≡ true → {y : Bool}
                      → y ≡ rows_hold m.actions m.states s.number x.rows.qmdp → y ≡ holds_up_to max_vectors m x
                  unfolding holds_up_to
                  qmdp-left f g =
                      after-actions (holds_on (fine-is (ranges-stand ranges)) (holds_on (fine-is (rw e at totals)) (holds_on (rw e at f) (rw e at g))))
