-- 7 to 12 of an offer, one test after the other: what a test that fails is refused for, and what is known once it was passed. Assumes nothing.
use Rattle.integers.proofs.Kit.{◌≡◌, ap, true, false, ◌≤◌, ◌<◌, ◌+◌, arith, lt-ltb, le-ltb}
use Rattle.integers.proofs.Searches.{and_is}
use Rattle.tables.specs.Tables.{Tables}
use Rattle.refusals.specs.Verdicts.{Verdict, Refused}
use Rattle.tables.specs.Limits.{max_states, max_observations, max_vectors, max_levels}
use Rattle.refusals.proofs.Refusals.{breaks, passes}
use Rattle.plans.specs.Limits.{max_points}
use Rattle.levels.specs.declared.Standing.{Standing}
use Rattle.levels.specs.Storage.{LentLevel, Lent, level_of, number_in, standing_at, lent_for, complete}
use Rattle.levels.specs.Judged.{counts_hold, fits, holds, level_verdict, shape_verdict, shape_up_to}
use Rattle.runs.proofs.Judged.{Held, standing-true}
use Rattle.standing.proofs.Stages.{counts-few}

module _ (m : Tables) (x : Lent) (l : LentLevel) where
  -- 7
  pub not-held : holds m x ≡ false → Refused 7 0 ≡ shape_verdict m x l
  unfolding shape_up_to
  not-held e = breaks _ e

  module _ (held : holds m x ≡ true) where
    pub known : Held max_vectors m x
    known = standing-true max_vectors m x held

    module _ {s : Standing} (stands : s ≡ standing_at x.state) where
      number_is : s.number ≡ number_in x
      number_is = ap (λ (s : Standing). s.number) stands

      -- 8
      pub at_the_top : max_levels ≤ s.number → Refused 8 0 ≡ shape_verdict m x l
      unfolding shape_up_to
      at_the_top h = passes 7 0 held (breaks _ (le-ltb (number_in x) max_levels (omega (arith, number_is))))

      module _ (room : s.number < max_levels) where
        -- 9
        misfit : fits max_vectors m x l ≡ false → Refused 9 0 ≡ shape_verdict m x l
        unfolding shape_up_to
        misfit e = passes 7 0 held (passes 8 0 (lt-ltb _ _ (omega (arith, number_is))) (breaks _ e))

        pub miscounted : counts_hold max_vectors l.vectors l.points ≡ false → Refused 9 0 ≡ shape_verdict m x l
        miscounted e = misfit (rw e)

        module _ (counted : counts_hold max_vectors l.vectors l.points ≡ true) where
          pub small : (m.states ≤ max_states) × ((m.observations ≤ max_observations) × ((l.vectors ≤ max_vectors) × (l.points ≤ max_points)))
          small =
              (known.valid-tables.few_states, (known.valid-tables.few_observations, counts-few l.vectors l.points counted))

          pub short : complete m l ≡ false → Refused 9 0 ≡ shape_verdict m x l
          short e = misfit (rw (counted, e))

          module _ (given : complete m l ≡ true) where
            pub no_room : complete m (lent_for l.vectors l.points x.cells) ≡ false → Refused 9 0 ≡ shape_verdict m x l
            no_room e = misfit (rw (counted, given, e))

            -- 10 to 12
            pub left : complete m (lent_for l.vectors l.points x.cells) ≡ true → {v : Verdict}
                → v ≡ level_verdict m.states m.actions m.observations (s.number + 1) s.vectors (level_of m l) → v ≡ shape_verdict m x l
            unfolding shape_up_to
            left e f =
                passes 7 0 held (passes 8 0 (lt-ltb _ _ (omega (arith, number_is)))
                (passes 9 0 (and_is counted (and_is given e)) (rw stands at f)))
