-- What holds of a certifier in every run: after opening, after one event more, and what totals and buildings then say. Assumes nothing.
--
-- In order: opening; one event; totals; building.
use Rattle.std.specs.Prelude.{Ok, Err}
use Rattle.integers.proofs.Kit.{◌≡◌, ◌∙◌, refl, ap, sym, subst, true, List, [], ◌∷◌, ℕ, ◌≤◌, ◌<◌, ◌+◌, ◌*◌, suc, arith, add-zero, add-one, le-leb}
use Rattle.integers.proofs.Kit.{leb-true, lt-ltb, leb, length, drop}
use Rattle.integers.proofs.Searches.{and-true, and_is}
use Rattle.tables.specs.Tables.{Tables}
use Rattle.refusals.specs.Verdicts.{Verdict, Fine, ◌before◌, left}
use Rattle.tables.specs.Model.{Model}
use Rattle.tables.specs.Storage.{weight_in, entry_in, model_of}
use Rattle.tables.specs.Judged.{tables_verdict}
use Rattle.refusals.proofs.Refusals.{before-fine, unless-fine}
use Rattle.tables.proofs.Accepted.{tables-valid, tables-stored}
use Rattle.tables.specs.Limits.{max_vectors, max_levels}
use Rattle.plans.specs.Level.{level0, Agree, ceiling}
use Rattle.plans.specs.Build.{some_covers_all}
use Rattle.plans.specs.Rows.{best_row, rows0, informed_next, qmdp_next}
use Rattle.plans.specs.Prices.{change, repriced, raised_rows}
use Rattle.plans.specs.Totals.{some_counts, lower, upper, advice}
use Rattle.plans.proofs.Certified.{Certified, RowsCertified}
use Rattle.plans.proofs.Bracket.{certified-0, certified-next}
use Rattle.plans.proofs.Agreement.{agree-agree, shaped-agree, meets-below, some-counts-agree, some-covers-all-agree, lower-agree, ceiling-agree, advice-agree}
use Rattle.plans.proofs.Built.{level0-shaped}
use Rattle.plans.proofs.Rebuilt.{built-same}
use Rattle.plans.proofs.Rows.{rows-0, rows_next, informed-range, qmdp-range, best_row-cong, informed-cong, qmdp-cong}
use Rattle.plans.proofs.Prices.{agree_same, certified-repriced, rows-repriced, repriced-shaped, raised-within, repriced-agree}
use Rattle.levels.specs.Storage.{Cells, LentLevel, Lent, rows, state_size, level_of, point_in, complete, over, number_in, standing_in, lent_for}
use Rattle.levels.specs.Storage.{over_rows, informed_in, qmdp_in}
use Rattle.levels.specs.Judged.{holds}
use Rattle.levels.proofs.Laws.{passed, fine_before}
use Rattle.levels.proofs.Over.{read-elsewhere, covers-elsewhere, Complete, AsLong, long-long, complete-true, complete-is, complete-long, over_agree, over-long}
use Rattle.levels.proofs.Over.{over-same, informed-over, qmdp-over, informed-long, qmdp-long}
use Rattle.columns.specs.Columns.{handed_list}
use Rattle.runs.specs.State.{open_verdict, opened, verdict_on, raised, offered, mixture_holds, standing_verdict, totals_verdict}
use Rattle.runs.specs.State.{answer_for, build_verdict, built_from}
use Rattle.runs.specs.Prices.{prices_verdict, moved, priced_of}
use Rattle.runs.specs.Demand3.{ModelAccepted, Event, offer, prices, certifier, handed, tally, counted, Claim, stepped, shifted, claimed_by, claim0}
use Rattle.runs.specs.Demand3.{PointsHold}
use Rattle.runs.proofs.Judged.{Held, Accepted, standing-is, accepted, weights-is}
use Rattle.runs.proofs.Vectors.{accepted-1000}
use Rattle.runs.proofs.Prices.{Priced, priced, level-same, readable-same, raised-same, moved-agree, moved-long, moved-read}

-- what holds of slices x under tables m after t acceptances, with claim c; opened, they had the cells x₀
pub record Reached (m : Tables) (x₀ : Cells) (t : ℕ) (c : Claim) (x : Lent) : Type 0 where
  pub number : number_in x ≡ t
  pub certified : Certified (model_of m) t c.level
  pub rows-certified : RowsCertified (model_of m) t c.informed c.qmdp
  pub agrees : Agree (model_of m) c.level (level_of m (standing_in x))
  pub stands : Held max_vectors m x
  pub as_lent : AsLong x₀ x.cells
  pub informed_is : (a : ℕ) → a < m.actions → (s : ℕ) → s < m.states → informed_in m x a s ≡ c.informed a s
  pub qmdp_is : (a : ℕ) → a < m.actions → (s : ℕ) → s < m.states → qmdp_in m x a s ≡ c.qmdp a s

state-kept : (xs : List ℕ) (a b d : ℕ) → state_size ≤ length xs → state_size ≤ length (a ∷ b ∷ d ∷ drop state_size xs)
state-kept xs a b d h = omega arith

-- ---- opening
module _ (m : Tables) (x : Lent) (o : ModelAccepted m x) where
  pub fine-tables : tables_verdict m ≡ Fine
  unfolding open_verdict
  fine-tables = (before-fine _ _ o).0

  pub room-for-level-0 : (state_size ≤ length x.state)
      × (Complete m (lent_for level0.vectors level0.points x.cells)
      × ((m.actions * m.states ≤ length x.rows.informed) × (m.actions * m.states ≤ length x.rows.qmdp)))
  unfolding open_verdict
  room-for-level-0 =
      let l = lent_for level0.vectors level0.points x.cells in
      let h = and-true (leb state_size (length x.state)) _ (unless-fine _ 9 0 (before-fine (tables_verdict m) _ o).1) in
      let k = and-true (complete m l) _ h.1 in
      let rows = and-true _ _ k.1 in
      (leb-true _ _ h.0, (complete-true m l k.0, (leb-true _ _ rows.0, leb-true _ _ rows.1)))

  pub reached-open : Reached m x.cells 0 claim0 (opened m x)
  unfolding opened level0
  reached-open =
      let room = room-for-level-0.1.0 in
      let v = tables-valid m fine-tables in
      let agree = over_agree m level0 x.cells (covers-elsewhere m.states level0 (λ v s. refl)) in
      rw o record {
        number = refl;
        certified = certified-0 (model_of m);
        rows-certified = rows-0 (model_of m);
        agrees = agree;
        stands = record {
          valid-tables = v;
          stored-tables = tables-stored m fine-tables;
          state-long = state-kept x.state 0 1 0 room-for-level-0.0;
          few-levels = omega arith;
          read = (complete-long m (over-long m level0 x.cells room) room).read;
          shaped = shaped-agree (model_of m) level0 _ agree 0 (level0-shaped (model_of m) v);
          informed = record {
            long = informed-long m rows0 rows0 x.rows room-for-level-0.1.1.0;
            entry = λ a h s b. rw (informed-over m rows0 rows0 x.rows a h s b) (omega arith);
          };
          qmdp = record {
            long = qmdp-long m rows0 rows0 x.rows room-for-level-0.1.1.1;
            entry = λ a h s b. rw (qmdp-over m rows0 rows0 x.rows a h s b) (omega arith);
          };
        };
        as_lent = over-long m level0 x.cells room;
        informed_is = informed-over m rows0 rows0 x.rows;
        qmdp_is = qmdp-over m rows0 rows0 x.rows;
      }

-- ---- one event
module _ {m : Tables} {x₀ : Cells} {t : ℕ} {c : Claim} {x : Lent} (r : Reached m x₀ t c x) where
  -- An accepted level meets its inequalities over the standing level; so it does over the one that is claimed, with which that agrees, and is certified
  -- with one step more. It is laid over the slices: what is read of them agrees with it, and so has its shape. The rows that are laid are a step above
  -- those that stood, so they are certified with one step more, within the range of the next level. Qed.
  pub reached-next : (l : LentLevel) → Accepted max_vectors m x l
      → Reached m x₀ (suc t) (stepped (model_of m) (level_of m l) c) (raised m x (level_of m l))
  reached-next l a =
      let M : Model = model_of m in
      let v = r.stands.valid-tables in
      let F = informed_next M (informed_in m x) in
      let Q = qmdp_next M (qmdp_in m x) in
      let agree = over_agree m (level_of m l) x.cells (read-elsewhere m l) in
      let long = over-long m (level_of m l) x.cells a.held in
      record {
        number = ap (λ (n : ℕ). n + 1) r.number ∙ add-one t;
        certified = certified-next r.certified (level_of m l)
            (meets-below (model_of m) c.level (level_of m (standing_in x)) r.agrees (level_of m l) a.meets);
        rows-certified = rows_next v r.rows-certified;
        agrees = agree;
        stands = record {
          valid-tables = r.stands.valid-tables;
          stored-tables = r.stands.stored-tables;
          state-long = state-kept x.state (number_in x + 1) l.vectors l.points r.stands.state-long;
          few-levels = omega (arith, a.room);
          read = (complete-long m long a.held).read;
          shaped = shaped-agree (model_of m) (level_of m l) _ agree (number_in x + 1) a.shaped;
          informed = rw (add-one (number_in x)) record {
            long = informed-long m F Q x.rows r.stands.informed.long;
            entry = λ a h s b. rw (informed-over m F Q x.rows a h s b) (informed-range v (number_in x) _ r.stands.informed.entry a h s b);
          };
          qmdp = rw (add-one (number_in x)) record {
            long = qmdp-long m F Q x.rows r.stands.qmdp.long;
            entry = λ a h s b. rw (qmdp-over m F Q x.rows a h s b) (qmdp-range v (number_in x) _ r.stands.qmdp.entry a h s b);
          };
        };
        as_lent = long-long r.as_lent long;
        informed_is = λ a h s b. informed-over m F Q x.rows a h s b ∙ informed-cong M v.some_actions _ _ r.informed_is a s;
        qmdp_is = λ a h s b. qmdp-over m F Q x.rows a h s b ∙ qmdp-cong M v.some_actions _ _ r.qmdp_is a s;
      }

  -- New prices that are not refused move the standing level as they move the one that is claimed, with which it agrees; so what is read of the slices agrees
  -- with what is claimed then. That is certified under the new rewards (`certified-repriced`, `rows-repriced`), and lies within its ranges. Qed.
  reached-prices : (m' : Tables) → Priced m x m'
      → Reached m' x₀ t (shifted (model_of m) (model_of m') t c) (moved m x (change (model_of m) (model_of m')))
  reached-prices m' p =
      let M : Model = model_of m in
      let M' : Model = model_of m' in
      let d : ℕ = change M M' in
      let e = p.same in
      let l = standing_in x in
      let v = r.stands.valid-tables in
      let F = raised_rows (number_in x) d (informed_in m x) in
      let Q = raised_rows (number_in x) d (qmdp_in m x) in
      let long = moved-long m l (number_in x) d r.stands.read in
      let level = level-same m m' e.states_same e.observations_same (standing_in (moved m x d)) in
      let laid : Agree M' (repriced m.states (number_in x) d (level_of m l)) (level_of m' (standing_in (moved m x d))) =
      rw level (agree_same e (moved-agree m l (number_in x) d)) in
      let old-action : (a : ℕ) → a < m'.actions → a < m.actions = λ a h. rw e.actions_same at h in
      let old-state : (s : ℕ) → s < m'.states → s < m.states = λ s h. rw e.states_same at h in
      let informed-read : (a : ℕ) → a < m'.actions → (s : ℕ) → s < m'.states → informed_in m' (moved m x d) a s ≡ F a s =
      λ a h s b. ap (λ (n : ℕ). entry_in n (over_rows m F Q x.rows).informed a s) e.states_same
      ∙ informed-over m F Q x.rows a (old-action a h) s (old-state s b) in
      let qmdp-read : (a : ℕ) → a < m'.actions → (s : ℕ) → s < m'.states → qmdp_in m' (moved m x d) a s ≡ Q a s =
      λ a h s b. ap (λ (n : ℕ). entry_in n (over_rows m F Q x.rows).qmdp a s) e.states_same
      ∙ qmdp-over m F Q x.rows a (old-action a h) s (old-state s b) in
      let size : m.actions * m.states ≡ m'.actions * m'.states = sym (ap (λ (k : ℕ). k * m'.states) e.actions_same
      ∙ ap (λ (k : ℕ). m.actions * k) e.states_same) in
      record {
        number = r.number;
        certified = certified-repriced v p.valid e t c.level r.certified;
        rows-certified = rows-repriced v p.valid e t c.informed c.qmdp r.rows-certified;
        agrees = subst (λ (k : ℕ). Agree M' (repriced m.states k d c.level) (level_of m' (standing_in (moved m x d)))) r.number
            (agree-agree (repriced-agree e (number_in x) d c.level (level_of m l) r.agrees) laid);
        stands = record {
          valid-tables = p.valid;
          stored-tables = p.stored;
          state-long = r.stands.state-long;
          few-levels = r.stands.few-levels;
          read = readable-same m m' e.states_same (standing_in (moved m x d)) (moved-read m l (number_in x) d r.stands.read);
          shaped = shaped-agree M' (repriced m.states (number_in x) d (level_of m l)) _ laid (number_in x)
              (repriced-shaped e (number_in x) d (level_of m l) r.stands.shaped);
          informed = record {
            long = subst (λ (k : ℕ). k ≤ length (over_rows m F Q x.rows).informed) size (informed-long m F Q x.rows r.stands.informed.long);
            entry = λ a h s b. rw (informed-read a h s b) (raised-within e (number_in x) d (informed_in m x) r.stands.informed.entry a h s b);
          };
          qmdp = record {
            long = subst (λ (k : ℕ). k ≤ length (over_rows m F Q x.rows).qmdp) size (qmdp-long m F Q x.rows r.stands.qmdp.long);
            entry = λ a h s b. rw (qmdp-read a h s b) (raised-within e (number_in x) d (qmdp_in m x) r.stands.qmdp.entry a h s b);
          };
        };
        as_lent = long-long r.as_lent long;
        informed_is = λ a h s b. informed-read a h s b
            ∙ raised-same r.number d (informed_in m x) c.informed a s (r.informed_is a (old-action a h) s (old-state s b));
        qmdp_is = λ a h s b. qmdp-read a h s b
            ∙ raised-same r.number d (qmdp_in m x) c.qmdp a s (r.qmdp_is a (old-action a h) s (old-state s b));
      }

  -- one event keeps it: a refused one leaves all as it was
  pub reached-step : (e : Event) → let y = handed (certifier m x) e in
      Reached y.tables x₀ (t + counted (certifier m x) e) (claimed_by t (certifier m x) e c) y.lent
  unfolding offered priced_of
  reached-step (offer list l) = of-list (handed_list m list) (verdict_on m x l) (offered m x l) (by (verdict_on m x l) (accepted max_vectors m x l))
    where
      of-list : (u v : Verdict) (z : Lent) → Reached m x₀ (t + tally v) (left v (stepped (model_of m) (level_of m l) c) c) z
          → Reached m x₀ (t + tally (u before v)) (left (u before v) (stepped (model_of m) (level_of m l) c) c) (left u z x)
      of-list (Ok u) v z k = k
      of-list (Err e) v z k = rw (add-zero t) r

      by : (v : Verdict) → (v ≡ Fine → Accepted max_vectors m x l)
          → Reached m x₀ (t + tally v) (left v (stepped (model_of m) (level_of m l) c) c) (left v (raised m x (level_of m l)) x)
      by (Ok u) a = rw (add-one t) (reached-next l (a refl))
      by (Err e) a = rw (add-zero t) r
  reached-step (prices m') = rw (add-zero t) (by (prices_verdict m x m') (priced m x m'))
    where
      by : (v : Verdict) → (v ≡ Fine → Priced m x m')
          → Reached (left v m' m) x₀ t (left v (shifted (model_of m) (model_of m') t c) c) (left v (moved m x (change (model_of m) (model_of m'))) x)
      by (Ok u) p = reached-prices m' (p refl)
      by (Err e) p = r

  -- ---- totals
  holds-true : holds m x ≡ true
  holds-true = standing-is max_vectors m x r.stands

  pub some_vectors : 0 < c.level.vectors
  some_vectors = rw r.agrees.vectors_same at r.stands.shaped.some_vectors

  module _ (b : List ℕ) where
    counts-is : some_counts (model_of m) (level_of m (standing_in x)) (weight_in b) ≡ some_counts (model_of m) c.level (weight_in b)
    counts-is = some-counts-agree (model_of m) c.level (level_of m (standing_in x)) r.agrees (weight_in b)

    pub totals-fine : 0 < t → mixture_holds m.states b ≡ true → some_counts (model_of m) c.level (weight_in b) ≡ true → totals_verdict m x b ≡ Fine
    unfolding totals_verdict standing_verdict
    totals-fine h e counted =
        fine_before (fine_before (passed 7 0 holds-true) (passed 16 0 (lt-ltb 0 (number_in x) (omega (arith, r.number)))))
        (fine_before (passed 17 0 e) (passed 22 0 (counts-is ∙ counted)))

    pub lower_is : lower (model_of m) (level_of m (standing_in x)) (weight_in b) ≡ lower (model_of m) c.level (weight_in b)
    lower_is = lower-agree (model_of m) c.level (level_of m (standing_in x)) r.agrees some_vectors (weight_in b)

    pub sawtooth_is : ceiling m.states (level_of m (standing_in x)) (weight_in b) ≡ ceiling m.states c.level (weight_in b)
    sawtooth_is = ceiling-agree (model_of m) c.level (level_of m (standing_in x)) r.agrees (weight_in b)

    pub best-row-is : best_row (model_of m) (informed_in m x) (weight_in b) ≡ best_row (model_of m) c.informed (weight_in b)
    best-row-is = best_row-cong (model_of m) r.stands.valid-tables.some_actions _ _ r.informed_is (weight_in b)

    pub upper_is : upper (model_of m) (level_of m (standing_in x)) (informed_in m x) (weight_in b) ≡ upper (model_of m) c.level c.informed (weight_in b)
    unfolding upper
    upper_is = rw (sawtooth_is, best-row-is)

    pub advice-is : advice (model_of m) (level_of m (standing_in x)) (weight_in b) ≡ advice (model_of m) c.level (weight_in b)
    advice-is = advice-agree (model_of m) c.level (level_of m (standing_in x)) r.agrees some_vectors (weight_in b)

  -- ---- building
  -- what is built over the standing level is what is built over the last accepted one
  pub level-built : (count : ℕ) (y : Cells) → over m (built_from m (level_of m (standing_in x)) count y) y ≡ over m (built_from m c.level count y) y
  level-built count y =
      over-same m (built_from m c.level count y) y (built_from m (level_of m (standing_in x)) count y)
      (built-same (model_of m) c.level (level_of m (standing_in x)) r.agrees some_vectors
      r.stands.valid-tables.some_actions count (point_in m.states y.weights))

  module _ (h : t < max_levels) (count : ℕ) (y : Cells) where
    module _ (points : PointsHold m record { state = []; cells = x₀; rows = rows [] [] } count y) (some : some_covers_all (model_of m) c.level ≡ true) where
      covers-all : some_covers_all (model_of m) (level_of m (standing_in x)) ≡ true
      covers-all = some-covers-all-agree (model_of m) c.level (level_of m (standing_in x)) r.agrees ∙ some

      pub build-fine : build_verdict m x count y ≡ Fine
      unfolding build_verdict
      build-fine =
          fine_before (passed 7 0 holds-true)
          (fine_before (passed 8 0 (lt-ltb (number_in x) max_levels (omega (arith, r.number))))
          (fine_before (passed 9 0 (and_is (le-leb _ _ points.few) points.answer_room))
          (fine_before (weights-is _ _ _ points.total) (passed 22 0 covers-all))))

      pub built-accepted : verdict_on m x (answer_for m count (over m (built_from m (level_of m (standing_in x)) count y) y)) ≡ Fine
      built-accepted =
          accepted-1000 m x holds-true (omega (arith, r.number)) covers-all count y record {
            few = points.few;
            total = points.total;
            answer_room = points.answer_room;
            certifier_room = complete-is m (answer_for m count x.cells)
                (complete-long m r.as_lent (complete-true m (answer_for m count x₀) points.certifier_room));
          } (omega (arith, r.stands.valid-tables.few_states, points.few))
