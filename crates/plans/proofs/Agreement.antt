-- Only the parts below the counts are read: levels that agree there meet the same inequalities, have the same limits, ceilings and totals, and weights
-- that agree there have the same ceilings and backups. Assumes nothing.
--
-- In order: products, drops and ceilings; weights; levels; a level below that agrees.
use Rattle.integers.proofs.Kit.{◌≡◌, ◌∙◌, refl, ap, true, Bool, ◌||◌, ℕ, ◌<◌, suc, zero, arith, eqb, ne_eqb, ℤ, pos, ◌+ℤ◌, negsuc, ◌-ℤ◌, or-true}
use Rattle.integers.specs.Whole.{◌·◌, sum_to, total_to, largest_to}
use Rattle.integers.specs.Search.{some, first_largest_of}
use Rattle.integers.proofs.Sums.{sum-cong, total-cong, largest_to-cong}
use Rattle.integers.proofs.Searches.{every-at, at_every, every-cong, some_at, some-index, some-cong, of-in, of_some, of-cong}
use Rattle.tables.specs.Limits.{K}
use Rattle.tables.specs.Model.{Model, successor, expected_reward, backup}
use Rattle.plans.specs.Level.{Level, covers_all, counts, product, smallest, or_none, drop, gain, ceiling, backup_at, corner_weight, follows}
use Rattle.plans.specs.Level.{Meets, ShapedUpTo, IsPoint, Agree}
use Rattle.plans.specs.Build.{some_covers_all}
use Rattle.plans.specs.Totals.{some_counts, best, lower, advice}

-- the best vector is one of them
pub best-exists : (M : Model) (L : Level) (b : ℕ → ℕ) → 0 < L.vectors → best M L b < L.vectors
unfolding best
best-exists M L b h = of-in _ _ _ h

-- and counts, where some vector does
pub best-counts : (M : Model) (L : Level) (b : ℕ → ℕ) → some_counts M L b ≡ true → counts M.states L b (best M L b) ≡ true
unfolding best
best-counts M L b h = of_some _ _ _ h

-- what counts covers each state with a weight above 0
pub counts-covers : (n : ℕ) (L : Level) (b : ℕ → ℕ) (v : ℕ) → counts n L b v ≡ true → (s : ℕ) → s < n → 0 < b s → L.covers v s ≡ true
unfolding counts
counts-covers n L b v h s l above =
    rw (ne_eqb (b s) 0 (λ e. omega arith)) at (every-at n (λ s. eqb (b s) 0 || L.covers v s) h s l)

-- and what covers all states counts at any mixture
pub all-counts : (n : ℕ) (L : Level) (b : ℕ → ℕ) (v : ℕ) → covers_all n L v ≡ true → counts n L b v ≡ true
unfolding covers_all counts
all-counts n L b v h = at_every n _ (λ s l. rw (every-at n (L.covers v) h s l) (or-true (eqb (b s) 0)))

pub some-covers-counts : (M : Model) (L : Level) → some_covers_all M L ≡ true → (b : ℕ → ℕ) → some_counts M L b ≡ true
some-covers-counts M L h b =
    let v = first_largest_of L.vectors (covers_all M.states L) (λ v. pos 0) in
    some_at L.vectors _ v (of-in _ _ _ (some-index _ _ h)) (all-counts M.states L b v (of_some _ _ _ h))

-- ---- products, drops and ceilings
pub product-cong : (n : ℕ) (q q' : ℕ → ℕ) (e e' : ℕ → ℤ) → ((s : ℕ) → s < n → q s ≡ q' s) → ((s : ℕ) → s < n → e s ≡ e' s)
    → product n q e ≡ product n q' e'
unfolding product
product-cong n q q' e e' h k = sum-cong n _ _ (λ s l. rw (h s l, k s l))

pub smallest-cong : (n : ℕ) (p p' q q' : ℕ → ℕ) (G : ℕ) → ((s : ℕ) → s < n → p s ≡ p' s) → ((s : ℕ) → s < n → q s ≡ q' s)
    → smallest n p q G ≡ smallest n p' q' G
unfolding smallest
smallest-cong zero p p' q q' G h k = refl
smallest-cong (suc n) p p' q q' G h k =
    rw (smallest-cong n p p' q q' G (λ s l. h s (omega arith)) (λ s l. k s (omega arith)), h n (omega arith), k n (omega arith))

pub drop-cong : (n : ℕ) (p p' q q' : ℕ → ℕ) (z : ℤ) → ((s : ℕ) → s < n → p s ≡ p' s) → ((s : ℕ) → s < n → q s ≡ q' s)
    → drop n p q z ≡ drop n p' q' z
unfolding drop
drop-cong n p p' q q' (pos zero) h k = refl
drop-cong n p p' q q' (pos (suc G)) h k = ap or_none (smallest-cong n p p' q q' (suc G) h k)
drop-cong n p p' q q' (negsuc G) h k = refl

module _ (n : ℕ) (L L' : Level) (corners : (s : ℕ) → s < n → L.corner s ≡ L'.corner s) (points : L.points ≡ L'.points)
    (weights : (i : ℕ) → i < L.points → (s : ℕ) → s < n → L.weight i s ≡ L'.weight i s)
    (values : (i : ℕ) → i < L.points → L.value i ≡ L'.value i) where
  gain-cong : (i : ℕ) → i < L.points → gain n L i ≡ gain n L' i
  unfolding gain
  gain-cong i l = rw (product-cong n (L.weight i) (L'.weight i) L.corner L'.corner (weights i l) corners, values i l)

  ceiling-cong : (q q' : ℕ → ℕ) → ((s : ℕ) → s < n → q s ≡ q' s) → ceiling n L q ≡ ceiling n L' q'
  unfolding ceiling
  ceiling-cong q q' h =
      rw (product-cong n q q' L.corner L'.corner h corners) (ap (λ (d : ℕ). product n q' L'.corner -ℤ pos d) drops)
    where
      drops : largest_to L.points (λ i. drop n (L.weight i) q (gain n L i)) ≡ largest_to L'.points (λ i. drop n (L'.weight i) q' (gain n L' i))
      drops =
          largest_to-cong L.points _ (λ i. drop n (L'.weight i) q' (gain n L' i))
          (λ i l. rw (gain-cong i l) (drop-cong n (L.weight i) (L'.weight i) q q' (gain n L' i) (weights i l) h))
          ∙ ap (λ (k : ℕ). largest_to k (λ i. drop n (L'.weight i) q' (gain n L' i))) points

-- ---- weights
-- Ceilings and backups read weights below the number of states only: every sum, ratio and product in them runs over the states. Qed.
pub ceiling-weights : (n : ℕ) (L : Level) (q q' : ℕ → ℕ) → ((s : ℕ) → s < n → q s ≡ q' s) → ceiling n L q ≡ ceiling n L q'
ceiling-weights n L q q' h = ceiling-cong n L L (λ s l. refl) refl (λ i l s b. refl) (λ i l. refl) q q' h

pub point-weights : (n : ℕ) {p p' : ℕ → ℕ} → ((s : ℕ) → s < n → p s ≡ p' s) → IsPoint n p' → IsPoint n p
point-weights n {p} {p'} h t = rw (total-cong n p p' h) t

pub successor-weights : (M : Model) (p p' : ℕ → ℕ) (a o s' : ℕ) → ((s : ℕ) → s < M.states → p s ≡ p' s) → successor M p a o s' ≡ successor M p' a o s'
unfolding successor
successor-weights M p p' a o s' h = total-cong M.states _ _ (λ s l. rw (h s l))

pub backup_at-weights : (M : Model) (L : Level) (p p' : ℕ → ℕ) (a : ℕ) → ((s : ℕ) → s < M.states → p s ≡ p' s) → backup_at M L p a ≡ backup_at M L p' a
unfolding backup_at expected_reward
backup_at-weights M L p p' a h =
    rw (sum-cong M.states (λ s. p s · M.reward s a) (λ s. p' s · M.reward s a) (λ s l. rw (h s l)))
    (ap (λ (x : ℤ). K · sum_to M.states (λ s. p' s · M.reward s a) +ℤ M.discount · x)
    (sum-cong M.observations _ _ (λ o l. ceiling-weights M.states L _ _ (λ s' l'. successor-weights M p p' a o s' h))))

-- ---- levels
pub backup-cong : (M : Model) (a : ℕ) (next next' : ℕ → ℕ → ℤ) (s : ℕ)
    → ((o : ℕ) → o < M.observations → (s' : ℕ) → s' < M.states → next o s' ≡ next' o s') → backup M a next s ≡ backup M a next' s
unfolding backup
backup-cong M a next next' s h =
    ap (λ (x : ℤ). K · M.reward s a +ℤ M.discount · x)
    (sum-cong M.states _ _ (λ s' l. sum-cong M.observations _ _ (λ o l'. rw (h o l' s' l))))

module _ (M : Model) (W W' : Level) (e : Agree M W W') where
  vector-in : {v : ℕ} → v < W'.vectors → v < W.vectors
  vector-in l = omega (arith, e.vectors_same)

  point-in : {i : ℕ} → i < W'.points → i < W.points
  point-in l = omega (arith, e.points_same)

  total-same : (i : ℕ) → i < W.points → total_to M.states (W'.weight i) ≡ total_to M.states (W.weight i)
  total-same i l = total-cong M.states _ _ (e.weight_same i l)

  -- Each limit is of a part that agrees. Qed.
  pub shaped-agree : {most : ℕ} (t : ℕ) → ShapedUpTo most M t W → ShapedUpTo most M t W'
  shaped-agree t S = record {
    some_vectors = rw e.vectors_same S.some_vectors;
    few_vectors = rw e.vectors_same S.few_vectors;
    few_points = rw e.points_same S.few_points;
    action_in = λ v l. rw (e.action_same v (vector-in l)) (S.action_in v (vector-in l));
    entry_fits = λ v l s b. rw (e.entry_same v (vector-in l) s b) (S.entry_fits v (vector-in l) s b);
    corner_fits = λ s l. rw (e.corner_same s l) (S.corner_fits s l);
    value_fits = λ i l. rw (e.value_same i (point-in l), total-same i (point-in l)) (S.value_fits i (point-in l));
    total = λ i l. point-weights M.states (e.weight_same i (point-in l)) (S.total i (point-in l));
  }

  pub ceiling-agree : (q : ℕ → ℕ) → ceiling M.states W' q ≡ ceiling M.states W q
  ceiling-agree q =
      ceiling-cong M.states W' W e.corner_same e.points_same (λ i l. e.weight_same i (point-in l)) (λ i l. e.value_same i (point-in l)) q q
      (λ s l. refl)

  pub covers-all-agree : (v : ℕ) → v < W.vectors → covers_all M.states W' v ≡ covers_all M.states W v
  unfolding covers_all
  covers-all-agree v l = every-cong M.states _ _ (e.covers_same v l)

  pub counts-agree : (b : ℕ → ℕ) (v : ℕ) → v < W.vectors → counts M.states W' b v ≡ counts M.states W b v
  unfolding counts
  counts-agree b v l = every-cong M.states _ _ (λ s k. ap (λ (x : Bool). eqb (b s) 0 || x) (e.covers_same v l s k))

  pub some-counts-agree : (b : ℕ → ℕ) → some_counts M W' b ≡ some_counts M W b
  some-counts-agree b = ap (λ (k : ℕ). some k (counts M.states W' b)) e.vectors_same ∙ some-cong W.vectors _ _ (counts-agree b)

  pub some-covers-all-agree : some_covers_all M W' ≡ some_covers_all M W
  some-covers-all-agree = ap (λ (k : ℕ). some k (covers_all M.states W')) e.vectors_same ∙ some-cong W.vectors _ _ covers-all-agree

  module _ (one : 0 < W.vectors) (b : ℕ → ℕ) where
    best-agree : best M W' b ≡ best M W b
    unfolding best
    best-agree =
        ap (λ (k : ℕ). first_largest_of k (counts M.states W' b) (λ v. product M.states b (W'.entry v))) e.vectors_same
        ∙ of-cong W.vectors _ _ _ _ one (counts-agree b)
        (λ v l c. product-cong M.states b b (W'.entry v) (W.entry v) (λ s k. refl) (e.entry_same v l))

    pub lower-agree : lower M W' b ≡ lower M W b
    unfolding lower
    lower-agree =
        rw best-agree (product-cong M.states b b _ _ (λ s k. refl) (e.entry_same (best M W b) (best-exists M W b one)))

    pub advice-agree : advice M W' b ≡ advice M W b
    unfolding advice
    advice-agree = ap W'.action best-agree ∙ e.action_same (best M W b) (best-exists M W b one)

-- what agrees with a level that agrees, agrees
pub agree-agree : {M : Model} {L L' L'' : Level} → Agree M L L' → Agree M L' L'' → Agree M L L''
agree-agree g h = record {
  vectors_same = h.vectors_same ∙ g.vectors_same;
  points_same = h.points_same ∙ g.points_same;
  action_same = λ v l. h.action_same v (rw g.vectors_same l) ∙ g.action_same v l;
  choice_same = λ v l o b. h.choice_same v (rw g.vectors_same l) o b ∙ g.choice_same v l o b;
  covers_same = λ v l s b. h.covers_same v (rw g.vectors_same l) s b ∙ g.covers_same v l s b;
  entry_same = λ v l s b. h.entry_same v (rw g.vectors_same l) s b ∙ g.entry_same v l s b;
  corner_same = λ s b. h.corner_same s b ∙ g.corner_same s b;
  weight_same = λ i l s b. h.weight_same i (rw g.points_same l) s b ∙ g.weight_same i l s b;
  value_same = λ i l. h.value_same i (rw g.points_same l) ∙ g.value_same i l;
}

-- A level that agrees with one that meets its inequalities over L meets them too.
-- Both sides of each inequality are made of parts of the level below its counts, and of L: the backup of a vector reads its action and its choices by
-- observation, that of a point its weights by state (`backup_at-weights`); entries, corners and values agree. Qed.
pub meets-agree : (M : Model) (L W W' : Level) → Agree M W W' → Meets M L W → Meets M L W'
unfolding follows
meets-agree M L W W' e m = record {
  vector = λ v l'. let l = vector-in M W W' e l' in record {
    action_exists = rw (e.action_same v l) (m.vector v l).action_exists;
    choice_exists = λ o b. rw (e.choice_same v l o b) ((m.vector v l).choice_exists o b);
    covers_reached = λ s b c o k s' b' above. rw (e.choice_same v l o k)
        ((m.vector v l).covers_reached s b (rw (e.covers_same v l s b) at c) o k s' b' (rw (e.action_same v l) at above));
    entry_holds = λ s b c. rw (
      e.action_same v l,
      e.entry_same v l s b,
      backup-cong M (W.action v) (follows L (W'.choice v)) (follows L (W.choice v)) s (λ o k s' k'. ap (λ (x : ℕ). L.entry x s') (e.choice_same v l o k)),
    ) ((m.vector v l).entry_holds s b (rw (e.covers_same v l s b) at c));
  };
  corner = λ s l a b. rw (e.corner_same s l) (m.corner s l a b);
  point = λ i l' a b. let l = point-in M W W' e l' in
      rw (e.value_same i l, backup_at-weights M L (W'.weight i) (W.weight i) a (e.weight_same i l)) (m.point i l a b);
}

-- ---- a level below that agrees
module _ (M : Model) (L L' : Level) (g : Agree M L L') where
  pub backup_at-below : (p : ℕ → ℕ) (a : ℕ) → backup_at M L' p a ≡ backup_at M L p a
  unfolding backup_at
  backup_at-below p a =
      ap (λ (x : ℤ). K · expected_reward M p a +ℤ M.discount · x) (sum-cong M.observations _ _ (λ o l. ceiling-agree M L L' g (successor M p a o)))

  -- A level that meets its inequalities over L' meets them over L.
  -- Backups read the level below within its counts: a vector's choices are vectors of the level below, and ceilings are worked out over the states.
  -- What they read agrees, so each inequality is the same one. Qed.
  pub meets-below : (W : Level) → Meets M L' W → Meets M L W
  unfolding follows
  meets-below W m = record {
    vector = λ v l.
        let h = m.vector v l in
        let choice : (o : ℕ) → o < M.observations → W.choice v o < L.vectors = λ o b. rw g.vectors_same at (h.choice_exists o b) in
        record {
          action_exists = h.action_exists;
          choice_exists = choice;
          covers_reached = λ s b c o k s' b' above.
              rw (g.covers_same (W.choice v o) (choice o k) s' b') at (h.covers_reached s b c o k s' b' above);
          entry_holds = λ s b c.
              rw (backup-cong M (W.action v) (follows L' (W.choice v)) (follows L (W.choice v)) s
              (λ o k. g.entry_same (W.choice v o) (choice o k))) at (h.entry_holds s b c);
        };
    corner = λ s l a la. rw (backup_at-below (corner_weight s) a) at (m.corner s l a la);
    point = λ i l a la. rw (backup_at-below (W.weight i) a) at (m.point i l a la);
  }
