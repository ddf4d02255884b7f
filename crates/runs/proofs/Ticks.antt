-- How much rounding costs, proved over the same definitions as demand 3. Assumes nothing.
--
-- In order: a level that agrees with a built one; the levels so far, the last of them the one that is claimed.
use Rattle.std.specs.Prelude.{Ok, Err}
use Rattle.integers.proofs.Kit.{◌≡◌, ◌∙◌, refl, ap, sym, subst, List, [], ◌∷◌, ℕ, ◌<◌, ◌+◌, suc, ◌^◌, arith, add-zero, add-one, length}
use Rattle.integers.proofs.Kit.{ℤ, pos, ◌+ℤ◌, ◌≤ℤ◌, ◌<ℤ◌}
use Rattle.integers.specs.Whole.{◌·◌, floor_div}
use Rattle.integers.proofs.Order.{≤-of, <-≤, ·-zero}
use Rattle.tables.specs.Tables.{Tables}
use Rattle.refusals.specs.Verdicts.{Verdict, Fine, left}
use Rattle.tables.specs.Limits.{max_vectors, K}
use Rattle.tables.specs.Model.{Model, Valid, backed_up}
use Rattle.tables.specs.Storage.{model_of}
use Rattle.tables.proofs.Accepted.{tables-valid}
use Rattle.plans.specs.Plan.{Fits, earns}
use Rattle.plans.specs.Level.{Level, level0, follows, Agree}
use Rattle.plans.specs.Build.{entry_for, built}
use Rattle.plans.specs.Named.{named}
use Rattle.plans.proofs.Agreement.{backup-cong}
use Rattle.plans.proofs.Built.{action_exists, chosen-exists}
use Rattle.plans.proofs.Ticks.{BackedUp, low-next, high-next}
use Rattle.levels.specs.Storage.{Cells, LentLevel, Lent, level_of, point_in}
use Rattle.levels.proofs.Over.{covers-elsewhere, over_agree}
use Rattle.runs.specs.State.{raised, opened, verdict_on, offered, build_verdict, built_from, built_of}
use Rattle.runs.specs.Demand3.{ModelAccepted, Event, offer, offers, certifier, run, tally, after, steps}
use Rattle.runs.specs.Demand3.{Claim, stepped, claimed_by, claimed, claim0, claim}
use Rattle.runs.specs.Ticks.{Points, built_level, unless_refused, made_from, made, stacked, levels_of, levels, Ticks}
use Rattle.runs.proofs.Judged.{accepted}
use Rattle.runs.proofs.Reached.{Reached, fine-tables, reached-open, reached-next, some_vectors, level-built}
use Rattle.runs.proofs.Demand3.{demand3}

-- ---- a level that agrees with a built one
-- The entries that agree are backups, rounded down, of the entries chosen; action and choices agree where a backup reads them. Qed.
backed-up : (M : Model) (L W : Level) (points : ℕ) (weight : ℕ → ℕ → ℕ) → 0 < M.actions → 0 < L.vectors → Agree M (built M L points weight) W
    → (v : ℕ) → v < W.vectors → BackedUp M L W v
unfolding built entry_for backed_up follows
backed-up M L W points weight some_actions some_vectors g v l = record {
  action_exists = rw (g.action_same v inside) (action_exists M L _ some_actions);
  choice_exists = λ o b. rw (g.choice_same v inside o b) (chosen-exists M L _ _ o some_vectors);
  entry-is = λ s b.
      g.entry_same v inside s b
      ∙ ap (λ (z : ℤ). floor_div z K) (sym (rw (g.action_same v inside) (backup-cong M _ (follows L (W.choice v)) _ s
      (λ o k s' k'. ap (λ (x : ℕ). L.entry x s') (g.choice_same v inside o k)))));
}
  where
    inside : v < M.states + points
    inside = omega (arith, g.vectors_same)

-- ---- the levels so far, the last of them the one that is claimed
record Stacked (m : Tables) (x₀ : Cells) (below : List Level) (c : Claim) (x : Lent) : Type 0 where
  reached : Reached m x₀ (length below) c x
  plan : (v : ℕ) → v < c.level.vectors → Fits (model_of m) (named below v)
  low : (v : ℕ) → v < c.level.vectors → (s : ℕ) → s < m.states → (K ^ length below) · c.level.entry v s ≤ℤ earns (model_of m) (named below v) s
  high : (v : ℕ) → v < c.level.vectors → (s : ℕ) → s < m.states
      → earns (model_of m) (named below v) s ≤ℤ (K ^ length below) · (c.level.entry v s +ℤ pos (length below))
  strict : 0 < length below → (v : ℕ) → v < c.level.vectors → (s : ℕ) → s < m.states
      → earns (model_of m) (named below v) s <ℤ (K ^ length below) · (c.level.entry v s +ℤ pos (length below))

stacked-open : (m : Tables) (x : Lent) → ModelAccepted m x → Stacked m x.cells [] claim0 (opened m x)
unfolding named earns Fits level0
stacked-open m x o = record {
  reached = reached-open m x o;
  plan = λ v l. tt;
  low = λ v l s b. ≤-of (·-zero _);
  high = λ v l s b. ≤-of (sym (·-zero (K ^ 0)));
  strict = λ h v l s b. absurd (omega (arith, h));
}

module _ (m : Tables) (valid-tables : Valid (model_of m)) (x₀ : Cells) where
  module _ {below : List Level} {c : Claim} {x : Lent} (k : Stacked m x₀ below c x) (p : Points) where
    -- a level that was built, and accepted
    stacked-next : (l : LentLevel) → verdict_on m x l ≡ Fine → Agree (model_of m) (built_from m c.level p.count p.cells) (level_of m l)
        → Stacked m x₀ (level_of m l ∷ below) (stepped (model_of m) (level_of m l) c) (raised m x (level_of m l))
    unfolding named Fits
    stacked-next l fine agree = record {
      reached = reached-next k.reached l (accepted max_vectors m x l fine);
      plan = λ v b. ((backed v b).action_exists, λ o d. k.plan _ ((backed v b).choice_exists o d));
      low = low;
      high = λ v b s d. <-≤ (high v b s d);
      strict = λ h. high;
    }
      where
        M : Model
        M = model_of m

        W : Level
        W = level_of m l

        backed : (v : ℕ) → v < W.vectors → BackedUp M c.level W v
        backed v b =
            backed-up M c.level W p.count (point_in m.states p.cells.weights) valid-tables.some_actions (some_vectors k.reached) agree v b

        low : (v : ℕ) → v < W.vectors → (s : ℕ) → s < m.states → (K ^ suc (length below)) · W.entry v s ≤ℤ earns M (named (W ∷ below) v) s
        low v b s d = low-next M valid-tables below c.level k.low k.high W v (backed v b) s d

        high : (v : ℕ) → v < W.vectors → (s : ℕ) → s < m.states
            → earns M (named (W ∷ below) v) s <ℤ (K ^ suc (length below)) · (W.entry v s +ℤ pos (suc (length below)))
        high v b s d = high-next M valid-tables below c.level k.low k.high W v (backed v b) s d

    -- what is read of the built level agrees with what the builder makes over the last accepted one
    built-agrees : build_verdict m x p.count p.cells ≡ Fine
        → Agree (model_of m) (built_from m c.level p.count p.cells) (level_of m (built_level m x p))
    unfolding built_of built
    built-agrees e = rw (e, level-built k.reached p.count p.cells) (over_agree m (built_from m c.level p.count p.cells) p.cells
        (covers-elsewhere m.states (built_from m c.level p.count p.cells) (λ v s. refl)))

    stacked-step : (l : LentLevel) → Agree (model_of m) (built_from m c.level p.count p.cells) (level_of m l)
        → Stacked m x₀ (stacked (verdict_on m x l) (level_of m l) below) (left (verdict_on m x l) (stepped (model_of m) (level_of m l) c) c) (offered m x l)
    unfolding offered
    stacked-step l agree = by (verdict_on m x l) (λ fine. stacked-next l fine agree)
      where
        by : (v : Verdict) → (v ≡ Fine → Stacked m x₀ (level_of m l ∷ below) (stepped (model_of m) (level_of m l) c) (raised m x (level_of m l)))
            → Stacked m x₀ (stacked v (level_of m l) below) (left v (stepped (model_of m) (level_of m l) c) c) (left v (raised m x (level_of m l)) x)
        by (Ok u) next = next refl
        by (Err e) next = k

  stacked-length : (v : Verdict) (W : Level) (below : List Level) → length (stacked v W below) ≡ length below + tally v
  stacked-length (Ok u) W below = sym (add-one (length below))
  stacked-length (Err e) W below = sym (add-zero (length below))

  -- after offers alone, the last of which stand on those below
  abbrev After : List Level → Claim → Lent → List LentLevel → Type 0
  After below c x ls =
      let y = run (certifier m x) (offers ls) in
      Stacked m x₀ (levels_of m below x ls) (claimed (length below) (certifier m x) c (offers ls)) y.lent

  stacked-run : (ps : List Points) (below : List Level) (c : Claim) (x : Lent) → Stacked m x₀ below c x → After below c x (made_from m x ps)
  unfolding made_from offers levels_of claimed run
  stacked-run [] below c x k = k
  stacked-run (p ∷ ps) below c x k =
      by (build_verdict m x p.count p.cells) (λ e. subst higher (stacked-length (verdict_on m x l) (level_of m l) below)
      (stacked-run ps _ _ (offered m x l) (stacked-step k p l (built-agrees k p e)))) (stacked-run ps below c x k)
    where
      l : LentLevel
      l = built_level m x p

      higher : ℕ → Type 0
      higher t =
          let y = certifier m (offered m x l) in
          let ls = made_from m (offered m x l) ps in
          Stacked m x₀ (levels_of m (stacked (verdict_on m x l) (level_of m l) below) (offered m x l) ls)
          (claimed t y (claimed_by (length below) (certifier m x) (offer [] l) c) (offers ls)) (run y (offers ls)).lent

      by : (v : Verdict) → (v ≡ Fine → After below c x (l ∷ made_from m (offered m x l) ps)) → After below c x (made_from m x ps)
          → After below c x (unless_refused v l (made_from m (offered m x l) ps) (made_from m x ps))
      by (Ok u) accepted refused = accepted refl
      by (Err e) accepted refused = refused

-- After any list of point lists, built and offered in turn: each entry is at most what the plan named by its vector earns, and less than t ticks below it.
-- By induction over the list, `Stacked` holds after it. At level 0 a plan of no steps earns 0, which is the zero vector's entry. Of a list that is refused
-- no level is offered. An accepted level was built: its entries are the backups of those that its vectors chose, rounded down, so they lie less than one
-- tick further below what their plans earn (`high-next`), and not above it (`low-next`). Qed.
pub ticks : (m : Tables) (x : Lent) → ModelAccepted m x → (ps : List Points) → Ticks m x ps
ticks m x o ps = record { number = number; plan = all.plan; entry = λ h v l s b. (all.low v l s b, all.strict (rw number h) v l s b) }
  where
    es : List Event
    es = offers (made m x ps)

    all : Stacked m x.cells (levels m x (made m x ps)) (claim m x es) (after m x es).lent
    all = stacked-run m (tables-valid m (fine-tables m x o)) x.cells ps [] claim0 (opened m x) (stacked-open m x o)

    number : length (levels m x (made m x ps)) ≡ steps m x es
    number = sym all.reached.number ∙ (demand3 m x o es).state.number
