-- Laws of a list of offers that lies packed in slices. Assumes nothing.
--
--   list-packs   what is offered has its blocks
--   given        what the call answers and leaves, with demand 3
use Rattle.std.specs.Prelude.{Result, Ok, Err}
use Rattle.integers.proofs.Kit.{◌≡◌, ◌∙◌, ap, sym, List, ℕ, ◌<◌, ◌+◌, arith}
use mathlib.Core.List.{◌++◌}
use Rattle.tables.specs.Tables.{Tables}
use Rattle.refusals.specs.declared.Refusal.{Refusal}
use Rattle.refusals.specs.Verdicts.{Verdict, Fine, unless, left}
use Rattle.tables.specs.Limits.{max_vectors}
use Rattle.refusals.proofs.Refusals.{before-fine, unless-fine}
use Rattle.levels.specs.Storage.{Lent}
use Rattle.levels.specs.Judged.{holds}
use Rattle.runs.specs.State.{opened}
use Rattle.runs.specs.Demand3.{ModelAccepted, Event, offers, Certifier, certifier, run, acceptances, after, steps}
use Rattle.runs.proofs.Judged.{standing-true}
use Rattle.runs.proofs.Demand3.{run-append, acceptances-append, offers-keep, demand3}
use Rattle.blocks.specs.Blocks.{Packed, packed_fits, replay_verdict}
use Rattle.blocks.specs.Steps.{Packs}
use Rattle.blocks.proofs.Blocks.{packs}
use Rattle.series.specs.Series.{offers_in, offered_all, accepted_of}
use Rattle.replay.specs.Replay.{replayed_by, replay_answer, replayed, ReplayHolds}

abbrev pub Said : Tables → Lent → Packed → ℕ → Result ℕ Refusal → Lent → Type 0
Said m x b count r y =
    (r ≡ replay_answer m x b count)
    × ((y ≡ replayed m x b count)
    × ((m₀ : Tables) (x₀ : Lent) (es : List Event) → ModelAccepted m₀ x₀ → certifier m x ≡ after m₀ x₀ es → (accepted : ℕ) → r ≡ Ok accepted
    → ReplayHolds m₀ x₀ es (offers_in m b count) m y accepted))

-- a refusal is no count
pub apart : {A : Type 0} {e : Refusal} {n : ℕ} → ◌≡◌ {A = Result ℕ Refusal} (Err e) (Ok n) → A
apart h = let z : ◌≡◌ {A = ℕ} 0 1 = cc in absurd (let n : ⊥ = omega arith in n)

count-is : {n k : ℕ} → ◌≡◌ {A = Result ℕ Refusal} (Ok n) (Ok k) → n ≡ k
count-is h = cc

module _ (m : Tables) (x : Lent) (b : Packed) (count : ℕ) where
  -- what is offered has its blocks
  pub list-packs : (v : Verdict) {made : ℕ} → v ≡ replay_verdict m x b count → made ≡ left v count 0 → 0 < made → Packs m.states m.observations made b
  unfolding replay_verdict
  list-packs (Ok u) e l some =
      let f = before-fine (unless (holds m x) 7 0) (unless (packed_fits m b count) 9 0) (sym e) in
      let v = (standing-true max_vectors m x (unless-fine (holds m x) 7 0 f.0)).valid-tables in
      rw l (packs m b count v.few_states v.few_observations (unless-fine (packed_fits m b count) 9 0 f.1))
  list-packs (Err r) e l some = absurd (omega (arith, l, some))

  refused : {r : Refusal} {y : Lent} → Err r ≡ replay_verdict m x b count → y ≡ x → Said m x b count (Err r) y
  unfolding replay_answer replayed
  refused e g = (rw (sym e), (g ∙ rw (sym e), λ m₀ x₀ es o q n h. apart h))

  -- A list that is offered to what another list left is offered after it, and demand 3 holds of every list: so of both together. Qed.
  offered : {accepted : ℕ} {y : Lent} → replay_verdict m x b count ≡ Fine → accepted ≡ accepted_of m x (offers_in m b count)
      → y ≡ offered_all m x (offers_in m b count) → Said m x b count (Ok accepted) y
  unfolding replay_answer replayed
  offered e f g =
      let ks = offers_in m b count in (
        rw (e, f),
        (
          g ∙ rw e,
          λ m₀ x₀ es o q n h. record {
            left_is = ap (certifier m) g ∙ sym (offers-keep m x ks) ∙ ap (λ (z : Certifier). run z (offers ks)) q
                ∙ sym (run-append (certifier m₀ (opened m₀ x₀)) es (offers ks));
            steps_are = acceptances-append (certifier m₀ (opened m₀ x₀)) es (offers ks)
                ∙ ap (λ (j : ℕ). steps m₀ x₀ es + j) (ap (λ (z : Certifier). acceptances z (offers ks)) (sym q) ∙ sym f ∙ count-is h);
            claim = demand3 m₀ x₀ o (es ++ offers ks);
          },
        ),
      )

  pub given : (v : Verdict) {made accepted : ℕ} {y : Lent} → v ≡ replay_verdict m x b count → made ≡ left v count 0
      → accepted ≡ accepted_of m x (offers_in m b made) → y ≡ offered_all m x (offers_in m b made)
      → Said m x b count (replayed_by v accepted) y
  unfolding offers_in run acceptances offers
  given (Ok u) e l f g = offered (sym e) (f ∙ rw l) (g ∙ rw l)
  given (Err r) e l f g = refused e (g ∙ rw l)
