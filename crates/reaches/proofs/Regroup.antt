-- The states that are reached from covered ones, asked about state by state: the answer is the definition's. Assumes nothing.
--
--   reached-regrouped   every state that a covered one reaches is covered by the vector chosen for each observation that is seen there
--   reached-all         so it is where the chosen vectors cover all states
use Rattle.integers.proofs.Kit.{◌≡◌, ◌∙◌, refl, sym, true, false, Bool, ◌&&◌, ◌||◌, ℕ, ◌<◌, ◌*◌, suc, zero, arith, eqb, ltb, eq-eqb, or-true, lt-ltb, ltb-true}
use mathlib.Core.Bool.{not}
use Rattle.integers.specs.Search.{every, some}
use Rattle.integers.proofs.Parts.{is_T}
use Rattle.integers.proofs.Searches.{times_none, every-at, at_every, some_at, some-none, and_is}

-- what is true together is the same
both_ways : (a b : Bool) → (a ≡ true → b ≡ true) → (b ≡ true → a ≡ true) → a ≡ b
both_ways true b f g = sym (f refl)
both_ways false true f g = g refl
both_ways false false f g = refl

module _ (n k : ℕ) (T O : ℕ → ℕ → ℕ) (C : ℕ → ℕ → Bool) (covers : ℕ → Bool) where
  -- the chosen vector covers what is reached from s with o
  abbrev kept : ℕ → ℕ → ℕ → Bool
  kept s o s' = eqb (T s s' * O s' o) 0 || C o s'

  abbrev keeps : ℕ → Bool
  keeps s = not (covers s) || every k (λ o. every n (kept s o))

  -- a covered state reaches it; each vector chosen where it is seen covers it
  abbrev from : ℕ → ℕ → Bool
  from s' s = covers s && ltb 0 (T s s')

  abbrev seen : ℕ → ℕ → Bool
  seen s' o = eqb (O s' o) 0 || C o s'

  abbrev asked : ℕ → Bool
  asked s' = not (some n (from s')) || every k (seen s')

  -- of a covered state that reaches it, both say the same
  seen-kept : (s s' o : ℕ) → 0 < T s s' → kept s o s' ≡ seen s' o
  seen-kept s s' o h = rw (times_none (T s s') (O s' o) h)

  there : every n keeps ≡ true → (s' : ℕ) → s' < n → asked s' ≡ true
  there h s' l = by (every k (seen s')) refl
    where
      none : every k (seen s') ≡ false → (s : ℕ) → s < n → from s' s ≡ false
      none e s ls = by (covers s) refl (ltb 0 (T s s')) refl
        where
          by : (b : Bool) → covers s ≡ b → (t : Bool) → ltb 0 (T s s') ≡ t → (b && t) ≡ false
          by false c t r = refl
          by true c false r = refl
          by true c true r =
              let all : every k (λ o. every n (kept s o)) ≡ true = rw c at (every-at n keeps h s ls) in
              absurd (is_T (sym e
              ∙ at_every k (seen s') (λ o lo. sym (seen-kept s s' o (ltb-true _ _ r)) ∙ every-at n (kept s o) (every-at k _ all o lo) s' l)))

      by : (b : Bool) → every k (seen s') ≡ b → (not (some n (from s')) || b) ≡ true
      by true e = or-true (not (some n (from s')))
      by false e = rw (some-none n (from s') (none e)) refl

  back : every n asked ≡ true → (s : ℕ) → s < n → keeps s ≡ true
  back h s l = by (covers s) refl
    where
      one : covers s ≡ true → (o : ℕ) → o < k → (s' : ℕ) → s' < n → (t : ℕ) → T s s' ≡ t → kept s o s' ≡ true
      one c o lo s' l' zero e = rw (e, eq-eqb (0 * O s' o) 0 (omega arith)) refl
      one c o lo s' l' (suc t) e =
          let above : 0 < T s s' = omega arith in
          let reached : some n (from s') ≡ true = some_at n (from s') s l (and_is c (lt-ltb _ _ above)) in
          let all : every k (seen s') ≡ true = rw reached at (every-at n asked h s' l') in
          seen-kept s s' o above ∙ every-at k (seen s') all o lo

      by : (b : Bool) → covers s ≡ b → (not b || every k (λ o. every n (kept s o))) ≡ true
      by false c = refl
      by true c = at_every k _ (λ o lo. at_every n (kept s o) (λ s' l'. one c o lo s' l' (T s s') refl))

  pub reached-regrouped : every n keeps ≡ every n asked
  reached-regrouped = both_ways _ _ (λ h. at_every n asked (there h)) (λ h. at_every n keeps (back h))

  pub reached-all : every k (λ o. every n (C o)) ≡ true → every n keeps ≡ true
  reached-all h = at_every n keeps (λ s l. rw (at_every k _ (λ o lo. at_every n (kept s o) (λ s' l'. rw (every-at n (C o) (every-at k _ h o lo) s' l')
      (or-true (eqb (T s s' * O s' o) 0))))) (or-true (not (covers s))))
