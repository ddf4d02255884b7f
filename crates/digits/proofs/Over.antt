-- Texts that are written one behind the other. Assumes nothing.
--
-- In order: one text; what functions that write one behind the other leave; parts one after the other; digits, of which the last is written first.
use Rattle.integers.proofs.Kit.{◌≡◌, ◌∙◌, refl, ap, sym, subst, List, [], ◌∷◌, ℕ, ◌≤◌, ◌<◌, ◌+◌, suc, zero, arith, add-zero, add-one, dec_lt, ◌/◌, ◌%◌}
use Rattle.integers.proofs.Kit.{length, drop, set, take, paste, drop-drop}
use mathlib.Core.List.{◌++◌, append_assoc, append-nil}
use lib.ListN.{length-append, length-drop, take-append-drop}
use lib.Seq.{take-length, take_at, drop_at, drop-append-add, set_split, take-set-le, append_snoc, length-take-le}
use Rattle.digits.specs.Digits.{text_over, parts_to, last_digits}
use Rattle.digits.specs.Steps.{HasRoom, Wrote}

-- ---- one text

-- what is there up to the text's end
head-length : (at : ℕ) (t xs : List ℕ) → at + length t ≤ length xs → length (take at xs ++ t) ≡ at + length t
head-length at t xs h = length-append (take at xs) t ∙ omega (arith, length-take-le at xs (omega arith))

pub over-length : (at : ℕ) (t xs : List ℕ) → at + length t ≤ length xs → length (text_over at t xs) ≡ length xs
unfolding text_over
over-length at t xs h =
    length-append (take at xs ++ t) (drop (at + length t) xs) ∙ omega (arith, head-length at t xs h, length-drop (at + length t) xs)

pub over_none : (at : ℕ) (xs : List ℕ) → text_over at [] xs ≡ xs
unfolding text_over
over_none at xs =
    ap (λ (p : List ℕ). p ++ drop (at + 0) xs) (append-nil (take at xs))
    ∙ ap (λ (k : ℕ). take at xs ++ drop k xs) (add-zero at)
    ∙ take-append-drop at xs

-- a text behind another
pub over-then : (at : ℕ) (t u xs : List ℕ) → at + length t ≤ length xs → text_over (at + length t) u (text_over at t xs) ≡ text_over at (t ++ u) xs
unfolding text_over
over-then at t u xs h =
    let k = at + length t in
    let p = take at xs ++ t in
    let e : k + length u ≡ at + length (t ++ u) = omega (arith, length-append t u) in
    ap (λ (q : List ℕ). q ++ u ++ drop (k + length u) (p ++ drop k xs)) (take_at p (drop k xs) k (head-length at t xs h))
    ∙ ap (λ (j : ℕ). p ++ u ++ drop (j + length u) (p ++ drop k xs)) (sym (head-length at t xs h))
    ∙ ap (λ (q : List ℕ). p ++ u ++ q) (drop-append-add p (drop k xs) (length u) ∙ drop-drop (length u) k xs)
    ∙ ap (λ (q : List ℕ). q ++ drop (k + length u) xs) (append_assoc (take at xs) t u)
    ∙ ap (λ (j : ℕ). take at xs ++ (t ++ u) ++ drop j xs) e

-- the last byte of a text, written before the rest of it
pub over-set : (at : ℕ) (t : List ℕ) (b : ℕ) (xs : List ℕ) → at + length t < length xs
    → text_over at (t ++ (b ∷ [])) xs ≡ text_over at t (set xs (at + length t) b)
unfolding text_over
over-set at t b xs h =
    let k = at + length t in
    let e : at + length (t ++ (b ∷ [])) ≡ suc k = omega (arith, length-append t (b ∷ [])) in
    let rest = b ∷ drop (suc k) xs in
    let before : at ≤ k = omega arith in
    ap (λ (j : ℕ). take at xs ++ (t ++ (b ∷ [])) ++ drop j xs) e
    ∙ ap (λ (q : List ℕ). q ++ drop (suc k) xs) (sym (append_assoc (take at xs) t (b ∷ [])))
    ∙ append_snoc (take at xs ++ t) b (drop (suc k) xs)
    ∙ ap (λ (q : List ℕ). q ++ t ++ rest) (sym (take-set-le at xs k b before))
    ∙ ap (λ (q : List ℕ). take at (set xs k b) ++ t ++ q)
    (sym (ap (drop k) (set_split xs k b h) ∙ drop_at (take k xs) rest k (length-take-le k xs (omega arith))))

pub over-paste : (at : ℕ) (t xs : List ℕ) → paste xs at t (length t) ≡ text_over at t xs
unfolding text_over
over-paste at t xs = ap (λ (q : List ℕ). take at xs ++ q ++ drop (at + length t) xs) (take-length t)

-- ---- what functions that write one behind the other leave

pub wrote-long : {at : ℕ} {t xs : List ℕ} {n : ℕ} {ys : List ℕ} → HasRoom at t xs → Wrote at t xs n ys → length ys ≡ length xs
wrote-long {at} {t} {xs} h w = ap length w.same ∙ over-length at t xs h.fits

-- room for both is room for the first, and then for the second
pub room-first : {at : ℕ} {t : List ℕ} (u : List ℕ) {xs : List ℕ} → HasRoom at (t ++ u) xs → HasRoom at t xs
room-first {at} {t} u h = record { fits = omega (arith, length-append t u, h.fits) }

pub room-then : {at n : ℕ} {t u xs ys : List ℕ} → HasRoom at (t ++ u) xs → Wrote at t xs n ys → HasRoom n u ys
room-then {t = t} {u = u} h w = record { fits = omega (arith, length-append t u, h.fits, w.place, wrote-long (room-first u h) w) }

pub wrote_then : {at n m : ℕ} {t u xs ys zs : List ℕ} → HasRoom at (t ++ u) xs → Wrote at t xs n ys → Wrote n u ys m zs → Wrote at (t ++ u) xs m zs
wrote_then {at} {n} {m} {t} {u} {xs} {ys} {zs} h w v = record {
  place = omega (arith, length-append t u, w.place, v.place);
  same =
      v.same
      ∙ ap (λ (k : ℕ). text_over k u ys) w.place
      ∙ ap (text_over (at + length t) u) w.same
      ∙ over-then at t u xs (room-first {t = t} u h).fits;
}

-- ---- parts one after the other

parts-shorter : (n : ℕ) (f : ℕ → List ℕ) (x : ℕ) → x < n → length (parts_to (suc x) f) ≤ length (parts_to n f)
unfolding parts_to
parts-shorter zero f x l = absurd (omega arith)
parts-shorter (suc n) f x l = by (dec_lt x n) (λ h. parts-shorter n f x h)
  where
    by : Dec (x < n) → (x < n → length (parts_to (suc x) f) ≤ length (parts_to n f)) → length (parts_to (suc x) f) ≤ length (parts_to (suc n) f)
    by (yes h) r = omega (arith, r h, length-append (parts_to n f) (f n))
    by (no h) r = let e : x ≡ n = omega arith in rw e (omega arith)

pub parts_none : (f : ℕ → List ℕ) {at : ℕ} {xs : List ℕ} → Wrote at (parts_to 0 f) xs at xs
unfolding parts_to
parts_none f {at} {xs} = record { place = omega arith; same = sym (over_none at xs) }

module _ (n : ℕ) (f : ℕ → List ℕ) {at : ℕ} {xs : List ℕ} where
  parts-to : (x : ℕ) → x < n → HasRoom at (parts_to n f) xs → HasRoom at (parts_to (suc x) f) xs
  parts-to x l h = record { fits = omega (arith, parts-shorter n f x l, h.fits) }

  pub parts-room : (x : ℕ) {next : ℕ} {ys : List ℕ} → x < n → HasRoom at (parts_to n f) xs → Wrote at (parts_to x f) xs next ys → HasRoom next (f x) ys
  unfolding parts_to
  parts-room x l h w = room-then (parts-to x l h) w

  pub parts_more : (x : ℕ) {next behind : ℕ} {ys zs : List ℕ} → x < n → HasRoom at (parts_to n f) xs → Wrote at (parts_to x f) xs next ys
      → Wrote next (f x) ys behind zs → Wrote at (parts_to (x + 1) f) xs behind zs
  unfolding parts_to
  parts_more x l h w v = rw (add-one x) (wrote_then (parts-to x l h) w v)

  pub parts-end : (x : ℕ) {behind : ℕ} {ys : List ℕ} → x ≡ n → Wrote at (parts_to x f) xs behind ys → Wrote at (parts_to n f) xs behind ys
  parts-end x {behind} {ys} e w = subst (λ (k : ℕ). Wrote at (parts_to k f) xs behind ys) e w

pub parts-cong : (n : ℕ) (f g : ℕ → List ℕ) → ((x : ℕ) → f x ≡ g x) → parts_to n f ≡ parts_to n g
unfolding parts_to
parts-cong zero f g h = refl
parts-cong (suc n) f g h = rw (parts-cong n f g h, h n)

-- ---- digits, of which the last is written first

pub digits-length : (c v : ℕ) → length (last_digits c v) ≡ c
unfolding last_digits
digits-length zero v = refl
digits-length (suc c) v =
    length-append (last_digits c (v / 10)) ((48 + v % 10) ∷ []) ∙ omega (arith, digits-length c (v / 10))

pub digits-turn : (at left rest : ℕ) (xs : List ℕ) {b : ℕ} → at + left < length xs → b ≡ 48 + rest % 10
    → text_over at (last_digits (left + 1) rest) xs ≡ text_over at (last_digits left (rest / 10)) (set xs (at + left) b)
unfolding last_digits
digits-turn at left rest xs h e =
    rw (add-one left, e)
    (over-set at (last_digits left (rest / 10)) (48 + rest % 10) xs (rw (digits-length left (rest / 10)) h)
    ∙ ap (λ (k : ℕ). text_over at (last_digits left (rest / 10)) (set xs (at + k) (48 + rest % 10))) (digits-length left (rest / 10)))
