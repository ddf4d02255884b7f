-- Arrays of which the first cells count.
--
--   padded z size n f   f 0, .., f (n - 1), then z up to the size
--   laid n f xs         f 0, .., f (n - 1), then what xs has from there on
--   laid_rows r w f xs   r rows of w cells each, f row place, then what xs has from there on
--   grid z size r w f   the same rows, then z up to the size
use Rattle.std.specs.Prelude.{ℕ, zero, suc, ◌*◌, ◌-◌, ◌/◌, ◌%◌, List, [], ◌∷◌, ◌++◌, drop, replicate}

module _ {A : Type 0} where
  -- f 0, f 1, .., f (n - 1)
  unfoldable pub listed : ℕ → (ℕ → A) → List A
  listed zero f = []
  listed (suc n) f = listed n f ++ (f n ∷ [])

  unfoldable pub padded : A → ℕ → ℕ → (ℕ → A) → List A
  padded z size n f = listed n f ++ replicate (size - n) z

  unfoldable pub laid : ℕ → (ℕ → A) → List A → List A
  laid n f xs = listed n f ++ drop n xs

  unfoldable pub laid_rows : ℕ → ℕ → (ℕ → ℕ → A) → List A → List A
  laid_rows rows w f xs = laid (rows * w) (λ i. f (i / w) (i % w)) xs

  abbrev pub grid : A → ℕ → ℕ → ℕ → (ℕ → ℕ → A) → List A
  grid z size rows w f = laid_rows rows w f (replicate size z)
