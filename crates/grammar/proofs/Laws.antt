-- One word within its limits, and several after each other. Assumes nothing.
--
-- In order: a number within its limits; several words after each other.
use Rattle.std.specs.Prelude.{Option, Some, None, Result, Ok, Err, IsErr, IsErrAnd}
use Rattle.integers.proofs.Kit.{◌≡◌, ◌∙◌, refl, ap, true, false, Bool, cond, ◌&&◌, List, ℕ, ◌≤◌, arith, le-leb, leb-true, leb}
use Rattle.integers.proofs.Searches.{and-true}
use Rattle.refusals.specs.declared.Refusal.{Refusal}
use Rattle.words.specs.Words.{Words, words_in, between}
use Rattle.grammar.specs.Grammar.{Answer, got, ◌then◌, Finding, fits, unfit, outside, limited}
use Rattle.grammar.specs.Steps.{Onward, Told}

-- ---- a number within its limits

-- what holds of the value of a finding, if it has one
abbrev pub OfValue : (ℕ → Type 0) → Finding → Type 0
OfValue P (fits v) = P v
OfValue P unfit = Unit
OfValue P outside = Unit

pub limit-in : (least most v : ℕ) → least ≤ v → v ≤ most → limited least most (Some v) ≡ fits v
limit-in least most v h k = simp (le-leb least v h, le-leb v most k)

of-value : (P : ℕ → Type 0) (t : Bool) (v : ℕ) → (t ≡ true → P v) → OfValue P (cond t (fits v) outside)
of-value P true v h = h refl
of-value P false v h = tt

pub limited-within : (least most : ℕ) (a : Option ℕ) → OfValue (λ v. (least ≤ v) × (v ≤ most)) (limited least most a)
limited-within least most (Some v) =
    of-value (λ v. (least ≤ v) × (v ≤ most)) (leb least v && leb v most) v
    (λ e. let b = and-true (leb least v) (leb v most) e in (leb-true least v b.0, leb-true v most b.1))
limited-within least most None = tt

weaker : {P Q : ℕ → Type 0} (f : Finding) → ((v : ℕ) → P v → Q v) → OfValue P f → OfValue Q f
weaker (fits v) h p = h v p
weaker unfit h p = tt
weaker outside h p = tt

pub limited-below : (least most : ℕ) (a : Option ℕ) → OfValue (λ v. v ≤ most) (limited least most a)
limited-below least most a = weaker (limited least most a) (λ v p. p.1) (limited-within least most a)

-- ---- several words after each other

-- a `?` hands back the refusal that it was given
pub handed : {X : Type 0} (r : Result X Refusal) {e : Refusal} → IsErr r × IsErrAnd r (λ y. y ≡ e) → r ≡ Err e
handed (Ok x) (h, k) = absurd k
handed (Err y) (h, k) = ap (λ (y : Refusal). Err y) k

pub onward-earlier : {X : Type 0} (P : X → Type 0) (next : X → ℕ) (s : List ℕ) (at from : ℕ) (r : Result X Refusal) → at ≤ from → Onward P next s from r
    → Onward P next s at r
onward-earlier P next s at from (Ok x) h (p, (b, c)) = (p, (omega arith, c))
onward-earlier P next s at from (Err e) h o = tt

module _ {X A : Type 0} {P : X → Type 0} {f : X → A} {next : X → ℕ} {s : List ℕ} {at : ℕ} {a : Answer A} where
  module _ {Y B : Type 0} {Q : Y → Type 0} {g : Y → B} {to : Y → ℕ} (k : A → Words → Answer B) where
    -- a refusal that is handed back is the answer of the whole
    pub reads-back : {e : Refusal} {r : Result Y Refusal} → Told P f next s at (Err e) a → r ≡ Err e → Told Q g to s at r (a then k)
    reads-back h q = rw q (record { is = ap (λ (a : Answer A). a then k) h.is; onward = tt })

    -- a part that is read, and what follows it
    pub reads_on : {x : X} {r : Result Y Refusal} → Told P f next s at (Ok x) a → Told Q g to s (next x) r (k (f x) (words_in between s (next x)))
        → Told Q g to s at r (a then k)
    reads_on {x} {r} h t = record {
      is = t.is ∙ ap (λ (a : Answer A). a then k) h.is;
      onward = onward-earlier Q to s at (next x) r (omega (arith, h.onward)) t.onward;
    }

  -- or what was read is told as another thing
  pub tells_as : {Y B : Type 0} {Q : Y → Type 0} {g : Y → B} {to : Y → ℕ} {x : X} (t : A → B) (y : Y) → Told P f next s at (Ok x) a → Q y → g y ≡ t (f x)
      → to y ≡ next x → Told Q g to s at (Ok y) (a then λ v rest. got (t v) rest)
  tells_as {x = x} t y h q v n = record {
    is = rw (v, n) (ap (λ (a : Answer A). a then λ v rest. got (t v) rest) h.is);
    onward = (q, (omega (arith, h.onward), omega (arith, h.onward)));
  }
