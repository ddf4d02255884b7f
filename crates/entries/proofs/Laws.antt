-- What a part of a statement leaves, and words that only choose what follows, arm by arm. Assumes nothing.
use Rattle.std.specs.Prelude.{Result, Ok, Err}
use Rattle.integers.proofs.Kit.{◌≡◌, ◌∙◌, ap, List, ℕ, arith}
use Rattle.refusals.specs.declared.Refusal.{Refusal}
use Rattle.words.specs.Words.{Words, words_in, between}
use Rattle.grammar.specs.Grammar.{Answer, choose}
use Rattle.grammar.specs.Steps.{Told}
use Rattle.grammar.proofs.Laws.{onward-earlier}
use Rattle.entries.specs.Entries.{Outcome, upon}
use Rattle.entries.specs.Steps.{Leaves}

module _ {X A C : Type 0} {P : X → Type 0} {f : X → A} {next : X → ℕ} {s : List ℕ} {at : ℕ} {a : Answer A} (cells : C) (k : A → Words → Outcome C) where
  -- words that are refused leave the cells; those that are read leave what the next part does
  pub leaves-back : {e : Refusal} {r : Result ℕ Refusal} → Told P f next s at (Err e) a → r ≡ Err e → Leaves s at r cells (upon cells a k)
  leaves-back t q = rw q (record { is = ap (λ (a : Answer A). upon cells a k) t.is; onward = tt })

  pub leaves-on : {x : X} {r : Result ℕ Refusal} {cells' : C} → Told P f next s at (Ok x) a
      → Leaves s (next x) r cells' (k (f x) (words_in between s (next x))) → Leaves s at r cells' (upon cells a k)
  leaves-on {x} {r} t h = record {
    is = h.is ∙ ap (λ (a : Answer A). upon cells a k) t.is;
    onward = onward-earlier _ _ s at (next x) r (omega (arith, t.onward.1.0)) h.onward;
  }

-- the same of words that only choose what follows
module _ {X C : Type 0} {P : X → Type 0} {f next : X → ℕ} {s : List ℕ} {at : ℕ} {a : Answer ℕ} {r : Result ℕ Refusal} {cells : C} (k : Words → Outcome C)
    (o : Outcome C) where
  pub chooses-back : {e : Refusal} → Told P f next s at (Err e) a → Leaves s at r cells o → Leaves s at r cells (choose a k o)
  chooses-back t h = record { is = h.is ∙ ap (λ (a : Answer ℕ). choose a k o) t.is; onward = h.onward }

  pub chooses-on : {x : X} → Told P f next s at (Ok x) a → Leaves s (next x) r cells (k (words_in between s (next x))) → Leaves s at r cells (choose a k o)
  chooses-on {x} t h = record {
    is = h.is ∙ ap (λ (a : Answer ℕ). choose a k o) t.is;
    onward = onward-earlier _ _ s at (next x) r (omega (arith, t.onward.1.0)) h.onward;
  }
