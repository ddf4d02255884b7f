use Rattle.words.proofs.Prelude.{ℕ, ◌≤◌, ◌<◌, ◌≡◌, sym, ◌∙◌, arith, length, role_of, between, words_in, at-end}
use mathlib.Core.Path.{refl, ap}
use mathlib.Core.Bool.{true, true≢false}
use mathlib.Core.List.{List}
use Rattle.words.specs.declared.Word.{Word}
use Rattle.std.specs.Prelude.{Option, Some, None}
use Rattle.words.specs.declared.Class.{Class}
use Rattle.words.specs.declared.Class.TheVariants.{Space, Colon, Hash, Digit, Point, Minus, Star, Rest}
use Rattle.words.specs.Words.{parts}
use Rattle.words.specs.Steps.{is_end, WordInside, Worded, Next}
use Rattle.words.proofs.Laws.{no_end, step_by, colon-word, plain_word}
use Rattle.words.proofs.word_at.Invariants.{Skipped}
use Rattle.words.proofs.word_at.Goals as goal

-- a byte or more further, with the same words
further : {s : List ℕ} {from at to : ℕ} → Skipped s from at → at ≤ to → to ≤ length s → words_in between s at ≡ words_in between s to → Skipped s from to
further k a b e = record { up = omega (arith, k.up); low = λ h. b; same = λ h. k.same h ∙ e }

-- the same place, seen from before it
earlier : (s : List ℕ) (from at : ℕ) (w : Option Word) → from ≤ at → WordInside s at w → WordInside s from w
earlier s from at (Some w) h (a, b) = (omega arith, b)
earlier s from at None h e = tt

-- a word that begins here
found : {s : List ℕ} {from at : ℕ} {w : Option Word} → Skipped s from at → at < length s → Worded s at w → Next s from w
found {s} {from} {at} {w = x} k h w = record {
  within = λ l. record { is = k.same l ∙ w.is; lies = earlier s from at x k.up w.lies };
  past = λ l. absurd (omega (arith, k.up));
}

-- of those that belong to no word the rest are spaces
spaces : (k : Class) → (k ≡ Hash → ⊥) → (k ≡ Colon → ⊥) → is_end (role_of k) ≡ true → role_of k ≡ parts
spaces Space h c e = refl
spaces Colon h c e = absurd (c refl)
spaces Hash h c e = absurd (h refl)
spaces Digit h c e = absurd (true≢false (sym e))
spaces Point h c e = absurd (true≢false (sym e))
spaces Minus h c e = absurd (true≢false (sym e))
spaces Star h c e = absurd (true≢false (sym e))
spaces Rest h c e = absurd (true≢false (sym e))

-- a byte that belongs to a word begins one
pub returns-then-not-is_end : goal.returns-then-not-is_end
returns-then-not-is_end c =
    let l = c.loop-at in
    let w = c.word_end.ensures in
    let e = no_end _ (sym c.is_end.ensures ∙ c.if-not-is_end.true) in
    found l.invariant (omega arith) (record { is = plain_word _ l.at (omega arith) e w; lies = (omega arith, (omega (arith, w.up), w.low)) })

pub loop-at-preserved-in-Hash : goal.loop-at-preserved-in-Hash
loop-at-preserved-in-Hash c =
    let l = c.loop-at in
    let line = c.line_end-at.ensures in
    further l.invariant (omega arith) line.1.0 (step_by _ l.at (omega arith) between (ap role_of (sym c.class_of-k.ensures ∙ c.in-Hash.is)) ∙ line.1.1)

pub returns-in-Colon : goal.returns-in-Colon
returns-in-Colon c =
    let l = c.loop-at in
    found l.invariant (omega arith) (record {
      is = colon-word _ l.at (omega arith) (ap role_of (sym c.class_of-k.ensures ∙ c.in-Colon.is));
      lies = (omega arith, (omega arith, omega arith));
    })

pub loop-at-preserved : goal.loop-at-preserved
loop-at-preserved c =
    let l = c.loop-at in
    let k = c.class_of-k in
    let ends = ap (λ (k : Class). is_end (role_of k)) k.ensures ∙ sym c.is_end.ensures ∙ c.if-not-is_end.false in
    let e = spaces k.result c.in_default.not-Hash c.in_default.not-Colon ends in
    further l.invariant (omega arith) (omega arith) (step_by _ l.at (omega arith) between (ap role_of (sym k.ensures) ∙ e))

pub returns : goal.returns
returns c =
    let s = c.args.s.now in
    let l = c.loop-at in
    record {
      within = λ h. record { is = l.invariant.same h ∙ at-end between s l.at (omega (arith, l.invariant.low h)); lies = tt };
      past = λ h. refl;
    }
