-- Laws of offers made one after the other. Assumes nothing.
use Rattle.std.specs.Result.{is_ok}
use Rattle.integers.proofs.Kit.{◌≡◌, ◌∙◌, refl, ap, sym, true, false, List, [], ◌∷◌, ℕ, ◌≤◌, ◌+◌, ◌*◌, suc, arith, add-one, get_or, length}
use Rattle.integers.proofs.Parts.{is_T}
use mathlib.Core.List.{◌++◌}
use native.Mathlib.Nat as NatL
use Rattle.tables.specs.Tables.{Tables}
use Rattle.std.specs.Prelude.{Ok, Err}
use Rattle.refusals.specs.Verdicts.{Verdict}
use Rattle.tables.specs.Storage.{row_in}
use Rattle.levels.specs.Storage.{Cells, LentLevel, Lent, lent_for}
use Rattle.levels.specs.Judged.{offer_verdict}
use Rattle.levels.proofs.Over.{AsLong, as_long, long-long, same_cells}
use Rattle.runs.specs.State.{offered}
use Rattle.runs.specs.Demand3.{Event, offer, offers, Certifier, certifier, handed, run, tally, counted, acceptances}
use Rattle.runs.proofs.Demand3.{run-append, acceptances-append, offers-append, offers-keep}
use Rattle.blocks.specs.Blocks.{Packed, offer_in}
use Rattle.series.specs.Series.{offers_in, offered_all, accepted_of}

-- a certifier's slices are as long as they came
pub record LentAsLong (x y : Lent) : Type 0 where
  pub state : length y.state ≡ length x.state
  pub cells : AsLong x.cells y.cells
  pub informed : length y.rows.informed ≡ length x.rows.informed
  pub qmdp : length y.rows.qmdp ≡ length x.rows.qmdp

pub same-lengths : (x : Lent) → LentAsLong x x
same-lengths x = record { state = refl; cells = as_long x.cells; informed = refl; qmdp = refl }

pub longer : {x y z : Lent} → LentAsLong x y → LentAsLong y z → LentAsLong x z
longer a b = record {
  state = b.state ∙ a.state;
  cells = long-long a.cells b.cells;
  informed = b.informed ∙ a.informed;
  qmdp = b.qmdp ∙ a.qmdp;
}

-- the first i offers left y of x, and so many of them were accepted
pub record Running (m : Tables) (b : Packed) (x : Lent) (i : ℕ) (y : Lent) (accepted : ℕ) : Type 0 where
  pub left_is : y ≡ offered_all m x (offers_in m b i)
  pub accepted-is : accepted ≡ accepted_of m x (offers_in m b i)
  pub few : accepted ≤ i

-- one offer more
offered-more : (m : Tables) (x : Lent) (ls : List LentLevel) (l : LentLevel) → offered_all m x (ls ++ (l ∷ [])) ≡ offered m (offered_all m x ls) l
unfolding run offers
offered-more m x ls l =
    ap (λ (es : List Event). (run (certifier m x) es).lent) (offers-append ls (l ∷ []))
    ∙ ap (λ (y : Certifier). y.lent) (run-append (certifier m x) (offers ls) (offer [] l ∷ [])
    ∙ ap (λ (y : Certifier). handed y (offer [] l)) (offers-keep m x ls))

accepted-more : (m : Tables) (x : Lent) (ls : List LentLevel) (l : LentLevel)
    → accepted_of m x (ls ++ (l ∷ [])) ≡ accepted_of m x ls + tally (offer_verdict m (offered_all m x ls) l)
unfolding acceptances offers
accepted-more m x ls l =
    ap (λ (es : List Event). acceptances (certifier m x) es) (offers-append ls (l ∷ []))
    ∙ acceptances-append (certifier m x) (offers ls) (offer [] l ∷ [])
    ∙ ap (λ (n : ℕ). accepted_of m x ls + n) (NatL.add-zero _ ∙ ap (λ (y : Certifier). counted y (offer [] l)) (offers-keep m x ls))

-- one that is accepted counts
tally-few : (v : Verdict) → tally v ≤ 1
tally-few (Ok u) = omega arith
tally-few (Err e) = omega arith

pub counted-one : (v : Verdict) → is_ok v ≡ true → tally v ≡ 1
counted-one (Ok u) e = refl
counted-one (Err r) e = absurd (is_T e)

pub counted-none : (v : Verdict) → is_ok v ≡ false → tally v ≡ 0
counted-none (Ok u) e = absurd (is_T (sym e))
counted-none (Err r) e = refl

pub running_none : (m : Tables) (b : Packed) (x : Lent) → Running m b x 0 x 0
unfolding run acceptances offers offers_in
running_none m b x = record { left_is = refl; accepted-is = refl; few = omega arith }

pub running_more : {m : Tables} {b : Packed} {x y z : Lent} {i a n : ℕ} {v : Verdict} {l : LentLevel} → Running m b x i y a → l ≡ offer_in m b i
    → v ≡ offer_verdict m y l → z ≡ offered m y l → n ≡ a + tally v → Running m b x (i + 1) z n
unfolding offers_in
running_more {m} {b} {x} {y} {z} {i} {a} {n} {v} {l} r h e f g =
    let ls = offers_in m b i in
    let more : ls ++ (l ∷ []) ≡ offers_in m b (suc i) = ap (λ (l : LentLevel). ls ++ (l ∷ [])) h in
    let said : tally v ≡ tally (offer_verdict m (offered_all m x ls) l) =
    ap tally e ∙ ap (λ (y : Lent). tally (offer_verdict m y l)) r.left_is in
    rw (add-one i) record {
      left_is = f ∙ (ap (λ (y : Lent). offered m y l) r.left_is ∙ (sym (offered-more m x ls l) ∙ ap (offered_all m x) more));
      accepted-is =
          g ∙ (ap (λ (j : ℕ). a + j) said ∙ (ap (λ (j : ℕ). j + tally (offer_verdict m (offered_all m x ls) l)) r.accepted-is
          ∙ (sym (accepted-more m x ls l) ∙ ap (accepted_of m x) more)));
      few = omega (arith, r.few, g, tally-few v);
    }

-- the parts of slices that are block i of each
pub offer-is : (m : Tables) (b : Packed) (i : ℕ) {x : Cells} → x.actions ≡ row_in b.v b.cells.actions i
    → x.choices ≡ row_in (b.v * m.observations) b.cells.choices i → x.masks ≡ row_in b.v b.cells.masks i
    → x.entries ≡ row_in (b.v * m.states) b.cells.entries i → x.corners ≡ row_in m.states b.cells.corners i
    → x.weights ≡ row_in (b.p * m.states) b.cells.weights i → x.values ≡ row_in b.p b.cells.values i
    → lent_for (get_or b.vectors i 0) (get_or b.points i 0) x ≡ offer_in m b i
offer-is m b i a o k e s w u = ap (λ (y : Cells). lent_for (get_or b.vectors i 0) (get_or b.points i 0) y) (same_cells a o k e s w u)
