-- Refusals: the first that is found, in checking order.
--
--   Fine                  nothing is refused
--   Refused number at     a refusal by a number of document 01
--   v before w            v where it refuses, else w
--   unless ok number at   the refusal where the test fails
--   first_of n v           the first refusal among v 0, v 1, .., v (n - 1)
--   is_fine v              whether it refuses nothing
--   refusal_text r         a refusal as it is printed
--   left v new old        what is lent, as a verdict leaves it: a refusal leaves it as it was
use Rattle.std.specs.Prelude.{ℕ, zero, suc, Bool, true, false, Result, Ok, Err, List, ◌++◌, codes, decimal}
use Rattle.refusals.specs.declared.Refusal.{Refusal}

abbrev pub Verdict : Type 0
Verdict = Result (Unit {0}) Refusal

abbrev pub Fine : Verdict
Fine = Ok tt

abbrev pub Refused : ℕ → ℕ → Verdict
Refused number place = Err (record { 0 = number; 1 = place })

infixr 4 ◌before◌
abbrev pub ◌before◌ : Verdict → Verdict → Verdict
◌before◌ (Ok u) w = w
◌before◌ (Err e) w = Err e

abbrev pub unless : Bool → ℕ → ℕ → Verdict
unless true number place = Fine
unless false number place = Refused number place

unfoldable pub first_of : ℕ → (ℕ → Verdict) → Verdict
first_of zero v = Fine
first_of (suc n) v = first_of n v before v n

abbrev pub is_fine : Verdict → Bool
is_fine (Ok u) = true
is_fine (Err e) = false

abbrev pub left : {A : Type 0} → Verdict → A → A → A
left (Ok u) new old = new
left (Err e) new old = old

-- what a program prints of a refusal
abbrev pub refusal_text : Refusal → List ℕ
refusal_text r = codes "refused " ++ (decimal r.0 ++ (codes " at " ++ decimal r.1))
