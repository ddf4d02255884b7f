-- No action, decimal or next node that fits its form is outside a limit: 19 is for what a word looks like, and for a node out of order. Assumes nothing.
--
-- A number of a form has fewer than 10 ^ digits × 10 ^ places units (`amount-below` in `numerals`), and the limits are one less or more. Qed.
use Rattle.integers.proofs.Kit.{◌≡◌, refl, false, List, ℕ, ◌≤◌, ◌<◌, ◌+◌, ◌*◌, ◌-◌, ◌^◌, arith}
use Rattle.std.specs.Prelude.{Option, Some, None}
use Rattle.numerals.specs.declared.Form.{Form}
use Rattle.numerals.specs.Numeral.{count_form, decimal_form, node_form, amount_of}
use Rattle.numerals.proofs.Sizes.{OfNumber, amount-below}
use Rattle.grammar.specs.Grammar.{Finding, fits, unfit, limited}
use Rattle.grammar.proofs.Laws.{limit-in}
use Rattle.alphas.specs.Alphas.{most_action, most_decimal, no_node}

-- a number, if it is one
abbrev pub unlimited : Option ℕ → Finding
unlimited (Some v) = fits v
unlimited None = unfit

module _ (form : Form) (most : ℕ) (plain : form.loose ≡ false) (h : 10 ^ form.digits * 10 ^ form.places ≤ most + 1) where
  by_size : (a : Option ℕ) → OfNumber (λ v. v < 10 ^ form.digits * 10 ^ form.places) a → limited 0 most a ≡ unlimited a
  by_size (Some v) l = limit-in 0 most v (omega arith) (omega arith)
  by_size None l = refl

  none-outside : (w : List ℕ) → limited 0 most (amount_of form w) ≡ unlimited (amount_of form w)
  none-outside w = by_size (amount_of form w) (amount-below form plain w)

pub action-unlimited : (w : List ℕ) → limited 0 most_action (amount_of count_form w) ≡ unlimited (amount_of count_form w)
action-unlimited = none-outside count_form most_action refl (omega arith)

pub decimal-unlimited : (w : List ℕ) → limited 0 most_decimal (amount_of decimal_form w) ≡ unlimited (amount_of decimal_form w)
decimal-unlimited = none-outside decimal_form most_decimal refl (omega arith)

pub next-unlimited : (w : List ℕ) → limited 0 (no_node - 1) (amount_of node_form w) ≡ unlimited (amount_of node_form w)
next-unlimited = none-outside node_form (no_node - 1) refl (omega arith)
