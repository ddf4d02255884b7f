-- What more than one proof of this crate names.
pub use Prim.Native.Nat.{◌*◌, ◌-◌, ◌^◌, ◌≤◌, ℕ}
pub use Rattle.numerals.specs.Numeral.{digits, value}
pub use lib.ListN.{drop}
pub use mathlib.Core.Path.{◌∙◌, ◌≡◌, ap, sym}
pub use native.Mathlib.Omega.{arith}
