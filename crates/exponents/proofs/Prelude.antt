-- What more than one proof of this crate names.
pub use Prim.Native.Nat.{ℕ}
pub use lib.ListN.{drop}
pub use mathlib.Core.Path.{◌∙◌, ◌≡◌, ap, sym}
pub use native.Mathlib.Omega.{arith}
