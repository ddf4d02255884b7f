-- What more than one proof of this crate names.
pub use Prim.Native.Nat.{◌<◌, ◌^◌, suc, ℕ}
pub use borrow.Author.Rules.{rules}
pub use mathlib.Core.Path.{◌∙◌, ◌≡◌, ap, refl, sym}
pub use native.Mathlib.Omega.{arith}
