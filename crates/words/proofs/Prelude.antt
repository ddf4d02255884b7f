-- What more than one proof of this crate names.
pub use Prim.Native.Nat.{◌-◌, ◌<◌, ◌≤◌, ℕ}
pub use Rattle.words.proofs.Laws.{at-end}
pub use Rattle.words.specs.Words.{between, role_of, words_in}
pub use borrow.Author.Rules.{rules}
pub use lib.ListN.{length}
pub use mathlib.Core.Path.{◌∙◌, ◌≡◌, refl, sym}
pub use native.Mathlib.Omega.{arith}
