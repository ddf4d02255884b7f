-- What more than one proof of this crate names.
pub use Rattle.integers.proofs.Kit.{◌≡◌, ◌∙◌, refl, ap, List, ℕ, ◌<◌, ◌-◌, arith, rules}
pub use Rattle.words.specs.Words.{Words, between, words_in}
pub use Rattle.grammar.specs.Grammar.{Answer, ◌then◌, got}
pub use Rattle.grammar.proofs.Laws.{handed}
pub use Rattle.alphas.proofs.Words.{Filled, filled-back, filled_more, filled_none, gave-back, still-read, Unread}
unfoldable pub use Rattle.alphas.specs.Alphas.{action, decimal, next_node, several}
