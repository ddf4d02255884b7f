-- What more than one proof of this crate names.
pub use Rattle.integers.proofs.Kit.{◌≡◌, ◌∙◌, sym, ◌≤◌, arith, rules}
pub use Rattle.tables.specs.Storage.{model_of}
pub use Rattle.worths.specs.Limits.{max_nodes}
unfoldable pub use Rattle.worth.specs.Judged.{worth_verdict}
