-- What more than one proof of this crate names.
pub use Rattle.integers.proofs.Kit.{◌≡◌, ◌∙◌, ap, sym, true, Bool, List, ℕ, ◌<◌, ◌+◌, ◌*◌, arith, leb, get_or}
pub use Rattle.integers.proofs.Lists.{cell_below, row_below}
pub use Rattle.integers.proofs.Searches.{every_more, every-none, every-not}
pub use Rattle.integers.proofs.Sums.{total-none, total-step}
pub use Rattle.integers.specs.Search.{every}
pub use Rattle.integers.specs.Whole.{total_to}
pub use Rattle.tables.proofs.Fitting.{Few}
pub use Rattle.tables.specs.Limits.{one}
pub use Rattle.tables.specs.Storage.{model_of}
unfoldable pub use Rattle.tables.specs.Judged.{limits_hold}
