-- What more than one proof of this crate names.
pub use Rattle.integers.proofs.Kit.{◌≡◌, ◌∙◌, sym, ⊎_elim, ◌≤◌, ◌+◌, ◌*◌, ◌-◌, arith, rules, get_or}
pub use Rattle.plans.specs.Limits.{max_reached}
pub use Rattle.tables.specs.Storage.{weight_in}
