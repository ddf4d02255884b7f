-- Totals at many mixtures.
pub mod Each
