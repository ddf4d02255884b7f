-- What more than one proof of this crate names.
pub use Rattle.integers.proofs.Kit.{◌≡◌, ◌∙◌, refl, ap, sym, subst, subst⁻¹, List, [], ◌∷◌, ℕ, ◌≤◌, ◌<◌, ◌+◌, ◌*◌, ◌-◌, arith, rules, length, get_or}
pub use mathlib.Core.List.{◌++◌}
pub use Rattle.tables.specs.Storage.{cell_in, reward_in}
pub use Rattle.digits.specs.Steps.{HasRoom, Wrote}
pub use Rattle.digits.proofs.Over.{room-first, room-then, wrote_then, wrote-long, parts_none, parts-room, parts_more, parts-end}
pub use Rattle.written.specs.Text.{newline, spaced, parts_to, fixed, signed_fixed}
pub use Rattle.written.specs.Steps.{numbers}
unfoldable pub use Rattle.written.specs.Text.{line, opening, row_text, table_text, reward_text, rewards_text, header_text, start_text, file_text}
