-- Offers made one after the other.
--
--   offers_in                  a list of them, which lies packed in slices
--   offered_all, accepted_of    what a list of offers leaves of a certifier, and how many of them were accepted
use Rattle.std.specs.Prelude.{ℕ, zero, suc, List, [], ◌∷◌, ◌++◌}
use Rattle.tables.specs.Tables.{Tables}
use Rattle.levels.specs.Storage.{LentLevel, Lent}
use Rattle.runs.specs.Demand3.{offers, certifier, run, acceptances}
use Rattle.blocks.specs.Blocks.{Packed, offer_in}

-- what lies in the first blocks, in their order
unfoldable pub offers_in : Tables → Packed → ℕ → List LentLevel
offers_in m b zero = []
offers_in m b (suc count) = offers_in m b count ++ (offer_in m b count ∷ [])

-- each offer is handed what the one before it left
abbrev pub offered_all : Tables → Lent → List LentLevel → Lent
offered_all m x ls = (run (certifier m x) (offers ls)).lent

abbrev pub accepted_of : Tables → Lent → List LentLevel → ℕ
accepted_of m x ls = acceptances (certifier m x) (offers ls)
