-- Offers that lie packed in slices: block i of each slice has room for so many vectors and points, and the offer that lies there has counts of its own.
--
--   offer_in         what lies in a block
--   packed_fits      9 of such slices: long enough for so many blocks
--   replay_verdict   what a list of them is refused for
use Rattle.std.specs.Prelude.{ℕ, ◌*◌, Bool, ◌&&◌, List, leb, length, get_or}
use Rattle.tables.specs.Tables.{Tables}
use Rattle.refusals.specs.Verdicts.{Verdict, ◌before◌, unless}
use Rattle.tables.specs.Limits.{max_vectors}
use Rattle.tables.specs.Storage.{row_in}
use Rattle.plans.specs.Limits.{max_points}
use Rattle.levels.specs.Storage.{Cells, cells, LentLevel, Lent, lent_for}
use Rattle.levels.specs.Judged.{holds}

-- the slices of the offers, with room for v vectors and p points in each block, and the counts of each offer
pub record Packed : Type 0 where
  pub v : ℕ
  pub p : ℕ
  pub vectors : List ℕ
  pub points : List ℕ
  pub cells : Cells

abbrev pub packed : ℕ → ℕ → List ℕ → List ℕ → Cells → Packed
packed v p vectors points x = record { v = v; p = p; vectors = vectors; points = points; cells = x }

-- what lies in block i
abbrev pub offer_in : Tables → Packed → ℕ → LentLevel
offer_in m b i =
    let n : ℕ = m.states in
    let x : Cells = b.cells in
    lent_for (get_or b.vectors i 0) (get_or b.points i 0)
    (cells (row_in b.v x.actions i) (row_in (b.v * m.observations) x.choices i) (row_in b.v x.masks i) (row_in (b.v * n) x.entries i)
    (row_in n x.corners i) (row_in (b.p * n) x.weights i) (row_in b.p x.values i))

-- 9: more room in a block than a level may have, or slices of such lengths too short for so many blocks of a model with n states and k observations
abbrev pub blocks_fit : ℕ → ℕ → ℕ → ℕ → ℕ → ℕ → ℕ → ℕ → ℕ → ℕ → ℕ → ℕ → ℕ → ℕ → Bool
blocks_fit n k count v p vectors points actions choices masks entries corners weights values =
    leb v max_vectors
    && (leb p max_points
    && (leb count vectors
    && (leb count points
    && (leb (count * v) actions
    && (leb (count * (v * k)) choices
    && (leb (count * v) masks
    && (leb (count * (v * n)) entries
    && (leb (count * n) corners
    && (leb (count * (p * n)) weights
    && leb (count * p) values)))))))))

abbrev pub packed_fits : Tables → Packed → ℕ → Bool
packed_fits m b count =
    let x : Cells = b.cells in
    blocks_fit m.states m.observations count b.v b.p (length b.vectors) (length b.points) (length x.actions) (length x.choices)
    (length x.masks) (length x.entries) (length x.corners) (length x.weights) (length x.values)

-- 7 of the certifier, and 9 where a slice is too short for the list
unfoldable pub replay_verdict : Tables → Lent → Packed → ℕ → Verdict
replay_verdict m x b count = unless (holds m x) 7 0 before unless (packed_fits m b count) 9 0
