-- How much rounding costs, as one claim about a whole list of point lists: each is built and offered in turn, from the certifier that opening left on
-- accepted tables, with no new prices. Of a list that the builder refuses, no level is offered.
--
--   made m x ps      the levels that are offered
--   levels m x ls    the accepted ones of a list of offers, the last one first
--   Ticks m x ps     each vector names a plan of the model; each entry is at most what that earns, and less than t ticks below it
use Rattle.std.specs.Prelude.{ℕ, ◌^◌, ◌<◌, ◌≡◌, List, [], ◌∷◌, length, pos, ◌+ℤ◌, ◌≤ℤ◌, ◌<ℤ◌, Ok, Err}
use Rattle.integers.specs.Whole.{◌·◌}
use Rattle.tables.specs.Tables.{Tables}
use Rattle.refusals.specs.Verdicts.{Verdict}
use Rattle.tables.specs.Limits.{K}
use Rattle.tables.specs.Storage.{model_of}
use Rattle.plans.specs.Plan.{Fits, earns}
use Rattle.plans.specs.Level.{Level}
use Rattle.plans.specs.Named.{named}
use Rattle.levels.specs.Storage.{Cells, LentLevel, Lent, level_of}
use Rattle.runs.specs.State.{opened, verdict_on, offered, answer_for, build_verdict, built_of}
use Rattle.runs.specs.Demand3.{offers, steps, claim}

-- what a building is handed: a count of points, and the slices lent for its level, whose weights are the points'
pub record Points : Type 0 where
  pub count : ℕ
  pub cells : Cells

abbrev pub built_level : Tables → Lent → Points → LentLevel
built_level m x p = answer_for m p.count (built_of m x p.count p.cells)

-- a level before others, if its building was not refused
abbrev pub unless_refused : Verdict → LentLevel → List LentLevel → List LentLevel → List LentLevel
unless_refused (Ok u) l with_it without = l ∷ with_it
unless_refused (Err e) l with_it without = without

-- each level is built upon what the offers before it left
unfoldable pub made_from : Tables → Lent → List Points → List LentLevel
made_from m x [] = []
made_from m x (p ∷ ps) =
    unless_refused (build_verdict m x p.count p.cells) (built_level m x p) (made_from m (offered m x (built_level m x p)) ps) (made_from m x ps)

abbrev pub made : Tables → Lent → List Points → List LentLevel
made m x ps = made_from m (opened m x) ps

-- a level on top of those below, if its offer was accepted
abbrev pub stacked : Verdict → Level → List Level → List Level
stacked (Ok u) new below = new ∷ below
stacked (Err e) new below = below

unfoldable pub levels_of : Tables → List Level → Lent → List LentLevel → List Level
levels_of m below x [] = below
levels_of m below x (l ∷ ls) = levels_of m (stacked (verdict_on m x l) (level_of m l) below) (offered m x l) ls

abbrev pub levels : Tables → Lent → List LentLevel → List Level
levels m x ls = levels_of m [] (opened m x) ls

-- the last of them, or level 0: what is claimed after offers alone
abbrev pub last : Tables → Lent → List LentLevel → Level
last m x ls = (claim m x (offers ls)).level

-- an entry against what the plan named by its vector earns from that state, over t accepted levels: both times K^t
abbrev pub EntryHolds : Tables → Lent → List LentLevel → ℕ → ℕ → Type 0
EntryHolds m x ls v s =
    let t : ℕ = length (levels m x ls) in
    ((K ^ t) · (last m x ls).entry v s ≤ℤ earns (model_of m) (named (levels m x ls) v) s)
    × (earns (model_of m) (named (levels m x ls) v) s <ℤ (K ^ t) · ((last m x ls).entry v s +ℤ pos t))

-- the whole claim
pub record Ticks (m : Tables) (x : Lent) (ps : List Points) : Type 0 where
  pub number : length (levels m x (made m x ps)) ≡ steps m x (offers (made m x ps))
  pub plan : (v : ℕ) → v < (last m x (made m x ps)).vectors → Fits (model_of m) (named (levels m x (made m x ps)) v)
  pub entry : 0 < steps m x (offers (made m x ps)) → (v : ℕ) → v < (last m x (made m x ps)).vectors → (s : ℕ) → s < m.states → EntryHolds m x (made m x ps) v s
