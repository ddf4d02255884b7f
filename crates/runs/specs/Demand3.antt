-- Demand 3: one claim about a whole list of events, of any content, to the certifier that opening left in lent slices on accepted tables. An event is a
-- level that is offered, with or without a list of transitions, or new tables with other prices. Each is handed the tables in force, and the slices as the
-- one before it left them.
--
--   after m x es     the certifier that the list left, opened as x on tables m
--   steps m x es     t, the number of offers that were accepted
--   claim m x es     the level and the rows that it claims: those of the last accepted level, or of level 0, as new prices since have moved them
--   Demand3 m x es   what holds of them, for the tables then in force
use Rattle.std.specs.Prelude.{ℕ, ◌+◌, ◌^◌, ◌≤◌, ◌<◌, ◌≡◌, true, List, [], ◌∷◌, ℤ, ◌-ℤ◌, ◌≤ℤ◌, Result, Ok, Err}
use Rattle.tables.specs.Tables.{Tables}
use Rattle.refusals.specs.declared.Refusal.{Refusal}
use Rattle.refusals.specs.Verdicts.{Verdict, Fine, ◌before◌, left}
use Rattle.tables.specs.Model.{Model}
use Rattle.tables.specs.Storage.{weight_in, model_of}
use Rattle.integers.specs.Whole.{◌·◌}
use Rattle.tables.specs.Limits.{max_levels, K}
use Rattle.columns.specs.Columns.{handed_list}
use Rattle.plans.specs.Limits.{max_built}
use Rattle.plans.specs.Plan.{Plan, Fits, earns_at}
use Rattle.plans.specs.Level.{Level, Agree, level0, IsPoint, ceiling}
use Rattle.plans.specs.Rows.{best_row, rows0, informed_next, qmdp_next}
use Rattle.plans.specs.Prices.{change, repriced, raised_rows}
use Rattle.plans.specs.Build.{some_covers_all}
use Rattle.plans.specs.Totals.{some_counts, lower, upper, advice, Bracket}
use Rattle.levels.specs.Storage.{Cells, LentLevel, Lent, level_of, point_in, complete, over, number_in, standing_in, informed_in, qmdp_in}
use Rattle.runs.specs.declared.Bounds.{Bounds}
use Rattle.runs.specs.State.{open_verdict, opened, verdict_on, offered, mixture_holds, totals_of, answer_for, build_verdict, built_from, built_of}
use Rattle.runs.specs.Prices.{prices_verdict, priced_of}

-- a model is accepted if opening does not refuse its tables, nor the slices lent
abbrev pub ModelAccepted : Tables → Lent → Type 0
ModelAccepted m x = open_verdict m x ≡ Fine

-- ---- a list of events

pub data Event : Type 0 where
  offer : List ℕ → LentLevel → Event  -- with a slice for a list of transitions: of no words, none is meant
  prices : Tables → Event

-- levels that are offered one after the other, without a list of transitions
unfoldable pub offers : List LentLevel → List Event
offers [] = []
offers (l ∷ ls) = offer [] l ∷ offers ls

-- the tables in force, and what is lent
pub record Certifier : Type 0 where
  pub tables : Tables
  pub lent : Lent

abbrev pub certifier : Tables → Lent → Certifier
certifier m x = record { tables = m; lent = x }

-- what an event leaves: new prices that are not refused are in force from then on
abbrev pub handed : Certifier → Event → Certifier
handed y (offer list l) = certifier y.tables (left (handed_list y.tables list) (offered y.tables y.lent l) y.lent)
handed y (prices m) = certifier (left (prices_verdict y.tables y.lent m) m y.tables) (priced_of y.tables y.lent m)

unfoldable pub run : Certifier → List Event → Certifier
run y [] = y
run y (e ∷ es) = run (handed y e) es

-- accepted offers are counted, new prices are not
abbrev pub tally : Verdict → ℕ
tally (Ok u) = 1
tally (Err e) = 0

abbrev pub counted : Certifier → Event → ℕ
counted y (offer list l) = tally (handed_list y.tables list before verdict_on y.tables y.lent l)
counted y (prices m) = 0

unfoldable pub acceptances : Certifier → List Event → ℕ
acceptances y [] = 0
acceptances y (e ∷ es) = counted y e + acceptances (handed y e) es

-- ---- what is claimed

-- a level and the rows beside it
pub record Claim : Type 0 where
  pub level : Level
  pub informed : ℕ → ℕ → ℤ
  pub qmdp : ℕ → ℕ → ℤ

abbrev pub claims : Level → (ℕ → ℕ → ℤ) → (ℕ → ℕ → ℤ) → Claim
claims W F Q = record { level = W; informed = F; qmdp = Q }

-- an accepted level, with the rows stepped from those before
abbrev pub stepped : Model → Level → Claim → Claim
stepped M W c = claims W (informed_next M c.informed) (qmdp_next M c.qmdp)

-- all of level t moved by new prices
abbrev pub shifted : Model → Model → ℕ → Claim → Claim
shifted M M' t c =
    let d : ℕ = change M M' in
    claims (repriced M.states t d c.level) (raised_rows t d c.informed) (raised_rows t d c.qmdp)

-- what an event at level t leaves claimed
abbrev pub claimed_by : ℕ → Certifier → Event → Claim → Claim
claimed_by t y (offer list l) c =
    left (handed_list y.tables list before verdict_on y.tables y.lent l) (stepped (model_of y.tables) (level_of y.tables l) c) c
claimed_by t y (prices m) c = left (prices_verdict y.tables y.lent m) (shifted (model_of y.tables) (model_of m) t c) c

unfoldable pub claimed : ℕ → Certifier → Claim → List Event → Claim
claimed t y c [] = c
claimed t y c (e ∷ es) = claimed (t + counted y e) (handed y e) (claimed_by t y e c) es

-- ---- from an opening on

abbrev pub after : Tables → Lent → List Event → Certifier
after m x es = run (certifier m (opened m x)) es

abbrev pub steps : Tables → Lent → List Event → ℕ
steps m x es = acceptances (certifier m (opened m x)) es

-- level 0, and its rows
abbrev pub claim0 : Claim
claim0 = claims level0 rows0 rows0

abbrev pub claim : Tables → Lent → List Event → Claim
claim m x es = claimed 0 (certifier m (opened m x)) claim0 es

-- ---- what holds of slices x under tables m, at level t with claim c

-- the number is t, and the level is the one that is claimed in every part that is read
pub record StateHolds (m : Tables) (x : Lent) (t : ℕ) (c : Claim) : Type 0 where
  pub number : number_in x ≡ t
  pub standing : Agree (model_of m) c.level (level_of m (standing_in x))

-- the rows: those claimed, the informed entry at most the QMDP one, and at every mixture the best informed row no lower than any t-step plan
pub record RowsAre (m : Tables) (x : Lent) (t : ℕ) (c : Claim) : Type 0 where
  pub informed_is : (a : ℕ) → a < m.actions → (s : ℕ) → s < m.states → informed_in m x a s ≡ c.informed a s
  pub qmdp_is : (a : ℕ) → a < m.actions → (s : ℕ) → s < m.states → qmdp_in m x a s ≡ c.qmdp a s
  pub below : (a : ℕ) → a < m.actions → (s : ℕ) → s < m.states → informed_in m x a s ≤ℤ qmdp_in m x a s
  pub roof : (b : ℕ → ℕ) (π : Plan t) → Fits (model_of m) π → earns_at (model_of m) π b ≤ℤ (K ^ t) · best_row (model_of m) (informed_in m x) b

-- a mixture at which totals are asked for: some vector of the level counts there
abbrev pub MixtureHolds : Tables → Claim → List ℕ → Type 0
MixtureHolds m c b = (mixture_holds m.states b ≡ true) × (some_counts (model_of m) c.level (weight_in b) ≡ true)

-- an answer r at a mixture b: given, with document 01's totals at the level and rows that are claimed, and a bracket of what the best of all t-step plans
-- of the model earns there, with an action that opens a plan earning the lower one
pub record TotalsHold (m : Tables) (t : ℕ) (c : Claim) (b : List ℕ) (r : Result Bounds Refusal) : Type 0 where
  pub answer : Bounds
  pub given : r ≡ Ok answer
  pub lower_is : answer.lower ≡ lower (model_of m) c.level (weight_in b)
  pub sawtooth_is : answer.sawtooth ≡ ceiling m.states c.level (weight_in b)
  pub informed_is : answer.informed ≡ best_row (model_of m) c.informed (weight_in b)
  pub upper_is : answer.upper ≡ upper (model_of m) c.level c.informed (weight_in b)
  pub gap_is : answer.gap ≡ answer.upper -ℤ answer.lower
  pub action_is : answer.action.0 ≡ advice (model_of m) c.level (weight_in b)
  pub bracket : Bracket (model_of m) t c.level c.informed (weight_in b)

-- a verdict v on a building of a count of points, and the slices y' that it left of those that were lent, y: given, document 01's over the level that is
-- claimed, and accepted by the same certifier
pub record BuildHolds (m : Tables) (x : Lent) (c : Claim) (count : ℕ) (y : Cells) (v : Verdict) (y' : Cells) : Type 0 where
  pub given : v ≡ Fine
  pub level_is : y' ≡ over m (built_from m c.level count y) y
  pub accepted : verdict_on m x (answer_for m count y') ≡ Fine

-- points within the builder's limits, and slices long enough: those that are lent for the answer and those that the certifier was opened with
pub record PointsHold (m : Tables) (x : Lent) (count : ℕ) (y : Cells) : Type 0 where
  pub few : count ≤ max_built
  pub total : (i : ℕ) → i < count → IsPoint m.states (point_in m.states y.weights i)
  pub answer_room : complete m (answer_for m count y) ≡ true
  pub certifier_room : complete m (answer_for m count x.cells) ≡ true

-- the whole of it, of a certifier y that was opened as x
pub record ClaimHolds (x : Lent) (y : Certifier) (t : ℕ) (c : Claim) : Type 0 where
  pub state : StateHolds y.tables y.lent t c
  pub rows : RowsAre y.tables y.lent t c
  pub totals : 0 < t → (b : List ℕ) → MixtureHolds y.tables c b → TotalsHold y.tables t c b (totals_of y.tables y.lent b)
  pub build : t < max_levels → some_covers_all (model_of y.tables) c.level ≡ true → (count : ℕ) (z : Cells) → PointsHold y.tables x count z
      → BuildHolds y.tables y.lent c count z (build_verdict y.tables y.lent count z) (built_of y.tables y.lent count z)

-- the whole claim
abbrev pub Demand3 : Tables → Lent → List Event → Type 0
Demand3 m x es = ClaimHolds x (after m x es) (steps m x es) (claim m x es)
