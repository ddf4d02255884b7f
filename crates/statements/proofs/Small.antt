-- What is read into cells keeps the limits of its words. Assumes nothing.
--
-- In order: what holds of the cells that are read whole; numbers, rows and tables; rewards; statements.
use Rattle.integers.proofs.Kit.{true, false, Bool, cond, List, ℕ, ◌≤◌, ◌+◌, suc, zero, arith, leb, get_or, ℤ, pos, nat_abs}
use Rattle.words.specs.Words.{Words, word, end}
use Rattle.tables.specs.Limits.{max_converted, one, max_reward}
use Rattle.drafts.specs.Drafts.{stated, rewarded, outcomed}
use Rattle.drafts.proofs.Marks.{marked_all}
use Rattle.numerals.specs.Numeral.{probability_form, reward_form, signed}
use Rattle.grammar.specs.Grammar.{Answer, got, refused, choose, key, colon, index, magnitude, minus, signed_number, unless_end}
use Rattle.grammar.proofs.Gives.{Gives, gives_then, number-gives, magnitude-gives}
use Rattle.entries.specs.Entries.{Outcome, filled, stopped, upon, wholly, probability, indexed, row, entry, table, entry_by, table_by}
use Rattle.rewards.specs.Rewards.{reward_number, starred, rewards}
use Rattle.statements.specs.Statements.{further, within, Draft, draft, transition_key, observation_key, reward_key}
use Rattle.rewards.specs.Rewards.{outcome_kept, outcomes, rewards_or_outcomes}
use Rattle.statements.specs.Statements.{reward_statement, observation_or_reward, one_statement, statements}
use Rattle.rewards.specs.Rewards.{reward_by, rewards_by, outcome_by, outcomes_by}
use Rattle.statements.specs.Statements.{observation_or_reward_by, one_statement_by, reward_statement_by}
use Rattle.statements.specs.Statements.{statements_by}

-- ---- what holds of the cells that are read whole

abbrev pub Fills : {C : Type 0} → (C → Type 0) → Outcome C → Type 0
Fills P (filled cells ws) = P cells
Fills P (stopped n p cells) = Unit

pub fills-gives : {C : Type 0} (P : C → Type 0) (o : Outcome C) → Fills P o → Gives P (wholly o)
fills-gives P (filled cells ws) h = h
fills-gives P (stopped n p cells) h = tt

fills-upon : {A C : Type 0} (P : A → Type 0) (Q : C → Type 0) (cells : C) (a : Answer A) (k : A → Words → Outcome C) → Gives P a
    → ((x : A) (ws : Words) → P x → Fills Q (k x ws)) → Fills Q (upon cells a k)
fills-upon P Q cells (got x ws) k g h = h x ws g
fills-upon P Q cells (refused n p) k g h = tt

fills-after : {A C : Type 0} (Q : C → Type 0) (cells : C) (a : Answer A) (k : A → Words → Outcome C) → ((x : A) (ws : Words) → Fills Q (k x ws))
    → Fills Q (upon cells a k)
fills-after Q cells (got x ws) k h = h x ws
fills-after Q cells (refused n p) k h = tt

fills-choose : {C : Type 0} (Q : C → Type 0) (a : Answer ℕ) (k : Words → Outcome C) (o : Outcome C) → ((ws : Words) → Fills Q (k ws)) → Fills Q o
    → Fills Q (choose a k o)
fills-choose Q (got v ws) k o h g = h ws
fills-choose Q (refused n p) k o h g = g

fills-within : {C D : Type 0} (P : C → Type 0) (Q : D → Type 0) (f : C → D) (o : Outcome C) → Fills P o → ((cells : C) → P cells → Q (f cells))
    → Fills Q (within f o)
fills-within P Q f (filled cells ws) h g = g cells h
fills-within P Q f (stopped n p cells) h g = tt

fills-further : {C : Type 0} (P Q : C → Type 0) (o : Outcome C) (k : C → Words → Outcome C) → Fills P o
    → ((cells : C) (ws : Words) → P cells → Fills Q (k cells ws)) → Fills Q (further o k)
fills-further P Q (filled cells ws) k h g = g cells ws h
fills-further P Q (stopped n p cells) k h g = tt

-- every cell is at most a limit, either way
abbrev pub AtMost : ℕ → List ℕ → Type 0
AtMost limit cells = (i : ℕ) → get_or cells i 0 ≤ limit

abbrev pub WithinMost : ℕ → List ℤ → Type 0
WithinMost limit cells = (i : ℕ) → nat_abs (get_or cells i (pos 0)) ≤ limit

-- ---- numbers, rows and tables

module _ (limit : ℕ) (one_number : Words → Answer ℕ) (put : ℕ → ℕ → List ℕ → List ℕ) (gives : (ws : Words) → Gives (λ v. (0 ≤ v) × (v ≤ limit)) (one_number ws))
    (keeps : (x p : ℕ) (cells : List ℕ) → p ≤ limit → AtMost limit cells → AtMost limit (put x p cells)) where
  pub row_small : (x k : ℕ) (cells : List ℕ) (ws : Words) → AtMost limit cells → Fills (AtMost limit) (row one_number put x k cells ws)
  unfolding row
  row_small x zero cells ws h = h
  row_small x (suc k) cells ws h =
      fills-upon (λ v. (0 ≤ v) × (v ≤ limit)) (AtMost limit) cells (one_number ws) (λ p ws. row one_number put (x + 1) k (put x p cells) ws) (gives ws)
      (λ p ws l. row_small (x + 1) k (put x p cells) ws (keeps x p cells l.1 h))

pub stated-small : (limit m n w a s x p : ℕ) (cells : List ℕ) → p ≤ limit → AtMost limit cells → AtMost limit (stated m n w a s x p cells)
unfolding stated
stated-small limit m n w a s x p cells l h = marked_all (λ v. v ≤ limit) 0 _ p cells l h

entry-small : (m n w a s : ℕ) (cells : List ℕ) (ws : Words) → AtMost one cells → Fills (AtMost one) (entry m n w a s cells ws)
unfolding entry_by
entry-small m n w a s cells ws h =
    fills-after (AtMost one) cells (index w ws) (λ x ws. upon cells (probability ws) (λ p ws. filled (stated m n w a s x p cells) ws)) (λ x ws.
    fills-upon (λ v. (0 ≤ v) × (v ≤ one)) (AtMost one) cells (probability ws) (λ p ws. filled (stated m n w a s x p cells) ws)
    (number-gives probability_form 0 one ws)
    (λ p ws l. stated-small one m n w a s x p cells l.1 h))

-- what follows `: a : s`
abbrev cells-after : ℕ → ℕ → ℕ → List ℕ → ℕ → ℕ → Words → Outcome (List ℕ)
cells-after m n w cells a s ws = choose (key colon ws) (λ ws. entry m n w a s cells ws) (row probability (stated m n w a s) 0 w cells ws)

pub table-small : (m n w : ℕ) (cells : List ℕ) (ws : Words) → AtMost one cells → Fills (AtMost one) (table m n w cells ws)
unfolding table_by
table-small m n w cells ws h =
    fills-after (AtMost one) cells (indexed m ws) (λ a ws. upon cells (indexed n ws) (cells-after m n w cells a)) (λ a ws.
    fills-after (AtMost one) cells (indexed n ws) (cells-after m n w cells a) (λ s ws.
    fills-choose (AtMost one) (key colon ws) (λ ws. entry m n w a s cells ws) (row probability (stated m n w a s) 0 w cells ws)
    (λ ws. entry-small m n w a s cells ws h)
    (row_small one probability (stated m n w a s) (λ ws. number-gives probability_form 0 one ws) (stated-small one m n w a s) 0 w cells ws h)))

-- ---- rewards

signed-small : (t : Bool) (v limit : ℕ) → v ≤ limit → nat_abs (signed t v) ≤ limit
signed-small true zero limit h = omega arith
signed-small true (suc v) limit h = h
signed-small false v limit h = h

reward-gives : (ws : Words) → Gives (λ r. nat_abs r ≤ max_reward) (reward_number ws)
unfolding signed_number
reward-gives ws =
    gives_then (λ v. v ≤ max_reward) (λ r. nat_abs r ≤ max_reward) (magnitude reward_form max_reward ws) (λ v rest. got (signed (minus ws) v) rest)
    (magnitude-gives reward_form max_reward ws)
    (λ v rest l. signed-small (minus ws) v max_reward l)

pub rewards-small : (m n : ℕ) (cells : List ℤ) (ws : Words) → WithinMost max_reward cells → Fills (WithinMost max_reward) (rewards m n cells ws)
unfolding rewards_by reward_by rewarded
rewards-small m n cells ws h =
    fills-after (WithinMost max_reward) cells (indexed m ws) _ (λ a ws.
    fills-after (WithinMost max_reward) cells (indexed n ws) _ (λ s ws.
    fills-after (WithinMost max_reward) cells (starred ws) _ (λ _ ws.
    fills-after (WithinMost max_reward) cells (starred ws) _ (λ _ ws.
    fills-upon (λ r. nat_abs r ≤ max_reward) (WithinMost max_reward) cells (reward_number ws) (λ r ws. filled (rewarded m n a s r cells) ws) (reward-gives ws)
    (λ r ws l. marked_all (λ v. nat_abs v ≤ max_reward) (pos 0) _ r cells l h)))))

kept_small : (t : Bool) (limit : ℕ) (after cells : List ℤ) → WithinMost limit after → WithinMost limit cells → WithinMost limit (cond t after cells)
kept_small true limit after cells h g = h
kept_small false limit after cells h g = g

pub outcomes-small : (m n k : ℕ) (cells : List ℤ) (ws : Words) → WithinMost max_reward cells → Fills (WithinMost max_reward) (outcomes m n k cells ws)
unfolding outcomes_by outcome_by outcomed
outcomes-small m n k cells ws h =
    fills-after (WithinMost max_reward) cells (indexed m ws) _ (λ a ws.
    fills-after (WithinMost max_reward) cells (indexed n ws) _ (λ s ws.
    fills-after (WithinMost max_reward) cells (indexed n ws) _ (λ s' ws.
    fills-after (WithinMost max_reward) cells (indexed k ws) _ (λ o ws.
    fills-upon (λ r. nat_abs r ≤ max_reward) (WithinMost max_reward) cells (reward_number ws) (λ r ws. filled (outcome_kept m n k a s s' o r cells) ws)
    (reward-gives ws)
    (λ r ws l. kept_small (leb n max_converted) max_reward (outcomed m n k a s s' o r cells) cells
    (marked_all (λ v. nat_abs v ≤ max_reward) (pos 0) _ r cells l h) h)))))

either-small : (full : Bool) (m n k : ℕ) (cells : List ℤ) (ws : Words) → WithinMost max_reward cells
    → Fills (WithinMost max_reward) (rewards_or_outcomes full m n k cells ws)
either-small true m n k cells ws h = outcomes-small m n k cells ws h
either-small false m n k cells ws h = rewards-small m n cells ws h

-- ---- statements

pub record Small (d : Draft) : Type 0 where
  pub transitions : AtMost one d.transition
  pub observations : AtMost one d.observation
  pub rewards : WithinMost max_reward d.reward

one-small : (full : Bool) (m n k : ℕ) (d : Draft) (ws : Words) → Small d → Fills Small (one_statement full m n k d ws)
unfolding one_statement_by observation_or_reward_by reward_statement_by
one-small full m n k d ws h =
    fills-choose Small (key transition_key ws) (λ ws. within (λ cells. draft cells d.observation d.reward) (table m n n d.transition ws))
    (observation_or_reward full m n k d ws)
    (λ ws. fills-within (AtMost one) Small (λ cells. draft cells d.observation d.reward) (table m n n d.transition ws)
    (table-small m n n d.transition ws h.transitions)
    (λ cells l. record { transitions = l; observations = h.observations; rewards = h.rewards }))
    (fills-choose Small (key observation_key ws) (λ ws. within (λ cells. draft d.transition cells d.reward) (table m n k d.observation ws))
    (reward_statement full m n k d ws)
    (λ ws. fills-within (AtMost one) Small (λ cells. draft d.transition cells d.reward) (table m n k d.observation ws)
    (table-small m n k d.observation ws h.observations)
    (λ cells l. record { transitions = h.transitions; observations = l; rewards = h.rewards }))
    (fills-after Small d (key reward_key ws)
    (λ _ ws. within (λ cells. draft d.transition d.observation cells) (rewards_or_outcomes full m n k d.reward ws)) (λ _ ws.
    fills-within (WithinMost max_reward) Small (λ cells. draft d.transition d.observation cells) (rewards_or_outcomes full m n k d.reward ws)
    (either-small full m n k d.reward ws h.rewards)
    (λ cells l. record { transitions = h.transitions; observations = h.observations; rewards = l }))))

unless-small : (ws : Words) (a b : Outcome Draft) → Fills Small a → Fills Small b → Fills Small (unless_end ws a b)
unless-small (end at) a b g h = g
unless-small (word at w rest) a b g h = h

pub statements-small : (full : Bool) (f m n k : ℕ) (d : Draft) (ws : Words) → Small d → Fills Small (statements full f m n k d ws)
unfolding statements_by
statements-small full zero m n k d ws h = unless-small ws (filled d ws) (stopped 0 0 d) h tt
statements-small full (suc f) m n k d ws h =
    unless-small ws (filled d ws) (further (one_statement full m n k d ws) (λ d ws. statements full f m n k d ws)) h
    (fills-further Small Small (one_statement full m n k d ws) (λ d ws. statements full f m n k d ws) (one-small full m n k d ws h)
    (λ d ws l. statements-small full f m n k d ws l))
