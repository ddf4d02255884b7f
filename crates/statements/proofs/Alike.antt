-- Statements whose numbers fit narrower forms are read alike by wider ones. Assumes nothing.
--
-- In order: what follows a part that is read alike; rows and tables; rewards, by state and in full; one statement, and all of them.
use Rattle.integers.proofs.Kit.{◌≡◌, refl, subst⁻¹, true, false, Bool, List, ℕ, ◌+◌, suc, zero, ℤ}
use Rattle.words.specs.Words.{Words, word, end}
use Rattle.tables.specs.Limits.{one, max_reward, start_total}
use Rattle.drafts.specs.Drafts.{stated, rewarded}
use Rattle.grammar.specs.Grammar.{Answer, got, refused, choose, key, colon, index}
use Rattle.grammar.proofs.Alike.{Alike, alike_same, Wider, number-alike, signed-alike}
use Rattle.entries.specs.Entries.{Outcome, filled, stopped, upon, wholly, Forms, probability_by, start_number_by, indexed, row, entry_by, table_by}
use Rattle.rewards.specs.Rewards.{reward_number_by, starred, reward_by, rewards_by, outcome_kept, outcome_by, outcomes_by}
use Rattle.statements.specs.Statements.{within, further}
use Rattle.rewards.specs.Rewards.{rewards_or_outcomes_by}
use Rattle.statements.specs.Statements.{Draft, draft, transition_key}
use Rattle.statements.specs.Statements.{observation_key, reward_key, reward_statement_by, observation_or_reward_by, one_statement_by, statements_by}

-- where the first fills the cells, the second fills them alike
abbrev pub FilledAlike : {C : Type 0} → Outcome C → Outcome C → Type 0
FilledAlike (filled cells ws) p = p ≡ filled cells ws
FilledAlike (stopped n i cells) p = Unit

module _ {A C : Type 0} (cells : C) where
  upon-alike : (a b : Answer A) (k l : A → Words → Outcome C) → Alike a b → ((x : A) (ws : Words) → FilledAlike (k x ws) (l x ws))
      → FilledAlike (upon cells a k) (upon cells b l)
  upon-alike (got x ws) b k l e h = subst⁻¹ (λ (b : Answer A). FilledAlike (k x ws) (upon cells b l)) e (h x ws)
  upon-alike (refused n p) b k l e h = tt

  -- after a part that has no number
  upon-same : (a : Answer A) (k l : A → Words → Outcome C) → ((x : A) (ws : Words) → FilledAlike (k x ws) (l x ws))
      → FilledAlike (upon cells a k) (upon cells a l)
  upon-same a k l h = upon-alike a a k l (alike_same a) h

choose-alike : {C : Type 0} (a : Answer ℕ) (k l : Words → Outcome C) (o p : Outcome C) → ((ws : Words) → FilledAlike (k ws) (l ws)) → FilledAlike o p
    → FilledAlike (choose a k o) (choose a l p)
choose-alike (got v ws) k l o p h e = h ws
choose-alike (refused n i) k l o p h e = e

within-alike : {C D : Type 0} (f : C → D) (o p : Outcome C) → FilledAlike o p → FilledAlike (within f o) (within f p)
within-alike f (filled cells ws) p e = subst⁻¹ (λ (p : Outcome _). FilledAlike (filled (f cells) ws) (within f p)) e refl
within-alike f (stopped n i cells) p e = tt

further-alike : {C : Type 0} (o p : Outcome C) (k l : C → Words → Outcome C) → FilledAlike o p
    → ((cells : C) (ws : Words) → FilledAlike (k cells ws) (l cells ws)) → FilledAlike (further o k) (further p l)
further-alike (filled cells ws) p k l e h = subst⁻¹ (λ (p : Outcome _). FilledAlike (k cells ws) (further p l)) e (h cells ws)
further-alike (stopped n i cells) p k l e h = tt

pub wholly-alike : {C : Type 0} (o p : Outcome C) → FilledAlike o p → Alike (wholly o) (wholly p)
wholly-alike (filled cells ws) p e = subst⁻¹ (λ (p : Outcome _). Alike (got cells ws) (wholly p)) e refl
wholly-alike (stopped n i cells) p e = tt

pub row-alike : (first second : Words → Answer ℕ) (put : ℕ → ℕ → List ℕ → List ℕ) → ((ws : Words) → Alike (first ws) (second ws))
    → (x k : ℕ) (cells : List ℕ) (ws : Words) → FilledAlike (row first put x k cells ws) (row second put x k cells ws)
unfolding row
row-alike first second put h x zero cells ws = refl
row-alike first second put h x (suc k) cells ws =
    upon-alike cells (first ws) (second ws) (λ p ws. row first put (x + 1) k (put x p cells) ws) (λ p ws. row second put (x + 1) k (put x p cells) ws) (h ws)
    (λ p ws. row-alike first second put h (x + 1) k (put x p cells) ws)

-- each form of the second is wider
pub record AllWider (f g : Forms) : Type 0 where
  pub probabilities : Wider f.probability g.probability
  pub starts : Wider f.start g.start
  pub rewards : Wider f.reward g.reward

module _ (f g : Forms) (h : AllWider f g) where
  probability-alike : (ws : Words) → Alike (probability_by f ws) (probability_by g ws)
  probability-alike ws = number-alike f.probability g.probability h.probabilities 0 one ws

  pub start-alike : (ws : Words) → Alike (start_number_by f ws) (start_number_by g ws)
  start-alike ws = number-alike f.start g.start h.starts 0 start_total ws

  entry-alike : (m n w a s : ℕ) (cells : List ℕ) (ws : Words) → FilledAlike (entry_by f m n w a s cells ws) (entry_by g m n w a s cells ws)
  unfolding entry_by
  entry-alike m n w a s cells ws =
      upon-same cells (index w ws) _ _ (λ x ws. upon-alike cells (probability_by f ws) (probability_by g ws)
      (λ p ws. filled (stated m n w a s x p cells) ws) (λ p ws. filled (stated m n w a s x p cells) ws) (probability-alike ws) (λ p ws. refl))

  table-alike : (m n w : ℕ) (cells : List ℕ) (ws : Words) → FilledAlike (table_by f m n w cells ws) (table_by g m n w cells ws)
  unfolding table_by
  table-alike m n w cells ws =
      upon-same cells (indexed m ws) _ _ (λ a ws. upon-same cells (indexed n ws) _ _ (λ s ws.
      choose-alike (key colon ws) (λ ws. entry_by f m n w a s cells ws) (λ ws. entry_by g m n w a s cells ws) _ _ (λ ws. entry-alike m n w a s cells ws)
      (row-alike (probability_by f) (probability_by g) (stated m n w a s) probability-alike 0 w cells ws)))

  reward-alike : (m n a s : ℕ) (cells : List ℤ) (ws : Words) → FilledAlike (reward_by f m n a s cells ws) (reward_by g m n a s cells ws)
  unfolding reward_by
  reward-alike m n a s cells ws =
      upon-alike cells (reward_number_by f ws) (reward_number_by g ws) (λ r ws. filled (rewarded m n a s r cells) ws)
      (λ r ws. filled (rewarded m n a s r cells) ws) (signed-alike f.reward g.reward h.rewards max_reward ws) (λ r ws. refl)

  rewards-alike : (m n : ℕ) (cells : List ℤ) (ws : Words) → FilledAlike (rewards_by f m n cells ws) (rewards_by g m n cells ws)
  unfolding rewards_by
  rewards-alike m n cells ws =
      upon-same cells (indexed m ws) _ _ (λ a ws. upon-same cells (indexed n ws) _ _ (λ s ws.
      upon-same cells (starred ws) _ _ (λ _ ws. upon-same cells (starred ws) _ _ (λ _ ws. reward-alike m n a s cells ws))))

  outcomes-alike : (m n k : ℕ) (cells : List ℤ) (ws : Words) → FilledAlike (outcomes_by f m n k cells ws) (outcomes_by g m n k cells ws)
  unfolding outcomes_by outcome_by
  outcomes-alike m n k cells ws =
      upon-same cells (indexed m ws) _ _ (λ a ws. upon-same cells (indexed n ws) _ _ (λ s ws.
      upon-same cells (indexed n ws) _ _ (λ s' ws. upon-same cells (indexed k ws) _ _ (λ o ws.
      upon-alike cells (reward_number_by f ws) (reward_number_by g ws) (λ r ws. filled (outcome_kept m n k a s s' o r cells) ws)
      (λ r ws. filled (outcome_kept m n k a s s' o r cells) ws) (signed-alike f.reward g.reward h.rewards max_reward ws) (λ r ws. refl)))))

  either-alike : (full : Bool) (m n k : ℕ) (cells : List ℤ) (ws : Words)
      → FilledAlike (rewards_or_outcomes_by f full m n k cells ws) (rewards_or_outcomes_by g full m n k cells ws)
  either-alike true m n k cells ws = outcomes-alike m n k cells ws
  either-alike false m n k cells ws = rewards-alike m n cells ws

  one_alike : (full : Bool) (m n k : ℕ) (d : Draft) (ws : Words) → FilledAlike (one_statement_by f full m n k d ws) (one_statement_by g full m n k d ws)
  unfolding one_statement_by observation_or_reward_by reward_statement_by
  one_alike full m n k d ws =
      choose-alike (key transition_key ws) _ _ _ _
      (λ ws. within-alike (λ cells. draft cells d.observation d.reward) (table_by f m n n d.transition ws) (table_by g m n n d.transition ws)
      (table-alike m n n d.transition ws))
      (choose-alike (key observation_key ws) _ _ _ _
      (λ ws. within-alike (λ cells. draft d.transition cells d.reward) (table_by f m n k d.observation ws) (table_by g m n k d.observation ws)
      (table-alike m n k d.observation ws))
      (upon-same d (key reward_key ws) _ _
      (λ _ ws. within-alike (λ cells. draft d.transition d.observation cells) (rewards_or_outcomes_by f full m n k d.reward ws)
      (rewards_or_outcomes_by g full m n k d.reward ws) (either-alike full m n k d.reward ws))))

  pub statements-alike : (full : Bool) (fuel m n k : ℕ) (d : Draft) (ws : Words)
      → FilledAlike (statements_by f full fuel m n k d ws) (statements_by g full fuel m n k d ws)
  unfolding statements_by
  statements-alike full zero m n k d (end at) = refl
  statements-alike full zero m n k d (word at w rest) = tt
  statements-alike full (suc fuel) m n k d (end at) = refl
  statements-alike full (suc fuel) m n k d (word at w rest) =
      further-alike (one_statement_by f full m n k d (word at w rest)) (one_statement_by g full m n k d (word at w rest))
      (λ d ws. statements_by f full fuel m n k d ws) (λ d ws. statements_by g full fuel m n k d ws)
      (one_alike full m n k d (word at w rest)) (λ d ws. statements-alike full fuel m n k d ws)
