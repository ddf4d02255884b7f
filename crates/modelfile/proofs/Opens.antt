-- A file that is read opens: its tables are not refused and fit into the slices lent, and its start numbers are the weights of a point. Assumes nothing.
--
-- In order: what is read keeps the limits of 3; and the totals are those of 4, 5 and 6; what follows the counts, with rewards in full or not; the whole
-- file.
use Rattle.std.specs.Prelude.{Ok, Err}
use Rattle.integers.proofs.Kit.{◌≡◌, ◌∙◌, refl, ap, sym, subst, true, false, Bool, cond, List, ℕ, ◌≤◌, ◌+◌, ◌*◌, arith, le-leb, eqb-true}
use Rattle.integers.proofs.Kit.{leb, length, get_or, replicate, pos, nat_abs}
use Rattle.integers.specs.Whole.{total_to}
use Rattle.integers.proofs.Lists.{replicate-at}
use Rattle.integers.proofs.Searches.{and_is, at_every}
use Rattle.tables.specs.declared.Counts.{Counts}
use Rattle.tables.specs.Tables.{Tables}
use Rattle.refusals.specs.Verdicts.{Verdict, Fine, ◌before◌, unless}
use Rattle.tables.specs.Limits.{max_states, max_actions, max_observations, one, max_reward, start_total}
use Rattle.tables.specs.Storage.{counts_of, model_of, cell_in}
use Rattle.tables.specs.Judged.{count_within, limits_hold, rows_total, model_verdict}
use Rattle.tables.specs.Model.{Valid}
use Rattle.tables.proofs.Accepted.{valid}
use Rattle.refusals.proofs.Refusals.{never, before-fine, unless-fine}
use Rattle.words.specs.Words.{Words, words_in, between}
use Rattle.numerals.specs.Numeral.{count_form, probability_form}
use Rattle.grammar.specs.Grammar.{Answer, got, refused, ◌then◌, key, key_named, field}
use Rattle.grammar.proofs.Gives.{Gives, gives_then, gives_after, field-gives}
use Rattle.entries.specs.Entries.{wholly, forms}
use Rattle.statements.specs.Statements.{Draft, draft, statements}
use Rattle.statements.proofs.Small.{Small, fills-gives, statements-small}
use Rattle.headers.specs.Headers.{discount_name, values_name, reward_word, states_name, actions_name, observations_name, counts_with, header_counts, header}
use Rattle.headers.specs.Headers.{header_by, start_numbers}
use Rattle.headers.specs.Steps.{CountsFit}
use Rattle.bodies.specs.Body.{reward_cells, Text, text_of, no_cells, placed, sums_verdict, ModelFile}
use Rattle.modelfile.specs.ModelFile.{max_bytes, Room, room_for, roomed, text_by}
use Rattle.bodies.specs.Body.{refused_file, judged_file, ended, body, body_by}
use Rattle.modelfile.specs.ModelFile.{model_file, roomed_by, model_file_by}

abbrev Within : ℕ → ℕ → Type 0
Within limit v = (1 ≤ v) × (v ≤ limit)

-- ---- what is read keeps the limits of 3

abbrev pub Fits : Counts → Type 0
Fits c = CountsFit c.states c.actions c.observations c.discount

-- the cells that tables hold
abbrev pub cells_of : Tables → Draft
cells_of m = draft m.transition m.observation m.reward

-- tables of such counts, with no cell past its limit
pub record SmallTables (c : Counts) (m : Tables) : Type 0 where
  pub counts : counts_of m ≡ c
  pub small : Small (cells_of m)

record Limited (r : Room) (t : Text) : Type 0 where
  limits : limits_hold (model_of t.tables) ≡ true
  stored : room_for r (counts_of t.tables) ≡ true

count-within : (limit v : ℕ) → Within limit v → count_within limit v ≡ true
count-within limit v h = and_is (le-leb 1 v h.0) (le-leb v limit h.1)

cells-limited : (m : Tables) → Fits (counts_of m) → Small (cells_of m) → limits_hold (model_of m) ≡ true
unfolding limits_hold
cells-limited m h small =
    let n = m.states in
    let k = m.observations in
    and_is (and_is (count-within max_states n h.states) (and_is (count-within max_actions m.actions h.actions)
    (count-within max_observations k h.observations)))
    (and_is (le-leb m.discount one h.discount)
    (and_is (at_every m.actions _ (λ a la. at_every n _ (λ s ls. at_every n _ (λ x lx. le-leb _ one (small.transitions _)))))
    (and_is (at_every m.actions _ (λ a la. at_every n _ (λ s ls. at_every k _ (λ x lx. le-leb _ one (small.observations _)))))
    (at_every m.actions _ (λ a la. at_every n _ (λ s ls. le-leb _ max_reward (small.rewards _)))))))

small-limited : {c : Counts} (m : Tables) → Fits c → SmallTables c m → limits_hold (model_of m) ≡ true
small-limited m h s = cells-limited m (subst Fits (sym s.counts) h) s.small

zeros : (size limit i : ℕ) → get_or (replicate size 0) i 0 ≤ limit
zeros size limit i = omega (arith, replicate-at {A = ℕ} 0 size i)

zero-rewards : (size i : ℕ) → nat_abs (get_or (replicate size (pos 0)) i (pos 0)) ≤ max_reward
zero-rewards size i = rw (replicate-at (pos 0) size i) (omega arith)

none-small : (full : Bool) → Small (no_cells full)
none-small full = record {
  transitions = zeros (max_actions * max_states * max_states) one;
  observations = zeros (max_actions * max_states * max_observations) one;
  rewards = zero-rewards (reward_cells full);
}

pub body-small : (full : Bool) (fuel : ℕ) (c : Counts) (ws : Words) → Gives (λ t. SmallTables c t.tables) (body full fuel c ws)
unfolding body_by
body-small full fuel c ws =
    let Q : Text → Type 0 = λ t. SmallTables c t.tables in
    gives_after Q (start_numbers c.states ws)
    (λ start ws. wholly (statements full fuel c.actions c.states c.observations (no_cells full) ws) then λ cells ws. got (text_of c start cells) ws)
    (λ start ws. gives_then Small Q (wholly (statements full fuel c.actions c.states c.observations (no_cells full) ws))
    (λ cells ws. got (text_of c start cells) ws)
    (fills-gives Small (statements full fuel c.actions c.states c.observations (no_cells full) ws)
    (statements-small full fuel c.actions c.states c.observations (no_cells full) ws (none-small full)))
    (λ cells ws small. record { counts = refl; small = small }))

body-limited : (r : Room) (c : Counts) → Fits c → room_for r c ≡ true → (a : Answer Text) → Gives (λ t. SmallTables c t.tables) a → Gives (Limited r) a
body-limited r c h e (got t ws) s =
    record { limits = small-limited t.tables h s; stored = ap (room_for r) s.counts ∙ e }
body-limited r c h e (refused n p) s = tt

room-limited : (r : Room) (fuel : ℕ) (c : Counts) (ws : Words) → Fits c → (b : Bool) → room_for r c ≡ b
    → Gives (Limited r) (cond b (body false fuel c ws) (refused 3 0))
room-limited r fuel c ws h true e = body-limited r c h e (body false fuel c ws) (body-small false fuel c ws)
room-limited r fuel c ws h false e = tt

roomed-limited : (r : Room) (fuel : ℕ) (c : Counts) (ws : Words) → Fits c → Gives (Limited r) (roomed r fuel c ws)
unfolding roomed_by
roomed-limited r fuel c ws h = room-limited r fuel c ws h (room_for r c) refl

counted-fits : (d : ℕ) (ws : Words) → d ≤ one → Gives Fits (header_counts d ws)
counted-fits d ws hd =
    gives_then (Within max_states) Fits (field states_name count_form 1 max_states ws)
    (λ n ws. field actions_name count_form 1 max_actions ws then λ m ws. field observations_name count_form 1 max_observations ws then λ k ws.
    got (counts_with n m k d) ws)
    (field-gives states_name count_form 1 max_states ws)
    (λ n ws hn. gives_then (Within max_actions) Fits (field actions_name count_form 1 max_actions ws)
    (λ m ws. field observations_name count_form 1 max_observations ws then λ k ws. got (counts_with n m k d) ws)
    (field-gives actions_name count_form 1 max_actions ws)
    (λ m ws hm. gives_then (Within max_observations) Fits (field observations_name count_form 1 max_observations ws) (λ k ws. got (counts_with n m k d) ws)
    (field-gives observations_name count_form 1 max_observations ws)
    (λ k ws hk. record { states = hn; actions = hm; observations = hk; discount = hd })))

pub header-fits : (ws : Words) → Gives Fits (header ws)
unfolding header_by
header-fits ws =
    gives_then (λ v. (0 ≤ v) × (v ≤ one)) Fits (field discount_name probability_form 0 one ws)
    (λ d ws. key_named values_name ws then λ _ ws. key reward_word ws then λ _ ws. header_counts d ws)
    (field-gives discount_name probability_form 0 one ws)
    (λ d ws hd. gives_after Fits (key_named values_name ws) (λ _ ws. key reward_word ws then λ _ ws. header_counts d ws)
    (λ _ ws. gives_after Fits (key reward_word ws) (λ _ ws. header_counts d ws) (λ _ ws. counted-fits d ws hd.1)))

text-limited : (r : Room) (fuel : ℕ) (ws : Words) → Gives (Limited r) (text_by forms r fuel ws)
text-limited r fuel ws =
    gives_then Fits (Limited r) (header ws) (λ c ws. roomed r fuel c ws) (header-fits ws) (λ c ws h. roomed-limited r fuel c ws h)

-- ---- and the totals are those of 4, 5 and 6

-- tables that open and have room, with start numbers that are a point's weights
pub record FileOpens (r : Room) (f : ModelFile) : Type 0 where
  pub tables-fine : model_verdict (model_of f.tables) ≡ Fine
  pub tables-stored : room_for r (counts_of f.tables) ≡ true
  pub start-total : total_to f.tables.states (λ s. get_or f.start s 0) ≡ start_total

placed-fine : (size : ℕ) (v : Verdict) → placed size v ≡ Fine → v ≡ Fine
placed-fine size (Ok u) e = refl
placed-fine size (Err r) e = never e

all-fine : (b : Bool) (v w : Verdict) → b ≡ true → v ≡ Fine → w ≡ Fine → (unless b 3 0 before v before w) ≡ Fine
all-fine true (Ok u) w e f g = g
all-fine true (Err r) w e f g = f
all-fine false v w e f g = let z : ◌≡◌ {A = ℕ} 0 1 = cc in absurd (omega arith)

-- the totals of a text within the limits, where they are not refused
totals-fine : (size : ℕ) (t : Text) → limits_hold (model_of t.tables) ≡ true → sums_verdict size t ≡ Fine
    → (model_verdict (model_of t.tables) ≡ Fine) × (total_to t.tables.states (λ s. get_or t.start s 0) ≡ start_total)
unfolding sums_verdict model_verdict
totals-fine size t l e =
    let m = t.tables in
    let moves = rows_total 5 m.actions m.states m.states (cell_in m.states m.states m.transition) in
    let seen = rows_total 6 m.actions m.states m.observations (cell_in m.states m.observations m.observation) in
    let start = before-fine _ (placed size moves before placed size seen) e in
    let rows = before-fine (placed size moves) (placed size seen) start.1 in (
      all-fine (limits_hold (model_of m)) moves seen l (placed-fine size moves rows.0) (placed-fine size seen rows.1),
      eqb-true _ start_total (unless-fine _ _ _ start.0),
    )

-- ---- what follows the counts, with rewards in full or not

-- tables within their limits and totals, whatever model their rewards are of, with start numbers that are a point's weights
pub record BodyHolds (c : Counts) (f : ModelFile) : Type 0 where
  pub read : SmallTables c f.tables
  pub tables-fine : model_verdict (model_of f.tables) ≡ Fine
  pub start-total : total_to f.tables.states (λ s. get_or f.start s 0) ≡ start_total

module _ (c : Counts) (h : Fits c) (size : ℕ) where
  judged-holds : (t : Text) (v : Verdict) → SmallTables c t.tables → sums_verdict size t ≡ v → (judged_file v t).verdict ≡ Fine → BodyHolds c (judged_file v t)
  judged-holds t (Ok u) s e f =
      let z = totals-fine size t (small-limited t.tables h s) e in
      record { read = s; tables-fine = z.0; start-total = z.1 }
  judged-holds t (Err r) s e f = never f

  ended-holds : (a : Answer Text) → Gives (λ t. SmallTables c t.tables) a → (ended size a).verdict ≡ Fine → BodyHolds c (ended size a)
  ended-holds (got t ws) s e = judged-holds t (sums_verdict size t) s refl e
  ended-holds (refused n p) s e = never e

  pub body-holds : {x : ModelFile} (full : Bool) (fuel : ℕ) (ws : Words) → x ≡ ended size (body full fuel c ws) → x.verdict ≡ Fine → BodyHolds c x
  body-holds full fuel ws e f =
      subst (BodyHolds c) (sym e) (ended-holds (body full fuel c ws) (body-small full fuel c ws) (sym (ap (λ (x : ModelFile). x.verdict) e) ∙ f))

-- ---- the whole file

module _ (r : Room) where
  judged-opens : (size : ℕ) (t : Text) (v : Verdict) → Limited r t → sums_verdict size t ≡ v → (judged_file v t).verdict ≡ Fine → FileOpens r (judged_file v t)
  judged-opens size t (Ok u) l e f =
      let z = totals-fine size t l.limits e in
      record { tables-fine = z.0; tables-stored = l.stored; start-total = z.1 }
  judged-opens size t (Err r) l e f = never f

  ended-opens : (size : ℕ) (a : Answer Text) → Gives (Limited r) a → (ended size a).verdict ≡ Fine → FileOpens r (ended size a)
  ended-opens size (got t ws) l e = judged-opens size t (sums_verdict size t) l refl e
  ended-opens size (refused n p) l e = never e

  short-opens : (file : List ℕ) (short : Bool)
      → (cond short (ended (length file) (text_by forms r (length file + 1) (words_in between file 0))) (refused_file 1 0)).verdict ≡ Fine
      → FileOpens r (cond short (ended (length file) (text_by forms r (length file + 1) (words_in between file 0))) (refused_file 1 0))
  short-opens file true e = ended-opens (length file) (text_by forms r (length file + 1) (words_in between file 0))
      (text-limited r (length file + 1) (words_in between file 0)) e
  short-opens file false e = never e

  -- Each word kept its own limit when it was read, the counts had room, later statements only put such words into cells, and the totals were tested last. Qed.
  pub read-opens : (file : List ℕ) → (model_file r file).verdict ≡ Fine → FileOpens r (model_file r file)
  unfolding model_file_by
  read-opens file e = short-opens file (leb (length file) max_bytes) e

  -- the same of what was answered
  pub opens : {x : ModelFile} (file : List ℕ) → x ≡ model_file r file → x.verdict ≡ Fine → FileOpens r x
  opens file e f = subst (FileOpens r) (sym e) (read-opens file (sym (ap (λ (x : ModelFile). x.verdict) e) ∙ f))

  pub read-valid : {x : ModelFile} (file : List ℕ) → x ≡ model_file r file → x.verdict ≡ Fine → Valid (model_of x.tables)
  read-valid {x} file e f = valid (model_of x.tables) (opens file e f).tables-fine
