-- How long the text of a model is at most. Assumes nothing.
--
-- In order: numbers; parts and lines; statements; the file.
use Rattle.integers.proofs.Kit.{◌≡◌, ◌∙◌, List, ◌∷◌, ℕ, ◌≤◌, ◌<◌, ◌+◌, ◌*◌, ◌/◌, ◌%◌, ◌^◌, suc, zero, arith, dec_lt, length, get_or}
use Rattle.integers.proofs.Kit.{Bool, true, false, cond, mul-le-mul_right, lt-ltb, le-ltb, ltb, ℤ, pos, negsuc}
use mathlib.Core.List.{◌++◌}
use lib.ListN.{length-append}
use Rattle.tables.specs.declared.Counts.{Counts}
use Rattle.tables.specs.Limits.{max_converted, max_actions, max_observations, one, start_total}
use Rattle.tables.specs.Model.{Valid}
use Rattle.tables.specs.Storage.{model_in, transition_in, observation_in, reward_in}
use Rattle.digits.proofs.Over.{digits-length}
use Rattle.written.specs.Text.{digits_for, parts_to, last_digits, whole, fixed, signed_fixed, newline, spaced, line, opening, any_outcome, row_text, table_text}
use Rattle.written.specs.Text.{reward_text, rewards_text, header_text, start_text, file_text, max_text}
use Rattle.written.proofs.Lines.{discount_line, values_line, states_line, actions_line, observations_line}

-- ---- numbers

whole_length : (v : ℕ) → length (whole v) ≡ digits_for v
unfolding whole
whole_length v = digits-length (digits_for v) v

whole-one : (v : ℕ) → v < 10 → length (whole v) ≡ 1
whole-one v l = whole_length v ∙ rw (lt-ltb v 10 l)

whole-two : (v : ℕ) → v < 100 → length (whole v) ≤ 2
whole-two v l = by (dec_lt v 10)
  where
    by : Dec (v < 10) → length (whole v) ≤ 2
    by (yes h) = omega (arith, whole-one v h)
    by (no h) = rw (whole_length v, le-ltb v 10 (omega arith), lt-ltb v 100 l) (omega arith)

whole_four : (v : ℕ) → length (whole v) ≤ 4
whole_four v = rw (whole_length v) (by (ltb v 10) (ltb v 100) (ltb v 1_000))
  where
    by : (a b c : Bool) → cond a 1 (cond b 2 (cond c 3 4)) ≤ 4
    by true b c = omega arith
    by false true c = omega arith
    by false false true = omega arith
    by false false false = omega arith

fixed-length : (places v : ℕ) → length (fixed places v) ≡ length (whole (v / 10 ^ places)) + (places + 1)
unfolding fixed
fixed-length places v =
    length-append (whole (v / 10 ^ places)) (46 ∷ last_digits places (v % 10 ^ places)) ∙ omega (arith, digits-length places (v % 10 ^ places))

-- in thousandths, at most 1; in hundredths, at most 1; in ticks
thousandths : (v : ℕ) → v ≤ one → length (fixed 3 v) ≤ 5
thousandths v l = omega (arith, fixed-length 3 v, whole-one (v / 10 ^ 3) (omega arith))

hundredths : (v : ℕ) → v ≤ start_total → length (fixed 2 v) ≤ 4
hundredths v l = omega (arith, fixed-length 2 v, whole-one (v / 10 ^ 2) (omega arith))

ticks : (v : ℤ) → length (signed_fixed 2 v) ≤ 8
unfolding signed_fixed
ticks (pos v) = omega (arith, fixed-length 2 v, whole_four (v / 10 ^ 2))
ticks (negsuc v) = omega (arith, fixed-length 2 (suc v), whole_four (suc v / 10 ^ 2))

-- ---- parts and lines

parts-most : (n : ℕ) (f : ℕ → List ℕ) (most : ℕ) → ((i : ℕ) → i < n → length (f i) ≤ most) → length (parts_to n f) ≤ n * most
unfolding parts_to
parts-most zero f most h = omega arith
parts-most (suc n) f most h = omega (arith, length-append (parts_to n f) (f n), parts-most n f most (λ i l. h i (omega arith)), h n (omega arith))

parts-length : (n limit : ℕ) (f : ℕ → List ℕ) (most : ℕ) → n ≤ limit → ((i : ℕ) → i < n → length (f i) ≤ most) → length (parts_to n f) ≤ limit * most
parts-length n limit f most few h = omega (arith, parts-most n f most h, mul-le-mul_right most few)

-- five texts one behind the other
five-length : (a b c d e : List ℕ) → length (a ++ (b ++ (c ++ (d ++ e)))) ≡ length a + (length b + (length c + (length d + length e)))
five-length a b c d e =
    omega (arith, length-append a (b ++ (c ++ (d ++ e))), length-append b (c ++ (d ++ e)), length-append c (d ++ e), length-append d e)

opening-length : (key a s : ℕ) → a < 100 → s < 100 → length (opening key a s) ≤ 10
unfolding opening
opening-length key a s la ls =
    omega (arith, length-append (key ∷ 58 ∷ 32 ∷ whole a) (32 ∷ 58 ∷ 32 ∷ whole s), whole-two a la, whole-two s ls)

-- ---- statements

row-length : (key a s w limit : ℕ) (cell : ℕ → ℕ) → a < 100 → s < 100 → w ≤ limit → ((x : ℕ) → x < w → cell x ≤ one)
    → length (row_text key a s w cell) ≤ limit * 6 + 11
unfolding row_text
row-length key a s w limit cell la ls few h =
    let f : ℕ → List ℕ = λ x. spaced (fixed 3 (cell x)) in
    omega (
      arith,
      length-append (opening key a s) (parts_to w f ++ newline),
      length-append (parts_to w f) newline,
      opening-length key a s la ls,
      parts-length w limit f 6 few (λ x l. omega (arith, thousandths (cell x) (h x l))),
    )

table-length : (key m n w limit : ℕ) (cell : ℕ → ℕ → ℕ → ℕ) → m ≤ max_actions → n ≤ max_converted → w ≤ limit
    → ((a : ℕ) → a < m → (s : ℕ) → s < n → (x : ℕ) → x < w → cell a s x ≤ one)
    → length (table_text key m n w cell) ≤ max_actions * (max_converted * (limit * 6 + 11))
unfolding table_text
table-length key m n w limit cell fm fn fw h =
    parts-length m max_actions _ (max_converted * (limit * 6 + 11)) fm
    (λ a la. parts-length n max_converted _ (limit * 6 + 11) fn (λ s ls. row-length key a s w limit (cell a s) (omega arith) (omega arith) fw (h a la s ls)))

reward-length : (a s : ℕ) (v : ℤ) → a < 100 → s < 100 → length (reward_text a s v) ≤ 28
unfolding reward_text
reward-length a s v la ls =
    let number = spaced (signed_fixed 2 v) in
    omega (arith, length-append (opening 82 a s) (any_outcome ++ (number ++ newline)), length-append number newline, opening-length 82 a s la ls, ticks v)

rewards-length : (m n : ℕ) (reward : ℕ → ℕ → ℤ) → m ≤ max_actions → n ≤ max_converted → length (rewards_text m n reward) ≤ max_actions * (max_converted * 28)
unfolding rewards_text
rewards-length m n reward fm fn =
    parts-length m max_actions _ (max_converted * 28) fm
    (λ a la. parts-length n max_converted _ 28 fn (λ s ls. reward-length a s (reward s a) (omega arith) (omega arith)))

-- ---- the file

header-length : (c : Counts) → c.discount ≤ one → c.states < 100 → c.actions < 100 → c.observations < 100 → length (header_text c) ≤ 80
unfolding header_text line
header-length c d n m k =
    omega (
      arith,
      five-length (discount_line c) values_line (states_line c) (actions_line c) (observations_line c),
      thousandths c.discount d,
      whole-two c.states n,
      whole-two c.actions m,
      whole-two c.observations k,
      length-append (fixed 3 c.discount) newline,
      length-append (whole c.states) newline,
      length-append (whole c.actions) newline,
      length-append (whole c.observations) newline,
    )

start-length : (n : ℕ) (start : List ℕ) → n ≤ max_converted → ((s : ℕ) → s < n → get_or start s 0 ≤ start_total) → length (start_text n start) ≤ 87
unfolding start_text
start-length n start few h =
    let f : ℕ → List ℕ = λ s. spaced (fixed 2 (get_or start s 0)) in
    omega (arith, length-append (parts_to n f) newline, parts-length n max_converted f 5 few (λ s l. omega (arith, hundredths (get_or start s 0) (h s l))))

pub file-length : (c : Counts) (transition observation : List ℕ) (reward : List ℤ) (start : List ℕ) → Valid (model_in c transition observation reward)
    → c.states ≤ max_converted → ((s : ℕ) → s < c.states → get_or start s 0 ≤ start_total) → length (file_text c transition observation reward start) ≤ max_text
unfolding file_text
file-length c transition observation reward start v few begins =
    let n = c.states in
    let m = c.actions in
    let T : ℕ → ℕ → ℕ → ℕ = λ a s s'. transition_in n transition s a s' in
    let O = observation_in n c.observations observation in
    let R = reward_in n reward in
    omega (
      arith,
      five-length (header_text c) (start_text n start) (table_text 84 m n n T) (table_text 79 m n c.observations O) (rewards_text m n R),
      header-length c v.discount_limit (omega (arith, few)) (omega (arith, v.few_actions)) (omega (arith, v.few_observations)),
      start-length n start few begins,
      table-length 84 m n n max_converted T v.few_actions few few v.transition_limit,
      table-length 79 m n c.observations max_observations O v.few_actions few v.few_observations v.observation_limit,
      rewards-length m n R v.few_actions few,
    )
