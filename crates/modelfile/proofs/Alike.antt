-- Files that read before read alike. Assumes nothing.
--
-- In order: start numbers and statements; what follows the counts, with room or without; headers; the whole file, by wider forms; files that read before.
use Rattle.integers.proofs.Kit.{◌≡◌, refl, ap, true, false, Bool, cond, List, ℕ, ◌+◌, leb, length, replicate}
use Rattle.tables.specs.declared.Counts.{Counts}
use Rattle.refusals.specs.Verdicts.{Fine}
use Rattle.tables.specs.Limits.{max_states, one}
use Rattle.refusals.proofs.Refusals.{never}
use Rattle.words.specs.Words.{Words, words_in, between}
use Rattle.drafts.specs.Drafts.{stated}
use Rattle.numerals.specs.Numeral.{probability_form, start_form, reward_form}
use Rattle.numerals.proofs.Before.{plain-keeps}
use Rattle.grammar.specs.Grammar.{Answer, got, refused, ◌then◌, key, key_named, field}
use Rattle.grammar.proofs.Alike.{Alike, alike_same, alike_then, field_alike}
use Rattle.entries.specs.Entries.{wholly, Forms, forms, start_number_by, row}
use Rattle.statements.specs.Statements.{statements_by}
use Rattle.statements.proofs.Alike.{AllWider, wholly-alike, row-alike, start-alike, statements-alike}
use Rattle.headers.specs.Headers.{discount_name, values_name, reward_word, start_name, header_counts, header_by, start_by}
use Rattle.bodies.specs.Body.{Text, no_cells, body_by, refused_file, ended}
use Rattle.modelfile.specs.ModelFile.{max_bytes, Room, room_for, roomed_by, text_by, model_file_by, model_file}
use Rattle.modelfile.specs.Before.{forms_before}

-- after a part that has no number
after : {A B : Type 0} (a : Answer A) (k l : A → Words → Answer B) → ((x : A) (ws : Words) → Alike (k x ws) (l x ws)) → Alike (a then k) (a then l)
after a k l h = alike_then a a k l (alike_same a) h

module _ (f g : Forms) (h : AllWider f g) where
  numbers-alike : (n : ℕ) (ws : Words) → Alike (start_by f n ws) (start_by g n ws)
  unfolding start_by
  numbers-alike n ws =
      after (key_named start_name ws) _ _ (λ _ ws.
      wholly-alike (row (start_number_by f) (stated 1 1 n 0 0) 0 n (replicate max_states 0) ws)
      (row (start_number_by g) (stated 1 1 n 0 0) 0 n (replicate max_states 0) ws)
      (row-alike (start_number_by f) (start_number_by g) (stated 1 1 n 0 0) (start-alike f g h) 0 n (replicate max_states 0) ws))

  body_alike : (full : Bool) (fuel : ℕ) (c : Counts) (ws : Words) → Alike (body_by f full fuel c ws) (body_by g full fuel c ws)
  unfolding body_by
  body_alike full fuel c ws =
      let n = c.states in
      let m = c.actions in
      let k = c.observations in
      alike_then (start_by f n ws) (start_by g n ws) _ _ (numbers-alike n ws)
      (λ start ws. alike_then (wholly (statements_by f full fuel m n k (no_cells full) ws)) (wholly (statements_by g full fuel m n k (no_cells full) ws)) _ _
      (wholly-alike (statements_by f full fuel m n k (no_cells full) ws) (statements_by g full fuel m n k (no_cells full) ws)
      (statements-alike f g h full fuel m n k (no_cells full) ws))
      (λ cells ws. refl))

  room-alike : (fuel : ℕ) (c : Counts) (ws : Words) (b : Bool)
      → Alike (cond b (body_by f false fuel c ws) (refused 3 0)) (cond b (body_by g false fuel c ws) (refused 3 0))
  room-alike fuel c ws true = body_alike false fuel c ws
  room-alike fuel c ws false = tt

  header-alike : (ws : Words) → Alike (header_by f ws) (header_by g ws)
  unfolding header_by
  header-alike ws =
      alike_then (field discount_name f.probability 0 one ws) (field discount_name g.probability 0 one ws) _ _
      (field_alike f.probability g.probability h.probabilities discount_name 0 one ws)
      (λ d ws. alike_same (key_named values_name ws then λ _ ws. key reward_word ws then λ _ ws. header_counts d ws))

  text-alike : (r : Room) (fuel : ℕ) (ws : Words) → Alike (text_by f r fuel ws) (text_by g r fuel ws)
  unfolding roomed_by
  text-alike r fuel ws = alike_then (header_by f ws) (header_by g ws) _ _ (header-alike ws) (λ c ws. room-alike fuel c ws (room_for r c))

  ended-alike : (size : ℕ) (a b : Answer Text) → Alike a b → (ended size a).verdict ≡ Fine → ended size b ≡ ended size a
  ended-alike size (got t ws) b e v = ap (ended size) e
  ended-alike size (refused n p) b e v = never v

  -- what is read with numbers of some forms is read alike with numbers of wider ones
  pub wider-alike : (r : Room) (file : List ℕ) → (model_file_by f r file).verdict ≡ Fine → model_file_by g r file ≡ model_file_by f r file
  unfolding model_file_by
  wider-alike r file = either (leb (length file) max_bytes)
    where
      either : (short : Bool) → (cond short (ended (length file) (text_by f r (length file + 1) (words_in between file 0))) (refused_file 1 0)).verdict ≡ Fine
          → cond short (ended (length file) (text_by g r (length file + 1) (words_in between file 0))) (refused_file 1 0)
          ≡ cond short (ended (length file) (text_by f r (length file + 1) (words_in between file 0))) (refused_file 1 0)
      either true v =
          ended-alike (length file) (text_by f r (length file + 1) (words_in between file 0)) (text_by g r (length file + 1) (words_in between file 0))
          (text-alike r (length file + 1) (words_in between file 0)) v
      either false v = never v

-- No word is chosen by a number's form: keys and colons alone say what is read next. So each word of a file that was read is read as before, up to the last,
-- and the totals are those of the same tables. Qed.
pub read-before : (r : Room) (file : List ℕ) → (model_file_by forms_before r file).verdict ≡ Fine → model_file r file ≡ model_file_by forms_before r file
read-before =
    wider-alike forms_before forms
    (record { probabilities = plain-keeps probability_form; starts = plain-keeps start_form; rewards = plain-keeps reward_form })
