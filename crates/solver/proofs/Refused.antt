-- A file is refused for one of its words, or for one that is missing: by the grammar's 2 or 3, at a place in the file. So the definition, which goes on for one
-- more vector or node than the file has bytes, never runs out, and 19 is always a word's. Assumes nothing.
--
-- A file has no more words than bytes, and each vector or node takes one or more. Qed.
--
-- In order: a word of a file; one vector and one node, each of a word or more; all of them; the whole file.
use Rattle.integers.proofs.Kit.{◌≡◌, sym, subst, List, ℕ, ◌+◌, suc, zero, arith, add-one, length}
use Rattle.words.specs.Words.{Words, word, end, between, words_of, words_in}
use Rattle.numerals.specs.Numeral.{count_form, decimal_form, node_form}
use Rattle.grammar.specs.Grammar.{Answer, refused, number, signed_number, key}
use Rattle.grammar.proofs.Named.{UpTo, up_more, words_up, Word-refused, Named, then-named, choose-named, keyed, number-takes, number-named, signed-named}
use Rattle.alphas.specs.Alphas.{most_action, most_decimal, hyphen, action, decimal, next_node, several, alpha, node}
use Rattle.solver.specs.Files.{all_from, all_in, alphas, nodes}

module _ (size : ℕ) where
  module _ (c : ℕ) where
    decimal-named : (ws : Words) → UpTo size c ws → Named size c (decimal ws)
    unfolding decimal
    decimal-named ws h = then-named size c c (signed_number decimal_form most_decimal ws) _ (signed-named size c decimal_form most_decimal ws h) (λ z ws k. k)

    next-named : (ws : Words) → UpTo size c ws → Named size c (next_node ws)
    unfolding next_node
    next-named ws h = choose-named size c c (key hyphen ws) _ _ (keyed size c hyphen ws h) (λ ws k. k) (number-named size c node_form 0 _ ws h)

    several-named : {A : Type 0} (one : Words → Answer A) → ((ws : Words) → UpTo size c ws → Named size c (one ws)) → (count : ℕ) (ws : Words)
        → UpTo size c ws → Named size c (several one count ws)
    unfolding several
    several-named one g zero ws h = h
    several-named one g (suc count) ws h =
        then-named size c c (several one count ws) _ (several-named one g count ws h) (λ xs ws k. then-named size c c (one ws) _ (g ws k) (λ x ws l. l))

    action-takes : (ws : Words) → UpTo size (suc c) ws → Named size c (action ws)
    unfolding action
    action-takes ws h = number-takes size c count_form 0 most_action ws h

    -- each takes a word or more
    alpha-takes : (n : ℕ) (ws : Words) → UpTo size (suc c) ws → Named size c (alpha n ws)
    unfolding alpha
    alpha-takes n ws h =
        then-named size c c (action ws) _ (action-takes ws h) (λ a ws k.
        then-named size c c (several decimal n ws) _ (several-named decimal decimal-named n ws k) (λ ts ws l. l))

    node-takes : (k i : ℕ) (ws : Words) → UpTo size (suc c) ws → Named size c (node k i ws)
    unfolding node
    node-takes k i ws h =
        then-named size c c (number node_form i i ws) _ (number-takes size c node_form i i ws h) (λ _ ws h.
        then-named size c c (action ws) _ (action-takes ws (up_more size c ws h)) (λ a ws h.
        then-named size c c (several next_node k ws) _ (several-named next_node next-named k ws h) (λ os ws l. l)))

  module _ {A : Type 0} (one : ℕ → Words → Answer A) (takes : (c i : ℕ) (ws : Words) → UpTo size (suc c) ws → Named size c (one i ws)) where
    all_named : (fuel i : ℕ) (ws : Words) → UpTo size fuel ws → Named size fuel (all_from one fuel i ws)
    unfolding all_from
    all_named zero i (end at) h = h
    all_named zero i (word at w rest) h = absurd h
    all_named (suc fuel) i (end at) h = h
    all_named (suc fuel) i (word at w rest) h =
        then-named size fuel (suc fuel) (one i (word at w rest)) _ (takes fuel i (word at w rest) h) (λ x ws k.
        then-named size fuel (suc fuel) (all_from one fuel (i + 1) ws) _ (all_named fuel (i + 1) ws k) (λ xs ws l. up_more size fuel ws l))

file-refused : {A : Type 0} (one : ℕ → Words → Answer A) (file : List ℕ)
    → ((c i : ℕ) (ws : Words) → UpTo (length file) (suc c) ws → Named (length file) c (one i ws)) → (number place : ℕ)
    → all_in one file ≡ refused number place → Word-refused (length file) number place
unfolding all_in words_in
file-refused one file takes number place e =
    let words = up_more (length file) (length file) (words_of between 0 file) (words_up between (length file) 0 file (omega arith)) in
    let more : UpTo (length file) (length file + 1) (words_of between 0 file) = subst (λ (c : ℕ). UpTo (length file) c (words_of between 0 file))
    (sym (add-one (length file))) words in
    subst (Named (length file) (length file + 1)) e (all_named (length file) one takes (length file + 1) 0 (words_of between 0 file) more)

pub alphas-refused : (n : ℕ) (file : List ℕ) (number place : ℕ) → alphas n file ≡ refused number place → Word-refused (length file) number place
alphas-refused n file = file-refused (λ _. alpha n) file (λ c i. alpha-takes (length file) c n)

pub nodes-refused : (k : ℕ) (file : List ℕ) (number place : ℕ) → nodes k file ≡ refused number place → Word-refused (length file) number place
nodes-refused k file = file-refused (node k) file (λ c i. node-takes (length file) c k i)
