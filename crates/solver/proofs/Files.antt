-- The two files: refused in order, and read once more, vector by vector. Assumes nothing.
--
--   both-start, vector-fine, node-fine, both-on   where both files stand at the first vector, that each vector and node is read, and where they stand after it
--   files-read                                    files that are not refused stand at their first vector, and have the same actions
--   first-refuses, second-refuses, unlike-counts, unlike-actions, all_alike   how they are judged
use Rattle.std.specs.Prelude.{Result, Ok, Err, IsOk}
use Rattle.integers.proofs.Kit.{◌≡◌, ◌∙◌, refl, ap, sym, true, false, Bool, ◌&&◌, List, [], ℕ, ◌<◌, ◌+◌, arith, ne_eqb, eq-eqb, eqb-true, eqb}
use Rattle.integers.proofs.Kit.{length, get_or, pos}
use lib.Seq.{get_or-take}
use Rattle.integers.specs.Search.{every}
use Rattle.integers.proofs.Searches.{and-true, every-at}
use Rattle.refusals.specs.declared.Refusal.{Refusal}
use Rattle.refusals.specs.Verdicts.{Verdict, Fine, ◌before◌, unless}
use Rattle.refusals.proofs.Refusals.{before-fine, unless-fine}
use Rattle.words.specs.Words.{words_in, between}
use Rattle.grammar.specs.declared.Read.{Read}
use Rattle.alphas.specs.declared.Alpha.{Alpha as AlphaCells}
use Rattle.alphas.specs.declared.Node.{Node}
use Rattle.alphas.specs.Alphas.{Alpha, PolicyNode, alpha, node, words_verdict}
use Rattle.alphas.specs.Steps.{Gave, alpha_of, node_of}
use Rattle.solver.specs.Files.{alphas, nodes, read_list, vectors_in, node_at, action_at, ticks_at, next_at, alike, files_verdict, with_count, files_judged}
use Rattle.solver.specs.Steps.{BothAt}
use Rattle.solver.proofs.All.{stands_read, standing-fine, standing_on}

-- ---- how one file is judged: a verdict with a count

pub counted-fine : (v : Verdict) (vectors : ℕ) {count : ℕ} → Ok count ≡ with_count v vectors → (v ≡ Fine) × (count ≡ vectors)
counted-fine (Ok u) vectors e = (refl, cc)
counted-fine (Err d) vectors e = cc

pub counted-refused : (v : Verdict) (vectors : ℕ) {e : Refusal} → Err e ≡ with_count v vectors → v ≡ Err e
counted-refused (Ok u) vectors h = cc
counted-refused (Err d) vectors h = cc

module _ (n k : ℕ) (alphaFile graphFile : List ℕ) where
  -- ---- vector by vector

  pub both-start : {count : ℕ} → words_verdict (alphas n alphaFile) ≡ Fine → words_verdict (nodes k graphFile) ≡ Fine → count ≡ vectors_in n alphaFile
      → count ≡ length (read_list (nodes k graphFile)) → BothAt n k alphaFile graphFile count 0 0 0
  both-start e f c d = record {
    as_many_vectors = c;
    as_many_nodes = d;
    vectors_stand = stands_read (λ _. alpha n) alphaFile e;
    nodes_stand = stands_read (node k) graphFile f;
  }

  -- what the two files say of the vector v, and where they stand after it
  pub record VectorAt (count v : ℕ) (x : Read AlphaCells) (y : Read Node) : Type 0 where
    pub action : x.value.action ≡ action_at n alphaFile v
    pub node-action : y.value.action ≡ (node_at k graphFile v).action
    pub ticks : (s : ℕ) → s < n → get_or x.value.ticks s (pos 0) ≡ ticks_at n alphaFile v s
    pub next : (o : ℕ) → o < k → get_or y.value.next o 0 ≡ next_at k graphFile v o
    pub onward : BothAt n k alphaFile graphFile count (v + 1) x.next y.next

  -- answers on the vector v and its node: neither is a refusal, and they say so much
  pub record BothRead (count v : ℕ) (x : Result (Read AlphaCells) Refusal) (y : Result (Read Node) Refusal) : Type 0 where
    pub vector : IsOk x
    pub node : IsOk y
    pub said : (x' : Read AlphaCells) (y' : Read Node) → x ≡ Ok x' → y ≡ Ok y' → VectorAt count v x' y'

  module _ {count v p q : ℕ} (both : BothAt n k alphaFile graphFile count v p q) (h : v < count) where
    vector_in : v < vectors_in n alphaFile
    vector_in = omega (arith, both.as_many_vectors)

    node-in : v < length (read_list (nodes k graphFile))
    node-in = omega (arith, both.as_many_nodes)

    pub vector-fine : (r : Result (Read AlphaCells) Refusal) → Gave (alpha_of n) alphaFile p r (alpha n (words_in between alphaFile p)) → IsOk r
    vector-fine r =
        standing-fine (λ _. alpha n) (alpha_of n) alphaFile (read_list (alphas n alphaFile)) both.vectors_stand vector_in (record { action = 0; ticks = [] }) r

    pub node-fine : (r : Result (Read Node) Refusal) → Gave (node_of k) graphFile q r (node k v (words_in between graphFile q)) → IsOk r
    node-fine r =
        standing-fine (node k) (node_of k) graphFile (read_list (nodes k graphFile)) both.nodes_stand node-in (record { action = 0; next = [] }) r

    said_on : (x : Read AlphaCells) (y : Read Node) → Gave (alpha_of n) alphaFile p (Ok x) (alpha n (words_in between alphaFile p))
        → Gave (node_of k) graphFile q (Ok y) (node k v (words_in between graphFile q)) → VectorAt count v x y
    said_on x y gx gy =
        let vector = standing_on (λ _. alpha n) (alpha_of n) alphaFile (read_list (alphas n alphaFile)) both.vectors_stand vector_in x gx in
        let node = standing_on (node k) (node_of k) graphFile (read_list (nodes k graphFile)) both.nodes_stand node-in y gy in
        let a = vector.same (record { action = 0; ticks = [] }) in
        let b = node.same (record { action = 0; next = [] }) in
        record {
          action = ap (λ (z : Alpha). z.action) a;
          node-action = ap (λ (z : PolicyNode). z.action) b;
          ticks = λ s l. sym (get_or-take n x.value.ticks s (pos 0) l) ∙ ap (λ (z : Alpha). get_or z.ticks s (pos 0)) a;
          next = λ o l. sym (get_or-take k y.value.next o 0 l) ∙ ap (λ (z : PolicyNode). get_or z.next o 0) b;
          onward = record {
            as_many_vectors = both.as_many_vectors;
            as_many_nodes = both.as_many_nodes;
            vectors_stand = vector.next;
            nodes_stand = node.next;
          };
        }

    -- whatever is given of both, it is read, and says what was judged
    pub both-on : (x : Result (Read AlphaCells) Refusal) (y : Result (Read Node) Refusal)
        → Gave (alpha_of n) alphaFile p x (alpha n (words_in between alphaFile p))
        → Gave (node_of k) graphFile q y (node k v (words_in between graphFile q)) → BothRead count v x y
    both-on x y gx gy = record {
      vector = vector-fine x gx;
      node = node-fine y gy;
      said = λ x' y' e f. said_on x' y' (rw e at gx) (rw f at gy);
    }

  -- ---- files that are not refused

  pub record FilesRead : Type 0 where
    pub start : BothAt n k alphaFile graphFile (vectors_in n alphaFile) 0 0 0
    pub same-action : (v : ℕ) → v < vectors_in n alphaFile → action_at n alphaFile v ≡ (node_at k graphFile v).action

  pub files-read : files_verdict n k alphaFile graphFile ≡ Fine → FilesRead
  unfolding files_verdict alike
  files-read e =
      let p = before-fine (words_verdict (alphas n alphaFile)) (words_verdict (nodes k graphFile) before unless (alike n k alphaFile graphFile) 20 0) e in
      let q = before-fine (words_verdict (nodes k graphFile)) (unless (alike n k alphaFile graphFile) 20 0) p.1 in
      let a = and-true (eqb (vectors_in n alphaFile) (length (read_list (nodes k graphFile))))
      (every (vectors_in n alphaFile) (λ v. eqb (action_at n alphaFile v) (node_at k graphFile v).action))
      (unless-fine (alike n k alphaFile graphFile) 20 0 q.1) in
      record {
        start = both-start p.0 q.0 refl (eqb-true _ _ a.0);
        same-action = λ v l. eqb-true _ _ (every-at _ _ a.1 v l);
      }

  -- ---- as they are judged

  abbrev same_actions : ℕ → Bool
  same_actions count = every count (λ v. eqb (action_at n alphaFile v) (node_at k graphFile v).action)

  pub first-refuses : {e : Refusal} → Err e ≡ with_count (words_verdict (alphas n alphaFile)) (vectors_in n alphaFile)
      → Err e ≡ files_judged n k alphaFile graphFile
  unfolding files_verdict
  first-refuses h = rw (counted-refused (words_verdict (alphas n alphaFile)) _ h)

  module _ {vectors : ℕ} (ex : Ok vectors ≡ with_count (words_verdict (alphas n alphaFile)) (vectors_in n alphaFile)) where
    pub second-refuses : {e : Refusal} → Err e ≡ with_count (words_verdict (nodes k graphFile)) (length (read_list (nodes k graphFile)))
        → Err e ≡ files_judged n k alphaFile graphFile
    unfolding files_verdict
    second-refuses h = rw ((counted-fine (words_verdict (alphas n alphaFile)) _ ex).0, counted-refused (words_verdict (nodes k graphFile)) _ h)

    module _ {many : ℕ} (ey : Ok many ≡ with_count (words_verdict (nodes k graphFile)) (length (read_list (nodes k graphFile)))) where
      first : (words_verdict (alphas n alphaFile) ≡ Fine) × (vectors ≡ vectors_in n alphaFile)
      first = counted-fine (words_verdict (alphas n alphaFile)) _ ex

      second : (words_verdict (nodes k graphFile) ≡ Fine) × (many ≡ length (read_list (nodes k graphFile)))
      second = counted-fine (words_verdict (nodes k graphFile)) _ ey

      by-likeness : (same : Bool) → alike n k alphaFile graphFile ≡ same
          → with_count (unless same 20 0) (vectors_in n alphaFile) ≡ files_judged n k alphaFile graphFile
      unfolding files_verdict
      by-likeness same q = rw (first.0, second.0, q)

      -- they differ in the number of vectors
      pub unlike-counts : (vectors ≡ many → ⊥) → Err (record { 0 = 20; 1 = 0 }) ≡ files_judged n k alphaFile graphFile
      unfolding alike
      unlike-counts h =
          by-likeness false (ap (λ (b : Bool). b && same_actions (vectors_in n alphaFile))
          (ne_eqb (vectors_in n alphaFile) (length (read_list (nodes k graphFile))) (λ e. h (first.1 ∙ e ∙ sym second.1))))

      module _ (e : vectors ≡ many) where
        pub both-files : BothAt n k alphaFile graphFile vectors 0 0 0
        both-files = both-start first.0 second.0 first.1 (e ∙ second.1)

        by-actions : (same : Bool) → same_actions vectors ≡ same → alike n k alphaFile graphFile ≡ same
        unfolding alike
        by-actions same q =
            ap (λ (b : Bool). b && same_actions (vectors_in n alphaFile))
            (eq-eqb (vectors_in n alphaFile) (length (read_list (nodes k graphFile))) (sym first.1 ∙ e ∙ second.1))
            ∙ ap same_actions (sym first.1) ∙ q

        -- they differ in an action, or in nothing
        pub unlike-actions : same_actions vectors ≡ false → Err (record { 0 = 20; 1 = 0 }) ≡ files_judged n k alphaFile graphFile
        unlike-actions q = by-likeness false (by-actions false q)

        pub all_alike : same_actions vectors ≡ true → Ok vectors ≡ files_judged n k alphaFile graphFile
        all_alike q = ap (λ (m : ℕ). Ok m) first.1 ∙ by-likeness true (by-actions true q)
