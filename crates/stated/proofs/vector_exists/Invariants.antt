use Rattle.stated.proofs.Prelude.{◌≡◌, ℕ, List, get_or, ltb, Verdict, Fine, first_of, unless}
use Rattle.stated.proofs.vector_exists.Given as goal

-- the verdict on what is chosen for o
abbrev pub verdict : List ℕ → ℕ → ℕ → ℕ → Verdict
verdict chosen standing v o = unless (ltb (get_or chosen o 0) standing) 10 v

abbrev pub invariant-loop-o : goal.invariant-loop-o
invariant-loop-o l = first_of l.o (verdict l.chosen l.standing l.v) ≡ Fine
