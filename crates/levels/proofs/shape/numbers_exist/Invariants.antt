use Rattle.std.proofs.Common.{◌≡◌, ℕ, List, ltb, get_or}
use Rattle.refusals.specs.Verdicts.{Verdict, Fine, ◌before◌, unless, first_of}
use Rattle.tables.specs.Storage.{choice_in}
use Rattle.levels.proofs.shape.numbers_exist.Given as goal

-- the verdict on what vector v chooses for o, and on the vector
abbrev pub chosen : ℕ → List ℕ → ℕ → ℕ → ℕ → ℕ → Verdict
chosen number choices k standing v o = unless (ltb (choice_in k choices v o) standing) number v

abbrev pub verdict : ℕ → List ℕ → List ℕ → ℕ → ℕ → ℕ → ℕ → Verdict
verdict number actions choices m k standing v =
    unless (ltb (get_or actions v 0) m) number v before first_of k (chosen number choices k standing v)

abbrev pub invariant-loop-o : goal.invariant-loop-o
invariant-loop-o l = (l.found ≡ Fine) × (first_of l.o (chosen l.number l.choices l.k l.standing l.v) ≡ Fine)

abbrev pub invariant-vectors : goal.invariant-vectors
invariant-vectors l = (l.found ≡ Fine) × (first_of l.v (verdict l.number l.actions l.choices l.m l.k l.standing) ≡ Fine)
