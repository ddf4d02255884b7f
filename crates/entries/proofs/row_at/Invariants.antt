use Rattle.std.specs.Prelude.{◌≡◌, ◌≤◌, ◌+◌, ◌-◌, length}
use Rattle.words.specs.Words.{words_in, between}
use Rattle.drafts.specs.Drafts.{stated}
use Rattle.grammar.specs.Grammar.{number}
use Rattle.entries.specs.Entries.{row}
use Rattle.entries.proofs.row_at.Given as goal

-- the numbers before place x are read, and the next one is looked for at `at`
abbrev pub invariant-loop-x : goal.invariant-loop-x
invariant-loop-x l =
    let one_number = number l.form 0 l.most in
    let put = stated l.m l.n l.w l.a l.s in
    record {
      inside : l.at ≤ length l.file;
      on : l.from + l.x ≤ l.at;
      same : row one_number put l.x (l.w - l.x) l.cells (words_in between l.file l.at)
          ≡ row one_number put 0 l.w l.initial.cells (words_in between l.file l.from);
    }
