use Rattle.std.proofs.Common.{◌≡◌, ◌≤◌, length}
use Rattle.digits.specs.Digits.{last_digits, text_over}
use Rattle.digits.proofs.put_last_digits.Given as goal

-- what is left to be written makes the whole of it
abbrev pub invariant-loop-left : goal.invariant-loop-left
invariant-loop-left l = record {
  within : l.left ≤ l.count;
  same : text_over l.at (last_digits l.left l.rest) l.out ≡ text_over l.at (last_digits l.count l.v) l.initial.out;
  long : length l.out ≡ length l.initial.out;
}

abbrev pub decreases-loop-left : goal.decreases-loop-left
decreases-loop-left l = l.left
