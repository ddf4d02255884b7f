-- The forms of a file's numbers before a part could be missing and an exponent follow: kept only to say that files that read before read alike.
-- `numerals/specs/Before.antt` has what they read.
use Rattle.std.specs.Prelude.{false}
use Rattle.entries.specs.Entries.{Forms}

abbrev pub forms_before : Forms
forms_before = record {
  probability = record { digits = 1; places = 3; loose = false };
  start = record { digits = 1; places = 2; loose = false };
  reward = record { digits = 4; places = 2; loose = false };
}
