use Rattle.integers.proofs.Kit.{refl, true, ◌+◌, length}
use Rattle.words.specs.Words.{words_in, between}
use Rattle.modelfile.proofs.Opens.{body-holds}
use Rattle.conversion.proofs.Converting.{body-sound}
use Rattle.converting.proofs.from_counts.Goals as goal

pub write_expected-requires-clause-sound_file : goal.write_expected-requires-clause-sound_file
write_expected-requires-clause-sound_file c =
    let f = c.args.file.now in
    body-sound (body-holds c.args.c c.requires.counts_fit (length f) true (length f + 1) (words_in between f c.args.at)
    (c.in_ok-counts.ensures.start_after c.in_ok-counts.counts refl) refl)
