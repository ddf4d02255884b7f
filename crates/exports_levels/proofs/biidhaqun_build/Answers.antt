use Rattle.integers.proofs.Kit.{◌∙◌, ap}
use Rattle.answers.specs.Calls.{refusal_of}
use Rattle.exports_levels.proofs.biidhaqun_build.Goals as goal

pub returns : goal.returns
returns c choices =
    let (answers, (leaves, builds)) = c.build-verdict.ensures choices in
    let same = c.refusal_of.ensures in (
      same ∙ ap refusal_of answers,
      (leaves, λ m₀ x es o e h k p l. record { verdict = c.build-verdict.result; answer = same; holds = builds m₀ x es o e h k p l }),
    )
