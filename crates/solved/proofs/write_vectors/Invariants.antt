use Rattle.builder.specs.Steps.{Filled}
use Rattle.stated.specs.Steps.{ReadTo}
use Rattle.solved.specs.Steps.{vectors_over}
use Rattle.solved.proofs.write_vectors.Given as goal

abbrev pub invariant-loop-v : goal.invariant-loop-v
invariant-loop-v l = record {
  read : ReadTo l.c.states l.c.observations l.alpha l.graph l.v l.p l.q;
  filled : Filled l.c.states l.c.observations (vectors_over l.c l.transition l.observation l.reward l.masks l.entries l.standing l.t l.alpha l.graph)
      l.v l.initial.newactions l.initial.newchoices l.initial.newmasks l.initial.newentries l.newactions l.newchoices l.newmasks l.newentries;
}
