use Rattle.integers.proofs.Kit.{◌≡◌}
use Rattle.tables.specs.Storage.{model_in}
use Rattle.worths.specs.Graph.{worth_of}
use Rattle.worths.specs.Storage.{graph_in}
use Rattle.worths.specs.Steps.{worths_by}
use Rattle.worths.proofs.worths.Given as goal

abbrev pub invariant-loop : goal.invariant-loop
invariant-loop l =
    l.worths ≡ worths_by l.c.states l.nodes
    (worth_of (model_in l.c l.transition l.observation l.reward) (graph_in l.c.observations l.nodes l.actions l.next) l.counter)
