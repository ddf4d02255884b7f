use Rattle.tables.specs.Storage.{tables_in}
use Rattle.levels.specs.Storage.{cells, rows, lent}
use Rattle.blocks.specs.Blocks.{packed}
use Rattle.series.proofs.Series.{Running}
use Rattle.series.proofs.offer_all.Given as goal

abbrev pub invariant-loop-i : goal.invariant-loop-i
invariant-loop-i l =
    let f = l.initial in
    Running (tables_in l.c l.transition l.observation l.reward)
    (packed l.v l.p l.vectors l.points (cells l.newactions l.newchoices l.newmasks l.newentries l.newcorners l.newweights l.newvalues))
    (lent f.state (cells f.actions f.choices f.masks f.entries f.corners f.weights f.values) (rows f.informed f.qmdp)) l.i
    (lent l.state (cells l.actions l.choices l.masks l.entries l.corners l.weights l.values) (rows l.informed l.qmdp)) l.accepted
