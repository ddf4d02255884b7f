use Rattle.integers.proofs.Kit.{sym, ◌∙◌}
use Rattle.grammar.proofs.Laws.{handed}
use Rattle.solver.proofs.Files.{first-refuses, second-refuses, unlike-counts, both-files, unlike-actions, all_alike}
use Rattle.solver.proofs.judge_files.Goals as goal
use Rattle.solver.proofs.judge_files.Goals.{then-vectors-nodes-via-then-vectors-nodes, then-vectors-nodes-via-else-vectors-nodes+then-not-same_actions}

pub returns-in_err-vectors : goal.returns-in_err-vectors
returns-in_err-vectors c = handed _ c.from_residual.ensures ∙ first-refuses _ _ _ _ c.in_err-vectors.ensures

pub returns-in_err-nodes : goal.returns-in_err-nodes
returns-in_err-nodes c =
    handed _ c.from_residual-in_err-nodes.ensures ∙ second-refuses _ _ _ _ c.in_ok-vectors.ensures c.in_err-nodes.ensures

pub same_actions-requires : goal.same_actions-requires
same_actions-requires c =
    (c.requires.0, (c.requires.1, both-files _ _ _ _ c.in_ok-vectors.ensures c.in_ok-nodes.ensures c.if-vectors-nodes.false))

pub returns-then-vectors-nodes : goal.returns-then-vectors-nodes
returns-then-vectors-nodes c =
    let x = c.in_ok-vectors.ensures in
    let y = c.in_ok-nodes.ensures in
    elim c.then-vectors-nodes.branch [
      | then-vectors-nodes-via-then-vectors-nodes w ↦ unlike-counts _ _ _ _ x y w.if-vectors-nodes.true
      | then-vectors-nodes-via-else-vectors-nodes+then-not-same_actions w ↦
          unlike-actions _ _ _ _ x y w.if-vectors-nodes.false (sym w.same_actions.ensures ∙ w.if-not-same_actions.true)
    ]

pub returns : goal.returns
returns c =
    all_alike _ _ _ _ c.in_ok-vectors.ensures c.in_ok-nodes.ensures c.if-vectors-nodes.false
    (sym c.same_actions.ensures ∙ c.if-not-same_actions.false)
