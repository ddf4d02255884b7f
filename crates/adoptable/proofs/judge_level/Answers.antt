use Rattle.integers.proofs.Kit.{◌≡◌, sym, ◌∙◌, rules, ℕ, ℤ, List, ◌<◌, ◌≤◌}
use Rattle.tables.specs.declared.Counts.{Counts}
use Rattle.refusals.specs.Verdicts.{Verdict, Fine}
use Rattle.tables.specs.Limits.{max_levels, max_vectors}
use Rattle.refusals.proofs.Refusals.{stops, goes}
use Rattle.levels.specs.Judged.{numbers_in}
use Rattle.levels.proofs.Laws.{numbers-in}
use Rattle.candidates.specs.Steps.{Upon}
use Rattle.solver.specs.Files.{action_at}
use Rattle.stated.specs.Steps.{Files, choices_at}
use Rattle.solved.specs.Solved.{solved}
use Rattle.solved.specs.Steps.{Solving}
use Rattle.solved.proofs.Vectors.{solving-chooses}
use Rattle.adoptable.proofs.judge_level.Goals as goal

-- 10 passed, the vectors' numbers exist
solving : {c : Counts} {T O : List ℕ} {R : List ℤ} {masks : List ℕ} {entries : List ℤ} {standing t : ℕ} {alpha graph : List ℕ} {count : ℕ} {v : Verdict}
    → (Upon c T O R masks entries standing) × ((t < max_levels) × (count ≤ max_vectors))
    → Files c.states c.observations alpha graph count
    → v ≡ numbers_in 10 count c.actions c.observations standing (action_at c.states alpha) (choices_at c.observations t graph) → v ≡ Fine
    → Solving c T O R masks entries standing t alpha graph count
solving {c = c} {standing = standing} {t = t} {alpha = alpha} {graph = graph} {count = count} (upon, (below, few)) files said fine =
    let exist = numbers-in 10 count c.actions c.observations standing (action_at c.states alpha) (choices_at c.observations t graph) (sym said ∙ fine) in
    record {
      upon = upon;
      below = below;
      few = few;
      files = files;
      acts = λ v l. (exist v l).0;
      chooses = λ v l. (exist v l).1;
    }

pub returns-in_err-numbers_hold : goal.returns-in_err-numbers_hold
unfolding solved
returns-in_err-numbers_hold c =
    let same : c.from_residual.result ≡ c.numbers_hold.result = search rules in same ∙ stops _ c.numbers_hold.ensures c.in_err-numbers_hold.was

pub masks_hold-requires : goal.masks_hold-requires
masks_hold-requires c = solving-chooses (solving c.requires.upon c.requires.files c.numbers_hold.ensures c.in_ok-numbers_hold.was)

pub returns-in_err-masks_hold : goal.returns-in_err-masks_hold
unfolding solved
returns-in_err-masks_hold c =
    let same : c.from_residual-in_err-masks_hold.result ≡ c.masks_hold.result = search rules in
    same ∙ goes c.numbers_hold.ensures c.in_ok-numbers_hold.was (stops _ c.masks_hold.ensures c.in_err-masks_hold.was)

pub entries_hold-requires : goal.entries_hold-requires
entries_hold-requires c = solving c.requires.upon c.requires.files c.numbers_hold.ensures c.in_ok-numbers_hold.was

pub returns-in_err-entries_hold : goal.returns-in_err-entries_hold
unfolding solved
returns-in_err-entries_hold c =
    let same : c.from_residual-in_err-entries_hold.result ≡ c.entries_hold.result = search rules in
    same
    ∙ goes c.numbers_hold.ensures c.in_ok-numbers_hold.was
    (goes c.masks_hold.ensures c.in_ok-masks_hold.was (stops _ c.entries_hold.ensures c.in_err-entries_hold.was))

pub returns : goal.returns
unfolding solved
returns c =
    goes c.numbers_hold.ensures c.in_ok-numbers_hold.was
    (goes c.masks_hold.ensures c.in_ok-masks_hold.was (goes c.entries_hold.ensures c.in_ok-entries_hold.was c.weights_hold.ensures))
