use Rattle.integers.proofs.Kit.{◌∙◌, refl, ℕ, ◌*◌, length-replicate, pos}
use Rattle.tables.specs.Limits.{max_states, max_actions, max_observations}
use Rattle.tables.proofs.Fitting.{Long}
use Rattle.bodies.specs.Steps.{file_in}
use Rattle.modelfile.specs.ModelFile.{room}
use Rattle.printing.proofs.File.{read-given}
use Rattle.printing.proofs.answer.Goals as goal

pub levels_of-requires : goal.levels_of-requires
levels_of-requires g c =
    let r = c.read-read in
    let drafted = file_in c.in-Ok.c r.new.transition r.new.observation r.new.reward r.new.start in
    let long : Long drafted.tables = record {
      transition = r.auto.transition ∙ length-replicate {A = ℕ} (max_actions * max_states * max_states) 0;
      observation = r.auto.observation ∙ length-replicate {A = ℕ} (max_actions * max_states * max_observations) 0;
      reward = r.auto.reward ∙ length-replicate (max_actions * max_states) (pos 0);
    } in
    let given = read-given drafted
    (room (max_actions * max_states * max_states) (max_actions * max_states * max_observations) (max_actions * max_states))
    c.args.file.now (c.in-Ok.ensures.start_after c.in-Ok.c refl) refl long in
    record { valid = given.0; stored = given.1.0; point = given.1.1 }
