use Rattle.written.proofs.Prelude.{◌++◌, ℕ, List, arith, ◌≤◌, length, cell_in, reward_in, HasRoom, room-first, room-then, wrote_then, header_text, start_text}
use Rattle.written.proofs.Prelude.{table_text, rewards_text, file_text}
use Rattle.integers.proofs.Kit.{ℤ}
use Rattle.tables.specs.declared.Counts.{Counts}
use Rattle.written.specs.Steps.{Writable}
use Rattle.written.specs.Text.{max_text}
use Rattle.written.proofs.Sizes.{file-length}
use Rattle.written.proofs.put_file.Goals as goal

-- the parts behind the header
begun : Counts → List ℕ → List ℕ → List ℤ → List ℕ → List ℕ
begun c transition observation reward start =
    start_text c.states start
    ++ (table_text 84 c.actions c.states c.states (cell_in c.states c.states transition)
    ++ (table_text 79 c.actions c.states c.observations (cell_in c.states c.observations observation)
    ++ rewards_text c.actions c.states (reward_in c.states reward)))

-- those behind the start numbers
moved : Counts → List ℕ → List ℕ → List ℤ → List ℕ
moved c transition observation reward =
    table_text 84 c.actions c.states c.states (cell_in c.states c.states transition)
    ++ (table_text 79 c.actions c.states c.observations (cell_in c.states c.observations observation)
    ++ rewards_text c.actions c.states (reward_in c.states reward))

-- those behind T
observed : Counts → List ℕ → List ℤ → List ℕ
observed c observation reward =
    table_text 79 c.actions c.states c.observations (cell_in c.states c.observations observation)
    ++ rewards_text c.actions c.states (reward_in c.states reward)

-- room for all of them
room : (c : Counts) (transition observation : List ℕ) (reward : List ℤ) (start : List ℕ) {xs : List ℕ} → Writable c transition observation reward start
    → max_text ≤ length xs → HasRoom 0 (header_text c ++ begun c transition observation reward start) xs
unfolding file_text begun
room c transition observation reward start w long =
    let short = file-length c transition observation reward start w.valid w.few w.begins.below in record { fits = omega arith }

pub put_header-x-requires : goal.put_header-x-requires
put_header-x-requires c =
    let a = c.args in
    room-first (begun a.c a.transition.now a.observation.now a.reward.now a.start.now)
    (room a.c a.transition.now a.observation.now a.reward.now a.start.now c.requires.writable c.requires.max_text_in_bounds)

pub put_start-y-requires-clause-has_room : goal.put_start-y-requires-clause-has_room
unfolding begun moved
put_start-y-requires-clause-has_room c =
    let a = c.args in
    let r = room a.c a.transition.now a.observation.now a.reward.now a.start.now c.requires.writable c.requires.max_text_in_bounds in
    room-first {t = start_text a.c.states a.start.now} (moved a.c a.transition.now a.observation.now a.reward.now) (room-then r c.put_header-x.ensures)

pub put_table-z-requires-clause-has_room : goal.put_table-z-requires-clause-has_room
unfolding begun observed
put_table-z-requires-clause-has_room c =
    let a = c.args in
    let r = room a.c a.transition.now a.observation.now a.reward.now a.start.now c.requires.writable c.requires.max_text_in_bounds in
    let t = table_text 84 a.c.actions a.c.states a.c.states (cell_in a.c.states a.c.states a.transition.now) in
    room-first {t = t} (observed a.c a.observation.now a.reward.now)
    (room-then {t = start_text a.c.states a.start.now} (room-then r c.put_header-x.ensures) c.put_start-y.ensures)

pub put_table-w-requires-clause-has_room : goal.put_table-w-requires-clause-has_room
unfolding begun
put_table-w-requires-clause-has_room c =
    let a = c.args in
    let r = room a.c a.transition.now a.observation.now a.reward.now a.start.now c.requires.writable c.requires.max_text_in_bounds in
    let t = table_text 84 a.c.actions a.c.states a.c.states (cell_in a.c.states a.c.states a.transition.now) in
    let o = table_text 79 a.c.actions a.c.states a.c.observations (cell_in a.c.states a.c.observations a.observation.now) in
    let rest = room-then {t = start_text a.c.states a.start.now} (room-then r c.put_header-x.ensures) c.put_start-y.ensures in
    room-first {t = o} (rewards_text a.c.actions a.c.states (reward_in a.c.states a.reward.now)) (room-then {t = t} rest c.put_table-z.ensures)

pub put_rewards-requires-clause-has_room : goal.put_rewards-requires-clause-has_room
unfolding begun
put_rewards-requires-clause-has_room c =
    let a = c.args in
    let r = room a.c a.transition.now a.observation.now a.reward.now a.start.now c.requires.writable c.requires.max_text_in_bounds in
    let t = table_text 84 a.c.actions a.c.states a.c.states (cell_in a.c.states a.c.states a.transition.now) in
    let o = table_text 79 a.c.actions a.c.states a.c.observations (cell_in a.c.states a.c.observations a.observation.now) in
    let rest = room-then {t = start_text a.c.states a.start.now} (room-then r c.put_header-x.ensures) c.put_start-y.ensures in
    room-then {t = o} (room-then {t = t} rest c.put_table-z.ensures) c.put_table-w.ensures

pub returns : goal.returns
unfolding file_text begun
returns c =
    let a = c.args in
    let r = room a.c a.transition.now a.observation.now a.reward.now a.start.now c.requires.writable c.requires.max_text_in_bounds in
    let s = start_text a.c.states a.start.now in
    let t = table_text 84 a.c.actions a.c.states a.c.states (cell_in a.c.states a.c.states a.transition.now) in
    let o = table_text 79 a.c.actions a.c.states a.c.observations (cell_in a.c.states a.c.observations a.observation.now) in
    let begins = room-then r c.put_header-x.ensures in
    let moves = room-then {t = s} begins c.put_start-y.ensures in
    let observes = room-then {t = t} moves c.put_table-z.ensures in
    wrote_then r c.put_header-x.ensures (wrote_then {t = s} begins c.put_start-y.ensures (wrote_then {t = t} moves c.put_table-z.ensures
    (wrote_then {t = o} observes c.put_table-w.ensures c.put_rewards.ensures)))
