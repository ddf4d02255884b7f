use Rattle.written.proofs.Prelude.{◌≡◌, ap, sym, [], ◌∷◌, ◌++◌, ℕ, List, subst, subst⁻¹, get_or, newline, spaced, fixed, numbers, start_text, HasRoom, Wrote}
use Rattle.written.proofs.Prelude.{room-first, room-then, wrote_then}
use Rattle.integers.proofs.Kit.{zero-add}
use Rattle.digits.proofs.Over.{parts-cong}
use Rattle.written.proofs.put_start.Goals as goal

-- the numbers, and with them the line's end
abbrev rest : ℕ → List ℕ → List ℕ
rest n start = numbers 2 start 0 n ++ newline

-- "start:" and the rest
name : List ℕ
name = 115 ∷ 116 ∷ 97 ∷ 114 ∷ 116 ∷ 58 ∷ []

same_parts : (n : ℕ) (start : List ℕ) → start_text n start ≡ name ++ rest n start
unfolding start_text name
same_parts n start =
    ap (λ (t : List ℕ). name ++ (t ++ newline)) (parts-cong n _ _ (λ s. ap (λ (k : ℕ). spaced (fixed 2 (get_or start k 0))) (sym (zero-add s))))

room : (n : ℕ) (start : List ℕ) {at : ℕ} {xs : List ℕ} → HasRoom at (start_text n start) xs → HasRoom at (name ++ rest n start) xs
room n start {at = at} {xs = xs} h = subst (λ (t : List ℕ). HasRoom at t xs) (same_parts n start) h

pub put-x-requires : goal.put-x-requires
unfolding name
put-x-requires c = let a = c.args in room-first (rest a.n a.start.now) (room a.n a.start.now c.requires.has_room)

pub put_numbers-y-requires-clause-has_room : goal.put_numbers-y-requires-clause-has_room
unfolding name
put_numbers-y-requires-clause-has_room c =
    let a = c.args in room-first newline (room-then (room a.n a.start.now c.requires.has_room) c.put-x.ensures)

pub put-requires : goal.put-requires
unfolding name
put-requires c =
    let a = c.args in room-then (room-then (room a.n a.start.now c.requires.has_room) c.put-x.ensures) c.put_numbers-y.ensures

pub returns : goal.returns
unfolding name
returns c =
    let a = c.args in
    let r = room a.n a.start.now c.requires.has_room in
    subst⁻¹ (λ (t : List ℕ). Wrote a.at t a.out.now c.put.result c.put.new.out) (same_parts a.n a.start.now)
    (wrote_then r c.put-x.ensures
    (wrote_then {t = numbers 2 a.start.now 0 a.n} (room-then r c.put-x.ensures) c.put_numbers-y.ensures c.put.ensures))
