-- The lines of the header, each with its name.
use Rattle.integers.proofs.Kit.{ℕ, List, [], ◌∷◌}
use Rattle.tables.specs.declared.Counts.{Counts}
use Rattle.written.specs.Text.{whole, fixed, line}

abbrev pub discount_line : Counts → List ℕ
discount_line c = line (100 ∷ 105 ∷ 115 ∷ 99 ∷ 111 ∷ 117 ∷ 110 ∷ 116 ∷ []) (fixed 3 c.discount)

abbrev pub values_line : List ℕ
values_line = line (118 ∷ 97 ∷ 108 ∷ 117 ∷ 101 ∷ 115 ∷ []) (114 ∷ 101 ∷ 119 ∷ 97 ∷ 114 ∷ 100 ∷ [])

abbrev pub states_line : Counts → List ℕ
states_line c = line (115 ∷ 116 ∷ 97 ∷ 116 ∷ 101 ∷ 115 ∷ []) (whole c.states)

abbrev pub actions_line : Counts → List ℕ
actions_line c = line (97 ∷ 99 ∷ 116 ∷ 105 ∷ 111 ∷ 110 ∷ 115 ∷ []) (whole c.actions)

abbrev pub observations_line : Counts → List ℕ
observations_line c = line (111 ∷ 98 ∷ 115 ∷ 101 ∷ 114 ∷ 118 ∷ 97 ∷ 116 ∷ 105 ∷ 111 ∷ 110 ∷ 115 ∷ []) (whole c.observations)
