use Rattle.std.specs.Prelude.{Ok}
use Rattle.integers.proofs.Kit.{ℕ, ◌≤◌, List, refl}
use Rattle.tables.specs.Limits.{max_states, max_actions, max_observations}
use Rattle.words.specs.Words.{words_in, between}
use Rattle.numerals.specs.Numeral.{count_form}
use Rattle.grammar.specs.declared.Read.{Read}
use Rattle.grammar.specs.Grammar.{field}
use Rattle.grammar.specs.Steps.{Reads}
use Rattle.grammar.proofs.Laws.{reads_on, tells_as}
use Rattle.grammar.proofs.Gives.{given-value, field-gives}
use Rattle.headers.specs.Headers.{states_name, actions_name, observations_name, counts_with}
use Rattle.headers.proofs.counted_at.Goals as goal

-- a count that was read
count-within : (name : List ℕ) (most : ℕ) {file : List ℕ} {at : ℕ} {x : Read ℕ}
    → Reads file at most (Ok x) (field name count_form 1 most (words_in between file at)) → (1 ≤ x.value) × (x.value ≤ most)
count-within name most {file} {at} t =
    given-value (λ v. (1 ≤ v) × (v ≤ most)) (field-gives name count_form 1 most (words_in between file at)) t.is

pub returns : goal.returns
returns c =
    let n = c.in_ok-n in
    let m = c.in_ok-m in
    let k = c.in_ok-k in
    reads_on _ n.ensures (reads_on _ m.ensures (tells_as (λ k. counts_with n.n.value m.m.value k c.args.discount) _ k.ensures
    (record {
      states = count-within states_name max_states n.ensures;
      actions = count-within actions_name max_actions m.ensures;
      observations = count-within observations_name max_observations k.ensures;
      discount = c.requires.1;
    }) refl refl))
