use Rattle.integers.proofs.Kit.{◌∙◌, ap, sym, ◌<◌, ◌^◌, rules, mag}
use Rattle.integers.proofs.Words.{back}
use Rattle.exports_totals.specs.Calls.{totals_by}
use Rattle.exports_totals.proofs.biidhaqun_totals.Goals as goal

pub returns-in-Ok : goal.returns-in-Ok
returns-in-Ok c =
    let r = c.in-Ok.bounds in
    let fits = rw c.in-Ok.is at c.totals.type_inv in
    let lower : mag r.lower < 2 ^ 63 = search (rules, fits) in
    let upper : mag r.upper < 2 ^ 63 = search (rules, fits) in
    let gap : mag r.gap < 2 ^ 63 = search (rules, fits) in
    let sawtooth : mag r.sawtooth < 2 ^ 63 = search (rules, fits) in
    let informed : mag r.informed < 2 ^ 63 = search (rules, fits) in
    λ choices.
    let said = c.totals.ensures choices in
    rw (back r.lower lower, back r.upper upper, back r.gap gap, back r.sawtooth sawtooth, back r.informed informed) (
      ap totals_by (sym c.in-Ok.is ∙ said.0),
      λ m₀ x es o e h b. record { bounds = c.totals.result; answer = ap totals_by (sym c.in-Ok.is); holds = said.1 m₀ x es o e h b },
    )

pub returns-in-Err : goal.returns-in-Err
returns-in-Err c choices =
    let said = c.totals.ensures choices in
    rw c.refusal_of-refusal.ensures (
      ap totals_by (sym c.in-Err.is ∙ said.0),
      λ m₀ x es o e h b. record { bounds = c.totals.result; answer = ap totals_by (sym c.in-Err.is); holds = said.1 m₀ x es o e h b },
    )
