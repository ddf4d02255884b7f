use Rattle.integers.proofs.Kit.{◌∙◌, ap, sym, ◌<◌, ◌^◌, rules, mag}
use Rattle.integers.proofs.Words.{back}
use Rattle.exports_totals.specs.Calls.{totals_within_by}
use Rattle.exports_totals.proofs.biidhaqun_within.Goals as goal

pub returns-in-Ok : goal.returns-in-Ok
returns-in-Ok c =
    let r = c.in-Ok.within in
    let fits = rw c.in-Ok.is at c.totals_within.type_inv in
    let lower : mag r.lower < 2 ^ 63 = search (rules, fits) in
    let upper : mag r.upper < 2 ^ 63 = search (rules, fits) in
    λ choices.
    let said = c.totals_within.ensures choices in
    rw (back r.lower lower, back r.upper upper) (
      ap totals_within_by (sym c.in-Ok.is ∙ said.0),
      λ m₀ x es o e h b. record { within = c.totals_within.result; answer = ap totals_within_by (sym c.in-Ok.is); holds = said.1 m₀ x es o e h b },
    )

pub returns-in-Err : goal.returns-in-Err
returns-in-Err c choices =
    let said = c.totals_within.ensures choices in
    rw c.refusal_of-refusal.ensures (
      ap totals_within_by (sym c.in-Err.is ∙ said.0),
      λ m₀ x es o e h b. record { within = c.totals_within.result; answer = ap totals_within_by (sym c.in-Err.is); holds = said.1 m₀ x es o e h b },
    )
