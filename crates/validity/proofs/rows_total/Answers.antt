use Rattle.validity.proofs.Prelude.{ℕ, ◌+◌, ◌*◌, ◌<◌, ◌≡◌, sym, ap, ◌∙◌, arith, Bool, get_or, total_to, cell_below, row_below, one}
use Rattle.integers.proofs.Kit.{ne_eqb, eq-eqb}
use Rattle.refusals.specs.Verdicts.{Refused, unless}
use Rattle.tables.specs.Judged.{rows_total}
use Rattle.refusals.proofs.Refusals.{first-none, first_more, first-here}
use Rattle.validity.proofs.rows_total.Goals as goal
use Rattle.validity.proofs.rows_total.Goals.{After-row_total}

-- the total, by the row's own number
said : (c : After-row_total) → c.row_total.result ≡ total_to c.args.w (λ x. get_or c.args.cells.now ((c.loop-a.a * c.args.n + c.loop-s.s) * c.args.w + x) 0)
said c =
    let at_is = c.start.ensures ∙ ap (λ (r : ℕ). r * c.args.w) c.row-row.ensures.0 in
    c.row_total.ensures ∙ ap (λ (z : ℕ). total_to c.args.w (λ x. get_or c.args.cells.now (z + x) 0)) at_is

pub loop-a-init : goal.loop-a-init
loop-a-init c = first-none _

pub loop-s-init : goal.loop-s-init
loop-s-init c = first-none _

-- the row lies in the table
pub row_total-requires : goal.row_total-requires
row_total-requires c =
    let a = c.args in
    let r : c.loop-a.a * a.n + c.loop-s.s < a.m * a.n = cell_below c.loop-a.a a.m c.loop-s.s a.n (omega arith) (omega arith) in
    (rw (c.start.ensures, c.row-row.ensures.0) (omega (arith, row_below _ _ a.w r, c.requires.w_in_bounds)), omega arith)

pub loop-s-preserved : goal.loop-s-preserved
loop-s-preserved c =
    let a = c.args in
    let t = said (goal.at.loop-s-preserved c).After-row_total in
    first_more _ _ c.loop-s.invariant
    (ap (λ (b : Bool). unless b a.number (c.loop-a.a * a.n + c.loop-s.s)) (eq-eqb _ one (sym t ∙ c.if-row_total-ne-ONE.false)))

pub loop-a-preserved : goal.loop-a-preserved
loop-a-preserved c =
    let e : c.loop-s.s ≡ c.args.n = omega arith in
    first_more _ _ c.loop-a.invariant (rw e at c.loop-s.invariant)

pub returns-then-row_total-ne-ONE : goal.returns-then-row_total-ne-ONE
unfolding rows_total
returns-then-row_total-ne-ONE c =
    let a = c.args in
    let t = said (goal.at.returns-then-row_total-ne-ONE c).After-row_total in
    ap (Refused a.number) c.row-row.ensures.0 ∙ sym (first-here _ _ c.loop-a.a (omega arith) c.loop-a.invariant
    (first-here _ _ c.loop-s.s (omega arith) c.loop-s.invariant
    (ap (λ (b : Bool). unless b a.number (c.loop-a.a * a.n + c.loop-s.s)) (ne_eqb _ one (λ e. c.if-row_total-ne-ONE.true (t ∙ e))))))
