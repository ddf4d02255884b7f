use Rattle.integers.proofs.Kit.{◌≡◌, ◌∙◌, ap, Bool, drop, rules}
use mir.Val.{bool_byte}
use Rattle.numerals.specs.Numeral.{negative, unsigned}
use Rattle.numerals.proofs.Laws.{past-minus}
use Rattle.grammar.specs.Grammar.{magnitude}
use Rattle.grammar.specs.Steps.{bytes_of}
use Rattle.grammar.proofs.magnitude_of.Goals as goal

pub returns : goal.returns
unfolding magnitude
returns c =
    let x = c.in-Some.field-0 in
    let b = bytes_of c.args.file.now x.start x.stop in
    let e : drop (bool_byte c.is_negative-from.result) b ≡ unsigned b =
    ap (λ (t : Bool). drop (bool_byte t) b) c.is_negative-from.ensures ∙ past-minus (negative b) b in
    let h = rw e at c.amount_in.ensures in
    search rules
