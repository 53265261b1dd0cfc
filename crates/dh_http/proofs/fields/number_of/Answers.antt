use Rattle.std.proofs.Common.{sym, arith}
use Rattle.dh_http.proofs.FieldLaws.{reads_none, reads_fits, reads_more}
use Rattle.dh_http.proofs.fields.number_of.Goals as goal

pub loop-digit-init : goal.loop-digit-init
loop-digit-init c = reads_none _

pub overflow_mul-number : goal.overflow_mul-number
overflow_mul-number c = omega (arith, reads_fits _ _ _ c.loop-digit.invariant (omega arith))

pub overflow_add-number : goal.overflow_add-number
overflow_add-number c = omega (arith, reads_fits _ _ _ c.loop-digit.invariant (omega arith), c.if-not-is_ascii_digit.ensures.cases)

pub loop-digit-preserved : goal.loop-digit-preserved
loop-digit-preserved c =
    reads_more _ _ _ _ c.loop-digit.invariant c.loop-digit-test.true (sym c.if-not-is_ascii_digit.ensures.value)
    c.if-not-is_ascii_digit.ensures.cases (omega (arith, c.from.ensures, c.if-not-is_ascii_digit.ensures.cases))
