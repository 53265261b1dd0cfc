use Rattle.std.proofs.Common.{◌<◌, arith}
use Rattle.dh_tokens.proofs.CodeSteps.{code_fits, code_has_room}
use Rattle.dh_tokens.proofs.characters.+code_after.Goals as goal

pub overflow_mul-code : goal.overflow_mul-code
overflow_mul-code t c =
    let some : 0 < c.args.count = omega arith in
    let low : c.from-bits.result < 256 = omega arith in
    omega (arith, code_fits c.args.count c.args.code c.from-bits.result some c.requires.few c.requires.small low)

pub overflow_add-code : goal.overflow_add-code
overflow_add-code t c =
    let some : 0 < c.args.count = omega arith in
    let low : c.from-bits.result < 256 = omega arith in
    omega (arith, code_fits c.args.count c.args.code c.from-bits.result some c.requires.few c.requires.small low)

pub code_after-requires : goal.code_after-requires
code_after-requires t c =
    let some : 0 < c.args.count = omega arith in
    let low : c.from-bits.result < 256 = omega arith in
    (omega arith, (omega arith, code_has_room c.args.count c.args.code c.from-bits.result some c.requires.few c.requires.small low))
