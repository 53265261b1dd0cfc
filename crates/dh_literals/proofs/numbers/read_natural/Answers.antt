use Rattle.std.proofs.Common.{◌∙◌, ◌∷◌, ap, sym}
use Rattle.dh_literals.proofs.NumbersRead.{reads_hexadecimal, reads_decimal}
use Rattle.dh_literals.proofs.numbers.read_natural.Goals as goal

pub returns-in-Some : goal.returns-in-Some
returns-in-Some c =
    let cut = c.in-Some.ensures.cases in
    c.ok.ensures.value ∙ reads_hexadecimal c.args.digits.now c.in-Some.hexadecimal.now c.from_str_radix.result (cut.1.1 ∙ ap (λ t. 48 ∷ 120 ∷ t) (sym cut.2)) c.requires c.from_str_radix.ensures.value

pub returns-in-None : goal.returns-in-None
returns-in-None c = c.ok-in-None.ensures.value ∙ reads_decimal c.args.digits.now c.from_str_radix-in-None.result c.in-None.ensures.cases c.requires c.from_str_radix-in-None.ensures.value
