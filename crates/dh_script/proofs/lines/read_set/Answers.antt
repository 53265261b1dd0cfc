use Rattle.std.proofs.Common.{◌∙◌, subst, sym}
use Rattle.dh_script.specs.Reads.{IsLocated}
use Rattle.dh_script.proofs.Lining.{set-is, set-without_blank, set-without_bytes, set-without_place}
use Rattle.dh_script.proofs.lines.read_set.Goals as goal

pub returns-in_default-clause-order : goal.returns-in_default-clause-order
returns-in_default-clause-order c = set-without_blank c.args.rest.now c.in_default.ensures

pub returns-in_default-2-clause-order : goal.returns-in_default-2-clause-order
returns-in_default-2-clause-order c =
    set-without_bytes c.args.rest.now c.in-Some.text.now c.in-Some.digits.now c.in-Some.ensures.0 c.in-Some.ensures.1 (sym c.in_default-2.is ∙ c.in_ok-bytes.ensures)

pub returns-in-Some-3-clause-order : goal.returns-in-Some-3-clause-order
returns-in-Some-3-clause-order c =
    set-is c.args.rest.now c.in-Some.text.now c.in-Some.digits.now c.in-Some.ensures.0 c.in-Some.ensures.1 c.in-Some-2.bytes c.in-Some-3.loc
    (sym c.in-Some-2.is ∙ c.in_ok-bytes.ensures) (subst (IsLocated c.in-Some.text.now) c.in-Some-3.is c.in_ok-loc.ensures.located)

pub returns-in-None-clause-order : goal.returns-in-None-clause-order
returns-in-None-clause-order c =
    set-without_place c.args.rest.now c.in-Some.text.now c.in-Some.digits.now c.in-Some.ensures.0 c.in-Some.ensures.1
    (subst (IsLocated c.in-Some.text.now) c.in-None.is c.in_ok-loc.ensures.located)
