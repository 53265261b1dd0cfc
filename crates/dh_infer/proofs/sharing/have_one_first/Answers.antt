use Rattle.std.proofs.Common.{sym, ◌∙◌}
use Rattle.dh_types.proofs.ChangedCodes.{same-number}
use Rattle.dh_infer.proofs.AlikeCodes.{one-first}
use Rattle.dh_infer.proofs.sharing.have_one_first.Goals as goal

pub returns-in-Some-Some : goal.returns-in-Some-Some
returns-in-Some-Some c = λ e g h.
    one-first g c.args.firsts.now c.args.code c.args.other c.in-Some-Some.first c.in-Some-Some.second (sym c.first_at.ensures ∙ c.in-Some-Some.is-0) (sym c.first_at-2.ensures ∙ c.in-Some-Some.is-1)
    (same-number c.in-Some-Some.first c.in-Some-Some.second e) h
