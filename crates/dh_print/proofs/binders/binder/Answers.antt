use Rattle.std.proofs.Common.{sym, ◌∙◌}
use Rattle.dh_print.proofs.LastBinder.{last_binder-last, last_binder-none}
use Rattle.dh_print.proofs.binders.binder.Goals as goal

pub returns-in-Some : goal.returns-in-Some
returns-in-Some c = c.as_ref.ensures.value ∙ sym (last_binder-last c.args.kids.now _ _ c.in-Some.ensures.cases.0)

pub returns-in-None : goal.returns-in-None
returns-in-None c = sym (last_binder-none c.args.kids.now c.in-None.ensures.cases)
