use Rattle.std.proofs.Common.{ap, sym, ◌∙◌}
use Rattle.std.specs.Option.{option_copied}
use Rattle.dh_json.proofs.Parts.{first_none, first_bound, first_plain}
use Rattle.dh_json.proofs.forms.first_part.Goals as goal

pub returns-in-Some-binder : goal.returns-in-Some-binder
returns-in-Some-binder c = first_bound c.args.kids.now c.in-Some.kid.now c.in-Some-binder.field-0 (ap option_copied (sym c.in-Some.is) ∙ c.first.ensures.value) c.in-Some-binder.is

pub returns-in-None-binder : goal.returns-in-None-binder
returns-in-None-binder c = first_plain c.args.kids.now c.in-Some.kid.now (ap option_copied (sym c.in-Some.is) ∙ c.first.ensures.value) c.in-None-binder.is

pub returns-in-None : goal.returns-in-None
returns-in-None c = first_none c.args.kids.now (ap option_copied (sym c.in-None.is) ∙ c.first.ensures.value)
