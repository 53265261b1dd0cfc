use Rattle.std.proofs.Common.{ap, sym, ◌∙◌, subst as along}
use Rattle.std.specs.Prelude.{Option}
use Rattle.dh_imports.specs.declared.outcomes.Why.{Why}
use Rattle.dh_imports.specs.Resolver.{plan_fetch, unfetched}
use Rattle.dh_record.specs.Reading.{IsPlan, noted_of, record_by}
use Rattle.dh_record.proofs.stage.plans.plan_fetched.Goals as goal

pub returns-in-Some-clause-plan : goal.returns-in-Some-clause-plan
returns-in-Some-clause-plan c rows looks k p h r =
    along (λ (w : Option Why). IsPlan rows k (plan_fetch (record_by c.args.texts.now looks) k c.args.as_text w) c.faulty.result) (c.in-Some.ensures ∙ ap unfetched (sym p)) (c.faulty.ensures.plan rows k)

pub returns-in-Some-text_at-clause-fit : goal.returns-in-Some-text_at-clause-fit
returns-in-Some-text_at-clause-fit c s = c.plan_text.ensures.fit (s c.args.loc.now (noted_of c.in-Some-text_at.text.now) (sym c.in-Some-text_at.ensures.noted))
