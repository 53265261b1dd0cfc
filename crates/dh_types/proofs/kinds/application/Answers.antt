use Rattle.dh_types.proofs.kinds.application.Goals as goal

pub returns-in-Some-clause-older : goal.returns-in-Some-clause-older
returns-in-Some-clause-older c = c.application_in.ensures.there c.args.id c.in-Some.ensures.older
