use Rattle.dh_types.proofs.kinds.equivalence.Goals as goal

pub returns-in-Some-clause-older : goal.returns-in-Some-clause-older
returns-in-Some-clause-older c = c.equivalence_in.ensures.there c.args.id c.in-Some.ensures.older
