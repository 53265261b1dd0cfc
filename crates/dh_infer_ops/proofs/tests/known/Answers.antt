use Rattle.dh_infer_ops.proofs.tests.known.Goals as goal

pub returns-clause-there : goal.returns-clause-there
returns-clause-there c = λ cs h. record { first = h; second = h; third = h }

pub returns-clause-closed : goal.returns-clause-closed
returns-clause-closed c = λ f h. record { first = h; second = h; third = h }
