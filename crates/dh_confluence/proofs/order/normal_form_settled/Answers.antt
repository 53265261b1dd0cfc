use Rattle.dh_confluence.proofs.OneEnd.{normal_form_settled, end_is_normal}
use Rattle.dh_confluence.proofs.order.normal_form_settled.Goals as goal

pub returns-clause-settled : goal.returns-clause-settled
returns-clause-settled c = normal_form_settled

pub returns-clause-end_is_normal : goal.returns-clause-end_is_normal
returns-clause-end_is_normal c = end_is_normal
