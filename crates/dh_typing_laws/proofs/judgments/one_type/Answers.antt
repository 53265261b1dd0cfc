use Rattle.dh_typing_laws.proofs.Typing.OneTyping.{one_type, one_refusal, type_or_refusal}
use Rattle.dh_typing_laws.proofs.judgments.one_type.Goals as goal

pub returns-clause-one : goal.returns-clause-one
returns-clause-one c = one_type

pub returns-clause-refusal : goal.returns-clause-refusal
returns-clause-refusal c = one_refusal

pub returns-clause-not_both : goal.returns-clause-not_both
returns-clause-not_both c = type_or_refusal
