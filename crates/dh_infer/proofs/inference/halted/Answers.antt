use Rattle.std.specs.Prelude.{[], ℕ}
use Rattle.std.proofs.Common.{sym, subst as along}
use Rattle.dh_infer.specs.Inside.TypeAnswers.{AnswersFault}
use Rattle.dh_infer.proofs.Answering.{halted-fault}
use Rattle.dh_infer.proofs.inference.halted.Goals as goal

pub returns : goal.returns
returns c = λ units e h. along (AnswersFault units e) (sym c.limit.ensures) (halted-fault units e c.args.fault h)
