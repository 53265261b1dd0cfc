use Rattle.std.proofs.Common.{sym, subst as along}
use Rattle.dh_terms.specs.Cores.{nameless}
use Rattle.dh_infer.specs.Inside.TypeAnswers.{AnswersFault}
use Rattle.dh_infer.proofs.Answering.{written-type, written-formed, written-fault}
use Rattle.dh_infer.proofs.inference.written.Goals as goal

pub returns-in-Ok-clause-ok : goal.returns-in-Ok-clause-ok
returns-in-Ok-clause-ok c = λ units e ends. written-type units e c.args.typer.now c.args.purse.now.left c.args.typed ends (nameless c.in-Ok.written) c.in-Ok.ensures.ok

pub returns-in-Ok-clause-formed : goal.returns-in-Ok-clause-formed
returns-in-Ok-clause-formed c = λ units e ends. written-formed units e c.args.typer.now c.args.purse.now.left c.args.typed ends (nameless c.in-Ok.written) c.in-Ok.ensures.ok

pub returns-in-Err-clause-err : goal.returns-in-Err-clause-err
returns-in-Err-clause-err c = λ units e ends.
    along (AnswersFault units e) (sym c.limit.ensures) (written-fault units e c.args.typer.now c.args.purse.now.left c.args.typed ends c.in-Err.fault c.in-Err.ensures.err)
