use Rattle.std.specs.Prelude.{[]}
use Rattle.std.proofs.Common.{subst as along}
use Rattle.dh_syntax.specs.Expressions.Arity.{IsWellFormed}
use Rattle.dh_syntax.specs.Typing.Inference.{Has}
use Rattle.dh_store.specs.Cells.{code_core}
use Rattle.dh_terms.specs.Cores.{nameless}
use Rattle.dh_infer.specs.Inside.Debts.{whole}
use Rattle.dh_infer.specs.Inside.Lettered.{lettered}
use Rattle.dh_infer.specs.Inside.Steps.{Ends}
use Rattle.dh_infer.specs.Inside.TypeAnswers.{Answers, AnswersFault}
use Rattle.dh_infer.proofs.Answering.{begins-ready, begins-work, told-ok, told-err}
use Rattle.dh_infer.proofs.inference.type_nameless.Goals as goal

pub run-requires-clause-ready : goal.run-requires-clause-ready
run-requires-clause-ready c = begins-ready c.load.new.codes c.in_ok-code.code (nameless c.args.e.now) c.in_ok-code.ensures.ok c.requires.closed c.new.result c.new-2.result c.new-3.result c.new.ensures c.new-2.ensures c.new-3.ensures c.in_ok-code.ensures.coded

pub run-requires-clause-at_work : goal.run-requires-clause-at_work
run-requires-clause-at_work c = ((c.args.purse.now.left, whole [] (lettered (nameless c.args.e.now))), (begins-work c.load.new.codes c.in_ok-code.code (nameless c.args.e.now) c.in_ok-code.ensures.ok c.requires.closed c.new.result c.new-2.result c.new-3.result c.new.ensures c.new-2.ensures c.new-3.ensures c.args.purse.now.left))

pub written-requires : goal.written-requires
written-requires c = record { coded = (along (Ends (c.args.purse.now.left, whole [] (lettered (nameless c.args.e.now))) c.run.new.typer c.run.new.purse.left) c.in-Ok-Typed.field-0-is (c.in-Ok-Typed.ensures.ok (c.args.purse.now.left, whole [] (lettered (nameless c.args.e.now))) (begins-work c.load.new.codes c.in_ok-code.code (nameless c.args.e.now) c.in_ok-code.ensures.ok c.requires.closed c.new.result c.new-2.result c.new-3.result c.new.ensures c.new-2.ensures c.new-3.ensures c.args.purse.now.left))).coded }

pub returns-in-Ok-Typed-clause-ok : goal.returns-in-Ok-Typed-clause-ok
returns-in-Ok-Typed-clause-ok c =
    told-ok c.written.result _ (λ t. Answers c.args.purse.now.left (nameless c.args.e.now) (Has (nameless t) c.run.new.purse.left)) (λ t f. f c.args.purse.now.left (nameless c.args.e.now) (along (Ends (c.args.purse.now.left, whole [] (lettered (nameless c.args.e.now))) c.run.new.typer c.run.new.purse.left) c.in-Ok-Typed.field-0-is (c.in-Ok-Typed.ensures.ok (c.args.purse.now.left, whole [] (lettered (nameless c.args.e.now))) (begins-work c.load.new.codes c.in_ok-code.code (nameless c.args.e.now) c.in_ok-code.ensures.ok c.requires.closed c.new.result c.new-2.result c.new-3.result c.new.ensures c.new-2.ensures c.new-3.ensures c.args.purse.now.left)))) c.written.ensures.ok

pub returns-in-Ok-Typed-clause-formed : goal.returns-in-Ok-Typed-clause-formed
returns-in-Ok-Typed-clause-formed c = told-ok c.written.result _ (λ t. IsWellFormed (nameless t)) (λ t f. f c.args.purse.now.left (nameless c.args.e.now) (along (Ends (c.args.purse.now.left, whole [] (lettered (nameless c.args.e.now))) c.run.new.typer c.run.new.purse.left) c.in-Ok-Typed.field-0-is (c.in-Ok-Typed.ensures.ok (c.args.purse.now.left, whole [] (lettered (nameless c.args.e.now))) (begins-work c.load.new.codes c.in_ok-code.code (nameless c.args.e.now) c.in_ok-code.ensures.ok c.requires.closed c.new.result c.new-2.result c.new-3.result c.new.ensures c.new-2.ensures c.new-3.ensures c.args.purse.now.left)))) c.written.ensures.formed

pub returns-in-Ok-Typed-clause-err : goal.returns-in-Ok-Typed-clause-err
returns-in-Ok-Typed-clause-err c = told-err c.written.result _ (λ f. AnswersFault c.args.purse.now.left (nameless c.args.e.now) f) (λ e f. f c.args.purse.now.left (nameless c.args.e.now) (along (Ends (c.args.purse.now.left, whole [] (lettered (nameless c.args.e.now))) c.run.new.typer c.run.new.purse.left) c.in-Ok-Typed.field-0-is (c.in-Ok-Typed.ensures.ok (c.args.purse.now.left, whole [] (lettered (nameless c.args.e.now))) (begins-work c.load.new.codes c.in_ok-code.code (nameless c.args.e.now) c.in_ok-code.ensures.ok c.requires.closed c.new.result c.new-2.result c.new-3.result c.new.ensures c.new-2.ensures c.new-3.ensures c.args.purse.now.left)))) c.written.ensures.err

pub returns-in-Ok-Failed-clause-err : goal.returns-in-Ok-Failed-clause-err
returns-in-Ok-Failed-clause-err c = c.refusal.ensures c.args.purse.now.left (nameless c.args.e.now) (code_core c.run.new.typer.codes) c.run.new.purse.left (along (Ends (c.args.purse.now.left, whole [] (lettered (nameless c.args.e.now))) c.run.new.typer c.run.new.purse.left) c.in-Ok-Failed.field-0-is (c.in-Ok-Failed.ensures.ok (c.args.purse.now.left, whole [] (lettered (nameless c.args.e.now))) (begins-work c.load.new.codes c.in_ok-code.code (nameless c.args.e.now) c.in_ok-code.ensures.ok c.requires.closed c.new.result c.new-2.result c.new-3.result c.new.ensures c.new-2.ensures c.new-3.ensures c.args.purse.now.left))).answer

pub returns-clause-err : goal.returns-clause-err
returns-clause-err c = c.halted.ensures c.args.purse.now.left (nameless c.args.e.now) (c.in-Err.ensures.err (c.args.purse.now.left, whole [] (lettered (nameless c.args.e.now))) (begins-work c.load.new.codes c.in_ok-code.code (nameless c.args.e.now) c.in_ok-code.ensures.ok c.requires.closed c.new.result c.new-2.result c.new-3.result c.new.ensures c.new-2.ensures c.new-3.ensures c.args.purse.now.left))
