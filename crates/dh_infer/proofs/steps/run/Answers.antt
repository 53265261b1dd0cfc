use Rattle.std.specs.Prelude.{refl}
use Rattle.dh_norm.proofs.Running.{handed-on}
use Rattle.dh_infer.proofs.Remembering.{keeps-after, keeps-joined, work-after}
use Rattle.dh_infer.proofs.Stepping.{advances-itself, advances-after, ready-after, halts-after, advances-taken, advances-in, ends-typed, ends-failed, joined}
use Rattle.dh_infer.proofs.steps.run.Goals as goal
use Rattle.dh_infer.proofs.steps.run.Goals.{in-Type+in_ok-state-in-Type, in-Parts+in_ok-state-in-Parts, in-Rule+in_ok-state-in-Rule, in-Bind+in_ok-state-in-Bind, in-Typed+in_ok-typed-in-Typed+in-Some+in_ok-state-in-Some, in-Failed+in-Some-pop+in_ok-state-in-Some-pop}

pub steps-init : goal.steps-init
steps-init c = record { advances = advances-itself c.args.typer.now c.args.start c.args.purse.now.left c.requires.ready; known = λ g m. c.new-known.ensures g }

pub begin_unknown-requires-clause-ready : goal.begin_unknown-requires-clause-ready
begin_unknown-requires-clause-ready c = ready-after c.args.typer.now c.steps.typer c.args.start _ c.args.purse.now.left c.steps.purse.left c.requires.at_work (advances-in c.args.typer.now c.steps.typer c.args.start _ _ c.args.purse.now.left c.steps.purse.left c.in-Type.is c.steps.invariant.advances)

pub next_part-requires : goal.next_part-requires
next_part-requires c = record { ready = ready-after c.args.typer.now c.steps.typer c.args.start _ c.args.purse.now.left c.steps.purse.left c.requires.at_work (advances-in c.args.typer.now c.steps.typer c.args.start _ _ c.args.purse.now.left c.steps.purse.left c.in-Parts.is c.steps.invariant.advances) }

pub ask-requires-clause-ready : goal.ask-requires-clause-ready
ask-requires-clause-ready c = ready-after c.args.typer.now c.steps.typer c.args.start _ c.args.purse.now.left c.steps.purse.left c.requires.at_work (advances-in c.args.typer.now c.steps.typer c.args.start _ _ c.args.purse.now.left c.steps.purse.left c.in-Rule.is c.steps.invariant.advances)

pub bind-requires-clause-ready : goal.bind-requires-clause-ready
bind-requires-clause-ready c = ready-after c.args.typer.now c.steps.typer c.args.start _ c.args.purse.now.left c.steps.purse.left c.requires.at_work (advances-in c.args.typer.now c.steps.typer c.args.start _ _ c.args.purse.now.left c.steps.purse.left c.in-Bind.is c.steps.invariant.advances)

pub settled-requires-clause-ready : goal.settled-requires-clause-ready
settled-requires-clause-ready c = ready-after c.args.typer.now c.steps.typer c.args.start _ c.args.purse.now.left c.steps.purse.left c.requires.at_work (advances-in c.args.typer.now c.steps.typer c.args.start _ _ c.args.purse.now.left c.steps.purse.left c.in-Typed.is c.steps.invariant.advances)

pub returns-in_err-state-in-Type-clause-err : goal.returns-in_err-state-in-Type-clause-err
returns-in_err-state-in-Type-clause-err c =
    handed-on c.from_residual.result c.in_err-state-in-Type.field-0.0 _ c.from_residual.ensures.1
    (halts-after c.args.typer.now c.steps.typer c.args.start _ c.args.purse.now.left c.steps.purse.left _ (advances-in c.args.typer.now c.steps.typer c.args.start _ _ c.args.purse.now.left c.steps.purse.left c.in-Type.is c.steps.invariant.advances) c.in_err-state-in-Type.ensures.err)

pub returns-in_err-state-in-Parts-clause-err : goal.returns-in_err-state-in-Parts-clause-err
returns-in_err-state-in-Parts-clause-err c =
    handed-on c.from_residual-in_err-state-in-Parts.result c.in_err-state-in-Parts.field-0.0 _ c.from_residual-in_err-state-in-Parts.ensures.1
    (halts-after c.args.typer.now c.steps.typer c.args.start _ c.args.purse.now.left c.steps.purse.left _ (advances-in c.args.typer.now c.steps.typer c.args.start _ _ c.args.purse.now.left c.steps.purse.left c.in-Parts.is c.steps.invariant.advances) c.in_err-state-in-Parts.ensures.err)

pub returns-in_err-state-in-Rule-clause-err : goal.returns-in_err-state-in-Rule-clause-err
returns-in_err-state-in-Rule-clause-err c =
    handed-on c.from_residual-in_err-state-in-Rule.result c.in_err-state-in-Rule.field-0.0 _ c.from_residual-in_err-state-in-Rule.ensures.1
    (halts-after c.args.typer.now c.steps.typer c.args.start _ c.args.purse.now.left c.steps.purse.left _ (advances-in c.args.typer.now c.steps.typer c.args.start _ _ c.args.purse.now.left c.steps.purse.left c.in-Rule.is c.steps.invariant.advances) c.in_err-state-in-Rule.ensures.err)

pub returns-in_err-state-in-Bind-clause-err : goal.returns-in_err-state-in-Bind-clause-err
returns-in_err-state-in-Bind-clause-err c =
    handed-on c.from_residual-in_err-state-in-Bind.result c.in_err-state-in-Bind.field-0.0 _ c.from_residual-in_err-state-in-Bind.ensures.1
    (halts-after c.args.typer.now c.steps.typer c.args.start _ c.args.purse.now.left c.steps.purse.left _ (advances-in c.args.typer.now c.steps.typer c.args.start _ _ c.args.purse.now.left c.steps.purse.left c.in-Bind.is c.steps.invariant.advances) c.in_err-state-in-Bind.ensures.err)

pub returns-in-None-clause-ok : goal.returns-in-None-clause-ok
returns-in-None-clause-ok c = λ root work.
    ends-typed c.args.typer.now c.steps.typer c.args.start c.args.purse.now.left c.steps.purse.left c.in-None.ensures.none c.pop.new.self c.in_ok-typed-in-Typed.typed
    (advances-after c.args.typer.now c.steps.typer c.steps.typer c.args.start _ _ c.args.purse.now.left c.steps.purse.left c.steps.purse.left (advances-in c.args.typer.now c.steps.typer c.args.start _ _ c.args.purse.now.left c.steps.purse.left c.in-Typed.is c.steps.invariant.advances) c.in_ok-typed-in-Typed.ensures.ok) root work

pub step_found-requires-clause-ready : goal.step_found-requires-clause-ready
step_found-requires-clause-ready c =
    ready-after c.args.typer.now _ c.args.start _ c.args.purse.now.left c.steps.purse.left c.requires.at_work
    (advances-taken c.args.typer.now c.steps.typer c.in-Some.frame c.pop.new.self c.args.start _ _ c.args.purse.now.left c.steps.purse.left c.in-Some.ensures.some refl (advances-after c.args.typer.now c.steps.typer c.steps.typer c.args.start _ _ c.args.purse.now.left c.steps.purse.left c.steps.purse.left (advances-in c.args.typer.now c.steps.typer c.args.start _ _ c.args.purse.now.left c.steps.purse.left c.in-Typed.is c.steps.invariant.advances) c.in_ok-typed-in-Typed.ensures.ok))

pub step_found-requires-clause-at_work : goal.step_found-requires-clause-at_work
step_found-requires-clause-at_work c =
    work-after c.args.typer.now _ c.args.start _ c.args.purse.now.left c.steps.purse.left c.requires.at_work
    (advances-taken c.args.typer.now c.steps.typer c.in-Some.frame c.pop.new.self c.args.start _ _ c.args.purse.now.left c.steps.purse.left c.in-Some.ensures.some refl (advances-after c.args.typer.now c.steps.typer c.steps.typer c.args.start _ _ c.args.purse.now.left c.steps.purse.left c.steps.purse.left (advances-in c.args.typer.now c.steps.typer c.args.start _ _ c.args.purse.now.left c.steps.purse.left c.in-Typed.is c.steps.invariant.advances) c.in_ok-typed-in-Typed.ensures.ok))

pub returns-in_err-state-in-Some-clause-err : goal.returns-in_err-state-in-Some-clause-err
returns-in_err-state-in-Some-clause-err c =
    handed-on c.from_residual-in_err-state-in-Some.result c.in_err-state-in-Some.field-0.0 _ c.from_residual-in_err-state-in-Some.ensures.1
    (halts-after c.args.typer.now _ c.args.start _ c.args.purse.now.left c.steps.purse.left _
    (advances-taken c.args.typer.now c.steps.typer c.in-Some.frame c.pop.new.self c.args.start _ _ c.args.purse.now.left c.steps.purse.left c.in-Some.ensures.some refl (advances-after c.args.typer.now c.steps.typer c.steps.typer c.args.start _ _ c.args.purse.now.left c.steps.purse.left c.steps.purse.left (advances-in c.args.typer.now c.steps.typer c.args.start _ _ c.args.purse.now.left c.steps.purse.left c.in-Typed.is c.steps.invariant.advances) c.in_ok-typed-in-Typed.ensures.ok)) c.in_err-state-in-Some.ensures.err)

pub returns-in-None-pop-clause-ok : goal.returns-in-None-pop-clause-ok
returns-in-None-pop-clause-ok c = λ root work.
    ends-failed c.args.typer.now c.steps.typer c.args.start c.args.purse.now.left c.steps.purse.left c.in-None-pop.ensures.none c.pop-in-Failed.new.self c.in-Failed.failure (advances-in c.args.typer.now c.steps.typer c.args.start _ _ c.args.purse.now.left c.steps.purse.left c.in-Failed.is c.steps.invariant.advances) root work

pub fail-requires : goal.fail-requires
fail-requires c = record { ready = ready-after c.args.typer.now _ c.args.start _ c.args.purse.now.left c.steps.purse.left c.requires.at_work (advances-taken c.args.typer.now c.steps.typer c.in-Some-pop.frame c.pop-in-Failed.new.self c.args.start _ _ c.args.purse.now.left c.steps.purse.left c.in-Some-pop.ensures.some c.in-Failed.is c.steps.invariant.advances) }

pub returns-in_err-state-in-Some-pop-clause-err : goal.returns-in_err-state-in-Some-pop-clause-err
returns-in_err-state-in-Some-pop-clause-err c =
    handed-on c.from_residual-in_err-state-in-Some-pop.result c.in_err-state-in-Some-pop.field-0.0 _ c.from_residual-in_err-state-in-Some-pop.ensures.1
    (halts-after c.args.typer.now _ c.args.start _ c.args.purse.now.left c.steps.purse.left _ (advances-taken c.args.typer.now c.steps.typer c.in-Some-pop.frame c.pop-in-Failed.new.self c.args.start _ _ c.args.purse.now.left c.steps.purse.left c.in-Some-pop.ensures.some c.in-Failed.is c.steps.invariant.advances) c.in_err-state-in-Some-pop.ensures.err)

pub steps-preserved : goal.steps-preserved
steps-preserved c =
    elim c.match-state.branch [
      | in-Type+in_ok-state-in-Type w ↦ record {
        advances =
            joined _ _ _ _ _ _ _ _ _ w.typer-is w.purse-is w.state-is
            (advances-after c.args.typer.now c.steps.typer _ c.args.start _ _ c.args.purse.now.left c.steps.purse.left _
            (advances-in c.args.typer.now c.steps.typer c.args.start _ _ c.args.purse.now.left c.steps.purse.left w.in-Type.is c.steps.invariant.advances) w.in_ok-state-in-Type.ensures.ok);
        known = keeps-joined _ _ _ _ w.typer-is w.known-is (keeps-after _ _ _ _ _ _ _ w.in_ok-state-in-Type.ensures.ok c.steps.invariant.known);
      }
      | in-Parts+in_ok-state-in-Parts w ↦ record {
        advances =
            joined _ _ _ _ _ _ _ _ _ w.typer-is w.purse-is w.state-is
            (advances-after c.args.typer.now c.steps.typer _ c.args.start _ _ c.args.purse.now.left c.steps.purse.left _
            (advances-in c.args.typer.now c.steps.typer c.args.start _ _ c.args.purse.now.left c.steps.purse.left w.in-Parts.is c.steps.invariant.advances) w.in_ok-state-in-Parts.ensures.ok);
        known = keeps-joined _ _ _ _ w.typer-is w.known-is (keeps-after _ _ _ _ _ _ _ w.in_ok-state-in-Parts.ensures.ok c.steps.invariant.known);
      }
      | in-Rule+in_ok-state-in-Rule w ↦ record {
        advances =
            joined _ _ _ _ _ _ _ _ _ w.typer-is w.purse-is w.state-is
            (advances-after c.args.typer.now c.steps.typer _ c.args.start _ _ c.args.purse.now.left c.steps.purse.left _
            (advances-in c.args.typer.now c.steps.typer c.args.start _ _ c.args.purse.now.left c.steps.purse.left w.in-Rule.is c.steps.invariant.advances) w.in_ok-state-in-Rule.ensures.ok);
        known = keeps-joined _ _ _ _ w.typer-is w.known-is w.in_ok-state-in-Rule.ensures.known;
      }
      | in-Bind+in_ok-state-in-Bind w ↦ record {
        advances =
            joined _ _ _ _ _ _ _ _ _ w.typer-is w.purse-is w.state-is
            (advances-after c.args.typer.now c.steps.typer _ c.args.start _ _ c.args.purse.now.left c.steps.purse.left _
            (advances-in c.args.typer.now c.steps.typer c.args.start _ _ c.args.purse.now.left c.steps.purse.left w.in-Bind.is c.steps.invariant.advances) w.in_ok-state-in-Bind.ensures.ok);
        known = keeps-joined _ _ _ _ w.typer-is w.known-is w.in_ok-state-in-Bind.ensures.known;
      }
      | in-Typed+in_ok-typed-in-Typed+in-Some+in_ok-state-in-Some w ↦ record {
        advances =
            joined _ _ _ _ _ _ _ _ _ w.typer-is w.purse-is w.state-is
            (advances-after c.args.typer.now _ _ c.args.start _ _ c.args.purse.now.left c.steps.purse.left _
            (advances-taken c.args.typer.now c.steps.typer w.in-Some.frame w.pop.new.self c.args.start _ _ c.args.purse.now.left c.steps.purse.left w.in-Some.ensures.some refl (advances-after c.args.typer.now c.steps.typer c.steps.typer c.args.start _ _ c.args.purse.now.left c.steps.purse.left c.steps.purse.left (advances-in c.args.typer.now c.steps.typer c.args.start _ _ c.args.purse.now.left c.steps.purse.left w.in-Typed.is c.steps.invariant.advances) w.in_ok-typed-in-Typed.ensures.ok)) w.in_ok-state-in-Some.ensures.ok);
        known = keeps-joined _ _ _ _ w.typer-is w.known-is w.in_ok-state-in-Some.ensures.known;
      }
      | in-Failed+in-Some-pop+in_ok-state-in-Some-pop w ↦ record {
        advances =
            joined _ _ _ _ _ _ _ _ _ w.typer-is w.purse-is w.state-is
            (advances-after c.args.typer.now _ _ c.args.start _ _ c.args.purse.now.left c.steps.purse.left _
            (advances-taken c.args.typer.now c.steps.typer w.in-Some-pop.frame w.pop-in-Failed.new.self c.args.start _ _ c.args.purse.now.left c.steps.purse.left w.in-Some-pop.ensures.some w.in-Failed.is c.steps.invariant.advances) w.in_ok-state-in-Some-pop.ensures.ok);
        known = keeps-joined _ _ _ _ w.typer-is w.known-is (keeps-after _ _ _ _ _ _ _ w.in_ok-state-in-Some-pop.ensures.ok c.steps.invariant.known);
      }
    ]
