use Rattle.dh_infer.specs.declared.frames.Frame.TheVariants as frames
use Rattle.dh_infer.specs.declared.frames.State.TheVariants as states
use Rattle.dh_infer.specs.Inside.Machine.{with_frame}
use Rattle.dh_infer.proofs.Completing.{after-record, longer-of}
use Rattle.dh_infer.proofs.Readiness.{advances-to, advances-grown, ready-grown, with_codes}
use Rattle.dh_infer.proofs.completions.completed_record_typed.Goals as goal

pub returns-clause-ok : goal.returns-clause-ok
returns-clause-ok c =
    let m = c.args.typer.now in
    let cs = c.longer.new.codes in
    let made = c.in_ok-code.ensures.made in
    let grows = c.in_ok-code.ensures.grows in
    let old = with_frame (frames.CompletedRecord c.args.typed c.args.value) m in
    advances-grown old (record m { codes = cs; frames = c.push.new.self }) cs (states.Typed c.args.found) (states.Type c.in_ok-code.code) c.args.purse.now.left c.args.purse.now.left grows
    (advances-to (with_codes cs old) (with_codes cs m) c.push.new.self frames.Completion (states.Typed c.args.found) (states.Type c.in_ok-code.code) c.args.purse.now.left c.args.purse.now.left
    c.in_ok-push.ensures.ok
    (after-record (with_codes cs m) c.args.typed c.args.value c.args.found c.in_ok-code.code c.args.purse.now.left (ready-grown old (states.Typed c.args.found) cs grows c.requires.ready) made.there
    (λ g k. longer-of m.codes cs g k grows c.args.typed c.args.value c.in_ok-code.code c.requires.ready.frames.0.0 c.requires.ready.frames.0.1 made)))
