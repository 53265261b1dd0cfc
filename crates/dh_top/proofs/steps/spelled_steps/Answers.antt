use Rattle.std.proofs.Common.{arith}
use Rattle.dh_syntax.specs.Expressions.Bridge.{term}
use Rattle.dh_top.proofs.StepReplies.{has_room, steps_faulted, steps_settled}
use Rattle.dh_top.proofs.steps.spelled_steps.Goals as goal

pub run_steps-requires-clause-few : goal.run_steps-requires-clause-few
run_steps-requires-clause-few c = let few = c.requires.few in omega (arith, few)

pub returns-in-Ok : goal.returns-in-Ok
returns-in-Ok c = steps_settled c.settled_reply.result c.args.places.now c.args.text.now (term c.args.e.now) (term c.in-Ok.end) c.requires.spelled c.in-Ok.ensures.answers c.in-Ok.ensures.one_end c.settled_reply.ensures

pub returns-in-Err : goal.returns-in-Err
returns-in-Err c = steps_faulted c.step_fault_reply.result c.args.places.now c.args.text.now (term c.args.e.now) c.in-Err.fault c.requires.spelled c.in-Err.ensures.answers c.step_fault_reply.ensures

pub run_steps-requires-clause-room : goal.run_steps-requires-clause-room
run_steps-requires-clause-room c = has_room (term c.args.e.now) c.requires.spellable
