use Rattle.dh_top.proofs.StepReplies.{steps_misspelt}
use Rattle.dh_top.proofs.steps.steps_reply.Goals as goal

pub returns-in_default : goal.returns-in_default
returns-in_default c = steps_misspelt c.misspelling.result c.args.places.now c.args.text.now c.in-Err.fault (c.in-Err.ensures.refused c.in_default.not-Memory) c.misspelling.ensures
