use Rattle.std.proofs.Common.{map, string_bytes, ◌∙◌}
use Rattle.dh_top.proofs.StepReplies.{named_by, steps_done}
use Rattle.dh_top.proofs.steps.stepping.Goals as goal

pub steps_reply-requires : goal.steps_reply-requires
steps_reply-requires c = rw c.in-Some.is at c.in_ok-places.ensures.few

pub returns : goal.returns
returns c = steps_done c.steps_reply.result (map string_bytes c.args.operands.now) c.in-Some.places c.args.text.now (c.in_ok-places.ensures.places 1 ∙ c.in-Some.is) c.steps_reply.ensures

pub unreachable-requires : goal.unreachable-requires
unreachable-requires c = named_by _ c.requires (c.in_ok-places.ensures.places 1 ∙ c.in-None.is)
