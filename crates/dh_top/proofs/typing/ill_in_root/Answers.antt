use Rattle.std.proofs.Common.{refl, ◌∙◌}
use Rattle.dh_syntax.specs.Expressions.Bridge.{term}
use Rattle.dh_imports.specs.Machine.{outcome_of}
use Rattle.dh_table.specs.States.{state_of}
use Rattle.dh_top.proofs.TypedReplies.{refused_in_root}
use Rattle.dh_top.proofs.typing.ill_in_root.Goals as goal

pub ill_reply-requires : goal.ill_reply-requires
ill_reply-requires g c = record { spelled = ((state_of c.args.table.now).root, c.requires.spelled) }

pub returns : goal.returns
returns g c =
    refused_in_root c.ill_reply.result c.args.verb (term c.args.e.now) c.args.text.now (state_of c.args.table.now).root (outcome_of (state_of c.args.table.now)) c.args.ill.now _ _ _ refl
    c.as_slice.ensures (c.as_slice-2.ensures.value ∙ c.in_ok-path.ensures) c.requires.spelled c.requires.refused c.ill_reply.ensures
