use Rattle.std.proofs.Common.{refl}
use Rattle.dh_syntax.specs.Expressions.Bridge.{term}
use Rattle.dh_top.proofs.TypedReplies.{form_limited, value_printed}
use Rattle.dh_top.proofs.typing.json_reply.Goals as goal

pub returns-in-Ok : goal.returns-in-Ok
returns-in-Ok c = value_printed c.json_value_reply.result (term c.args.e.now) (term c.in-Ok.form) c.requires.typed c.in-Ok.ensures.ok c.in-Ok.ensures.shallow c.json_value_reply.ensures

pub returns-in-Err : goal.returns-in-Err
returns-in-Err c = form_limited c.limited.result _ (term c.args.e.now) c.in-Err.fault refl c.requires.typed c.in-Err.ensures.err c.limited.ensures
