use Rattle.std.proofs.Common.{refl, subst, IfOk}
use Rattle.dh_syntax.specs.Expressions.Bridge.{term}
use Rattle.dh_top.proofs.Forms.{form_indices}
use Rattle.dh_top.proofs.TypedReplies.{digest_printed, form_limited}
use Rattle.dh_top.proofs.typing.hash_reply.Goals as goal

pub digest-requires-clause-indices : goal.digest-requires-clause-indices
digest-requires-clause-indices c = form_indices (term c.in-Ok.form) c.in-Ok.ensures.shallow c.in-Ok.ensures.indices

pub returns-in_ok-digest-in-Ok : goal.returns-in_ok-digest-in-Ok
returns-in_ok-digest-in-Ok c =
    digest_printed c.digest_reply.result (term c.args.e.now) (term c.in-Ok.form) c.in_ok-digest-in-Ok.field-0 c.requires.typed c.in-Ok.ensures.ok c.in-Ok.ensures.shallow
    c.in_ok-digest-in-Ok.ensures c.digest_reply.ensures

pub returns-in-Err : goal.returns-in-Err
returns-in-Err c = form_limited c.limited.result _ (term c.args.e.now) c.in-Err.fault refl c.requires.typed c.in-Err.ensures.err c.limited.ensures
