use Rattle.std.proofs.Common.{Ok, Err}
use Rattle.dh_syntax.specs.Expressions.Bridge.{term}
use Rattle.dh_top.proofs.Encodings.{encodes_any}
use Rattle.dh_top.proofs.encoding.encoding.Goals as goal

pub returns-in-Ok : goal.returns-in-Ok
returns-in-Ok c = encodes_any c.encoded_reply.result c.args.text.now (Ok (term c.in-Ok.e)) c.in-Ok.ensures.spelled c.encoded_reply.ensures

pub returns-in_default : goal.returns-in_default
returns-in_default c = encodes_any c.misspelling.result c.args.text.now (Err c.in-Err.fault) (c.in-Err.ensures.refused c.in_default.not-Memory) c.misspelling.ensures
