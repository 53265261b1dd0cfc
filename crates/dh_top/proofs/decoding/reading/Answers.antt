use Rattle.std.proofs.Common.{Ok, Err}
use Rattle.dh_syntax.specs.Expressions.Bridge.{term}
use Rattle.dh_top.proofs.Encodings.{decodes_any}
use Rattle.dh_top.proofs.decoding.reading.Goals as goal

pub returns-in-Ok : goal.returns-in-Ok
returns-in-Ok c = decodes_any c.printed_reply.result c.args.bytes.now (Ok (term c.in-Ok.e)) c.requires c.in-Ok.ensures.read c.printed_reply.ensures

pub returns-in_default : goal.returns-in_default
returns-in_default c = decodes_any c.misreading.result c.args.bytes.now (Err c.in-Err.fault) c.requires (c.in-Err.ensures.refused c.in_default.not-Memory) c.misreading.ensures
