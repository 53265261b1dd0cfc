use Rattle.dh_http.proofs.ReplyLaws.{reply_known, reply_few, reply_sent, reply_quiet}
use Rattle.dh_http.proofs.gets.read_reply.Goals as goal

pub returns-clause-reply : goal.returns-clause-reply
returns-clause-reply g c = reply_known _ _ _ _ _ c.read_from.result _ c.new-inbox.ensures c.read_from.ensures.read

pub returns-clause-few : goal.returns-clause-few
returns-clause-few g c = reply_few _ _ c.read_from.result c.new-inbox.ensures c.read_from.ensures.read c.read_from.ensures.stopped

pub returns-clause-sent : goal.returns-clause-sent
returns-clause-sent g c = reply_sent _ _ c.read_from.result c.read_from.ensures.read c.read_from.ensures.stopped

pub returns-clause-quiet : goal.returns-clause-quiet
returns-clause-quiet g c = reply_quiet _ _ c.read_from.result c.read_from.ensures.read
