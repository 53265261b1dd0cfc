use Rattle.dh_tokens.proofs.Runs.{ascii_more}
use Rattle.dh_tokens.proofs.urls.host_len.Goals as goal

pub returns-clause-ascii : goal.returns-clause-ascii
returns-clause-ascii c = ascii_more c.args.rest.now c.after.result.now c.domain_len-len.result c.port_len.result c.after.ensures c.domain_len-len.ensures.ascii c.port_len.ensures.ascii
