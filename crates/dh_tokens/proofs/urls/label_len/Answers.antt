use Rattle.std.proofs.Common.{arith}
use Rattle.dh_tokens.proofs.Runs.{ascii_fewer}
use Rattle.dh_tokens.proofs.urls.label_len.Goals as goal

pub returns-else-rest-len-eq45-clause-ascii : goal.returns-else-rest-len-eq45-clause-ascii
returns-else-rest-len-eq45-clause-ascii c = ascii_fewer c.args.rest.now c.loop-len.len c.run_len-len.result (omega (arith, c.run_len-len.ensures.value)) c.run_len-len.ensures.ascii
