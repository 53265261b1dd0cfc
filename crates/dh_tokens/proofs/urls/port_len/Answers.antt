use Rattle.std.proofs.Common.{◌<◌, get_or, length, arith}
use Rattle.dh_tokens.proofs.Runs.{ascii_first, byte_within}
use Rattle.dh_tokens.proofs.urls.port_len.Goals as goal

pub returns-clause-ascii : goal.returns-clause-ascii
returns-clause-ascii c =
    let bs = c.args.rest.now in
    let low : get_or bs 0 0 < 128 = omega arith in
    let some : 0 < length bs = byte_within bs 0 (omega arith) in
    ascii_first bs c.after.result.now c.run_len.result some low c.after.ensures c.run_len.ensures.ascii
