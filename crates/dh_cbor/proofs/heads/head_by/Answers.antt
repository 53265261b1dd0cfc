use Rattle.std.proofs.Common.{arith}
use Rattle.dh_cbor.proofs.Longer.{short_reads}
use Rattle.dh_cbor.proofs.heads.head_by.Goals as goal

pub returns-in-0-to-23-clause-reads : goal.returns-in-0-to-23-clause-reads
returns-in-0-to-23-clause-reads c =
    short_reads c.args.bytes.now c.args.at c.args.major c.args.low c.from.result c.known.result (omega arith) c.from.ensures (c.known.ensures.reads c.args.bytes.now)
