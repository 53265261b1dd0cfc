use Rattle.std.proofs.Common.{sym, ◌∙◌}
use Rattle.dh_cbor.proofs.Longer.{long_reads}
use Rattle.dh_cbor.proofs.heads.long_head.Goals as goal

pub returns-clause-reads : goal.returns-clause-reads
returns-clause-reads c =
    long_reads c.args.bytes.now c.after-rest.result.now c.front.result.now c.args.at c.args.major c.args.size c.big_endian-value.result c.known.result
    c.after-rest.ensures c.if-rest-size.false (sym c.is_float.ensures ∙ c.if-is_float.false) c.front.ensures c.big_endian-value.ensures
    (c.known.ensures.reads c.args.bytes.now)
