use Rattle.std.proofs.Common.{arith}
use Rattle.dh_digest.proofs.Hexadecimal.{encoded}
use Rattle.dh_digest.proofs.digests.hexadecimal.Goals as goal

pub returns : goal.returns
returns c = encoded c.args.bytes.now c.encode.result (λ i. omega (arith, c.type_inv.bytes i)) c.encode.ensures
