use Rattle.std.proofs.Common.{refl, arith}
use Rattle.dh_print.proofs.Digests.{hexadecimal_step}
use Rattle.dh_print.proofs.imports.write_hexadecimal.Goals as goal

pub loop-b-preserved : goal.loop-b-preserved
loop-b-preserved c = hexadecimal_step c.args.bytes.now c.loop-b.b-index _ _ _ _ c.in_radix.result c.laid_out.result c.loop-b-test.true refl (omega (arith, c.type_inv.bytes c.loop-b.b-index)) c.in_radix.ensures c.laid_out.ensures c.in_ok-write.ensures.bytes c.loop-b.invariant
