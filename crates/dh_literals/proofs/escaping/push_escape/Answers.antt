use Rattle.std.proofs.Common.{string_bytes, arith}
use Rattle.dh_literals.proofs.EscapesWritten.{control_written, escaped_control}
use Rattle.dh_literals.proofs.escaping.push_escape.Goals as goal

pub returns-in_default : goal.returns-in_default
returns-in_default c =
    control_written c.args.byte (string_bytes c.args.text.now) (string_bytes c.write.new.self) c.write.result c.in_radix.result c.laid_out.result
    (escaped_control c.args.byte c.requires (omega arith) (omega arith) (omega arith)) (omega arith) (omega arith) (omega arith) (omega arith) (omega arith)
    c.in_radix.ensures c.laid_out.ensures c.write.ensures.bytes
