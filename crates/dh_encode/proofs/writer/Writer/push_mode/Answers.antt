use Rattle.std.proofs.Common.{ap, ◌∙◌}
use Rattle.dh_syntax.specs.Bytes.Cbor.{head}
use Rattle.dh_encode.proofs.Appends.{named}
use Rattle.dh_encode.proofs.Integers.{small_mode}
use Rattle.dh_encode.proofs.writer.Writer.push_mode.Goals as goal

pub returns : goal.returns
returns c =
    named c.push_code.result c.args.self.now c.push_code.new.self (head 0 c.code_of.result) _ (ap (head 0) c.code_of.ensures ∙ small_mode c.args.mode) c.push_code.ensures
