use Rattle.std.proofs.Common.{ap, refl}
use Rattle.std.proofs.lemmas.Int.{to_z-of_z}
use mir.Syntax as syntax
use Rattle.dh_syntax.specs.Bytes.Binary.{integer}
use Rattle.dh_syntax.specs.Bytes.Cbor.{natural}
use Rattle.std.specs.Prelude.{[], ◌∷◌}
use Rattle.dh_encode.proofs.Appends.{then, last, named, array_written}
use Rattle.dh_encode.proofs.writer.Writer.push_integer_literal.Goals as goal

pub returns : goal.returns
returns c =
    array_written c.push_integer.result c.args.self.now c.push_head.new.self c.push_integer.new.self 2 (natural 16 ∷ integer c.args.n ∷ []) c.in_ok-push_head.ensures refl
    (then c.push_integer.result c.push_head.new.self c.push_code.new.self c.push_integer.new.self (natural 16) _ c.in_ok-push_code.ensures
    (last c.push_integer.result c.push_code.new.self c.push_integer.new.self (integer c.args.n)
    (named c.push_integer.result c.push_code.new.self c.push_integer.new.self _ (integer c.args.n) (ap integer (to_z-of_z syntax.w128 c.args.n c.ranges.n)) c.push_integer.ensures)))
