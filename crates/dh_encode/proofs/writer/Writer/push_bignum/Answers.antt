use Rattle.std.proofs.Common.{ap, ◌∙◌, ◌++◌, [], ◌∷◌}
use Rattle.dh_syntax.specs.Bytes.Cbor.{bytes}
use Rattle.dh_encode.proofs.Appends.{then, named}
use Rattle.dh_encode.proofs.Integers.{fewest}
use Rattle.dh_encode.proofs.writer.Writer.push_bignum.Goals as goal

pub returns : goal.returns
returns c =
    named c.push_bytes.result c.args.self.now _ _ _ (ap (λ l. c.args.tag ∷ l) (fewest c.args.n c.to_be_bytes.result c.without_zeros.result.now c.to_be_bytes.ensures c.without_zeros.ensures))
    (then c.push_bytes.result c.args.self.now c.push.new.self.items c.push_bytes.new.self (c.args.tag ∷ []) (bytes c.without_zeros.result.now)
    (c.in_ok-push.ensures.items ∙ ap (λ l. l ++ c.args.tag ∷ []) c.self.view_is) c.push_bytes.ensures)
