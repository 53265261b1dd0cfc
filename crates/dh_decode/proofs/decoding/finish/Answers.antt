use Rattle.std.proofs.Common.{◌≡◌, ◌∙◌, ap, drop}
use Rattle.dh_binary.specs.Stubs.{finish_kept}
use Rattle.dh_decode.specs.Inside.Views.{value_of, part_of}
use Rattle.dh_decode.specs.declared.places.Value.{Value}
use Rattle.dh_decode.proofs.DecodingLaws.{finish_rest}
use Rattle.dh_decode.proofs.decoding.finish.Goals as goal

pub returns-then-at-bytes-clause-err : goal.returns-then-at-bytes-clause-err
returns-then-at-bytes-clause-err c =
    λ n. ap (λ (v : Value). finish_kept c.args.bytes.now (drop c.args.at c.args.bytes.now) (value_of v)) c.in-Holds.is ∙ finish_rest c.args.bytes.now c.args.at (part_of c.in-Holds.part) c.if-at-bytes.true
