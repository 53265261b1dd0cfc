use Rattle.std.proofs.Common.{◌≡◌, ◌++◌, drop, map}
use Rattle.std.specs.List.{concat}
use Rattle.dh_syntax.specs.Bytes.Cbor.{text}
use Rattle.dh_encode.proofs.writer.Writer.push_labels.Given as goal

abbrev pub invariant-loop-label : goal.invariant-loop-label
invariant-loop-label l = l.self ++ concat (map text (drop l.label-index l.labels)) ≡ l.initial.self ++ concat (map text l.labels)
