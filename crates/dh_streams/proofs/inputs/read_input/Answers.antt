use Rattle.std.proofs.Common.{arith}
use Rattle.dh_streams.specs.Streams.{most_read}
use Rattle.dh_streams.proofs.Taking.{all-after_last, all-full}
use Rattle.dh_streams.proofs.inputs.read_input.Goals as goal

pub returns-in-Ok-false-clause-all : goal.returns-in-Ok-false-clause-all
returns-in-Ok-false-clause-all g c = all-after_last most_read _ _ _ _ _ _ c.loop-input.invariant.taken c.in-Ok-false.ensures.taken c.in-Ok-false.field-0-test c.read_piece.ensures.bound

pub returns-clause-all : goal.returns-clause-all
returns-clause-all g c = all-full most_read _ _ _ c.loop-input.invariant.taken c.loop-input.invariant.bound (omega arith)
