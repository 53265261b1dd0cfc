use Rattle.std.proofs.Common.{◌≤◌, ◌-◌, length}
use Rattle.dh_decode.specs.Inside.States.{state_of}
use Rattle.dh_decode.specs.Inside.Steps.{IsReached}
use Rattle.dh_decode.proofs.DecodingLaws.{Goes}
use Rattle.dh_decode.proofs.decoding.decoded.Given as goal

abbrev pub invariant-loop-reader : goal.invariant-loop-reader
invariant-loop-reader l = Goes l.bytes l.from l.at (state_of l.reader.want l.reader.frames) × IsReached (state_of l.reader.want l.reader.frames) × (l.from ≤ length l.bytes) × (l.at ≤ length l.bytes)

abbrev pub decreases-loop-reader : goal.decreases-loop-reader
decreases-loop-reader l = length l.bytes - l.at
