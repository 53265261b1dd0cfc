use Rattle.std.proofs.Common.{◌≡◌, length}
use Rattle.dh_binary.specs.Machine.{deliver}
use Rattle.dh_binary.specs.Stubs.{stubs}
use Rattle.dh_decode.specs.Inside.Views.{value_of, frames_of}
use Rattle.dh_decode.proofs.reading.Reader.deliver.Given as goal

abbrev pub invariant-loop-frame : goal.invariant-loop-frame
invariant-loop-frame l = deliver stubs (value_of l.value) (frames_of l.self.frames) ≡ deliver stubs (value_of l.fn.value) (frames_of l.fn.self.frames)

abbrev pub decreases-loop-frame : goal.decreases-loop-frame
decreases-loop-frame l = length l.self.frames
