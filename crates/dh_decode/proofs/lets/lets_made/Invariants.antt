use Rattle.std.proofs.Common.{◌≡◌, map, length, vec_len}
use Rattle.dh_binary.specs.Machine as machine
use Rattle.dh_binary.specs.Stubs.{stubs}
use Rattle.dh_decode.specs.Inside.Views.{part_of, binding_of}
use Rattle.dh_decode.proofs.lets.lets_made.Given as goal

abbrev pub invariant-loop-bound : goal.invariant-loop-bound
invariant-loop-bound l = machine.lets_made stubs (map binding_of l.rest.items) (part_of l.made) ≡ machine.lets_made stubs (map binding_of l.fn.bindings) (part_of l.fn.body)

abbrev pub decreases-loop-bound : goal.decreases-loop-bound
decreases-loop-bound l = vec_len l.rest
