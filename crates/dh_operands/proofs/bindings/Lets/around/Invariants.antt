use Rattle.std.proofs.Common.{◌≡◌, map, length}
use Rattle.dh_grammar.specs.Stubs.{around}
use Rattle.dh_operands.specs.Operands.{part_of, binding_of}
use Rattle.dh_operands.proofs.bindings.Lets.around.Given as goal

abbrev pub invariant-loop-binding : goal.invariant-loop-binding
invariant-loop-binding l = around (map binding_of l.bindings.items) (part_of l.part) ≡ around (map binding_of l.initial.bindings.items) (part_of l.initial.part)

abbrev pub decreases-loop-binding : goal.decreases-loop-binding
decreases-loop-binding l = length l.bindings.items
