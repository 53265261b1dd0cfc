use Rattle.std.proofs.Common.{◌≡◌, length}
use Rattle.dh_grammar.specs.Machine.{join}
use Rattle.dh_reader.specs.Stacks.{stack_of}
use Rattle.dh_reader.proofs.frames.stack.Frames.join.Given as goal

abbrev pub invariant-loop-frame : goal.invariant-loop-frame
invariant-loop-frame g l =
    join (g.M.Makes.makes l.at) l.level (stack_of g.M.Makes.views l.self) (g.M.Makes.views.tree l.operand) ≡ join (g.M.Makes.makes l.initial.at) l.initial.level (stack_of g.M.Makes.views l.initial.self) (g.M.Makes.views.tree l.initial.operand)

abbrev pub decreases-loop-frame : goal.decreases-loop-frame
decreases-loop-frame g l = length (stack_of g.M.Makes.views l.self)
