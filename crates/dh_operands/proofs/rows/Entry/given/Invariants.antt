use Rattle.std.proofs.Common.{◌≡◌, length}
use Rattle.dh_grammar.specs.Stubs.{dotted}
use Rattle.dh_syntax.specs.Text.Derivation.{Keys}
use Rattle.dh_operands.specs.Operands.{part_of}
use Rattle.dh_making.specs.Words.{keys_on}
use Rattle.dh_operands.proofs.rows.Entry.given.Given as goal

abbrev pub invariant-loop-key : goal.invariant-loop-key
invariant-loop-key l = (ks : Keys) → dotted (keys_on ks l.more.items) (part_of l.part) ≡ dotted (keys_on ks l.initial.more.items) (part_of l.initial.part)

abbrev pub decreases-loop-key : goal.decreases-loop-key
decreases-loop-key l = length l.more.items
