use Rattle.dh_syntax.specs.Expressions.Bridge.{row_of}
use Rattle.dh_syntax.specs.Expressions.Nesting.{parts_nesting}
use Rattle.dh_encode.proofs.functions.+count_bindings.Given as goal

abbrev pub decreases-count_bindings : goal.decreases-count_bindings
decreases-count_bindings l = parts_nesting (row_of l.kids.now)
