use Rattle.dh_syntax.specs.Expressions.Bridge.{row_of}
use Rattle.dh_syntax.specs.Expressions.Nesting.{parts_nesting}
use Rattle.dh_encode.proofs.functions.+count_arguments.Given as goal

abbrev pub decreases-count_arguments : goal.decreases-count_arguments
decreases-count_arguments l = parts_nesting (row_of l.kids.now)
