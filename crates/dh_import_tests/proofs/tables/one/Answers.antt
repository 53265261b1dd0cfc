use Rattle.std.proofs.Common.{ap, ◌∙◌}
use Rattle.dh_syntax.specs.declared.expressions.Op.TheVariants as ops
use Rattle.dh_syntax.specs.Expressions.Bridge.{row_of}
use Rattle.dh_syntax.specs.Expressions.Tree.{Node, Name, Row, Var}
use Rattle.dh_syntax.proofs.Bridge.{row_of-nil, term-Node}
use Rattle.dh_import_tests.proofs.tables.one.Goals as goal

pub returns : goal.returns
returns c = term-Node (ops.Nat 1) c.new.result ∙ ap (λ (r : Row Var Name). Node (ops.Nat 1) r) (ap row_of c.new.ensures ∙ row_of-nil)
