use Rattle.std.proofs.Common.{arith}
use Rattle.dh_operands.specs.Operands.{operand_of}
use Rattle.dh_parse.proofs.Parsings.{deep, shallow}
use Rattle.dh_parse.proofs.texts.expression_of.Goals as goal

pub returns-then-operand-gt-MOST_NESTING : goal.returns-then-operand-gt-MOST_NESTING
returns-then-operand-gt-MOST_NESTING c = λ n. deep (operand_of c.args.operand) (omega arith)

pub returns : goal.returns
returns c = shallow (operand_of c.args.operand) (omega arith)
