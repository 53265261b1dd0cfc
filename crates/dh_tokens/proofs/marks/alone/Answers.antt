use Rattle.std.proofs.Common.{refl, arith}
use Rattle.dh_syntax.specs.declared.operators.BinOp.TheVariants as binary
use Rattle.dh_syntax.specs.declared.tokens.Mark.TheVariants as marks
use Rattle.dh_tokens.proofs.FrontMarks.{alone-at}
use Rattle.dh_tokens.proofs.marks.alone.Goals as goal

pub returns-in-40 : goal.returns-in-40
returns-in-40 c = alone-at marks.ParenOpen c.args.first 40 c.in-40.is (omega arith) (λ bs. refl)

pub returns-in-41 : goal.returns-in-41
returns-in-41 c = alone-at marks.ParenClose c.args.first 41 c.in-41.is (omega arith) (λ bs. refl)

pub returns-in-91 : goal.returns-in-91
returns-in-91 c = alone-at marks.BracketOpen c.args.first 91 c.in-91.is (omega arith) (λ bs. refl)

pub returns-in-93 : goal.returns-in-93
returns-in-93 c = alone-at marks.BracketClose c.args.first 93 c.in-93.is (omega arith) (λ bs. refl)

pub returns-in-123 : goal.returns-in-123
returns-in-123 c = alone-at marks.BraceOpen c.args.first 123 c.in-123.is (omega arith) (λ bs. refl)

pub returns-in-125 : goal.returns-in-125
returns-in-125 c = alone-at marks.BraceClose c.args.first 125 c.in-125.is (omega arith) (λ bs. refl)

pub returns-in-60 : goal.returns-in-60
returns-in-60 c = alone-at marks.AngleOpen c.args.first 60 c.in-60.is (omega arith) (λ bs. refl)

pub returns-in-62 : goal.returns-in-62
returns-in-62 c = alone-at marks.AngleClose c.args.first 62 c.in-62.is (omega arith) (λ bs. refl)

pub returns-in-44 : goal.returns-in-44
returns-in-44 c = alone-at marks.Comma c.args.first 44 c.in-44.is (omega arith) (λ bs. refl)

pub returns-in-46 : goal.returns-in-46
returns-in-46 c = alone-at marks.Dot c.args.first 46 c.in-46.is (omega arith) (λ bs. refl)

pub returns-in-64 : goal.returns-in-64
returns-in-64 c = alone-at marks.At c.args.first 64 c.in-64.is (omega arith) (λ bs. refl)

pub returns-in-92 : goal.returns-in-92
returns-in-92 c = alone-at marks.Lambda c.args.first 92 c.in-92.is (omega arith) (λ bs. refl)

pub returns-in-42 : goal.returns-in-42
returns-in-42 c = alone-at (marks.Operator binary.Times) c.args.first 42 c.in-42.is (omega arith) (λ bs. refl)

pub returns-in-35 : goal.returns-in-35
returns-in-35 c = alone-at (marks.Operator binary.ListAppend) c.args.first 35 c.in-35.is (omega arith) (λ bs. refl)

pub returns-in-63 : goal.returns-in-63
returns-in-63 c = alone-at (marks.Operator binary.Fallback) c.args.first 63 c.in-63.is (omega arith) (λ bs. refl)
