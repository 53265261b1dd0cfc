use Rattle.std.proofs.Common.{sym}
use Rattle.dh_tokens.proofs.NumberLaws.{is_shaped-short}
use Rattle.dh_tokens.proofs.numbers.is_shaped.Goals as goal

pub returns-then-shape-rest : goal.returns-then-shape-rest
returns-then-shape-rest c = sym (is_shaped-short c.args.shape.now c.args.rest.now c.if-shape-rest.true)
