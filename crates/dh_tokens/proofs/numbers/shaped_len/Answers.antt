use Rattle.std.proofs.Common.{sym, ◌∙◌}
use Rattle.dh_tokens.proofs.NumberLaws.{shaped_within}
use Rattle.dh_tokens.proofs.numbers.shaped_len.Goals as goal

pub returns-then-is_shaped-clause-within : goal.returns-then-is_shaped-clause-within
returns-then-is_shaped-clause-within c = shaped_within c.args.shape.now c.args.rest.now (sym c.is_shaped.ensures ∙ c.if-is_shaped.true)
