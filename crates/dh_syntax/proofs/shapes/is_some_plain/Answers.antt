use Rattle.std.proofs.Common.{sym, ◌∙◌}
use Rattle.dh_syntax.proofs.Arity.{some_plain_yes, some_plain_no}
use Rattle.dh_syntax.proofs.shapes.is_some_plain.Goals as goal

pub returns-then-not-is_empty : goal.returns-then-not-is_empty
returns-then-not-is_empty c = c.are_free.ensures ∙ sym (some_plain_yes c.args.kids.now c.is_empty.result c.is_empty.ensures c.if-not-is_empty.true)

pub returns-else-not-is_empty : goal.returns-else-not-is_empty
returns-else-not-is_empty c = sym (some_plain_no c.args.kids.now c.is_empty.result c.is_empty.ensures c.if-not-is_empty.false)
