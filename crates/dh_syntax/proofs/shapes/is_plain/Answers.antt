use Rattle.std.proofs.Common.{sym, ◌∙◌}
use Rattle.dh_syntax.proofs.Arity.{plain_yes, plain_no}
use Rattle.dh_syntax.proofs.shapes.is_plain.Goals as goal

pub returns-then-kids-count : goal.returns-then-kids-count
returns-then-kids-count c = c.are_free.ensures ∙ sym (plain_yes c.args.count c.args.kids.now c.if-kids-count.true)

pub returns-else-kids-count : goal.returns-else-kids-count
returns-else-kids-count c = sym (plain_no c.args.count c.args.kids.now c.if-kids-count.false)
