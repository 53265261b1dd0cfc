use Rattle.std.proofs.Common.{sym, ◌∙◌}
use Rattle.dh_syntax.proofs.Arity.{binding_yes, binding_no, binding_none}
use Rattle.dh_syntax.proofs.shapes.is_binding.Goals as goal

pub returns-then-is_some : goal.returns-then-is_some
returns-then-is_some c =
    c.is_plain.ensures ∙ sym (binding_yes c.args.count c.args.kids.now c.in-Some.front.now c.in-Some.last.now c.in-Some.ensures.cases.0 (sym c.if-is_some.ensures))

pub returns-else-is_some : goal.returns-else-is_some
returns-else-is_some c =
    c.if-is_some.false ∙ sym (binding_no c.args.count c.args.kids.now c.in-Some.front.now c.in-Some.last.now c.in-Some.ensures.cases.0 (sym c.if-is_some.ensures))

pub returns-in-None : goal.returns-in-None
returns-in-None c = sym (binding_none c.args.count c.args.kids.now c.in-None.ensures.cases)
