use Rattle.std.proofs.Common.{sym, ◌∙◌}
use Rattle.dh_syntax.specs.Expressions.Bridge.{term, row_of}
use Rattle.dh_encode.proofs.ListTypes.{empty_other}
use Rattle.dh_encode.proofs.collections.element_type.Goals as goal

pub returns-else-is_list-clause-other : goal.returns-else-is_list-clause-other
returns-else-is_list-clause-other c =
    empty_other (term c.args.list_type.now) (term c.two.result.0.now) (term c.two.result.1.now) (row_of c.in-Some.kids.now) c.in-Some.ensures.some c.two.ensures c.requires
    (sym c.is_list.ensures ∙ c.if-is_list.false)
