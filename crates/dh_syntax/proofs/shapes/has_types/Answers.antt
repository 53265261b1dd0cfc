use Rattle.std.proofs.Common.{◌&&◌, ap, sym, ◌∙◌}
use Rattle.dh_syntax.specs.Expressions.Arity.{plain, typed_count}
use Rattle.dh_syntax.specs.Expressions.Bridge.{row_of}
use Rattle.dh_syntax.proofs.Arity.{typed_count-count_by}
use Rattle.dh_syntax.proofs.shapes.has_types.Goals as goal

pub returns-then-alts_ascend : goal.returns-then-alts_ascend
returns-then-alts_ascend c =
    let r = row_of c.args.kids.now in
    c.is_plain.ensures ∙ ap (λ n. plain n r) (c.count_typed.ensures ∙ sym (typed_count-count_by c.args.alts.now))
    ∙ ap (λ b. b && plain (typed_count c.args.alts.now) r) c.if-alts_ascend.ensures
