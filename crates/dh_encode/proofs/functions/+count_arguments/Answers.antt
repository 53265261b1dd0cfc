use Rattle.std.proofs.Common.{arith}
use Rattle.std.specs.Prelude.{None}
use Rattle.dh_syntax.specs.declared.expressions.Op.TheVariants as ops
use Rattle.dh_syntax.specs.Expressions.Bridge.{term, row_of}
use Rattle.dh_syntax.specs.Expressions.Tree.{end, kid}
use Rattle.dh_encode.proofs.Encodable.{first_part, of_node}
use Rattle.dh_encode.proofs.SpineCounts.{applied_more, applied_two}
use Rattle.dh_encode.proofs.functions.+count_arguments.Goals as goal

pub count_arguments-requires : goal.count_arguments-requires
count_arguments-requires t c =
    let part = first_part None (term c.two.result.0.now) (kid None (term c.two.result.1.now) end) (row_of c.args.kids.now) c.two.ensures c.requires.parts in
    let node = of_node ops.App (row_of c.in-Some.inner.now) (term c.two.result.0.now) c.in-Some.ensures.some part.can in
    (omega (arith, c.decreases, part.less, node.same), (node.fit, node.can))

pub overflow_add-result : goal.overflow_add-result
overflow_add-result t c =
    let part = first_part None (term c.two.result.0.now) (kid None (term c.two.result.1.now) end) (row_of c.args.kids.now) c.two.ensures c.requires.parts in
    let node = of_node ops.App (row_of c.in-Some.inner.now) (term c.two.result.0.now) c.in-Some.ensures.some part.can in
    omega (arith, c.count_arguments.ensures.few, node.can.1)

pub returns-in-Some-clause-count : goal.returns-in-Some-clause-count
returns-in-Some-clause-count t c =
    applied_more (row_of c.args.kids.now) (row_of c.in-Some.inner.now) (term c.two.result.0.now) (term c.two.result.1.now) c.count_arguments.result
    c.two.ensures c.in-Some.ensures.some c.count_arguments.ensures.count

pub returns-in-Some-clause-few : goal.returns-in-Some-clause-few
returns-in-Some-clause-few t c =
    let part = first_part None (term c.two.result.0.now) (kid None (term c.two.result.1.now) end) (row_of c.args.kids.now) c.two.ensures c.requires.parts in
    let node = of_node ops.App (row_of c.in-Some.inner.now) (term c.two.result.0.now) c.in-Some.ensures.some part.can in
    omega (arith, c.count_arguments.ensures.few, part.less, node.same)

pub returns-in-None-clause-count : goal.returns-in-None-clause-count
returns-in-None-clause-count t c =
    applied_two (row_of c.args.kids.now) (term c.two.result.0.now) (term c.two.result.1.now) c.two.ensures c.in-None.ensures.none

pub returns-in-None-clause-few : goal.returns-in-None-clause-few
returns-in-None-clause-few t c =
    let part = first_part None (term c.two.result.0.now) (kid None (term c.two.result.1.now) end) (row_of c.args.kids.now) c.two.ensures c.requires.parts in
    omega (arith, part.less)
