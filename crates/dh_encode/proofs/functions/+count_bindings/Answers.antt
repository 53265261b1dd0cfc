use Rattle.std.proofs.Common.{arith}
use Rattle.std.specs.Prelude.{Some}
use Rattle.dh_syntax.specs.declared.expressions.Op.TheVariants as ops
use Rattle.dh_syntax.specs.Expressions.Bridge.{term, row_of}
use Rattle.dh_encode.proofs.Encodable.{last_part, of_node}
use Rattle.dh_encode.proofs.SpineCounts.{bound_more, bound_four, let_binds}
use Rattle.dh_encode.proofs.functions.+count_bindings.Goals as goal

pub scope_of-requires : goal.scope_of-requires
scope_of-requires t c = let_binds c.args.typed (row_of c.args.kids.now) c.requires.fit

pub count_bindings-requires : goal.count_bindings-requires
count_bindings-requires t c =
    let part = last_part (row_of c.scope_of.result.front.now) (Some c.scope_of.result.name.now) (term c.scope_of.result.body.now) (row_of c.args.kids.now) c.scope_of.ensures.whole c.requires.parts in
    let node = of_node (ops.Let c.in-Some.typed) (row_of c.in-Some.inner.now) (term c.scope_of.result.body.now) c.in-Some.ensures.some part.can in
    (omega (arith, c.decreases, part.less, node.same), (node.fit, node.can))

pub overflow_add-result : goal.overflow_add-result
overflow_add-result t c =
    let part = last_part (row_of c.scope_of.result.front.now) (Some c.scope_of.result.name.now) (term c.scope_of.result.body.now) (row_of c.args.kids.now) c.scope_of.ensures.whole c.requires.parts in
    let node = of_node (ops.Let c.in-Some.typed) (row_of c.in-Some.inner.now) (term c.scope_of.result.body.now) c.in-Some.ensures.some part.can in
    omega (arith, c.count_bindings.ensures.few, node.can.1)

pub returns-in-Some-clause-count : goal.returns-in-Some-clause-count
returns-in-Some-clause-count t c =
    bound_more c.args.typed c.in-Some.typed (row_of c.args.kids.now) (row_of c.scope_of.result.front.now) (row_of c.in-Some.inner.now) c.scope_of.result.name.now (term c.scope_of.result.body.now)
    c.count_bindings.result c.scope_of.ensures.whole c.scope_of.ensures.front c.requires.fit c.in-Some.ensures.some c.count_bindings.ensures.count

pub returns-in-Some-clause-few : goal.returns-in-Some-clause-few
returns-in-Some-clause-few t c =
    let part = last_part (row_of c.scope_of.result.front.now) (Some c.scope_of.result.name.now) (term c.scope_of.result.body.now) (row_of c.args.kids.now) c.scope_of.ensures.whole c.requires.parts in
    let node = of_node (ops.Let c.in-Some.typed) (row_of c.in-Some.inner.now) (term c.scope_of.result.body.now) c.in-Some.ensures.some part.can in
    omega (arith, c.count_bindings.ensures.few, part.less, node.same)

pub returns-in-None-clause-count : goal.returns-in-None-clause-count
returns-in-None-clause-count t c =
    bound_four c.args.typed (row_of c.args.kids.now) (row_of c.scope_of.result.front.now) c.scope_of.result.name.now (term c.scope_of.result.body.now)
    c.scope_of.ensures.whole c.scope_of.ensures.front c.requires.fit c.in-None.ensures.none

pub returns-in-None-clause-few : goal.returns-in-None-clause-few
returns-in-None-clause-few t c =
    let part = last_part (row_of c.scope_of.result.front.now) (Some c.scope_of.result.name.now) (term c.scope_of.result.body.now) (row_of c.args.kids.now) c.scope_of.ensures.whole c.requires.parts in
    omega (arith, part.less)
