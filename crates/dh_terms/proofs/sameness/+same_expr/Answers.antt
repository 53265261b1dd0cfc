use Rattle.std.proofs.Common.{arith, sym, ap, ◌∙◌, ◌&&◌, length}
use Rattle.dh_syntax.specs.Expressions.Bridge.{row_of}
use Rattle.dh_syntax.specs.Expressions.Numbers.{eq}
use Rattle.dh_syntax.specs.Expressions.SameTree.{row_eq}
use Rattle.dh_syntax.proofs.NativeTests.{eq-native}
use Rattle.dh_terms.proofs.SameRows.{rows_differ, rows_agree, rows_end, counts_differ, same-Var, same-Node, not-same_forms, not-same_forms_either}
use Rattle.dh_terms.proofs.sameness.+same_expr.Goals as goal

pub are_same_kids-returns-then-kids-others : goal.are_same_kids-returns-then-kids-others
are_same_kids-returns-then-kids-others t c =
    let p = ap length c.as_slice-kids.ensures in
    let q = ap length c.as_slice-others.ensures in
    counts_differ c.args.kids.now c.args.others.now (λ e. c.if-kids-others.true (omega arith))

pub are_same_kids-returns-then-not-is_same_kid : goal.are_same_kids-returns-then-not-is_same_kid
are_same_kids-returns-then-not-is_same_kid t c =
    rows_differ c.as_slice-kids.result.now c.as_slice-others.result.now c.loop-i.i c.index-kids-i.result c.index-others-i.result _ c.loop-i-test.true (omega (arith, c.loop-i-test.true, c.if-kids-others.false))
    c.index-kids-i.is c.index-others-i.is (sym c.is_same_kid.ensures ∙ c.if-not-is_same_kid.true)
    (c.loop-i.invariant ∙ ap (λ ks. row_eq (row_of ks) (row_of c.as_slice-others.result.now)) c.as_slice-kids.ensures ∙ ap (λ js. row_eq (row_of c.args.kids.now) (row_of js)) c.as_slice-others.ensures)

pub are_same_kids-loop-i-preserved : goal.are_same_kids-loop-i-preserved
are_same_kids-loop-i-preserved t c =
    rows_agree c.as_slice-kids.result.now c.as_slice-others.result.now c.loop-i.i c.index-kids-i.result c.index-others-i.result _ c.loop-i-test.true (omega (arith, c.loop-i-test.true, c.if-kids-others.false))
    c.index-kids-i.is c.index-others-i.is (sym c.is_same_kid.ensures ∙ c.if-not-is_same_kid.false) c.loop-i.invariant

pub are_same_kids-returns : goal.are_same_kids-returns
are_same_kids-returns t c =
    rows_end c.as_slice-kids.result.now c.as_slice-others.result.now c.loop-i.i _ (omega (arith, c.loop-i-test.false)) (omega (arith, c.loop-i-test.false, c.if-kids-others.false))
    (c.loop-i.invariant ∙ ap (λ ks. row_eq (row_of ks) (row_of c.as_slice-others.result.now)) c.as_slice-kids.ensures ∙ ap (λ js. row_eq (row_of c.args.kids.now) (row_of js)) c.as_slice-others.ensures)

pub is_same_expr-returns-then-is_same_label : goal.is_same_expr-returns-then-is_same_label
is_same_expr-returns-then-is_same_label t c =
    sym (eq-native c.in-Var-Var.i c.in-Var-Var.j) ∙ ap (λ b. b && eq c.in-Var-Var.i c.in-Var-Var.j) (sym (sym c.is_same_label.ensures ∙ c.if-is_same_label.true))
    ∙ sym (same-Var c.args.a.now c.args.b.now c.in-Var-Var.x c.in-Var-Var.y c.in-Var-Var.i c.in-Var-Var.j c.in-Var-Var.is-0 c.in-Var-Var.is-1)

pub is_same_expr-returns-else-is_same_label : goal.is_same_expr-returns-else-is_same_label
is_same_expr-returns-else-is_same_label t c =
    c.if-is_same_label.false ∙ ap (λ b. b && eq c.in-Var-Var.i c.in-Var-Var.j) (sym (sym c.is_same_label.ensures ∙ c.if-is_same_label.false))
    ∙ sym (same-Var c.args.a.now c.args.b.now c.in-Var-Var.x c.in-Var-Var.y c.in-Var-Var.i c.in-Var-Var.j c.in-Var-Var.is-0 c.in-Var-Var.is-1)

pub is_same_expr-returns-then-is_same_op : goal.is_same_expr-returns-then-is_same_op
is_same_expr-returns-then-is_same_op t c =
    c.are_same_kids.ensures ∙ ap (λ b. b && row_eq (row_of c.in-Node-Node.kids) (row_of c.in-Node-Node.others)) (sym (sym c.is_same_op.ensures ∙ c.if-is_same_op.true))
    ∙ sym (same-Node c.args.a.now c.args.b.now c.in-Node-Node.o c.in-Node-Node.p c.in-Node-Node.kids c.in-Node-Node.others c.in-Node-Node.is-0 c.in-Node-Node.is-1)

pub is_same_expr-returns-else-is_same_op : goal.is_same_expr-returns-else-is_same_op
is_same_expr-returns-else-is_same_op t c =
    c.if-is_same_op.false ∙ ap (λ b. b && row_eq (row_of c.in-Node-Node.kids) (row_of c.in-Node-Node.others)) (sym (sym c.is_same_op.ensures ∙ c.if-is_same_op.false))
    ∙ sym (same-Node c.args.a.now c.args.b.now c.in-Node-Node.o c.in-Node-Node.p c.in-Node-Node.kids c.in-Node-Node.others c.in-Node-Node.is-0 c.in-Node-Node.is-1)

pub is_same_expr-returns-in-Var-Node : goal.is_same_expr-returns-in-Var-Node
is_same_expr-returns-in-Var-Node t c = not-same_forms c.args.a.now c.args.b.now _ _ _ _ c.in-Var-Node.is-0 c.in-Var-Node.is-1

pub is_same_expr-returns-in-Node-Var : goal.is_same_expr-returns-in-Node-Var
is_same_expr-returns-in-Node-Var t c = not-same_forms_either c.args.a.now c.args.b.now _ _ _ _ c.in-Node-Var.is-0 c.in-Node-Var.is-1
