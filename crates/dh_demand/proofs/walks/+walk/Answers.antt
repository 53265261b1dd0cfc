use Rattle.std.proofs.Common.{rules, sym, ap, ◌∙◌, refl, true, false}
use Rattle.dh_syntax.specs.declared.expressions.Expr.TheVariants as expr
use Rattle.dh_demand.proofs.Edges.{inside-drop}
use Rattle.dh_demand.proofs.Nexting.{import_rest, choice_rest, other_rest}
use Rattle.dh_demand.proofs.Seeing.{walks_variable, walks_import, walks_choice, walks_other, few_came, many_came, so_far-start, so_far-item, so_far-skip, so_far-all}
use Rattle.dh_demand.proofs.Skipping.{skip_variable, skip_keeps, skip_ends}
use Rattle.dh_demand.proofs.walks.+walk.Goals as goal

pub walk_in-returns-in-Var-clause-came : goal.walk_in-returns-in-Var-clause-came
walk_in-returns-in-Var-clause-came g t c = walks_variable _ _ c.args.e.now c.in-Var.field-0 c.in-Var.field-1 _ _ c.in-Var.is

pub walk_in-returns-in-Var-clause-rest : goal.walk_in-returns-in-Var-clause-rest
walk_in-returns-in-Var-clause-rest g t c = skip_variable c.args.e.now c.in-Var.field-0 c.in-Var.field-1 _ c.in-Var.is

pub walk_in-returns-in-Import-clause-came : goal.walk_in-returns-in-Import-clause-came
walk_in-returns-in-Import-clause-came g t c =
    let is = c.in-Node.is ∙ ap (λ ks. expr.Node c.in-Node.op ks) (sym c.as_slice-kids.ensures) in
    walks_import _ _ c.args.e.now c.in-Node.op c.as_slice-kids.result.now _ _ _ _ _ _ is c.in-Import.ensures c.walk_import-next.ensures.rest c.walk_import-next.ensures.came (λ b. (c.walk_kids-inner.ensures.came b).slots_are)

pub walk_in-returns-in-Import-clause-rest : goal.walk_in-returns-in-Import-clause-rest
walk_in-returns-in-Import-clause-rest g t c =
    let is = c.in-Node.is ∙ ap (λ ks. expr.Node c.in-Node.op ks) (sym c.as_slice-kids.ensures) in
    import_rest c.args.e.now c.in-Node.op c.as_slice-kids.result.now _ _ _ is c.in-Import.ensures c.walk_import-next.ensures.rest c.walk_kids-inner.ensures.rest

pub walk_in-returns-in-Choice-clause-came : goal.walk_in-returns-in-Choice-clause-came
walk_in-returns-in-Choice-clause-came g t c =
    let is = c.in-Node.is ∙ ap (λ ks. expr.Node c.in-Node.op ks) (sym c.as_slice-kids.ensures) in
    walks_choice _ _ c.args.e.now c.in-Node.op c.as_slice-kids.result.now _ _ _ _ is c.in-Choice.ensures c.walk_choice.ensures.came

pub walk_in-returns-in-Choice-clause-rest : goal.walk_in-returns-in-Choice-clause-rest
walk_in-returns-in-Choice-clause-rest g t c =
    let is = c.in-Node.is ∙ ap (λ ks. expr.Node c.in-Node.op ks) (sym c.as_slice-kids.ensures) in
    choice_rest c.args.e.now c.in-Node.op c.as_slice-kids.result.now _ _ is c.in-Choice.ensures c.walk_choice.ensures.rest

pub walk_in-returns-in-Other-clause-came : goal.walk_in-returns-in-Other-clause-came
walk_in-returns-in-Other-clause-came g t c =
    let is = c.in-Node.is ∙ ap (λ ks. expr.Node c.in-Node.op ks) (sym c.as_slice-kids.ensures) in
    walks_other _ _ c.args.e.now c.in-Node.op c.as_slice-kids.result.now _ _ _ _ is c.in-Other.ensures c.walk_kids.ensures.came

pub walk_in-returns-in-Other-clause-rest : goal.walk_in-returns-in-Other-clause-rest
walk_in-returns-in-Other-clause-rest g t c =
    let is = c.in-Node.is ∙ ap (λ ks. expr.Node c.in-Node.op ks) (sym c.as_slice-kids.ensures) in
    other_rest c.args.e.now c.in-Node.op c.as_slice-kids.result.now _ _ is c.in-Other.ensures c.walk_kids.ensures.rest

pub walk_kids-loop-kid-init : goal.walk_kids-loop-kid-init
walk_kids-loop-kid-init g t c = record {
  left = refl;
  rest_inside = c.requires;
  next_inside = tt;
  so_far = λ b. so_far-start _ _ c.args.choice c.args.comes c.args.kids.now _ _ b;
}

pub walk_kids-loop-kid-preserved-then-not-here : goal.walk_kids-loop-kid-preserved-then-not-here
walk_kids-loop-kid-preserved-then-not-here g t c = record {
  left =
      skip_keeps c.args.kids.now c.loop-kid.kid-index c.kid-item.result _ _ _ c.loop-kid-test.true c.kid-item.is c.skip-rest.ensures
      c.loop-kid.invariant.left;
  rest_inside = inside-drop _ _ _ _ c.skip-rest.ensures c.loop-kid.invariant.rest_inside;
  next_inside = c.loop-kid.invariant.next_inside;
  so_far =
      λ b.
      so_far-skip (g.V.Visitor.sight c.args.visitor.now) c.args.unspelled c.args.choice c.args.comes c.args.kids.now c.loop-kid.kid-index c.kid-item.result _ _ _ _ c.loop-kid-test.true c.kid-item.is c.skip-rest.ensures
      _ _ _ c.if-not-here.true (c.loop-kid.invariant.so_far b);
}

pub walk_kids-loop-kid-preserved : goal.walk_kids-loop-kid-preserved
walk_kids-loop-kid-preserved g t c = record {
  left =
      skip_keeps c.args.kids.now c.loop-kid.kid-index c.kid-item.result _ _ _ c.loop-kid-test.true c.kid-item.is c.walk_in-after.ensures.rest
      c.loop-kid.invariant.left;
  rest_inside = inside-drop _ _ _ _ c.walk_in-after.ensures.rest c.loop-kid.invariant.rest_inside;
  next_inside = c.walk_in-after.ensures.inside;
  so_far =
      λ b.
      so_far-item (g.V.Visitor.sight c.args.visitor.now) c.args.unspelled c.args.choice c.args.comes c.args.kids.now c.loop-kid.kid-index c.kid-item.result _ _ _ _ c.loop-kid-test.true c.kid-item.is c.walk_in-after.ensures.rest
      _ _ _ _ _ _ c.if-not-here.false c.walk_in-after.ensures.came c.goes_on-here.ensures (c.loop-kid.invariant.so_far b);
}

pub walk_kids-returns-clause-came : goal.walk_kids-returns-clause-came
walk_kids-returns-clause-came g t c b =
    so_far-all (g.V.Visitor.sight c.args.visitor.now) c.args.unspelled c.args.choice c.args.comes c.args.kids.now c.loop-kid.kid-index _ _ _ _ _ _ c.loop-kid-test.false (c.loop-kid.invariant.so_far b)

pub walk_kids-returns-clause-rest : goal.walk_kids-returns-clause-rest
walk_kids-returns-clause-rest g t c = skip_ends c.args.kids.now c.loop-kid.kid-index _ _ c.loop-kid-test.false c.loop-kid.invariant.left

pub walk_choice-returns-then-kids-lt3-clause-came : goal.walk_choice-returns-then-kids-lt3-clause-came
walk_choice-returns-then-kids-lt3-clause-came g t c b = few_came _ _ c.args.kids.now _ _ _ _ (search rules) (c.walk_kids.ensures.came b)

pub walk_choice-returns-then-unspelled-clause-came : goal.walk_choice-returns-then-unspelled-clause-came
walk_choice-returns-then-unspelled-clause-came g t c b =
    many_came _ _ c.args.kids.now _ _ _ _ true c.if-unspelled.true (λ e. search rules) (c.walk_kids-last.ensures.came b).slots_are (c.walk_kids-next.ensures.came b).next_is

pub walk_choice-returns-clause-came : goal.walk_choice-returns-clause-came
walk_choice-returns-clause-came g t c b =
    let came = c.walk_kids-2.ensures.came b in
    many_came _ _ c.args.kids.now _ _ _ _ false c.if-unspelled.false (λ e. search rules) came.slots_are came.next_is
