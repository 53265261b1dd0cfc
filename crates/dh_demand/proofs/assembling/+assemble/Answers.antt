use Rattle.std.proofs.Common.{rules, length, sym, ap, ◌∙◌, drop, refl, Some, None, subst as along}
use Rattle.dh_syntax.specs.Expressions.Bridge.{term, row_of}
use Rattle.dh_imports.specs.Walk.{in_order, walk, walks, keys_of_row}
use Rattle.dh_demand.specs.Results.{ask_of}
use Rattle.dh_demand.specs.Scans.{text_key, imports_of_parts}
use Rattle.dh_demand.specs.Inside.Building.{IsBuilt, AreBuilt, IsSideBuilt}
use Rattle.dh_demand.proofs.Building.{BuiltSoFar, variable_built, import_node_built, other_built, unchosen_built, choice_built, left_built, right_built, built-start, built-item, built-lost, built-all, lost-all}
use Rattle.dh_demand.proofs.Edges.{inside-drop}
use Rattle.dh_demand.proofs.Nexting.{import_rest, choice_keys, choice_rest, other_keys, other_rest, as_begins, two_begin, two_imports}
use Rattle.dh_demand.proofs.Skipping.{skip_variable, skip_keeps, skip_ends}
use Rattle.dh_demand.proofs.assembling.+assemble.Goals as goal
use Rattle.dh_demand.proofs.assembling.+assemble.Goals.{assemble_kids-then-failed, assemble_kids-else-failed+in_ok-value+in_ok-failed}

pub assemble_in-returns-in_ok-copied-in-Var-clause-built : goal.assemble_in-returns-in_ok-copied-in-Var-clause-built
assemble_in-returns-in_ok-copied-in-Var-clause-built g t c parent b = variable_built parent _ c.args.e.now c.in-Var.name _ c.in-Var.index c.in-Var.is c.in_ok-copied-in-Var.ensures

pub assemble_in-returns-in_ok-copied-in-Var-clause-rest : goal.assemble_in-returns-in_ok-copied-in-Var-clause-rest
assemble_in-returns-in_ok-copied-in-Var-clause-rest g t c = skip_variable c.args.e.now c.in-Var.name c.in-Var.index _ c.in-Var.is

pub assemble_in-returns-in_ok-value-in-Import-clause-built : goal.assemble_in-returns-in_ok-value-in-Import-clause-built
assemble_in-returns-in_ok-value-in-Import-clause-built g t c parent b =
    import_node_built parent _ c.args.e.now c.in-Node.op c.in-Node.kids _ _ c.in-Node.is c.in-Import.ensures (c.in_ok-value-in-Import.ensures.built parent) b

pub assemble_in-returns-in_ok-value-in-Import-clause-rest : goal.assemble_in-returns-in_ok-value-in-Import-clause-rest
assemble_in-returns-in_ok-value-in-Import-clause-rest g t c =
    import_rest c.args.e.now c.in-Node.op c.in-Node.kids _ _ _ c.in-Node.is c.in-Import.ensures c.in_ok-value-in-Import.ensures.rest c.skip_kids.ensures

pub assemble_in-returns-in_ok-value-in-Choice-clause-built : goal.assemble_in-returns-in_ok-value-in-Choice-clause-built
assemble_in-returns-in_ok-value-in-Choice-clause-built g t c parent b =
    choice_built parent _ c.args.e.now c.in-Node.op c.in-Node.kids _ c.in-Node.is c.in-Choice.ensures
    (c.in_ok-value-in-Choice.ensures.built parent (as_begins _ _ _ _ _ (choice_keys _ c.args.e.now c.in-Node.op c.in-Node.kids c.in-Node.is c.in-Choice.ensures) b))

pub assemble_in-returns-in_ok-value-in-Choice-clause-rest : goal.assemble_in-returns-in_ok-value-in-Choice-clause-rest
assemble_in-returns-in_ok-value-in-Choice-clause-rest g t c =
    choice_rest c.args.e.now c.in-Node.op c.in-Node.kids _ _ c.in-Node.is c.in-Choice.ensures c.in_ok-value-in-Choice.ensures.rest

pub assemble_in-returns-in_ok-parts-in-Choice-clause-built : goal.assemble_in-returns-in_ok-parts-in-Choice-clause-built
assemble_in-returns-in_ok-parts-in-Choice-clause-built g t c parent b =
    unchosen_built parent _ c.args.e.now c.in-Node.op c.in_ok-op-in-Choice.op c.in-Node.kids c.in_ok-parts-in-Choice.parts _ c.in-Node.is c.in-Choice.ensures (λ e. search rules)
    c.in_ok-op-in-Choice.ensures c.node.ensures
    (c.in_ok-parts-in-Choice.ensures.built parent (as_begins _ _ _ _ _ (choice_keys _ c.args.e.now c.in-Node.op c.in-Node.kids c.in-Node.is c.in-Choice.ensures) b))

pub assemble_in-returns-in_ok-parts-in-Choice-clause-rest : goal.assemble_in-returns-in_ok-parts-in-Choice-clause-rest
assemble_in-returns-in_ok-parts-in-Choice-clause-rest g t c =
    choice_rest c.args.e.now c.in-Node.op c.in-Node.kids _ _ c.in-Node.is c.in-Choice.ensures c.in_ok-parts-in-Choice.ensures.rest

pub assemble_in-returns-in_ok-parts-in-Other-clause-built : goal.assemble_in-returns-in_ok-parts-in-Other-clause-built
assemble_in-returns-in_ok-parts-in-Other-clause-built g t c parent b =
    other_built parent _ c.args.e.now c.in-Node.op c.in_ok-op-in-Other.op c.in-Node.kids c.in_ok-parts-in-Other.parts _ c.in-Node.is c.in-Other.ensures
    c.in_ok-op-in-Other.ensures c.node-in-Other.ensures
    (c.in_ok-parts-in-Other.ensures.built parent (as_begins _ _ _ _ _ (other_keys _ c.args.e.now c.in-Node.op c.in-Node.kids c.in-Node.is c.in-Other.ensures) b))

pub assemble_in-returns-in_ok-parts-in-Other-clause-rest : goal.assemble_in-returns-in_ok-parts-in-Other-clause-rest
assemble_in-returns-in_ok-parts-in-Other-clause-rest g t c =
    other_rest c.args.e.now c.in-Node.op c.in-Node.kids _ _ c.in-Node.is c.in-Other.ensures c.in_ok-parts-in-Other.ensures.rest

pub assemble_choice-returns-in-Some-clause-built : goal.assemble_choice-returns-in-Some-clause-built
assemble_choice-returns-in-Some-clause-built g t c parent b =
    let rows = g.R.Results.rows c.args.results.now in
    let ks = c.as_slice-kids.result.now in
    let two = ap length c.as_slice-kids.ensures ∙ c.requires.two in
    let bs = two_begin parent rows ks c.index-kids-0.result c.index-kids-1.result _ _ two c.index-kids-0.is c.index-kids-1.is c.in_ok-value.ensures.rest
    (as_begins parent rows _ _ _ (ap (λ ks. keys_of_row parent (row_of ks)) (sym c.as_slice-kids.ensures)) b) in
    let first = along (IsBuilt (walk (text_key parent) (ask_of rows) (term c.index-kids-0.result.body))) c.in-Some.is (c.in_ok-value.ensures.built parent bs.0) in
    along (λ ks. IsSideBuilt (walks (text_key parent) (ask_of rows) (row_of ks)) (Some c.in-Some.value)) c.as_slice-kids.ensures
    (left_built parent rows ks c.index-kids-0.result c.index-kids-1.result c.in-Some.value two c.index-kids-0.is c.index-kids-1.is first)

pub assemble_choice-returns-in-Some-clause-rest : goal.assemble_choice-returns-in-Some-clause-rest
assemble_choice-returns-in-Some-clause-rest g t c =
    let two = ap length c.as_slice-kids.ensures ∙ c.requires.two in
    two_imports c.as_slice-kids.result.now c.index-kids-0.result c.index-kids-1.result _ _ _ two c.index-kids-0.is c.index-kids-1.is c.in_ok-value.ensures.rest c.skip.ensures
    ∙ ap (λ ks. drop (imports_of_parts (row_of ks)) c.args.edges.now) c.as_slice-kids.ensures

pub assemble_choice-returns-in_ok-value-in-None-clause-built : goal.assemble_choice-returns-in_ok-value-in-None-clause-built
assemble_choice-returns-in_ok-value-in-None-clause-built g t c parent b =
    let rows = g.R.Results.rows c.args.results.now in
    let ks = c.as_slice-kids.result.now in
    let two = ap length c.as_slice-kids.ensures ∙ c.requires.two in
    let bs = two_begin parent rows ks c.index-kids-0.result c.index-kids-1.result _ _ two c.index-kids-0.is c.index-kids-1.is c.in_ok-value.ensures.rest
    (as_begins parent rows _ _ _ (ap (λ ks. keys_of_row parent (row_of ks)) (sym c.as_slice-kids.ensures)) b) in
    let first = along (IsBuilt (walk (text_key parent) (ask_of rows) (term c.index-kids-0.result.body))) c.in-None.is (c.in_ok-value.ensures.built parent bs.0) in
    along (λ ks. IsSideBuilt (walks (text_key parent) (ask_of rows) (row_of ks)) c.in_ok-value-in-None.value) c.as_slice-kids.ensures
    (right_built parent rows ks c.index-kids-0.result c.index-kids-1.result _ two c.index-kids-0.is c.index-kids-1.is first (c.in_ok-value-in-None.ensures.built parent bs.1))

pub assemble_choice-returns-in_ok-value-in-None-clause-rest : goal.assemble_choice-returns-in_ok-value-in-None-clause-rest
assemble_choice-returns-in_ok-value-in-None-clause-rest g t c =
    let two = ap length c.as_slice-kids.ensures ∙ c.requires.two in
    two_imports c.as_slice-kids.result.now c.index-kids-0.result c.index-kids-1.result _ _ _ two c.index-kids-0.is c.index-kids-1.is c.in_ok-value.ensures.rest
    c.in_ok-value-in-None.ensures.rest
    ∙ ap (λ ks. drop (imports_of_parts (row_of ks)) c.args.edges.now) c.as_slice-kids.ensures

pub assemble_kids-loop-kid-init : goal.assemble_kids-loop-kid-init
assemble_kids-loop-kid-init g t c = record {
  left = refl;
  rest_inside = c.requires;
  so_far = λ parent b. built-start parent _ c.as_slice-kid-items.result.now _ _ c.new-done.ensures b;
}

pub assemble_kids-loop-kid-preserved : goal.assemble_kids-loop-kid-preserved
assemble_kids-loop-kid-preserved g t c = elim c.if-failed.branch [
  | assemble_kids-then-failed w ↦
      let rest = ap (λ (r : _). r.now) w.rest-is ∙ w.skip-rest.ensures in
      record {
        left = skip_keeps c.as_slice-kid-items.result.now c.loop-kid.kid-index c.kid-item.result _ _ _ c.loop-kid-test.true c.kid-item.is rest c.loop-kid.invariant.left;
        rest_inside = inside-drop _ _ _ _ rest c.loop-kid.invariant.rest_inside;
        so_far =
            λ parent b.
            built-lost parent _ c.as_slice-kid-items.result.now _ _ _ _ c.loop-kid.kid-index c.kid-item.result _ _ c.loop-kid-test.true c.kid-item.is rest w.done-is w.if-failed.true w.failed-is
            (c.loop-kid.invariant.so_far parent b);
      }
  | assemble_kids-else-failed+in_ok-value+in_ok-failed w ↦
      let rest = ap (λ (r : _). r.now) w.rest-is ∙ w.in_ok-value.ensures.rest in
      record {
        left = skip_keeps c.as_slice-kid-items.result.now c.loop-kid.kid-index c.kid-item.result _ _ _ c.loop-kid-test.true c.kid-item.is rest c.loop-kid.invariant.left;
        rest_inside = inside-drop _ _ _ _ rest c.loop-kid.invariant.rest_inside;
        so_far =
            λ parent b.
            built-item parent _ c.as_slice-kid-items.result.now _ _ _ _ w.in_ok-failed.field-0 c.loop-kid.kid-index c.kid-item.result w.in_ok-value.value _ _ c.loop-kid-test.true c.kid-item.is rest
            (w.done-is ∙ w.in_ok-failed.ensures.kid) w.if-failed.false w.failed-is w.in_ok-failed.ensures.kept (w.in_ok-value.ensures.built parent) (c.loop-kid.invariant.so_far parent b);
      }
]

pub assemble_kids-returns-then-failed-2-clause-built : goal.assemble_kids-returns-then-failed-2-clause-built
assemble_kids-returns-then-failed-2-clause-built g t c parent b =
    let rows = g.R.Results.rows c.args.results.now in
    let ks = c.as_slice-kid-items.result.now in
    along (λ ks. AreBuilt (row_of ks) (in_order (walks (text_key parent) (ask_of rows) (row_of ks))) None) c.as_slice-kid-items.ensures
    (lost-all parent rows ks c.loop-kid.done c.loop-kid.kid-index _ c.loop-kid-test.false
    (along (λ f. BuiltSoFar parent rows ks c.loop-kid.kid-index c.loop-kid.done f c.loop-kid.rest.now) c.if-failed-2.true
    (c.loop-kid.invariant.so_far parent (as_begins parent rows _ _ _ (ap (λ ks. keys_of_row parent (row_of ks)) (sym c.as_slice-kid-items.ensures)) b))))

pub assemble_kids-returns-then-failed-2-clause-rest : goal.assemble_kids-returns-then-failed-2-clause-rest
assemble_kids-returns-then-failed-2-clause-rest g t c =
    skip_ends c.as_slice-kid-items.result.now c.loop-kid.kid-index _ _ c.loop-kid-test.false c.loop-kid.invariant.left
    ∙ ap (λ ks. drop (imports_of_parts (row_of ks)) c.args.edges.now) c.as_slice-kid-items.ensures

pub assemble_kids-returns-clause-built : goal.assemble_kids-returns-clause-built
assemble_kids-returns-clause-built g t c parent b =
    let rows = g.R.Results.rows c.args.results.now in
    let ks = c.as_slice-kid-items.result.now in
    along (λ ks. AreBuilt (row_of ks) (in_order (walks (text_key parent) (ask_of rows) (row_of ks))) (Some c.loop-kid.done)) c.as_slice-kid-items.ensures
    (built-all parent rows ks c.loop-kid.done c.loop-kid.kid-index _ c.loop-kid-test.false
    (along (λ f. BuiltSoFar parent rows ks c.loop-kid.kid-index c.loop-kid.done f c.loop-kid.rest.now) c.if-failed-2.false
    (c.loop-kid.invariant.so_far parent (as_begins parent rows _ _ _ (ap (λ ks. keys_of_row parent (row_of ks)) (sym c.as_slice-kid-items.ensures)) b))))

pub assemble_kids-returns-clause-rest : goal.assemble_kids-returns-clause-rest
assemble_kids-returns-clause-rest g t c =
    skip_ends c.as_slice-kid-items.result.now c.loop-kid.kid-index _ _ c.loop-kid-test.false c.loop-kid.invariant.left
    ∙ ap (λ ks. drop (imports_of_parts (row_of ks)) c.args.edges.now) c.as_slice-kid-items.ensures
