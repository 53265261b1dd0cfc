use Rattle.std.proofs.Common.{rules, arith, length, sym, ap, ◌∙◌, drop, refl, Some, subst as along}
use Rattle.std.specs.Option.{option_copied, option_map}
use Rattle.dh_syntax.specs.Expressions.Bridge.{term, row_of}
use Rattle.dh_imports.specs.Walk.{in_order, walk, walks, keys_of_row}
use Rattle.dh_demand.specs.Results.{ask_of}
use Rattle.dh_demand.specs.Scans.{text_key, imports_of_parts}
use Rattle.dh_demand.specs.Inside.Comparing.{IsCompared, AreCompared, IsSideCompared, going_on, has_binder, body_of}
use Rattle.dh_demand.proofs.Compared.{variable_compared, import_compared, other_compared, unchosen_compared, choice_compared, left_compared, right_compared, compared-start, compared-item, compared-all}
use Rattle.dh_demand.proofs.Edges.{inside-drop}
use Rattle.dh_demand.proofs.Nexting.{import_rest, choice_keys, choice_rest, other_keys, other_rest, as_begins, two_begin, two_imports}
use Rattle.dh_demand.proofs.Skipping.{skip_variable, skip_keeps, skip_ends}
use Rattle.dh_demand.proofs.comparing.+compare.Goals as goal

pub compare_in-returns-in-Var-clause-same : goal.compare_in-returns-in-Var-clause-same
compare_in-returns-in-Var-clause-same g t c parent b = variable_compared parent _ c.args.e.now c.in-Var.field-0 c.in-Var.field-1 _ _ c.in-Var.is c.is_there.ensures

pub compare_in-returns-in-Var-clause-rest : goal.compare_in-returns-in-Var-clause-rest
compare_in-returns-in-Var-clause-rest g t c = skip_variable c.args.e.now c.in-Var.field-0 c.in-Var.field-1 _ c.in-Var.is

pub compare_in-returns-in-Import-clause-same : goal.compare_in-returns-in-Import-clause-same
compare_in-returns-in-Import-clause-same g t c parent b =
    import_compared parent _ c.args.e.now c.in-Node.op c.in-Node.kids _ _ _ c.in-Node.is c.in-Import.ensures (c.compare_import-same.ensures.same parent) b

pub compare_in-returns-in-Import-clause-rest : goal.compare_in-returns-in-Import-clause-rest
compare_in-returns-in-Import-clause-rest g t c =
    import_rest c.args.e.now c.in-Node.op c.in-Node.kids _ _ _ c.in-Node.is c.in-Import.ensures c.compare_import-same.ensures.rest c.skip_kids.ensures

pub compare_in-returns-then-len-eq2-clause-same : goal.compare_in-returns-then-len-eq2-clause-same
compare_in-returns-then-len-eq2-clause-same g t c parent b =
    choice_compared parent _ c.args.e.now c.in-Node.op c.in-Node.kids _ _ c.in-Node.is c.in-Choice.ensures
    (c.compare_choice.ensures.same parent (as_begins _ _ _ _ _ (choice_keys _ c.args.e.now c.in-Node.op c.in-Node.kids c.in-Node.is c.in-Choice.ensures) b))

pub compare_in-returns-then-len-eq2-clause-rest : goal.compare_in-returns-then-len-eq2-clause-rest
compare_in-returns-then-len-eq2-clause-rest g t c = choice_rest c.args.e.now c.in-Node.op c.in-Node.kids _ _ c.in-Node.is c.in-Choice.ensures c.compare_choice.ensures.rest

pub compare_in-returns-else-len-eq2-clause-same : goal.compare_in-returns-else-len-eq2-clause-same
compare_in-returns-else-len-eq2-clause-same g t c parent b =
    unchosen_compared parent _ c.args.e.now c.in-Node.op c.in-Node.kids _ _ _ c.in-Node.is c.in-Choice.ensures (λ e. search rules) c.kids_under.ensures
    (c.compare_kids.ensures.same parent (as_begins _ _ _ _ _ (choice_keys _ c.args.e.now c.in-Node.op c.in-Node.kids c.in-Node.is c.in-Choice.ensures) b))

pub compare_in-returns-else-len-eq2-clause-rest : goal.compare_in-returns-else-len-eq2-clause-rest
compare_in-returns-else-len-eq2-clause-rest g t c = choice_rest c.args.e.now c.in-Node.op c.in-Node.kids _ _ c.in-Node.is c.in-Choice.ensures c.compare_kids.ensures.rest

pub compare_in-returns-in-Other-clause-same : goal.compare_in-returns-in-Other-clause-same
compare_in-returns-in-Other-clause-same g t c parent b =
    other_compared parent _ c.args.e.now c.in-Node.op c.in-Node.kids _ _ _ c.in-Node.is c.in-Other.ensures c.kids_under-in-Other.ensures
    (c.compare_kids-in-Other.ensures.same parent (as_begins _ _ _ _ _ (other_keys _ c.args.e.now c.in-Node.op c.in-Node.kids c.in-Node.is c.in-Other.ensures) b))

pub compare_in-returns-in-Other-clause-rest : goal.compare_in-returns-in-Other-clause-rest
compare_in-returns-in-Other-clause-rest g t c = other_rest c.args.e.now c.in-Node.op c.in-Node.kids _ _ c.in-Node.is c.in-Other.ensures c.compare_kids-in-Other.ensures.rest

pub compare_choice-returns-in-Some-clause-same : goal.compare_choice-returns-in-Some-clause-same
compare_choice-returns-in-Some-clause-same g t c parent b =
    let rows = g.R.Results.rows c.args.results.now in
    let ks = c.as_slice-kids.result.now in
    let o = option_map term (option_copied c.args.other) in
    let two = ap length c.as_slice-kids.ensures ∙ c.requires.two in
    let bs = two_begin parent rows ks c.index-kids-0.result c.index-kids-1.result _ _ two c.index-kids-0.is c.index-kids-1.is c.compare_in-same.ensures.rest
    (as_begins parent rows _ _ _ (ap (λ ks. keys_of_row parent (row_of ks)) (sym c.as_slice-kids.ensures)) b) in
    let first = along (IsCompared (walk (text_key parent) (ask_of rows) (term c.index-kids-0.result.body)) o) c.in-Some.is (c.compare_in-same.ensures.same parent bs.0) in
    along (λ ks. IsSideCompared (walks (text_key parent) (ask_of rows) (row_of ks)) o (Some c.in-Some.same)) c.as_slice-kids.ensures
    (left_compared parent rows ks c.index-kids-0.result c.index-kids-1.result o c.in-Some.same two c.index-kids-0.is c.index-kids-1.is first)

pub compare_choice-returns-in-Some-clause-rest : goal.compare_choice-returns-in-Some-clause-rest
compare_choice-returns-in-Some-clause-rest g t c =
    let two = ap length c.as_slice-kids.ensures ∙ c.requires.two in
    two_imports c.as_slice-kids.result.now c.index-kids-0.result c.index-kids-1.result _ _ _ two c.index-kids-0.is c.index-kids-1.is c.compare_in-same.ensures.rest c.skip.ensures
    ∙ ap (λ ks. drop (imports_of_parts (row_of ks)) c.args.edges.now) c.as_slice-kids.ensures

pub compare_choice-returns-in-None-clause-same : goal.compare_choice-returns-in-None-clause-same
compare_choice-returns-in-None-clause-same g t c parent b =
    let rows = g.R.Results.rows c.args.results.now in
    let ks = c.as_slice-kids.result.now in
    let o = option_map term (option_copied c.args.other) in
    let two = ap length c.as_slice-kids.ensures ∙ c.requires.two in
    let bs = two_begin parent rows ks c.index-kids-0.result c.index-kids-1.result _ _ two c.index-kids-0.is c.index-kids-1.is c.compare_in-same.ensures.rest
    (as_begins parent rows _ _ _ (ap (λ ks. keys_of_row parent (row_of ks)) (sym c.as_slice-kids.ensures)) b) in
    let first = along (IsCompared (walk (text_key parent) (ask_of rows) (term c.index-kids-0.result.body)) o) c.in-None.is (c.compare_in-same.ensures.same parent bs.0) in
    along (λ ks. IsSideCompared (walks (text_key parent) (ask_of rows) (row_of ks)) o c.compare_in.result.0) c.as_slice-kids.ensures
    (right_compared parent rows ks c.index-kids-0.result c.index-kids-1.result o _ two c.index-kids-0.is c.index-kids-1.is first (c.compare_in.ensures.same parent bs.1))

pub compare_choice-returns-in-None-clause-rest : goal.compare_choice-returns-in-None-clause-rest
compare_choice-returns-in-None-clause-rest g t c =
    let two = ap length c.as_slice-kids.ensures ∙ c.requires.two in
    two_imports c.as_slice-kids.result.now c.index-kids-0.result c.index-kids-1.result _ _ _ two c.index-kids-0.is c.index-kids-1.is c.compare_in-same.ensures.rest c.compare_in.ensures.rest
    ∙ ap (λ ks. drop (imports_of_parts (row_of ks)) c.args.edges.now) c.as_slice-kids.ensures

pub compare_kids-loop-i-init : goal.compare_kids-loop-i-init
compare_kids-loop-i-init g t c = record {
  most = omega arith;
  left = refl;
  rest_inside = c.requires;
  so_far = λ parent b. compared-start parent _ c.as_slice-kids.result.now _ _ b;
}

pub compare_kids-loop-i-preserved : goal.compare_kids-loop-i-preserved
compare_kids-loop-i-preserved g t c =
    let rows = g.R.Results.rows c.args.results.now in
    let ks = c.as_slice-kids.result.now in
    let k = c.index-kids-i.result in
    let i = c.loop-i.i in
    let others = option_copied c.args.others in
    let part = c.compare_in-part.result.0 in
    let rest = c.compare_in-part.ensures.rest in
    record {
      most = omega (arith, c.loop-i-test.true);
      left = skip_keeps ks i k _ _ _ c.loop-i-test.true c.index-kids-i.is rest c.loop-i.invariant.left;
      rest_inside = inside-drop _ _ _ _ rest c.loop-i.invariant.rest_inside;
      so_far =
          λ parent b.
          compared-item parent rows ks others i k c.loop-i.same part _ _ _ c.loop-i-test.true c.index-kids-i.is rest
          (c.go_on-same.ensures ∙ ap (λ x. going_on c.loop-i.same x part) (c.has_binder_of.ensures ∙ ap (has_binder k.binder) c.kid_at-other.ensures))
          (λ begins.
          along (λ x. IsCompared (walk (text_key parent) (ask_of rows) (term k.body)) (option_map term x) part) (c.body_of.ensures ∙ ap (option_map body_of) c.kid_at-other.ensures)
          (c.compare_in-part.ensures.same parent begins))
          (c.loop-i.invariant.so_far parent b);
    }

pub compare_kids-returns-clause-same : goal.compare_kids-returns-clause-same
compare_kids-returns-clause-same g t c parent b =
    let rows = g.R.Results.rows c.args.results.now in
    let ks = c.as_slice-kids.result.now in
    let others = option_copied c.args.others in
    along (λ ks. AreCompared (row_of ks) (in_order (walks (text_key parent) (ask_of rows) (row_of ks))) (option_map row_of others) c.ended.result) c.as_slice-kids.ensures
    (compared-all parent rows ks others c.loop-i.i c.loop-i.same c.ended.result _ (omega (arith, c.loop-i-test.false, c.loop-i.invariant.most)) c.ended.ensures
    (c.loop-i.invariant.so_far parent (as_begins parent rows _ _ _ (ap (λ ks. keys_of_row parent (row_of ks)) (sym c.as_slice-kids.ensures)) b)))

pub compare_kids-returns-clause-rest : goal.compare_kids-returns-clause-rest
compare_kids-returns-clause-rest g t c =
    skip_ends c.as_slice-kids.result.now c.loop-i.i _ _ (omega (arith, c.loop-i-test.false)) c.loop-i.invariant.left
    ∙ ap (λ ks. drop (imports_of_parts (row_of ks)) c.args.edges.now) c.as_slice-kids.ensures
