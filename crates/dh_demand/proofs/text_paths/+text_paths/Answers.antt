use Rattle.std.proofs.Common.{rules, ◌≡◌, ◌++◌, ◌∷◌, [], length, refl, sym, ap, ◌∙◌, subst as along}
use Rattle.std.proofs.lemmas.List.{append_assoc}
use Rattle.std.specs.Option.{option_copied}
use Rattle.dh_syntax.specs.Expressions.Bridge.{term, row_of}
use Rattle.dh_imports.specs.TextPaths.{way_on, way_into, text_path, text_paths}
use Rattle.dh_imports.specs.Walk.{choosing, keys_of_row, walks}
use Rattle.dh_demand.specs.declared.ends.Next.TheVariants as next
use Rattle.dh_demand.specs.Results.{ask_of}
use Rattle.dh_demand.specs.Scans.{text_key}
use Rattle.dh_demand.proofs.Edges.{inside-drop, begins_at_item}
use Rattle.dh_demand.proofs.Nexting.{as_begins, choice_keys, other_keys, two_begin}
use Rattle.dh_demand.proofs.Ways.{on_ok, no_more, on_part, variable_way, import_way, other_way, choice_way, no_choice_way, left_way, right_way, on_the_way-start, on_the_way-item, at_the_part, no_such_part}
use Rattle.dh_demand.proofs.text_paths.+text_paths.Goals as goal

pub push_part-loop-kid-init : goal.push_part-loop-kid-init
push_part-loop-kid-init g t c = record {
  same = refl;
  inside = c.requires;
  on = on_the_way-start _ _ c.as_slice-kid-items.result.now _ _ _;
}

pub push_part-loop-kid-preserved : goal.push_part-loop-kid-preserved
push_part-loop-kid-preserved g t c = record {
  same = c.loop-kid.invariant.same;
  inside = inside-drop _ _ _ _ c.skip-edges.ensures c.loop-kid.invariant.inside;
  on = on_the_way-item _ _ c.as_slice-kid-items.result.now _ c.loop-kid.kid-index c.loop-kid.left _ c.kid-item.result _ _ _ _ c.loop-kid-test.true c.kid-item.is (search rules) c.skip-edges.ensures c.loop-kid.invariant.on;
}

pub push_part-returns-then-left-eq0 : goal.push_part-returns-then-left-eq0
push_part-returns-then-left-eq0 g t c =
    let parent = option_copied c.args.parent in
    let rows = g.R.Results.rows c.args.results.now in
    let ks = c.as_slice-kid-items.result.now in
    let way = c.args.way.now.items in
    let part = text_path (text_key parent) (ask_of rows) (term c.kid-item.result.body) c.in-Some.rest.now in
    on_ok c.push_way.result
    (λ h b.
    let begins = c.loop-kid.invariant.on.begins (as_begins parent rows _ _ _ (ap (λ ks. keys_of_row parent (row_of ks)) (sym c.as_slice-kid-items.ensures)) b) in
    h (begins_at_item parent rows ks c.loop-kid.kid-index c.kid-item.result _ c.loop-kid-test.true c.kid-item.is begins)
    ∙ ap (λ w. w ++ part) (c.loop-kid.invariant.same ∙ c.in_ok-push.ensures.items)
    ∙ along (λ ks. (way ++ c.in-Some.number.now ∷ []) ++ part ≡ way ++ way_on (text_paths (text_key parent) (ask_of rows) (row_of ks)) c.args.path.now) c.as_slice-kid-items.ensures
    (on_part way part c.in-Some.number.now c.in-Some.rest.now c.args.path.now _ c.in-Some.ensures.cases.0
    (at_the_part parent rows ks c.in-Some.number.now c.loop-kid.kid-index c.loop-kid.left c.kid-item.result c.in-Some.rest.now _ _ c.loop-kid-test.true c.kid-item.is c.if-left-eq0.true c.loop-kid.invariant.on)))
    c.push_way.ensures

pub push_part-returns : goal.push_part-returns
push_part-returns g t c b =
    let parent = option_copied c.args.parent in
    let rows = g.R.Results.rows c.args.results.now in
    let ks = c.as_slice-kid-items.result.now in
    let way = c.args.way.now.items in
    c.loop-kid.invariant.same ∙ c.in_ok-push.ensures.items ∙ no_more (way ++ c.in-Some.number.now ∷ []) [] refl
    ∙ along (λ ks. (way ++ c.in-Some.number.now ∷ []) ++ [] ≡ way ++ way_on (text_paths (text_key parent) (ask_of rows) (row_of ks)) c.args.path.now) c.as_slice-kid-items.ensures
    (on_part way [] c.in-Some.number.now c.in-Some.rest.now c.args.path.now _ c.in-Some.ensures.cases.0
    (no_such_part parent rows ks c.in-Some.number.now c.loop-kid.kid-index c.loop-kid.left c.in-Some.rest.now _ _ c.loop-kid-test.false c.loop-kid.invariant.on))

pub push_side-returns-in_ok-push : goal.push_side-returns-in_ok-push
push_side-returns-in_ok-push g t c =
    let parent = option_copied c.args.parent in
    let rows = g.R.Results.rows c.args.results.now in
    let ks = c.as_slice-kids.result.now in
    let way = c.args.way.now.items in
    let two = ap length c.as_slice-kids.ensures ∙ c.requires.two in
    let left = text_path (text_key parent) (ask_of rows) (term c.index-kids-0.result.body) c.args.path.now in
    on_ok c.push_way.result
    (λ h b.
    let bs = two_begin parent rows ks c.index-kids-0.result c.index-kids-1.result _ _ two c.index-kids-0.is c.index-kids-1.is c.next_in-first.ensures.rest
    (as_begins parent rows _ _ _ (ap (λ ks. keys_of_row parent (row_of ks)) (sym c.as_slice-kids.ensures)) b) in
    let first = c.next_in-first.ensures.next bs.0 in
    let ready : c.next_in-first.result.0 ≡ next.Ready = search rules in
    h bs.0 ∙ ap (λ w. w ++ left) c.in_ok-push.ensures.items ∙ append_assoc way (0 ∷ []) left
    ∙ along (λ ks. way ++ 0 ∷ left ≡ way ++ way_into choosing (walks (text_key parent) (ask_of rows) (row_of ks)) (text_paths (text_key parent) (ask_of rows) (row_of ks)) c.args.path.now) c.as_slice-kids.ensures
    (ap (λ m. way ++ m) (sym (left_way parent rows ks c.index-kids-0.result c.index-kids-1.result _ c.args.path.now two c.index-kids-0.is c.index-kids-1.is first ready))))
    c.push_way.ensures

pub push_side-returns-in_ok-push-2 : goal.push_side-returns-in_ok-push-2
push_side-returns-in_ok-push-2 g t c =
    let parent = option_copied c.args.parent in
    let rows = g.R.Results.rows c.args.results.now in
    let ks = c.as_slice-kids.result.now in
    let way = c.args.way.now.items in
    let two = ap length c.as_slice-kids.ensures ∙ c.requires.two in
    let right = text_path (text_key parent) (ask_of rows) (term c.index-kids-1.result.body) c.args.path.now in
    on_ok c.push_way-else-is_ready.result
    (λ h b.
    let bs = two_begin parent rows ks c.index-kids-0.result c.index-kids-1.result _ _ two c.index-kids-0.is c.index-kids-1.is c.next_in-first.ensures.rest
    (as_begins parent rows _ _ _ (ap (λ ks. keys_of_row parent (row_of ks)) (sym c.as_slice-kids.ensures)) b) in
    let first = c.next_in-first.ensures.next bs.0 in
    h bs.1 ∙ ap (λ w. w ++ right) c.in_ok-push-2.ensures.items ∙ append_assoc way (1 ∷ []) right
    ∙ along (λ ks. way ++ 1 ∷ right ≡ way ++ way_into choosing (walks (text_key parent) (ask_of rows) (row_of ks)) (text_paths (text_key parent) (ask_of rows) (row_of ks)) c.args.path.now) c.as_slice-kids.ensures
    (ap (λ m. way ++ m) (sym (right_way parent rows ks c.index-kids-0.result c.index-kids-1.result _ c.args.path.now two c.index-kids-0.is c.index-kids-1.is first (λ e. search rules)))))
    c.push_way-else-is_ready.ensures

pub push_way-returns-in-Var : goal.push_way-returns-in-Var
push_way-returns-in-Var g t c b = no_more _ _ (variable_way _ _ c.args.e.now c.in-Var.field-0 c.in-Var.field-1 c.args.path.now c.in-Var.is)

pub push_way-returns-in-Import : goal.push_way-returns-in-Import
push_way-returns-in-Import g t c b = no_more _ _ (import_way _ _ c.args.e.now c.in-Node.op c.in-Node.kids c.args.path.now c.in-Node.is c.in-Import.ensures)

pub push_way-returns-then-len-eq2 : goal.push_way-returns-then-len-eq2
push_way-returns-then-len-eq2 g t c =
    on_ok c.push_side.result
    (λ h b.
    h (as_begins _ _ _ _ _ (choice_keys _ c.args.e.now c.in-Node.op c.in-Node.kids c.in-Node.is c.in-Choice.ensures) b)
    ∙ ap (λ m. c.args.way.now.items ++ m) (sym (choice_way _ _ c.args.e.now c.in-Node.op c.in-Node.kids c.args.path.now c.in-Node.is c.in-Choice.ensures)))
    c.push_side.ensures

pub push_way-returns-else-len-eq2 : goal.push_way-returns-else-len-eq2
push_way-returns-else-len-eq2 g t c =
    on_ok c.push_part.result
    (λ h b.
    h (as_begins _ _ _ _ _ (choice_keys _ c.args.e.now c.in-Node.op c.in-Node.kids c.in-Node.is c.in-Choice.ensures) b)
    ∙ ap (λ m. c.args.way.now.items ++ m)
    (sym (choice_way _ _ c.args.e.now c.in-Node.op c.in-Node.kids c.args.path.now c.in-Node.is c.in-Choice.ensures ∙ no_choice_way _ _ c.in-Node.kids c.args.path.now (λ e. search rules))))
    c.push_part.ensures

pub push_way-returns-in-Other : goal.push_way-returns-in-Other
push_way-returns-in-Other g t c =
    on_ok c.push_part-in-Other.result
    (λ h b.
    h (as_begins _ _ _ _ _ (other_keys _ c.args.e.now c.in-Node.op c.in-Node.kids c.in-Node.is c.in-Other.ensures) b)
    ∙ ap (λ m. c.args.way.now.items ++ m) (sym (other_way _ _ c.args.e.now c.in-Node.op c.in-Node.kids c.args.path.now c.in-Node.is c.in-Other.ensures)))
    c.push_part-in-Other.ensures
