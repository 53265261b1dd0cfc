use Rattle.std.proofs.Common.{◌≡◌, sym, ◌∙◌, ap, subst as along}
use Rattle.std.specs.Prelude.{take, ◌+◌, ◌++◌, ◌∷◌, [], List}
use Rattle.std.specs.Option.{option_copied}
use Rattle.std.proofs.lemmas.List.{take_more}
use Rattle.dh_syntax.specs.declared.locations.Key.{Key}
use Rattle.dh_record.specs.Entering.{AreMore, AreEdges, entered, entered_all, keys_in}
use Rattle.dh_record.specs.Rows.{rows_of}
use Rattle.dh_record.proofs.NewKeys.{more_joined, more_keys, entered-push, edges_more, edges_push}
use Rattle.dh_record.proofs.rows.entering.enter_all.Goals as goal

pub loop-key-preserved : goal.loop-key-preserved
loop-key-preserved c =
    let ks = c.args.imports.now in
    let i = c.loop-key.key-index in
    let k = c.key-item.result in
    let old = c.args.keys.now in
    let keys = c.loop-key.keys in
    let new = c.enter.new.keys in
    let parent = option_copied c.args.parent in
    let e : take (i + 1) ks ≡ take i ks ++ k ∷ [] = take_more ks i k c.loop-key-test.true ∙ ap (λ (x : Key). take i ks ++ x ∷ []) (sym c.key-item.is) in
    let before = c.loop-key.invariant.entered in
    let entering : AreMore keys (entered (keys_in keys) k) new = c.in_ok-number.ensures.entered in
    record {
      few = c.in_ok-number.ensures.few;
      entered =
          along (λ (js : List Key). AreMore old (entered_all (keys_in old) js) new) (sym e)
          (more_joined old keys new _ _ before
          (more_keys keys new _ _ (ap (λ js. entered js k) before.keys_are ∙ sym (entered-push (keys_in old) (take i ks) k)) entering));
      edges =
          along (λ (js : List Key). AreEdges parent (rows_of new) js c.push.new.self) (sym e)
          (along (λ ds. AreEdges parent (rows_of new) (take i ks ++ k ∷ []) ds) (sym c.in_ok-push.ensures.ok)
          (edges_push parent (rows_of new) (take i ks) c.loop-key.edges k _ (edges_more parent keys new _ (take i ks) c.loop-key.edges entering c.loop-key.invariant.edges)
          (record { numbered = c.in_ok-number.ensures.number; sane_is = sym c.sane-sane.ensures })));
    }
