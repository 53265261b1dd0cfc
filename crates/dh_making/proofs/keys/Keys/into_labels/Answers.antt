use Rattle.std.proofs.Common.{◌≡◌, ◌∷◌, [], ◌++◌, ap, sym, ◌∙◌, append-nil}
use Rattle.std.specs.Vec.Iter.{into_iter_items}
use Rattle.dh_syntax.specs.Text.Derivation.{key_label, one_key}
use Rattle.dh_making.specs.Words.{key_of}
use Rattle.dh_making.proofs.KeyLists.{labels_of, key_labels}
use Rattle.dh_making.proofs.Loops.{nothing_left, one_taken, carried}
use Rattle.dh_making.proofs.keys.Keys.into_labels.Goals as goal

pub loop-key-preserved : goal.loop-key-preserved
loop-key-preserved c =
    let at = c.loop-key in
    let rest = labels_of (into_iter_items c.next.new.self) in (
      carried at.labels c.push-in-loop-key.new.self rest _ (key_label (key_of c.in-Some.key)) c.in_ok-push-2.ensures.ok c.in_ok-into_label-2.ensures
          ∙ ap (λ is. at.labels ++ labels_of is) (sym c.in-Some.ensures.steps.0) ∙ at.invariant.0,
      one_taken _ _ _ _ _ c.in-Some.ensures.steps.0 c.in-Some.ensures.steps.1 at.invariant.1,
    )

pub returns : goal.returns
returns c =
    let at = c.loop-key in
    let first = key_of c.args.self.first in
    let more = c.args.self.more.items in
    let none = nothing_left _ (sym at.invariant.1 ∙ c.in-None.ensures.steps.0) in
    let begun : c.push.new.self ≡ key_label first ∷ [] =
    c.in_ok-push.ensures.ok ∙ ap (λ l. l ++ c.in_ok-into_label.field-0 ∷ []) c.new-labels.ensures ∙ ap (λ x. x ∷ []) c.in_ok-into_label.ensures in
    sym (append-nil at.labels) ∙ ap (λ is. at.labels ++ labels_of is) (sym none) ∙ at.invariant.0
    ∙ ap (λ l. l ++ labels_of (into_iter_items c.into_iter-key-iterator.result)) begun
    ∙ ap (λ is. key_label first ∷ labels_of is) c.into_iter-key-iterator.ensures.into_iter_gives.0 ∙ sym (key_labels (one_key first) more)
