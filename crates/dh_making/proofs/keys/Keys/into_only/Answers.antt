use Rattle.std.proofs.Common.{◌∙◌, ap, sym, length, ◌==◌}
use Rattle.std.proofs.lemmas.Bool.{false≢true}
use Rattle.dh_making.proofs.KeyLists.{several_keys}
use Rattle.dh_making.proofs.keys.Keys.into_only.Goals as goal

pub returns-else-is_empty : goal.returns-else-is_empty
returns-else-is_empty c =
    sym (several_keys _ c.args.self.more.items (λ e. false≢true (c.if-is_empty.ensures ∙ ap (λ xs. length xs == 0) (c.as_slice.ensures.value ∙ e))))
