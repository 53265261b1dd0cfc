use Rattle.std.proofs.Common.{◌∙◌, ap, sym}
use Rattle.std.proofs.lemmas.Result.{IfOk-weaker}
use Rattle.dh_syntax.specs.Text.Derivation.{key_label}
use Rattle.dh_syntax.specs.Text.Derived.{among}
use Rattle.dh_operands.specs.Operands.{note_of}
use Rattle.dh_making.specs.Words.{key_of}
use Rattle.dh_making.proofs.SortedRows.{names-seen}
use Rattle.dh_operands.proofs.alternatives.Alternatives.contains.Goals as goal

pub returns : goal.returns
returns c =
    IfOk-weaker c.contains_key.result _ _ (λ b h. h ∙ ap (among (key_label (key_of c.args.key.now))) (sym (names-seen note_of c.args.self.now.by_label))) c.contains_key.ensures
