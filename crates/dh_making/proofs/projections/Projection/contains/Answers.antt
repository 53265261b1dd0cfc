use Rattle.std.proofs.Common.{◌∙◌, ap}
use Rattle.std.proofs.lemmas.Result.{IfOk-weaker}
use Rattle.dh_syntax.specs.Text.Derivation.{key_label}
use Rattle.dh_syntax.specs.Text.Derived.{among}
use Rattle.dh_syntax.specs.Text.Meaning.{names}
use Rattle.dh_making.specs.Words.{key_of, keys_of}
use Rattle.dh_making.proofs.SortedRows.{among_sorted}
use Rattle.dh_making.proofs.projections.Projection.contains.Goals as goal

pub returns : goal.returns
returns c =
    let x = key_label (key_of c.args.key.now) in
    IfOk-weaker c.contains_key.result _ _ (λ b h. h ∙ ap (λ ls. among x (names ls)) c.args.self.now.same ∙ among_sorted x (keys_of c.args.self.now.keys)) c.contains_key.ensures
