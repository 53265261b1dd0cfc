use Rattle.std.proofs.Common.{sym, ap, ◌∙◌, subst}
use Rattle.dh_command.specs.Responses.{answer as answer_of}
use Rattle.dh_imports.specs.Machine.{outcome_of}
use Rattle.dh_syntax.specs.Text.Offsets.{SpellsWith}
use Rattle.dh_table.specs.States.{state_of}
use Rattle.dh_top.proofs.freezing.freezing.Goals as goal

pub returns : goal.returns
returns g c =
    let root = (state_of c.args.table.now).root in
    let spells = subst (λ os. SpellsWith c.args.text.now root os) (sym c.as_slice.ensures.value) (c.in_ok-offsets.ensures root c.requires.spelled) in
    (c.in_ok-frozen.frozen, c.in_ok-frozen.ensures root (outcome_of (state_of c.args.table.now)) spells (c.as_slice-2.ensures.value ∙ c.in_ok-digests.ensures), c.answer.ensures ∙ ap answer_of c.into_vec.ensures)
