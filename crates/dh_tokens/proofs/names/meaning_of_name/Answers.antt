use Rattle.std.proofs.Common.{ap, slice_index, ◌∙◌}
use Rattle.dh_syntax.specs.Text.LexNames.{named_in}
use Rattle.dh_tokens.specs.Inside.Names.{beginning_with, reserved_names}
use Rattle.dh_tokens.proofs.ReservedLaws.{named-by_first}
use Rattle.dh_tokens.proofs.names.meaning_of_name.Goals as goal

pub returns : goal.returns
returns c =
    let name = c.args.name.now in
    c.meaning_in.ensures
    ∙ ap (λ rs. named_in rs name) c.beginning_with.ensures
    ∙ ap (λ b. named_in (beginning_with b reserved_names) name) (c.byte_at.ensures ∙ ap (λ bs. slice_index bs 0) c.as_bytes.ensures.value)
    ∙ named-by_first name
