use Rattle.std.proofs.Common.{ap, ◌∙◌}
use Rattle.dh_print.specs.Inside.Names.{spells_name}
use Rattle.dh_print.proofs.PlainLabels.{plain_label_is, no_label}
use Rattle.dh_print.proofs.labels.is_plain.Goals as goal

pub returns-then-spells_name : goal.returns-then-spells_name
returns-then-spells_name c = plain_label_is c.args.name.now c.is_among.result (c.if-spells_name.ensures ∙ ap spells_name c.as_bytes.ensures.value) c.is_among.ensures

pub returns-else-spells_name : goal.returns-else-spells_name
returns-else-spells_name c = no_label c.args.name.now c.as_bytes.result.now c.spells_name.result c.as_bytes.ensures.value c.if-spells_name.false c.spells_name.ensures
