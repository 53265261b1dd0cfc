use Rattle.std.proofs.Common.{sym, ◌∙◌, refl}
use Rattle.dh_json.proofs.Parts.{alternative_here, alternative_past, alternative_nowhere}
use Rattle.dh_json.proofs.forms.alternative.Goals as goal

pub loop-alt-init : goal.loop-alt-init
loop-alt-init c = refl

pub returns-then-is_same_label : goal.returns-then-is_same_label
returns-then-is_same_label c = alternative_here c.args.x.now c.args.alts.now c.loop-alt.alt-index c.alt-item.result c.loop-alt-test.true c.alt-item.is (sym c.is_same_label.ensures ∙ c.if-is_same_label.true) c.loop-alt.invariant

pub loop-alt-preserved : goal.loop-alt-preserved
loop-alt-preserved c = alternative_past c.args.x.now c.args.alts.now c.loop-alt.alt-index c.alt-item.result c.loop-alt-test.true c.alt-item.is (sym c.is_same_label.ensures ∙ c.if-is_same_label.false) c.loop-alt.invariant

pub returns : goal.returns
returns c = alternative_nowhere c.args.x.now c.args.alts.now c.loop-alt.alt-index c.loop-alt-test.false c.loop-alt.invariant
