use Rattle.std.proofs.Common.{sym, ◌∙◌}
use Rattle.dh_grammar.proofs.TokenNumbers.{back-minus}
use Rattle.dh_places.proofs.nodes.back.Goals as goal

pub returns : goal.returns
returns c = c.saturating_sub.ensures ∙ sym (back-minus c.args.count c.args.at)
