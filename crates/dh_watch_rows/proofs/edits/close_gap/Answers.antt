use Rattle.std.specs.Prelude.{map}
use Rattle.std.proofs.Common.{rules, ap, ◌∙◌}
use Rattle.std.proofs.lemmas.Fn.{filter_same}
use Rattle.dh_watch_rows.specs.Inside.Gaps.{lower, other}
use Rattle.dh_watch_rows.proofs.edits.close_gap.Goals as goal

pub returns : goal.returns
returns c = c.lower_all.ensures ∙ ap (map (lower c.args.number)) (filter_same _ (other c.args.number) _ (λ x b f r. search rules) _ _ c.retain.ensures.filtered)
