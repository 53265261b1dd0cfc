use Rattle.std.proofs.Common.{rules}
use Rattle.std.proofs.lemmas.Fn.{filter_same}
use Rattle.dh_watch_rows.specs.Inside.Sifting.{has_outcome}
use Rattle.dh_watch_rows.proofs.sweeping.keep_known.Goals as goal

pub returns : goal.returns
returns c = filter_same _ (has_outcome c.args.keys.now) _ (λ x b f r. search rules) _ _ c.retain.ensures.filtered
