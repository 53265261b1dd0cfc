use Rattle.std.proofs.Common.{rules}
use Rattle.std.proofs.lemmas.Fn.{filter_same}
use Rattle.dh_record.proofs.SortedNumbers.{cut, is_under}
use Rattle.dh_record.proofs.rows.index.Order.truncate.Goals as goal

pub returns : goal.returns
returns c ranks o = cut ranks c.args.len c.args.self.now.numbers.items c.retain.new.self.items (filter_same _ (is_under c.args.len) _ (λ x b f r. search rules) _ _ c.retain.ensures.filtered) o
