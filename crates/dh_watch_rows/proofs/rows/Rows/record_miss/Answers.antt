use Rattle.std.specs.Prelude.{List, [], ◌∷◌, map, None}
use Rattle.std.proofs.Common.{sym, ◌∙◌, subst}
use Rattle.dh_record.specs.declared.rows.recorded.Look.{Look}
use Rattle.dh_record.specs.Sorting.{IsRanked, rank_of_look}
use Rattle.dh_record.proofs.Recorded.{look_new}
use Rattle.dh_watch_rows.proofs.rows.Rows.record_miss.Goals as goal

pub insert-requires-clause-new : goal.insert-requires-clause-new
insert-requires-clause-new c =
    subst (λ (ls : List Look). IsRanked (map rank_of_look ls) (c.args.digest.0 ∷ []) None) (sym (c.as_slice.ensures.value ∙ c.next_number.ensures.items))
    (look_new c.args.digest c.args.self.now.looks.items c.requires.new)
