use Rattle.std.proofs.Common.{sym, ap, subst as along}
use Rattle.std.proofs.Math.Seq.{map-set_same}
use Rattle.dh_record.specs.Sorting.{IsOrder, rank_of_entrant}
use Rattle.dh_record.proofs.rows.entrants.Entrants.decide.Goals as goal

pub invariant_of-self : goal.invariant_of-self
invariant_of-self c =
    along (λ ranks. IsOrder ranks c.self.inside.order.numbers.items)
    (sym (map-set_same rank_of_entrant c.self.inside.rows.items c.args.n _ c.index_mut-entrant.result.now (ap rank_of_entrant c.index_mut-entrant.ensures.value)))
    c.self.invariant
