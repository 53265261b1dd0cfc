use Rattle.std.proofs.Common.{sym, ◌∙◌, ap, subst as along}
use Rattle.std.specs.Prelude.{map}
use Rattle.std.proofs.lemmas.List.{take-map}
use Rattle.dh_record.specs.Sorting.{IsOrder, rank_of_entrant}
use Rattle.dh_record.proofs.rows.entrants.Entrants.truncate.Goals as goal

pub invariant_of-self : goal.invariant_of-self
invariant_of-self c =
    let rows = c.self.inside.rows.items in
    along (λ ranks. IsOrder ranks c.truncate.new.self.numbers.items)
    (take-map rank_of_entrant c.args.len rows ∙ ap (map rank_of_entrant) (sym c.truncate-2.ensures.items))
    (c.truncate.ensures (map rank_of_entrant rows) c.self.invariant)
