use Rattle.std.proofs.Common.{◌∙◌, ap, subst as along}
use Rattle.dh_demand.specs.Results.{number_of}
use Rattle.dh_record.specs.Sorting.{rank_of, IsRanked}
use Rattle.dh_record.specs.Rows.{rows_of}
use Rattle.dh_record.proofs.KeyRanks.{ranks_of, ranked_number}
use Rattle.dh_record.proofs.rows.entrants.Entrants.number.Goals as goal

pub returns : goal.returns
returns c =
    let rows = c.self.inside.rows.items in
    ranked_number rows c.self.inside.order.numbers.items c.args.key.now c.find.result c.self.invariant
    (along (λ es. IsRanked (ranks_of es) (rank_of c.args.key.now) c.find.result) c.as_slice-rows.ensures.value c.find.ensures)
    ∙ ap (λ es. number_of (rows_of es) c.args.key.now) c.self.view_is
