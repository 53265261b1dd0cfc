use Rattle.std.proofs.Common.{◌∙◌, ap}
use Rattle.dh_demand.specs.Results.{number_of}
use Rattle.dh_record.specs.Rows.{rows_of}
use Rattle.dh_record.proofs.KeyRanks.{new_rank}
use Rattle.dh_record.proofs.rows.entrants.Entrants.push.Goals as goal

pub insert-requires-clause-new : goal.insert-requires-clause-new
insert-requires-clause-new c = new_rank c.as_slice-rows.result.now c.args.entrant.key (ap (λ es. number_of (rows_of es) c.args.entrant.key) (c.as_slice-rows.ensures.value ∙ c.in_ok-reserve-2.ensures.items ∙ c.self.view_is) ∙ c.requires.new)
