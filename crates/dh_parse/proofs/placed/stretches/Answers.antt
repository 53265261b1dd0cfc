use Rattle.dh_parse.proofs.Placings.{nodes_again}
use Rattle.dh_parse.proofs.placed.stretches.Goals as goal

pub notes-requires : goal.notes-requires
notes-requires c = nodes_again _ _ c.requires c.in_ok-tokens_again.ensures
