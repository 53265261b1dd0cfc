use Rattle.dh_parse.proofs.Placings.{imports_again}
use Rattle.dh_parse.proofs.placed.import_offsets.Goals as goal

pub notes-requires : goal.notes-requires
notes-requires c = imports_again _ _ c.requires c.in_ok-tokens_again.ensures
