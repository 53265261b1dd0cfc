use Rattle.dh_top.proofs.Filing.{files_one, files_not}
use Rattle.dh_top.proofs.keeping.keep_entry.Goals as goal

pub returns-in-Ok-clause-kept : goal.returns-in-Ok-clause-kept
returns-in-Ok-clause-kept g c = files_one _ _ _ _ c.args.entry.now.digest c.args.entry.now.bytes c.as_slice.result.now c.as_slice.ensures c.in-Ok.ensures.quiet c.in-Ok.ensures.kept

pub returns-in-Err-Failed-clause-kept : goal.returns-in-Err-Failed-clause-kept
returns-in-Err-Failed-clause-kept g c = files_not _ _ _ _ _ (c.in-Err-Failed.ensures.failed c.in-Err-Failed.field-0-is) c.in-Err-Failed.ensures.not_kept
