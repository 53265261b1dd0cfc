use Rattle.dh_work.proofs.Bringings.{text_tells}
use Rattle.dh_work.proofs.fetching.fetch_text.Goals as goal

pub returns-in_ok-scan-in-Ok-clause-failed : goal.returns-in_ok-scan-in-Ok-clause-failed
returns-in_ok-scan-in-Ok-clause-failed g c = text_tells c.args.loc c.in-Ok.got c.in_ok-scan-in-Ok.scan _ _ c.in_ok-scan-in-Ok.ensures
