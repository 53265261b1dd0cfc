use Rattle.sha2.specs.Sha256.{sha256}
use Rattle.dh_work.proofs.Bringings.{digest_tells}
use Rattle.dh_work.proofs.looking.has_digest.Goals as goal

pub returns : goal.returns
returns c = digest_tells c.eq.result _ (sha256 c.args.bytes.now) c.args.digest.now.0 c.eq.ensures c.digest.ensures
