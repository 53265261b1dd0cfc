use Rattle.dh_tokens.proofs.Runs.{ascii_more}
use Rattle.dh_tokens.proofs.urls.domain_len.Goals as goal

pub returns-clause-ascii : goal.returns-clause-ascii
returns-clause-ascii c = ascii_more c.args.rest.now c.after.result.now c.label_len-len.result c.more_labels.result c.after.ensures c.label_len-len.ensures.ascii c.more_labels.ensures.ascii
