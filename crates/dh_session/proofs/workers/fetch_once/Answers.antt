use Rattle.dh_session.proofs.workers.fetch_once.Goals as goal

pub returns-clause-asked : goal.returns-clause-asked
returns-clause-asked g c = c.fetch_text.ensures.asked

pub returns-clause-filed : goal.returns-clause-filed
returns-clause-filed g c = c.fetch_text.ensures.filed

pub returns-clause-counted : goal.returns-clause-counted
returns-clause-counted g c = c.fetch_text.ensures.counted

pub returns-clause-failed : goal.returns-clause-failed
returns-clause-failed g c = c.fetch_text.ensures.failed
