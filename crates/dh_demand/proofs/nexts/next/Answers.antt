use Rattle.dh_demand.proofs.nexts.next.Goals as goal

pub returns-clause-next : goal.returns-clause-next
returns-clause-next g c = c.next_in-next.ensures.next (rw c.as_slice.ensures c.requires.begins)
