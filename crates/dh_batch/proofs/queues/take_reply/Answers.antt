use Rattle.std.proofs.Common.{arith, ap, sym, ◌∙◌, []}
use Rattle.std.proofs.lemmas.List.{get_or-map, map-set}
use Rattle.dh_batch.proofs.queues.take_reply.Goals as goal

pub returns-clause-taken : goal.returns-clause-taken
returns-clause-taken g c = (
  c.take_first.new.v.items,
  get_or-map (λ q. q.items) c.args.queues.now.items c.args.at c.index_mut.result.now [] (omega (arith, c.requires.at)) ∙ ap (λ q. q.items) (sym c.index_mut.ensures.value) ∙ c.take_first.ensures.items,
  map-set (λ q. q.items) c.args.queues.now.items c.args.at c.take_first.new.v,
)
