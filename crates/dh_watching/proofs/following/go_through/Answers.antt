use Rattle.dh_watching.proofs.Stepping.{gone_more, gone_to, nothing_gone, orders_around, orders_more}
use Rattle.dh_watching.proofs.following.go_through.Goals as goal

pub loop-i-init : goal.loop-i-init
loop-i-init g c = record { gone = nothing_gone _ _ _; agrees = c.requires.agrees }

pub returns-in-Err-clause-gone : goal.returns-in-Err-clause-gone
returns-in-Err-clause-gone g c =
    gone_to _ _ _ _ _ _ _ _ _ _ _ _ c.loop-i.invariant.gone c.in-Err.halt _ _ (orders_around c.args.orders.now c.loop-i.i c.index-orders-i.result c.loop-i-test.true c.index-orders-i.is)
    c.in-Err.ensures.order

pub loop-i-preserved : goal.loop-i-preserved
loop-i-preserved g c = record {
  gone = gone_more _ _ _ _ _ _ _ _ _ _ _ _ c.loop-i.invariant.gone _ c.in-Ok.next _ (orders_more c.args.orders.now c.loop-i.i c.index-orders-i.result c.loop-i-test.true c.index-orders-i.is)
      c.first_fault-status.ensures c.in-Ok.ensures.order;
  agrees = c.follow.ensures.agrees;
}
