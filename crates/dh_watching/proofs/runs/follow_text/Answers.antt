use Rattle.std.proofs.Common.{refl, subst, sym}
use Rattle.dh_script.specs.Orders.{orders_of}
use Rattle.dh_watch_laws.specs.ScriptLines.{IsScript}
use Rattle.dh_watching.proofs.Texts.{text_of_orders, text_refused}
use Rattle.dh_watching.proofs.runs.follow_text.Goals as goal

pub returns-in-Ok-clause-follows : goal.returns-in-Ok-clause-follows
returns-in-Ok-clause-follows g c =
    text_of_orders c.args.text.now _ _ _ _ _ (orders_of c.as_slice.result.now)
    (subst (λ os. IsScript c.args.text.now (orders_of os)) (sym c.as_slice.ensures.value) c.in-Ok.ensures.script) c.follow_orders.ensures.follows

pub returns-in-Err-clause-follows : goal.returns-in-Err-clause-follows
returns-in-Err-clause-follows g c = text_refused c.args.text.now _ _ _ _ _ c.in-Err.fault c.in-Err.ensures.refused refl c.tell_fault.ensures
