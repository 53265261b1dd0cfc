use Rattle.std.proofs.Common.{◌∙◌, ◌+◌, ◌∷◌, [], ap, arith, subst, sym}
use Rattle.std.specs.Prelude.{All, IfSome}
use Rattle.std.proofs.lemmas.List.{map-append}
use Rattle.std.proofs.lemmas.List.Elements.{All-nil, All-push}
use Rattle.dh_watch_laws.specs.ScriptLines.{lines_of}
use Rattle.dh_script.specs.Orders.{IsFit, order_of, orders_of}
use Rattle.dh_script.specs.Reads.{IsOrderRead}
use Rattle.dh_script.proofs.Lining.{HasRead, first-bad, none_read, one-more_read}
use Rattle.dh_script.proofs.scripts.read_lines.Goals as goal

pub loop-rest-init : goal.loop-rest-init
loop-rest-init c =
    let all = lines_of c.args.text.now in
    let none = sym c.new-orders.ensures.items in
    record { read = subst (λ os. HasRead all all (orders_of os) 0) none (none_read all); few = omega arith; fit = subst (All IsFit) none (All-nil IsFit) }

pub returns-in-Ok-None-clause-refused : goal.returns-in-Ok-None-clause-refused
returns-in-Ok-None-clause-refused c =
    let all = lines_of c.args.text.now in
    let line = c.first_line.result.0.now in
    let orders = orders_of c.loop-rest.orders.items in
    first-bad all (lines_of c.first_line.result.1.now) line orders c.loop-rest.number
    (subst (λ ls. HasRead all ls orders c.loop-rest.number) c.first_line.ensures.lines c.loop-rest.invariant.read)
    (subst (IsOrderRead line) c.in-Ok-None.field-0-is c.in-Ok-None.ensures.order)

pub loop-rest-preserved : goal.loop-rest-preserved
loop-rest-preserved c =
    let all = lines_of c.args.text.now in
    let line = c.first_line.result.0.now in
    let more = lines_of c.first_line.result.1.now in
    let items = c.loop-rest.orders.items in
    let order = c.in-Ok-Some.order in
    let pushed = c.in_ok-push-in-Ok-Some.ensures.items in
    let here = subst (λ ls. HasRead all ls (orders_of items) c.loop-rest.number) c.first_line.ensures.lines c.loop-rest.invariant.read in
    let is = subst (IsOrderRead line) c.in-Ok-Some.field-0-is c.in-Ok-Some.ensures.order in
    let fit = subst (λ o. IfSome o IsFit) c.in-Ok-Some.field-0-is c.in-Ok-Some.ensures.fit in
    let next = one-more_read all more line (orders_of items) (order_of order) c.loop-rest.number here is in
    record {
      read = subst (λ os. HasRead all more os (c.loop-rest.number + 1)) (sym (ap orders_of pushed ∙ map-append order_of items (order ∷ []))) next;
      few = omega arith;
      fit = subst (All IsFit) (sym pushed) (All-push IsFit items order c.loop-rest.invariant.fit fit);
    }
