use Rattle.std.proofs.Common.{ap, sym, ◌∙◌, Some, ◌+◌, ◌<◌, option_map}
use Rattle.std.proofs.lemmas.Result.{IfOk-at_ok}
use Rattle.dh_store.specs.Cells.{code_core}
use Rattle.dh_store.specs.Growth.{count}
use Rattle.dh_types.specs.Following.{follow}
use Rattle.dh_typerows.proofs.Commons.{result-goes, result-refused}
use Rattle.dh_typerows.proofs.FoundFields.{below-at}
use Rattle.dh_typerows.proofs.HandlerLists.{closed-at, handled-more, left}
use Rattle.dh_typerows.proofs.merges.all_handled.Goals as goal

pub next_result-requires-clause-there : goal.next_result-requires-clause-there
next_result-requires-clause-there c = below-at (count c.args.codes.now) c.args.handlers.now c.loop-i.i c.index-handlers-i.result c.requires.there c.loop-i-test.true

pub next_result-requires-clause-closed : goal.next_result-requires-clause-closed
next_result-requires-clause-closed c = closed-at (code_core c.args.codes.now) c.args.handlers.now c.loop-i.i c.index-handlers-i.result c.requires.closed c.loop-i-test.true

pub returns-in-Err-clause-rule : goal.returns-in-Err-clause-rule
returns-in-Err-clause-rule c = λ facts next.
    sym (c.loop-i.invariant.rule facts next)
    ∙ ap (follow facts)
    (handled-more (code_core c.args.codes.now) facts c.args.labels.now c.args.handlers.now c.args.alts.now c.requires.paired c.requires.counted c.loop-i.i c.loop-i.rest.now c.split-t.result.1.now c.split-t.result.0 c.index-alts-i.result
    c.index-handlers-i.result (option_map (code_core c.args.codes.now) c.loop-i.outcome) next c.loop-i-test.true c.index-alts-i.is (λ others. c.split-t.ensures.next (code_core c.args.codes.now) others))
    ∙ c.in_ok-r.ensures.rule facts (λ r. left (code_core c.args.codes.now) facts c.args.labels.now c.args.handlers.now c.args.alts.now c.requires.paired c.requires.counted (c.loop-i.i + 1) c.split-t.result.1.now (Some r) next)
    ∙ result-refused (code_core c.args.codes.now) _ c.in-Err.rule _ c.in-Err.is

pub loop-i-preserved : goal.loop-i-preserved
loop-i-preserved c = record {
  rule = λ facts next.
      sym (result-goes (code_core c.args.codes.now) _ c.in-Ok.r _ c.in-Ok.is)
      ∙ sym (c.in_ok-r.ensures.rule facts (λ r. left (code_core c.args.codes.now) facts c.args.labels.now c.args.handlers.now c.args.alts.now c.requires.paired c.requires.counted (c.loop-i.i + 1) c.split-t.result.1.now (Some r) next))
      ∙ sym (ap (follow facts)
      (handled-more (code_core c.args.codes.now) facts c.args.labels.now c.args.handlers.now c.args.alts.now c.requires.paired c.requires.counted c.loop-i.i c.loop-i.rest.now c.split-t.result.1.now c.split-t.result.0 c.index-alts-i.result
      c.index-handlers-i.result (option_map (code_core c.args.codes.now) c.loop-i.outcome) next c.loop-i-test.true c.index-alts-i.is (λ others. c.split-t.ensures.next (code_core c.args.codes.now) others)))
      ∙ c.loop-i.invariant.rule facts next;
  there = IfOk-at_ok (λ q. q < count c.args.codes.now) c.in-Ok.is c.in_ok-r.ensures.there;
}
