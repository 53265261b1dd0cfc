use Rattle.std.proofs.Common.{ap, sym, ◌∙◌}
use Rattle.dh_syntax.specs.Text.Spans.{in_text}
use Rattle.dh_places.specs.Spans.{spans_of}
use Rattle.dh_places.proofs.SpanTrees.{in_text-node, in_text_begins, in_text_keeps, in_text_ends}
use Rattle.dh_places.proofs.stretches.+spans.Goals as goal

pub span_in_text-returns : goal.span_in_text-returns
span_in_text-returns t c =
    in_text-node c.args.tokens.now c.args.span.now c.begin_of.result c.end_before.result c.in_ok-parts.parts c.begin_of.ensures c.end_before.ensures c.in_ok-parts.ensures

pub spans_in_text-loop-span-init : goal.spans_in_text-loop-span-init
spans_in_text-loop-span-init t c = in_text_begins c.args.tokens.now _ _ c.new-done.ensures

pub spans_in_text-loop-span-preserved : goal.spans_in_text-loop-span-preserved
spans_in_text-loop-span-preserved t c =
    in_text_keeps c.args.tokens.now c.loop-span.done _ c.as_slice-span-items.result.now c.loop-span.span-index c.span-item.result c.in_ok-span_in_text.field-0 c.in_ok-push.ensures.ok
    c.loop-span-test.true c.span-item.is c.in_ok-span_in_text.ensures
    ∙ c.loop-span.invariant

pub spans_in_text-returns : goal.spans_in_text-returns
spans_in_text-returns t c =
    sym (in_text_ends c.args.tokens.now c.loop-span.done c.as_slice-span-items.result.now c.loop-span.span-index c.loop-span-test.false) ∙ c.loop-span.invariant
    ∙ ap (λ ss. in_text c.args.tokens.now (spans_of ss)) c.as_slice-span-items.ensures
