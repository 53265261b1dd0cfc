use Rattle.std.proofs.Common.{[], ◌∷◌, ◌++◌, ap, ◌∙◌}
use Rattle.dh_places.specs.declared.spans.Span.TheViews.{roll-Span}
use Rattle.dh_places.specs.Spans.{spans_of}
use Rattle.dh_places.proofs.SpanTrees.{spans_of-one, span_of-roll}
use Rattle.dh_places.proofs.stretches.alone.Goals as goal

pub returns : goal.returns
returns c =
    let s = roll-Span (record { from = c.args.from; to = c.args.to; parts = c.args.parts }) in
    ap spans_of (c.in_ok-push_back.ensures.items ∙ ap (λ ss. ss ++ s ∷ []) c.new-row.ensures.items) ∙ spans_of-one s
    ∙ span_of-roll c.args.from c.args.to c.args.parts
