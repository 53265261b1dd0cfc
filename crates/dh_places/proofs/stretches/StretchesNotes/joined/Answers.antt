use Rattle.std.proofs.Common.{ap, ◌∙◌}
use Rattle.std.proofs.lemmas.Result.{IfOk-weaker}
use Rattle.dh_places.specs.Spans.{spans_of}
use Rattle.dh_places.proofs.SpanTrees.{spans_of-append}
use Rattle.dh_places.proofs.stretches.StretchesNotes.joined.Goals as goal

pub returns : goal.returns
returns c = IfOk-weaker c.joined.result _ _ (λ made h. ap spans_of h ∙ spans_of-append c.args.left.items c.args.right.items) c.joined.ensures
