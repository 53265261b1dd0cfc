use Rattle.std.proofs.Common.{ap, ◌∙◌}
use Rattle.std.proofs.lemmas.Result.{IfOk-weaker}
use Rattle.dh_syntax.specs.Text.Spans.{spans}
use Rattle.dh_places.specs.Spans.{spans_of}
use Rattle.dh_places.proofs.SpanTrees.{spans_of-nil}
use Rattle.dh_places.proofs.stretches.StretchesNotes.import_node.Goals as goal

pub returns : goal.returns
returns c = IfOk-weaker c.alone.result _ _ (λ row h. h ∙ ap (spans c.args.first c.args.last) (ap spans_of c.new.ensures ∙ spans_of-nil)) c.alone.ensures
