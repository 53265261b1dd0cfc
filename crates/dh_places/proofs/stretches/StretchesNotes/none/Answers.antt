use Rattle.std.proofs.Common.{ap, ◌∙◌}
use Rattle.dh_places.specs.Spans.{spans_of}
use Rattle.dh_places.proofs.SpanTrees.{spans_of-nil}
use Rattle.dh_places.proofs.stretches.StretchesNotes.none.Goals as goal

pub returns : goal.returns
returns c = ap spans_of c.new.ensures.items ∙ spans_of-nil
