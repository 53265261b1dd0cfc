use Rattle.std.proofs.Common.{◌≡◌, drop}
use Rattle.dh_syntax.specs.Text.Spans.{in_text}
use Rattle.dh_places.specs.Spans.{spans_of}
use Rattle.dh_places.proofs.SpanTrees.{with_rest}
use Rattle.dh_places.proofs.stretches.+spans.Given as goal

abbrev pub invariant-spans_in_text-loop-span : goal.invariant-spans_in_text-loop-span
invariant-spans_in_text-loop-span l = with_rest l.tokens l.done (drop l.span-index l.span-items) ≡ in_text l.tokens (spans_of l.span-items)
