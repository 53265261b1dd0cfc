use Rattle.std.proofs.Common.{◌∙◌}
use Rattle.dh_syntax.specs.Expressions.Bridge.{term}
use Rattle.dh_places.specs.Spans.{spans_of}
use Rattle.dh_watch_lines.proofs.BlameLines.{not_both, told_at}
use Rattle.dh_watch_lines.proofs.faults.place_told.Goals as goal

pub returns-in-Ok : goal.returns-in-Ok
returns-in-Ok c =
    told_at c.fault_told.result _ c.args.text.now (term c.in-Ok.field-0-0) (spans_of c.in-Ok.spans) c.args.path.now c.args.ill.now c.place_of-place.result.line c.place_of-place.result.column _
    c.in-Ok.ensures.spelled c.place_of-place.ensures.line c.place_of-place.ensures.column (c.as_str.ensures.value ∙ c.in_ok-line-in-Ok.ensures.ok) c.fault_told.ensures

pub unreachable-requires : goal.unreachable-requires
unreachable-requires c = not_both c.args.text.now c.requires.spelled.0 c.in-Err.fault c.requires.spelled.1 (c.in-Err.ensures.refused c.in_default.not-Memory)
