use Rattle.std.proofs.Common.{◌∙◌, ap, refl}
use Rattle.std.proofs.lemmas.Option.{slice_get_read}
use Rattle.dh_places.specs.declared.spans.Span.TheViews.{out-Span}
use Rattle.dh_places.specs.Spans.{spans_of}
use Rattle.dh_syntax.specs.Text.Places.{start_below}
use Rattle.dh_faults.proofs.Parts.{below-some, below-none, past_end}
use Rattle.dh_faults.proofs.places.+start_below.Goals as goal

pub returns-in-Some-get : goal.returns-in-Some-get
returns-in-Some-get t c =
    c.start_below.ensures
    ∙ ap (λ ps. start_below (out-Span c.in-Some-get.part.now).from (spans_of ps) c.in-Some.rest.now) c.as_slice.ensures
    ∙ below-some c.args.here c.in-Some.number.now c.args.parts.now c.in-Some-get.part.now c.args.path.now c.in-Some.rest.now c.in-Some.ensures.cases.0
    (slice_get_read c.args.parts.now _ c.in-Some.number.now c.in-Some-get.part.now refl c.in-Some-get.ensures.lookup.3.0 c.in-Some-get.ensures.lookup.1)

pub returns-in-None : goal.returns-in-None
returns-in-None t c = below-none c.args.here c.in-Some.number.now c.args.parts.now c.args.path.now c.in-Some.rest.now c.in-Some.ensures.cases.0 (past_end c.args.parts.now c.in-Some.number.now c.in-None.ensures.lookup.3)
