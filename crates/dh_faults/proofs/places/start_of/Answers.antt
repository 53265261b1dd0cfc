use Rattle.std.proofs.Common.{◌∙◌, ap, refl, sym}
use Rattle.std.proofs.lemmas.Option.{slice_get_read}
use Rattle.dh_places.specs.declared.spans.Span.TheViews.{out-Span}
use Rattle.dh_places.specs.Spans.{spans_of}
use Rattle.dh_syntax.specs.Text.Places.{start_below}
use Rattle.dh_faults.proofs.Parts.{of-some, of-none}
use Rattle.dh_faults.proofs.places.start_of.Goals as goal

pub returns-in-Some : goal.returns-in-Some
returns-in-Some c =
    c.start_below.ensures
    ∙ ap (λ ps. start_below (out-Span c.in-Some.root.now).from (spans_of ps) c.args.path.now) c.as_slice.ensures
    ∙ of-some c.args.nodes.now c.in-Some.root.now c.args.path.now
    (slice_get_read c.args.nodes.now _ 0 c.in-Some.root.now refl c.in-Some.ensures.item.3.0 c.in-Some.ensures.item.1)

pub returns-in-None : goal.returns-in-None
returns-in-None c = of-none c.args.nodes.now c.args.path.now (sym c.in-None.ensures.value)
