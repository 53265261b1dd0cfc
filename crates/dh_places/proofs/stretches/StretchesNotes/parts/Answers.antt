use Rattle.std.proofs.Common.{◌≡◌, [], ap, sym, ◌∙◌, rules}
use Rattle.dh_syntax.specs.Text.Spans.{parts_of}
use Rattle.dh_places.specs.Spans.{spans_of}
use Rattle.dh_places.proofs.SpanTrees.{spans_of-nil, parts_of-cons}
use Rattle.dh_places.proofs.stretches.StretchesNotes.parts.Goals as goal

pub returns-in-Some : goal.returns-in-Some
returns-in-Some c =
    ap spans_of (c.from_vec.ensures.items ∙ c.into_vec.ensures) ∙ sym (parts_of-cons c.in-Some.span c.pop_front.new.self.items)
    ∙ sym (ap (λ ss. parts_of (spans_of ss)) c.in-Some.ensures.items)

pub returns : goal.returns
returns c =
    let none : c.args.node.items ≡ [] = search rules in
    ap spans_of c.new.ensures.items ∙ spans_of-nil ∙ sym (ap parts_of (ap spans_of none ∙ spans_of-nil))
