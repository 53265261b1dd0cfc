use Rattle.std.proofs.Common.{◌≡◌, ◌∙◌, sym, ap, Option}
use Rattle.dh_decode.specs.Inside.Steps.{leaving}
use Rattle.dh_decode.specs.Inside.Views.{value_of, place_of}
use Rattle.dh_decode.specs.declared.places.Value.{Value}
use Rattle.dh_decode.proofs.ReadingLaws.{deliver_more, fewer}
use Rattle.dh_decode.proofs.reading.Reader.deliver.Goals as goal

pub loop-frame-smaller : goal.loop-frame-smaller
loop-frame-smaller c = fewer c.loop-frame.self.frames c.pop.new.self c.close.new.self.frames c.in-Some.frame c.in_ok-ended.field-0 c.in-Some-2.ended c.in-Some.ensures.some c.in_ok-ended.ensures.same c.in-Some-2.is

pub loop-frame-preserved : goal.loop-frame-preserved
loop-frame-preserved c =
    sym (ap (λ (o : Option Value). leaving o c.close.new.self.want c.close.new.self.frames) c.in-Some-2.is) ∙ sym c.in_ok-ended.ensures.ok
    ∙ sym (deliver_more c.loop-frame.self.frames c.pop.new.self c.in-Some.frame (value_of c.loop-frame.value) (place_of c.in_ok-place.place) c.in-Some.ensures.some c.in_ok-place.ensures) ∙ c.loop-frame.invariant

pub returns-in-None-clause-ok : goal.returns-in-None-clause-ok
returns-in-None-clause-ok c =
    sym c.loop-frame.invariant ∙ deliver_more c.loop-frame.self.frames c.pop.new.self c.in-Some.frame (value_of c.loop-frame.value) (place_of c.in_ok-place.place) c.in-Some.ensures.some c.in_ok-place.ensures
    ∙ c.in_ok-ended.ensures.ok ∙ ap (λ (o : Option Value). leaving o c.close.new.self.want c.close.new.self.frames) c.in-None.is
