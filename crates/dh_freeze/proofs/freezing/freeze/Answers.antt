use Rattle.dh_freeze.proofs.Frozen.{one_place}
use Rattle.dh_freeze.proofs.freezing.freeze.Goals as goal

pub loop-place-preserved : goal.loop-place-preserved
loop-place-preserved c =
    one_place c.loop-place.out.items c.put_stretch.new.out.items _ _ c.args.text.now c.loop-place.at c.in-Some.place.now c.loop-place.left.now c.in-Some.rest.now c.in-Some.ensures.cases.0 c.in_ok-put_stretch.ensures
    c.in_ok-put_digest.ensures c.loop-place.invariant
