use Rattle.dh_types.proofs.ChangedCodes.{whole-changed}
use Rattle.dh_types.proofs.Grown.{grows-after}
use Rattle.dh_types.proofs.changes.changed.Goals as goal

pub places-preserved : goal.places-preserved
places-preserved c = record {
  grows = grows-after c.args.codes.now c.places.codes c.go_on.new.codes c.places.invariant.grows c.in_ok-go_on-in-Some.ensures.grows;
  made = c.in_ok-go_on-in-Some.ensures.made;
}

pub returns-in-None-clause-made : goal.returns-in-None-clause-made
returns-in-None-clause-made c =
    whole-changed c.args.codes.now c.places.codes c.args.change c.places.memo c.args.id c.held.result c.places.invariant.grows c.requires.there c.requires.code c.places.invariant.made c.held.ensures
