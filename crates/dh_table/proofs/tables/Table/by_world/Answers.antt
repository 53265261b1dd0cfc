use Rattle.std.proofs.Common.{subst as along}
use Rattle.dh_record.specs.Brought.{AreShelved, AreTold}
use Rattle.dh_table.specs.Shown.{Shown}
use Rattle.dh_table.proofs.tables.Table.by_world.Goals as goal

pub returns-clause-texts : goal.returns-clause-texts
returns-clause-texts g c = along (λ (v : Shown). AreTold g.W.World.told v.texts) c.self.view_is c.self.invariant.texts_told

pub returns-clause-looks : goal.returns-clause-looks
returns-clause-looks g c = along (λ (v : Shown). AreShelved g.W.World.shelved v.looks) c.self.view_is c.self.invariant.looks_shelved
