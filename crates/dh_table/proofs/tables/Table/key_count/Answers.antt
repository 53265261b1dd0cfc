use Rattle.std.proofs.Common.{ap, ◌∙◌}
use Rattle.std.specs.Prelude.{length}
use Rattle.dh_imports.specs.Replay.{distinct, keys}
use Rattle.dh_table.specs.Shown.{Shown}
use Rattle.dh_table.specs.States.{state_of}
use Rattle.dh_table.proofs.RootEnds.{known_count}
use Rattle.dh_table.proofs.tables.Table.key_count.Goals as goal

pub returns : goal.returns
returns g c =
    let t = c.self.inside in
    c.len.ensures ∙ known_count t.root t.keys t.texts.items c.self.invariant.known ∙ ap (λ (v : Shown). length (distinct (keys (state_of v)))) c.self.view_is
