use Rattle.std.proofs.Common.{ap, sym, ◌≡◌, ◌∙◌, subst}
use Rattle.dh_record.specs.Rows.{key_named}
use Rattle.dh_record.specs.Ways.{IsWay}
use Rattle.dh_watch_laws.specs.Kept.{known}
use Rattle.dh_watch_rows.specs.KeptRows.{kept_of}
use Rattle.dh_watch.specs.Ways.{way_at}
use Rattle.dh_watch.proofs.Coming.{way-here, ways-noted}
use Rattle.dh_watch.proofs.ways.look_on.Goals as goal

pub reach-reach-requires-clause-way : goal.reach-reach-requires-clause-way
reach-reach-requires-clause-way c =
    let t = c.args.rows.now in
    let s = kept_of t in
    let k = key_named t.keys c.args.key in
    let here : c.way_at.result ≡ way_at c.args.ways.now.items c.args.key = c.way_at.ensures ∙ ap (λ ws. way_at ws c.args.key) c.as_slice.ensures.value in
    subst (λ w. IsWay s.recorded (known s.outcomes) k w) (sym here) (way-here s t.keys c.args.key (way_at c.args.ways.now.items c.args.key) (c.requires.ways c.args.key))

pub returns-clause-ways : goal.returns-clause-ways
returns-clause-ways c =
    let t = c.args.rows.now in
    ways-noted (kept_of t) t.keys c.args.ways.now.items c.note_way.new.ways.items c.args.key c.reach-reach.result.1 c.requires.inside c.requires.ways c.reach-reach.ensures.way c.note_way.ensures
