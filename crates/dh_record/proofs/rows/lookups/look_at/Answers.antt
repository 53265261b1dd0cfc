use Rattle.std.proofs.Common.{◌≡◌, Some, None, List, map, reverse, subst as along}
use Rattle.dh_syntax.specs.Expressions.SameTree.{digest_eq}
use Rattle.dh_imports.specs.Records.{lookup}
use Rattle.dh_record.specs.declared.rows.recorded.Look.{Look}
use Rattle.dh_record.specs.Reading.{seen_of}
use Rattle.dh_record.specs.Rows.{look_of}
use Rattle.dh_record.proofs.Recorded.{look_none, look_some}
use Rattle.dh_record.proofs.rows.lookups.look_at.Goals as goal

pub returns-in-None : goal.returns-in-None
returns-in-None c =
    along (λ (ls : List Look). None ≡ lookup digest_eq (reverse (map look_of ls)) c.args.digest.now) c.looks.view_is
    (look_none c.args.digest.now c.looks.inside.rows.now c.in-None.ensures)

pub returns-in-Some : goal.returns-in-Some
returns-in-Some c =
    along (λ (ls : List Look). Some (seen_of c.index-rows-number.result) ≡ lookup digest_eq (reverse (map look_of ls)) c.args.digest.now) c.looks.view_is
    (look_some c.args.digest.now c.looks.inside.rows.now c.looks.inside.order.now.numbers.items c.in-Some.number c.index-rows-number.result c.looks.invariant c.in-Some.ensures c.index-rows-number.is)
