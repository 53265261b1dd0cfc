use Rattle.std.proofs.Common.{◌≡◌, Some, None, List, map, reverse, subst as along}
use Rattle.dh_syntax.specs.Expressions.SameTree.{loc_eq}
use Rattle.dh_imports.specs.Records.{lookup}
use Rattle.dh_record.specs.declared.rows.recorded.Text.{Text}
use Rattle.dh_record.specs.Reading.{noted_of}
use Rattle.dh_record.specs.Rows.{text_of}
use Rattle.dh_record.proofs.Recorded.{text_none, text_some}
use Rattle.dh_record.proofs.rows.lookups.text_at.Goals as goal

pub returns-in-None-clause-noted : goal.returns-in-None-clause-noted
returns-in-None-clause-noted c =
    along (λ (ts : List Text). None ≡ lookup loc_eq (reverse (map text_of ts)) c.args.loc.now) c.texts.view_is
    (text_none c.args.loc.now c.texts.inside.rows.now c.in-None.ensures)

pub returns-in-Some-clause-noted : goal.returns-in-Some-clause-noted
returns-in-Some-clause-noted c =
    along (λ (ts : List Text). Some (noted_of c.index-rows-number.result) ≡ lookup loc_eq (reverse (map text_of ts)) c.args.loc.now) c.texts.view_is
    (text_some c.args.loc.now c.texts.inside.rows.now c.texts.inside.order.now.numbers.items c.in-Some.number c.index-rows-number.result c.texts.invariant c.in-Some.ensures c.index-rows-number.is)
