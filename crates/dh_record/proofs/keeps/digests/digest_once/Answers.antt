use Rattle.std.proofs.Common.{rules, ◌≡◌, sym, ap, ◌∙◌}
use Rattle.std.specs.Prelude.{◌<◌, Some, None, length, slice_index_or}
use Rattle.std.proofs.lemmas.List.{get_or_default}
use Rattle.dh_demand.specs.Digests.{digest_at}
use Rattle.dh_record.specs.Rows.{rows_of}
use Rattle.dh_record.proofs.DueItems.{valued_at}
use Rattle.dh_record.proofs.keeps.digests.digest_once.Goals as goal

pub returns-in-Some-index-clause-digest : goal.returns-in-Some-index-clause-digest
returns-in-Some-index-clause-digest c =
    let inside : c.in-Some.number < length c.args.known.now.items = search rules in
    let read : slice_index_or c.args.known.now.items c.in-Some.number c.index.result.now ≡ Some c.in-Some-index.digest = search rules in
    let kept = get_or_default c.args.known.now.items c.in-Some.number None c.index.result.now inside ∙ read in
    sym (ap (digest_at (rows_of c.args.keys.now)) c.in-Some.is ∙ c.requires.known c.in-Some.number c.in-Some-index.digest kept)

pub digest_of-requires : goal.digest_of-requires
digest_of-requires c = valued_at c.args.keys.now c.in-Some.number _ c.requires.valued c.outcome.ensures
