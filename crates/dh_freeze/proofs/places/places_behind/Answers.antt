use Rattle.std.proofs.Common.{rules, sym, subst as along}
use Rattle.std.specs.Prelude.{◌↔◌, Some}
use Rattle.std.proofs.lemmas.List.Sorted.{IsNonDecreasingBy-from_sort_by_key}
use Rattle.dh_imports.specs.FrozenTexts.{Ascend, side_by_side}
use Rattle.dh_imports.specs.Machine.{IsAmong}
use Rattle.dh_freeze.specs.declared.places.DigestAt.{DigestAt}
use Rattle.dh_freeze.specs.Insertions.{insertions}
use Rattle.dh_freeze.proofs.Pairing.{members, sorted_ascends}
use Rattle.dh_freeze.proofs.places.places_behind.Goals as goal

pub returns-clause-members : goal.returns-clause-members
returns-clause-members c p =
    along (λ ps. IsAmong p (insertions ps) ↔ IsAmong (p.0, Some p.1) (side_by_side c.args.offsets.now c.args.digests.now)) (sym c.of.ensures)
    (members c.args.offsets.now c.args.digests.now c.in_ok-places.places.items _ c.in_ok-places.ensures c.in_ok-sort_by_key.ensures.permutation p)

pub returns-clause-ascend : goal.returns-clause-ascend
returns-clause-ascend c once =
    along (λ ps. Ascend 0 (insertions ps)) (sym c.of.ensures)
    (sorted_ascends c.args.offsets.now c.args.digests.now c.in_ok-places.places.items _ c.in_ok-places.ensures c.in_ok-sort_by_key.ensures.permutation
    (IsNonDecreasingBy-from_sort_by_key (λ (p : DigestAt). p.offset) _ c.in_ok-sort_by_key.ensures.sorted (λ a r q k. search rules)) once)
