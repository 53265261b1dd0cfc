-- A text with digests, a place at a time.
use Rattle.std.proofs.Common.{◌≡◌, ℕ, ◌-◌, List, ◌∷◌, ◌++◌, take, drop, Some, sym, ◌∙◌, ap, subst, append_assoc}
use Rattle.std.specs.Prelude.{◌↔◌, true, Option}
use Rattle.dh_syntax.specs.declared.locations.Digest.{Digest}
use Rattle.dh_imports.specs.FrozenTexts.{Ascend, Insertion, IsFrozenText, side_by_side, with_digests}
use Rattle.dh_syntax.specs.Expressions.Tree.{Term}
use Rattle.dh_imports.specs.Freezing.{digests_behind}
use Rattle.dh_imports.specs.Machine.{IsAmong}
use Rattle.dh_imports.specs.Walk.{Ask}
use Rattle.dh_syntax.specs.Text.Offsets.{SpellsWith}
use Rattle.dh_syntax.specs.Text.Printed.{digest_text}
use Rattle.dh_freeze.specs.declared.places.DigestAt.{DigestAt}
use Rattle.dh_freeze.specs.Distinct.{AreDistinct}
use Rattle.dh_freeze.specs.Insertions.{insertions}
use Rattle.dh_freeze.proofs.ImportOffsets.{offsets_are_distinct}

pub one_place : (out stretched put whole text : List ℕ) (at : ℕ) (p : DigestAt) (left rest : List DigestAt) → left ≡ p ∷ rest →
    stretched ≡ out ++ take (p.offset - at) (drop at text) → put ≡ stretched ++ digest_text (Some p.digest) →
    out ++ with_digests at text (insertions left) ≡ whole → put ++ with_digests p.offset text (insertions rest) ≡ whole
one_place out stretched put whole text at p left rest e s d w =
    let t = take (p.offset - at) (drop at text) in
    let digest = digest_text (Some p.digest) in
    let others = with_digests p.offset text (insertions rest) in
    ap (λ o. o ++ others) (d ∙ ap (λ o. o ++ digest) s) ∙ append_assoc (out ++ t) digest others ∙ append_assoc out t (digest ++ others)
    ∙ ap (λ o. out ++ o) (sym (append_assoc t digest others)) ∙ sym (ap (λ l. out ++ with_digests at text (insertions l)) e) ∙ w

-- the text with the digests of its imports
pub frozen_is : (text bytes offsets : List ℕ) (digests : List (Option Digest)) (places : List DigestAt) (root : Term) (ask : Ask) → SpellsWith text root offsets → digests ≡ digests_behind ask true root
    → ((p : Insertion) → IsAmong p (insertions places) ↔ IsAmong (p.0, Some p.1) (side_by_side offsets digests)) → (AreDistinct offsets → Ascend 0 (insertions places))
    → bytes ≡ with_digests 0 text (insertions places) → IsFrozenText text root ask bytes
frozen_is text bytes offsets digests places root ask spells same members ascend made = record {
  offsets = offsets;
  spells = spells;
  insertions = insertions places;
  ascend = ascend (offsets_are_distinct text root offsets spells);
  members = λ p. subst (λ ds. IsAmong p (insertions places) ↔ IsAmong (p.0, Some p.1) (side_by_side offsets ds)) same (members p);
  bytes_are = made;
}
