-- Entries of the cache against what the world tells of them.
use Rattle.std.specs.Prelude.{◌≡◌, ℕ, List, Option, Some, None, option_map}
use Rattle.std.proofs.Common.{sym, subst as along}
use Rattle.dh_syntax.specs.declared.locations.Digest.{Digest}
use Rattle.dh_ports.specs.Desks.{Tells, shown}
use Rattle.dh_shelf.specs.Shelves.{IsToldEntry}
use Rattle.dh_record.specs.Brought.{IsSeen, IsShelved}
use Rattle.dh_record.specs.Entries.{EntryParts}
use Rattle.dh_record.specs.declared.entries.Seen.{Seen}
use Rattle.dh_record.specs.declared.entries.Seen.TheVariants as seens

same_some : {A : Type 0} (a b : A) → Some a ≡ Some b → a ≡ b
same_some a b h = cc

-- what is seen of found bytes is what is seen of the entry that is told, if anything is told
pub seen_shelved : (d : Digest) (told : Option (Option (List ℕ))) (found : Option (List ℕ)) (look : Seen) → Tells (option_map shown told) found → IsSeen d found look
    → IsShelved d told look
seen_shelved d None found look t s = tt
seen_shelved d (Some entry) found look t s = along (λ x. IsSeen d x look) (sym (same_some (shown entry) found t)) s

-- an entry is what is told under its digest, by any name of that digest
pub entry_is_told : (shelved : Digest → Option (Option (List ℕ))) (d : Digest) (e : EntryParts) → e.digest ≡ d → IsShelved d (shelved d) (seens.Good e) → IsToldEntry shelved e
entry_is_told shelved d e same h = along (λ x. IsShelved x (shelved x) (seens.Good e)) (sym same) h

pub told_of_digest : (shelved : Digest → Option (Option (List ℕ))) (d : Digest) (e : EntryParts) → e.digest ≡ d → IsToldEntry shelved e → IsShelved d (shelved d) (seens.Good e)
told_of_digest shelved d e same h = along (λ x. IsShelved x (shelved x) (seens.Good e)) same h
