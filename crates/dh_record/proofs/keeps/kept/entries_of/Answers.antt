use Rattle.std.specs.Prelude.{◌≡◌, ◌<◌, ◌+◌, ◌++◌, ◌∷◌, [], ℕ, List, length, map, take, Option, MatchOption}
use Rattle.std.proofs.Common.{rules, ap, sym, ◌∙◌, get_or, subst as along}
use Rattle.std.proofs.lemmas.List.{map-append}
use Rattle.dh_syntax.specs.declared.locations.Digest.{Digest}
use Rattle.dh_ports.specs.declared.mem_desks.CacheEntry.{CacheEntry}
use Rattle.dh_record.specs.declared.rows.recorded.Entrant.{Entrant}
use Rattle.dh_record.specs.Keeping.{AreEntries, IsEntryAt}
use Rattle.dh_record.specs.Kept.{pair_of}
use Rattle.dh_record.proofs.KeptEntries.{entries_add, entries_skip}
use Rattle.dh_record.proofs.keeps.kept.entries_of.Goals as goal
use Rattle.dh_record.proofs.keeps.kept.entries_of.Goals.{in-Some+in_ok-push-in-Some, in-None}

abbrev Tells : List Entrant → ℕ → Option CacheEntry → Type 0
Tells keys n o = MatchOption o ((d : Digest) (bytes : List ℕ) → ¬ IsEntryAt keys n (d, bytes)) (λ e. IsEntryAt keys n (pair_of e))

pub loop-n-preserved : goal.loop-n-preserved
loop-n-preserved c =
    let keys = c.args.keys.now in
    let numbers = c.args.numbers.now in
    let i = c.loop-n.n-index in
    let l : i < length numbers = search rules in
    let told : Tells keys (get_or numbers i 0) c.in_ok-entry.field-0 = c.in_ok-entry.ensures in
    elim c.match-branch-2.branch [
      | in-Some+in_ok-push-in-Some w ↦
          let more : map pair_of c.match-branch-2.kept ≡ map pair_of c.loop-n.kept ++ pair_of w.in-Some.entry ∷ [] =
          ap (map pair_of) (w.kept-is ∙ w.in_ok-push-in-Some.ensures.ok) ∙ map-append pair_of c.loop-n.kept (w.in-Some.entry ∷ []) in
          along (AreEntries keys (take (i + 1) numbers)) (sym more)
          (entries_add keys numbers c.requires.inside c.requires.ascends i l (map pair_of c.loop-n.kept) c.loop-n.invariant (pair_of w.in-Some.entry) (along (λ o. Tells keys (get_or numbers i 0) o) w.in-Some.is told))
      | in-None w ↦
          along (λ es. AreEntries keys (take (i + 1) numbers) (map pair_of es)) (sym w.kept-is)
          (entries_skip keys numbers c.requires.inside c.requires.ascends i l (map pair_of c.loop-n.kept) c.loop-n.invariant (along (λ o. Tells keys (get_or numbers i 0) o) w.in-None.is told))
    ]
