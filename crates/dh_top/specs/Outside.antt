-- What the desks of a run show, and what the run found and kept by them.
use Rattle.std.specs.Prelude.{◌≡◌, ◌⊎◌, ℕ, ◌+◌, ◌≤◌, max, min, Bool, true, false, if◌then◌else◌, List, [], ◌∷◌, ◌++◌, map, drop, length, sum_by, count_by, Any, Option, Some, None, option_map, IfSome, Ok, Err, ⊤}
use Rattle.std.specs.Prelude.{IsTrue, Result}
use Rattle.dh_command.specs.declared.commands.Command.{Command}
use Rattle.dh_syntax.specs.declared.faults.ParseFault.{ParseFault}
use Rattle.dh_syntax.specs.declared.locations.Digest.{Digest}
use Rattle.dh_syntax.specs.declared.locations.Key.{Key}
use Rattle.dh_syntax.specs.declared.locations.Loc.{Loc}
use Rattle.dh_imports.specs.declared.outcomes.Why.{Why}
use Rattle.dh_command.specs.declared.verbs.Verb.{Verb}
use Rattle.dh_command.specs.declared.verbs.Verb.TheVariants as verb
use Rattle.dh_command.specs.Answer.{nothing_found}
use Rattle.dh_command.specs.Words.{Word, resolves as does_resolve, uses_desks}
use Rattle.dh_files.specs.FileWords.{file_text}
use Rattle.dh_syntax.specs.Expressions.SameTree.{digest_eq, loc_eq}
use Rattle.dh_syntax.specs.Expressions.Tree.{Term}
use Rattle.dh_imports.specs.Keeps.{AreKeeps}
use Rattle.dh_imports.specs.LastStep.{Code}
use Rattle.dh_imports.specs.Machine.{IsAmong, Event, Claim, Fetch, after_all, Lawful}
use Rattle.dh_imports.specs.Readings.{AreOutcomes}
use Rattle.dh_imports.specs.Records as found
use Rattle.dh_imports.specs.Records.{Record, Noted, Seen, IsGood, IsLimitOf, text_at, look_at, limit_at}
use Rattle.dh_imports.specs.Replay.{RootEnd, ready, bad, looped, too_many}
use Rattle.dh_imports.specs.Resolver.{Has, resolve, stage}
use Rattle.dh_imports.specs.RootEnds.{EndsBy}
use Rattle.dh_imports.specs.Walk.{Ask}
use Rattle.dh_syntax.specs.Text.Spelling.{ParsesTo}
use Rattle.dh_ports.specs.Desks.{Tells, shown}
use Rattle.dh_ports.specs.declared.worlds.Got.{Got}
use Rattle.dh_ports.specs.declared.worlds.Got.TheVariants as gots
use Rattle.dh_record.specs.Brought.{has_failed, is_failed}
use Rattle.dh_session.specs.Works.{AtLast}

-- a digest with the bytes that are kept under it
abbrev pub Pair : Type 0
Pair = Digest × List ℕ

-- what a world tells of the text at each location, and of the entry under each digest
abbrev pub Telling : Type 0
Telling = Loc → Option Got

-- what a world tells of the entry under each digest: nothing, that there is none, or its bytes
abbrev pub Shelving : Type 0
Shelving = Digest → Option (Option (List ℕ))

-- What the world tells; how many texts each desk was asked for and how many of its calls have failed, before and after; and what the
-- first desk has kept, before and after, where that is told.
pub record Outside : Type 0 where
  pub told : Telling
  pub shelved : Shelving
  pub asked_before : List ℕ
  pub asked_after : List ℕ
  pub faults_before : List ℕ
  pub faults_after : List ℕ
  pub filed_before : Option (List Pair)
  pub filed_after : Option (List Pair)

-- the first of a list, or this one where it is empty
abbrev pub first_of : {A : Type 0} → A → List A → A
first_of a [] = a
first_of a (b ∷ bs) = b

-- desks before and after, in a world that tells this
abbrev pub outside : Telling → Shelving → {D : Type 0} → (D → ℕ) → (D → ℕ) → (D → Option (List Pair)) → List D → List D → Outside
outside told shelved asked faults filed before after = record {
  told = told;
  shelved = shelved;
  asked_before = map asked before;
  asked_after = map asked after;
  faults_before = map faults before;
  faults_after = map faults after;
  filed_before = first_of None (map filed before);
  filed_after = first_of None (map filed after);
}

-- ---- which desks are used

-- how many of so many desks a command may use: one for each worker that it asks for, and none where it resolves nothing
abbrev pub desks_of : Command → ℕ → ℕ
desks_of c desks = if uses_desks c.verb then max 1 (min c.workers desks) else 0

-- words that are no command line use none
abbrev pub desks_for : Result Command ℕ → ℕ → ℕ
desks_for (Ok c) desks = desks_of c desks
desks_for (Err k) desks = 0

-- Only so many first desks were used: those behind them are as they were. And none but the first has kept anything.
pub record UsesFirst {D : Type 0} (filed : D → Option (List Pair)) (n : ℕ) (before after : List D) : Type 0 where
  pub idle : drop n after ≡ drop n before
  pub others : drop 1 (map filed after) ≡ drop 1 (map filed before)

-- ---- what was found

-- what a device answered of a text; none where it failed
abbrev pub got_of : Noted → Option Got
got_of (found.Found bytes allow parsed) = Some (gots.Found (record { bytes = bytes; allow = allow }))
got_of found.Absent = Some gots.Absent
got_of (found.Broken n) = Some (gots.Broken n)
got_of found.Failed = None

-- a text but a failed one is what the world tells at its location, where that tells
abbrev pub IsTextTold : Telling → Loc × Noted → Type 0
IsTextTold told t = IfSome (got_of t.1) (Tells (told t.0))

-- what was seen of the entry under a digest, if any: it is good, or the look is a miss
abbrev pub IsSeenOf : Digest → Option (List ℕ) → Seen → Type 0
IsSeenOf d entry (found.Good bytes e) = entry ≡ Some bytes
IsSeenOf d entry found.Miss = (bytes : List ℕ) (e : Term) → entry ≡ Some bytes → ¬ IsGood d (found.Good bytes e)
IsSeenOf d entry found.Failed = ⊤

-- a look but a failed one is of the entry that the world tells, where that tells; one that is too large is none
abbrev pub IsLookTold : Shelving → Digest × Seen → Type 0
IsLookTold shelved l = IfSome (shelved l.0) (λ entry. IsSeenOf l.0 (shown entry) l.1)

-- a limit is licensed for the code of its key, with a value for each import by the resolver's outcomes
pub record IsLimitLicensed (r : Record) (k : Key) (w : Why) : Type 0 where
  pub ask : Ask
  pub asks : AreOutcomes r ask
  pub code : Term
  pub allow : Option (List ℕ)
  pub due : stage r ask k ≡ Has (Code code allow)
  pub licensed : IsLimitOf code w

-- how many texts and looks failed
abbrev pub failures : Record → ℕ
failures r = count_by (λ (t : Loc × Noted). has_failed t.1) r.texts + count_by (λ (l : Digest × Seen). is_failed l.1) r.looks

-- how many of several records together
abbrev pub all_failures : List Record → ℕ
all_failures [] = 0
all_failures (r ∷ rs) = failures r + all_failures rs

-- the sum of several counts
abbrev pub total : List ℕ → ℕ
total ns = sum_by (λ n. n) ns

-- This was found in a world that tells this: each text and each look once, and each but a failed one as it is told.
pub record IsFound (told : Telling) (shelved : Shelving) (r : Record) : Type 0 where
  pub one_text : (l : Loc) → count_by (λ (t : Loc × Noted). loc_eq t.0 l) r.texts ≤ 1
  pub one_look : (d : Digest) → count_by (λ (t : Digest × Seen). digest_eq t.0 d) r.looks ≤ 1
  pub texts : (t : Loc × Noted) → IsAmong t r.texts → IsTextTold told t
  pub looks : (l : Digest × Seen) → IsAmong l r.looks → IsLookTold shelved l
  pub parsed : (l : Loc) (bytes : List ℕ) (allow : Option (List ℕ)) (p : Result Term ParseFault) → text_at r l ≡ Some (found.Found bytes allow p) → ParsesTo bytes p
  pub good : (d : Digest) (look : Seen) → look_at r d ≡ Some look → IsGood d look
  pub limits : (k : Key) (w : Why) → limit_at r k ≡ Some w → IsLimitLicensed r k w

-- ---- how it was found

-- the claim of a fetch
abbrev pub is_fetch_claim : Event → Bool
is_fetch_claim (Claim worker (Fetch l)) = true
is_fetch_claim _ = false

-- The steps by which a run over this root came to its record, the latest first. The rules of the table allowed each of them when it was
-- made. So a claim of a fetch or of a look is of what the walk of the root wanted then.
pub record IsHistory (root : Term) (r : Record) (steps : List Event) : Type 0 where
  pub lawful : Lawful root steps
  pub record_is : (after_all root steps).recorded ≡ r

-- ---- what was kept

-- what a run keeps whose root ends so: where it is ready, its entries; else none
abbrev pub KeepsBy : Record → Term → RootEnd → List Pair → Type 0
KeepsBy r root (ready e) pairs = (n : ℕ) × AreKeeps r (resolve r n []) root pairs
KeepsBy r root (bad b) pairs = pairs ≡ []
KeepsBy r root (looped j) pairs = pairs ≡ []
KeepsBy r root too_many pairs = pairs ≡ []

-- some of these pairs, in their order
pub data SomeOf : List Pair → List Pair → Type 0 where
  none_of : {pairs : List Pair} → SomeOf [] pairs
  with_this : {p : Pair} {kept pairs : List Pair} → SomeOf kept pairs → SomeOf (p ∷ kept) (p ∷ pairs)
  without_this : {p : Pair} {kept pairs : List Pair} → SomeOf kept pairs → SomeOf kept (p ∷ pairs)

-- a desk with these pairs kept before and after has kept some of the pairs that it was handed
pub record FilesSome (filed filed' : Option (List Pair)) (pairs : List Pair) (kept : List Pair) : Type 0 where
  pub some : SomeOf kept pairs
  pub filed_is : filed' ≡ option_map (λ old. old ++ kept) filed

-- at most as many are left out as its count of faults rose by, unless that stands at its last value
pub record FilesAll (faults faults' : ℕ) (filed filed' : Option (List Pair)) (pairs : List Pair) : Type 0 where
  pub kept : List Pair
  pub files : FilesSome filed filed' pairs kept
  pub few : AtLast faults' ⊎ (length pairs + faults ≤ length kept + faults')

-- the first of these is followed by another, the others are as they were
pub data AtFirst {D : Type 0} (P : D → D → Type 0) : List D → List D → Type 0 where
  at_first : {d d' : D} {ds : List D} → P d d' → AtFirst P (d ∷ ds) (d' ∷ ds)

-- ---- sessions

-- A session on a text in a world that tells this: it resolved the root that the text spells, came to its record by a lawful history, claimed
-- so many fetches, and has these entries for the cache.
pub record Session (told : Telling) (shelved : Shelving) (text : List ℕ) (r : Record) (asks : ℕ) (pairs : List Pair) : Type 0 where
  pub root : Term
  pub end : RootEnd
  pub steps : List Event
  pub spelled : ParsesTo text (Ok root)
  pub history : IsHistory root r steps
  pub claimed : asks ≡ count_by is_fetch_claim steps
  pub is_found : IsFound told shelved r
  pub ends : EndsBy r root end
  pub keeps : KeepsBy r root end pairs

-- What came of a text: a session on it; or none that ended, since memory was wanting or the text has no imports to resolve: then nothing is
-- found, there are no entries, and how many texts were asked for is not known.
pub data Tried (told : Telling) (shelved : Shelving) (text : List ℕ) : Record → Option ℕ → List Pair → Type 0 where
  with_session : {r : Record} {n : ℕ} {pairs : List Pair} → Session told shelved text r n pairs → Tried told shelved text r (Some n) pairs
  without_session : Tried told shelved text nothing_found None []

-- these asks and those, where both are known
abbrev pub all_asks : Option ℕ → Option ℕ → Option ℕ
all_asks None asks = None
all_asks (Some n) asks = option_map (λ m. n + m) asks

-- What came of texts, in their order: the record of each, how many texts their sessions asked for together, and all their entries.
pub data Sessions (told : Telling) (shelved : Shelving) : List (List ℕ) → List Record → Option ℕ → List Pair → Type 0 where
  no_session : Sessions told shelved [] [] (Some 0) []
  one_session : {text : List ℕ} {texts : List (List ℕ)} {r : Record} {rs : List Record} {asks others : Option ℕ} {pairs more : List Pair}
      → Tried told shelved text r asks pairs → Sessions told shelved texts rs others more
      → Sessions told shelved (text ∷ texts) (r ∷ rs) (all_asks asks others) (pairs ++ more)

-- the desks were asked for so many texts, where that is known, unless a count stands at its last value
abbrev pub AsksFor : Outside → Option ℕ → Type 0
AsksFor o asks = IfSome asks (λ n. Any AtLast o.asked_after ⊎ (total o.asked_after ≡ total o.asked_before + n))

-- each text and each look that failed, in all these records together, is a fault of a desk, unless a count stands at its last value
abbrev pub AreFailures : Outside → List Record → Type 0
AreFailures o rs = Any AtLast o.faults_after ⊎ (all_failures rs + total o.faults_before ≤ total o.faults_after)

-- and so is each entry that was left out, each a fault of its own
abbrev pub AreFaults : Outside → List Record → List Pair → List Pair → Type 0
AreFaults o rs pairs kept = Any AtLast o.faults_after ⊎ (all_failures rs + length pairs + total o.faults_before ≤ length kept + total o.faults_after)

-- what the desks of a run show of its sessions: what they were asked for, what the first one kept, and how many of their calls failed
pub record IsShown (o : Outside) (rs : List Record) (asks : Option ℕ) (pairs : List Pair) : Type 0 where
  pub asked : AsksFor o asks
  pub failed : AreFailures o rs
  pub files : FilesAll (first_of 0 o.faults_before) (first_of 0 o.faults_after) o.filed_before o.filed_after pairs
  pub faults : AreFaults o rs pairs files.kept

-- the same where memory was wanting while entries were kept
pub record IsShownInPart (o : Outside) (rs : List Record) (asks : Option ℕ) (pairs : List Pair) : Type 0 where
  pub asked : AsksFor o asks
  pub failed : AreFailures o rs
  pub kept : List Pair
  pub files : FilesSome o.filed_before o.filed_after pairs kept

-- ---- a run over desks

-- The desks are left alone.
abbrev pub IsLeftAlone : Outside → Type 0
IsLeftAlone o = (o.filed_after ≡ o.filed_before) × (o.faults_after ≡ o.faults_before) × (o.asked_after ≡ o.asked_before)

-- How the records of a command come about: one by a session on its input, or one for each of its files by a session on the text that it
-- stands for. Where nothing is resolved, there is one empty record, and the desks are left alone.
pub data Finds (v : Verb) (ops : List Word) (text : List ℕ) (o : Outside) (rs : List Record) : Type 0 where
  finds : (r : Record) (n : ℕ) (pairs : List Pair) → IsTrue (does_resolve v) → rs ≡ r ∷ [] → Session o.told o.shelved text r n pairs → IsShown o rs (Some n) pairs
      → Finds v ops text o rs
  finds_each : (asks : Option ℕ) (pairs : List Pair) → v ≡ verb.Batch → Sessions o.told o.shelved (map file_text ops) rs asks pairs → IsShown o rs asks pairs
      → Finds v ops text o rs
  leaves : rs ≡ nothing_found ∷ [] → IsLeftAlone o → Finds v ops text o rs

-- what the first desk has kept where memory is wanting: nothing, or some of what the run keeps
pub data FilesPart (v : Verb) (ops : List Word) (text : List ℕ) (o : Outside) : Type 0 where
  files_none : o.filed_after ≡ o.filed_before → FilesPart v ops text o
  files_some : (r : Record) (n : ℕ) (pairs : List Pair) → IsTrue (does_resolve v) → Session o.told o.shelved text r n pairs → IsShownInPart o (r ∷ []) (Some n) pairs
      → FilesPart v ops text o
  files_of_each : (rs : List Record) (asks : Option ℕ) (pairs : List Pair) → v ≡ verb.Batch → Sessions o.told o.shelved (map file_text ops) rs asks pairs
      → IsShownInPart o rs asks pairs → FilesPart v ops text o
