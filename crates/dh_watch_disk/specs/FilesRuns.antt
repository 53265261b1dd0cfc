-- One run over files that others edit.
use Rattle.std.specs.Prelude.{◌≡◌, ◌⊎◌, ◌≤◌, ◌+◌, ◌-◌, ◌^◌, ℕ, Bool, true, List, []}
use Rattle.dh_command.specs.declared.statuses.Status.{Status}
use Rattle.dh_command.specs.declared.statuses.Status.TheVariants as status
use Rattle.dh_command.specs.Lines.{write_line}
use Rattle.dh_command.specs.Responses.{line, misused, without_memory}
use Rattle.dh_ports.specs.Counts.{Rose}
use Rattle.dh_script_laws.specs.Answering.{Refusal, Failed, Memory}
use Rattle.dh_script_laws.specs.Scripts.{refusal_status, refusal_text}
use Rattle.dh_streams.specs.Streams.{Gains, Output, Stops, Tries}
use Rattle.dh_syntax.specs.declared.locations.Loc.{Loc}
use Rattle.dh_streams.specs.Deliveries.{Delivers}
use Rattle.dh_watching.specs.Runs.{EndsWith}
use Rattle.dh_watching.specs.Steps.{State}
use Rattle.dh_watch_disk.specs.declared.told.Told.{Told}
use Rattle.dh_watch_disk.specs.Showing.{Shows, ShowsPart, status_of}
use Rattle.dh_watch_disk.specs.Words.{IsMisused, Name}

-- the pauses between looks, before and after: how many have passed, and whether none comes any more
pub record Pausing : Type 0 where
  pub before : ℕ
  pub after : ℕ
  pub is_over : Bool

-- pauses with these counts before and after, and whether none comes any more
abbrev pub pausing : ℕ → ℕ → Bool → Pausing
pausing before after is_over = record { before = before; after = after; is_over = is_over }

-- between these counts so many pauses have passed, unless the count stands at its last value
abbrev pub Passes : ℕ → ℕ → ℕ → Type 0
Passes before after looks = (looks + before ≡ after) ⊎ (2 ^ 64 - 1 ≤ after)

-- so many have passed, and none comes any more; no run has more than a `u64` counts
abbrev pub PassesAll : Pausing → ℕ → Type 0
PassesAll p looks = Passes p.before p.after looks × ((p.is_over ≡ true) ⊎ (looks ≡ 2 ^ 64 - 1))

-- One run, from a state of what is watched to another.
pub data RunsFiles (words : List (List ℕ)) (a b : State) (p : Pausing) (out err : Output) (s : Status) : Type 0 where
  -- a word is wrong
  misuses : (n : ℕ) → IsMisused words n → b ≡ a → Delivers (misused n) out err s → RunsFiles words a b p out err s
  -- memory is wanting before the first ask
  lacks : b ≡ a → Delivers without_memory out err s → RunsFiles words a b p out err s
  -- the locations were asked, and the files were looked at after each pause
  shows : (locs : List Loc) (looks : ℕ) (now : List Told) (told : List ℕ) → Name words locs → Shows locs a looks b now told
      → PassesAll p looks → Gains out told → Gains err [] → s ≡ status_of now → RunsFiles words a b p out err s
  -- a line was not written whole
  cut : (locs : List Loc) (told : List ℕ) → Name words locs → ShowsPart locs a b told → Stops out told
      → Tries err (line write_line) → s ≡ status.Write → RunsFiles words a b p out err s
  -- a text was not forgotten, or memory is wanting
  halts : (locs : List Loc) (c : State) (told : List ℕ) (f : Refusal) → Name words locs → ShowsPart locs a c told → Gains out told
      → (f ≡ Failed) ⊎ (f ≡ Memory) → c.faults ≤ b.faults → (f ≡ Failed → Rose c.faults b.faults)
      → EndsWith (refusal_text f) (refusal_status f) err s → RunsFiles words a b p out err s
