-- The search for an open task.
use Rattle.std.specs.Prelude.{◌≡◌, ◌⊎◌, ◌<◌, ◌≤◌, ◌+◌, ℕ, zero, suc, Bool, true, false, sum_by, List, length, map, reverse, slice_index_or, Option, Some, None, is_none, []}
use Rattle.dh_syntax.specs.declared.locations.Key.{Key}
use Rattle.dh_syntax.specs.declared.locations.Loc.{Loc}
use Rattle.dh_imports.specs.declared.outcomes.Origin.{Origin}
use Rattle.dh_imports.specs.declared.outcomes.Origin.TheVariants as origins
use Rattle.dh_imports.specs.declared.outcomes.Outcome as program
use Rattle.dh_imports.specs.declared.outcomes.Outcome.TheVariants as outcomes
use Rattle.dh_syntax.specs.Expressions.Numbers.{eq}
use Rattle.dh_syntax.specs.Imports.Locations.{origin}
use Rattle.dh_imports.specs.Machine as machine
use Rattle.dh_imports.specs.Machine.{IsAmong, Task, State, IsOpen, Wanted, Blocks, Cycled, May, effect, leads_to, outcome_of, root_walk, stage_of}
use Rattle.dh_imports.specs.Records.{lookup}
use Rattle.dh_imports.specs.Resolver.{TextOf, LookOf, Lacks, Has, Meets, Waits, Stage}
use Rattle.dh_imports.specs.Walk.{Turns, wants}
use Rattle.dh_demand.specs.declared.scans.Edge.{Edge}
use Rattle.dh_demand.specs.Results.{Row, ask_of, number_of}
use Rattle.dh_demand.specs.Wants.{HasNumber}
use Rattle.dh_table.specs.declared.search.explored.Explored.{Explored}
use Rattle.dh_table.specs.declared.search.searches.Tried.{Tried}
use Rattle.dh_table.specs.declared.search.searches.Tried.TheVariants as tries
use Rattle.dh_table.specs.declared.steps.Flight.{Flight}
use Rattle.dh_table.specs.declared.steps.Job.{Job}
use Rattle.dh_record.specs.declared.rows.recorded.Entrant.{Entrant}
use Rattle.dh_record.specs.declared.rows.recorded.Look.{Look}
use Rattle.dh_record.specs.declared.rows.recorded.Text.{Text}
use Rattle.dh_table.specs.Inside.Piling.{IsBare, number_at}
use Rattle.dh_table.specs.States.{IsFrozenLook, task_of, flight_of}
use Rattle.dh_record.specs.Rows.{rows_of, key_named, text_of, look_of}
use Rattle.dh_record.specs.Marks.{is_set}

-- the state has these keys, texts, looks and flights
pub record Stands (keys : List Entrant) (texts : List Text) (looks : List Look) (flights : List Flight) (s : State) : Type 0 where
  pub texts_are : s.recorded.texts ≡ reverse (map text_of texts)
  pub looks_are : s.recorded.looks ≡ reverse (map look_of looks)
  pub asks : outcome_of s ≡ ask_of (rows_of keys)
  pub flights_are : s.flights ≡ reverse (map (flight_of keys) flights)

-- the task is in flight
abbrev pub Flies : List Entrant → List Flight → Task → Type 0
Flies keys flights t = (serial : ℕ) × (lookup eq (reverse (map (flight_of keys) flights)) serial ≡ Some t)

-- the flight is of this task, and the last one of its serial
pub record IsLastOf (keys : List Entrant) (flights : List Flight) (job : Job) (f : Flight) : Type 0 where
  pub own : task_of keys f.job ≡ task_of keys job
  pub last : lookup eq (reverse (map (flight_of keys) flights)) f.serial ≡ Some (task_of keys job)

-- the task that is due at a stage
abbrev pub IsTaskAt : Key → Stage → Task → Type 0
IsTaskAt k (Lacks (TextOf l)) t = t ≡ machine.Fetch l
IsTaskAt k (Lacks (LookOf d)) t = t ≡ machine.Look d
IsTaskAt k (Has i) t = t ≡ machine.Finish k
IsTaskAt k (Meets j) t = t ≡ machine.Finish k
IsTaskAt k (Waits y) t = ⊥

-- the key is on a pile, or was taken from one
pub record IsPlaced (keys : List Entrant) (places : List ℕ) (k : Key) : Type 0 where
  pub number : ℕ
  pub number_is : number_of (rows_of keys) k ≡ Some number
  pub on : ¬ (number_at places number ≡ 0)

-- the keys to which a key leads are placed, and its task is in flight
pub record IsSeen (s : State) (keys : List Entrant) (flights : List Flight) (places : List ℕ) (k : Key) : Type 0 where
  pub leads : (j : Key) → IsAmong j (leads_to s k) → IsPlaced keys places j
  pub tasks : (t : Task) → IsTaskAt k (stage_of s k) t → Flies keys flights t

-- an open task, or none is open
pub record IsJob (s : State) (keys : List Entrant) (j : Job) : Type 0 where
  pub open_task : IsOpen s (task_of keys j)
  pub inside : j.key < length keys
  pub frozen : IsFrozenLook keys j

-- what a search comes to: an open task, or that none is open
abbrev pub IsFound : State → List Entrant → Option Job → Type 0
IsFound s keys (Some j) = IsJob s keys j
IsFound s keys None = (t : Task) → ¬ IsOpen s t

-- ---- what is known from earlier searches

-- the key of the number n leads to that of the number m, for which it waits, and each key to which it leads is placed
pub record IsWaiting (s : State) (keys : List Entrant) (places : List ℕ) (n m : ℕ) : Type 0 where
  pub inside : n < length keys
  pub blocker : m < length keys
  pub waits_for : IsAmong (key_named keys m) (leads_to s (key_named keys n))
  pub leads : (j : Key) → IsAmong j (leads_to s (key_named keys n)) → IsPlaced keys places j

-- the key has an outcome
abbrev pub IsDecided : State → Key → Type 0
IsDecided s k = ¬ (outcome_of s k ≡ None)

-- The placed keys are wanted or were decided since, those that the root wants among them. A key of the pile m + 4 waits for the
-- key of the number m. A taken key is decided, unless it is at the hole.
pub record AreKnown (s : State) (keys : List Entrant) (hole : ℕ → Type 0) (places : List ℕ) : Type 0 where
  pub by_root : (k : Key) → IsAmong k (wants None (outcome_of s) s.root) → IsPlaced keys places k
  pub sound : (n : ℕ) → ¬ (number_at places n ≡ 0) → (n < length keys) × (Wanted s (key_named keys n) ⊎ IsDecided s (key_named keys n))
  pub taken : (n : ℕ) → number_at places n ≡ 1 → hole n ⊎ IsDecided s (key_named keys n)
  pub waits : (n m : ℕ) → number_at places n ≡ m + 4 → IsWaiting s keys places n m

-- no number is at the hole
abbrev pub no_hole : ℕ → Type 0
no_hole n = ⊥

-- the piles of an exploration tell what is known of the keys, with no key at the hole
abbrev pub IsExploredBy : State → List Entrant → Explored → Type 0
IsExploredBy s keys e = AreKnown s keys no_hole e.piles

-- so it is, unless nothing is known
abbrev pub Knows : State → List Entrant → Explored → Type 0
Knows s keys e = e.known ≡ true → IsExploredBy s keys e

-- and each key of the pile 3 was seen
pub record IsSearched (s : State) (keys : List Entrant) (flights : List Flight) (hole : ℕ → Type 0) (places : List ℕ) : Type 0 where
  pub known : AreKnown s keys hole places
  pub held : (n : ℕ) → number_at places n ≡ 3 → IsSeen s keys flights places (key_named keys n)

-- what a look at the next key of the pile 2 came to
abbrev pub IsTried : State → List Entrant → List Flight → List ℕ → Tried → Type 0
IsTried s keys flights places (tries.Open j) = IsJob s keys j × AreKnown s keys no_hole places
IsTried s keys flights places tries.Further = IsSearched s keys flights no_hole places
IsTried s keys flights places tries.Nothing = IsSearched s keys flights no_hole places × IsBare 2 places

-- these keys are put on the pile 2 where they were on none
pub record ArePut (rows : List Row) (ks : List Key) (old new : List ℕ) : Type 0 where
  pub each : (n : ℕ) → HasNumber rows ks n → ¬ (number_at new n ≡ 0)
  pub only : (n : ℕ) → (number_at new n ≡ number_at old n) ⊎ ((number_at old n ≡ 0) × (number_at new n ≡ 2) × HasNumber rows ks n)

-- one of the first edges, so many, is to the key of the number n
abbrev pub HasEdge : ℕ → List Edge → ℕ → Type 0
HasEdge count es n = (i : ℕ) × (i < count) × ((d : Edge) → (slice_index_or es i d).key ≡ n)

-- the marked keys of these edges are put on the pile 2 where they were on none
pub record AreEdgesPut (count : ℕ) (es : List Edge) (marks : List Bool) (old new : List ℕ) : Type 0 where
  pub each : (n : ℕ) → HasEdge count es n → is_set marks n ≡ true → ¬ (number_at new n ≡ 0)
  pub only : (n : ℕ) → (number_at new n ≡ number_at old n) ⊎ ((number_at old n ≡ 0) × (number_at new n ≡ 2) × (is_set marks n ≡ true) × HasEdge count es n)

-- how often a key at this place may still be put on the pile 2 or taken from it
abbrev pub turns_left : ℕ → ℕ
turns_left zero = 2
turns_left (suc zero) = 0
turns_left (suc (suc zero)) = 1
turns_left (suc (suc (suc n))) = 0

-- how often keys may still be put on the pile 2 or taken from it
abbrev pub left_to_see : List ℕ → ℕ
left_to_see places = sum_by turns_left places

-- there is room for what is known of so many keys
pub record HasRoom (keys : ℕ) (e : Explored) : Type 0 where
  pub marks : keys ≤ length e.marks
  pub piles : keys ≤ length e.piles

-- all but the room is as it was
pub record IsSameKnown (old new : Explored) : Type 0 where
  pub known_is : new.known ≡ old.known
  pub piles_are : (n : ℕ) → number_at new.piles n ≡ number_at old.piles n

-- each text may read a value of this origin at this location
abbrev pub is_open_origin : Loc → Origin → Bool
is_open_origin l (origins.Fetched allow) = is_none (origin l)
is_open_origin l origins.Cached = true
is_open_origin l origins.Made = true

-- the outcome is a value that each text may read
abbrev pub is_open_value : Loc → program.Outcome → Bool
is_open_value l (outcomes.Good v o) = is_open_origin l o
is_open_value l (outcomes.Bad b) = false

-- ---- loops

-- nothing is in flight, no task is open, and the key is wanted
pub record IsStuck (keys : List Entrant) (texts : List Text) (looks : List Look) (s : State) (k : Key) : Type 0 where
  pub stands : Stands keys texts looks [] s
  pub none : (t : Task) → ¬ IsOpen s t
  pub wanted : Wanted s k

-- so is the key for which it waits
pub record IsNextStuck (keys : List Entrant) (texts : List Text) (looks : List Look) (s : State) (k j : Key) : Type 0 where
  pub blocks : Blocks s.recorded (outcome_of s) k j
  pub stuck : IsStuck keys texts looks s j

-- a loop may be marked at the key; then it decides the root, or a task is open
pub record IsLoop (s : State) (j : Key) : Type 0 where
  pub may : May (Cycled j) s
  pub goes_on : (root_walk (effect (Cycled j) s) ≡ Turns j) ⊎ ((t : Task) × IsOpen (effect (Cycled j) s) t)
