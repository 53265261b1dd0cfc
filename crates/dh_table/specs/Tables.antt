-- What stands in a table's fields, and what is always true of them.
use Rattle.std.specs.Prelude.{◌≡◌, ℕ, ◌-◌, ◌≤◌, ◌<◌, ◌^◌, ◌++◌, min, List, length, map, reverse, All, Option, None, Some, vec_len, vec_capacity}
use Rattle.dh_syntax.specs.Expressions.Bridge.{term}
use Rattle.dh_syntax.specs.declared.locations.Digest.{Digest}
use Rattle.dh_syntax.specs.declared.locations.Key.{Key}
use Rattle.dh_syntax.specs.declared.locations.Loc.{Loc}
use Rattle.dh_imports.specs.Machine.{outcome_of}
use Rattle.dh_imports.specs.Replay.{with_bare, keys_found}
use Rattle.dh_imports.specs.Resolver.{is_in}
use Rattle.dh_imports.specs.Walk.{keys_of}
use Rattle.dh_demand.specs.declared.scans.Scan.{Scan}
use Rattle.dh_demand.specs.Results.{ask_of}
use Rattle.dh_demand.specs.Scans.{Fits}
use Rattle.dh_ports.specs.declared.worlds.Got.{Got}
use Rattle.dh_table.specs.declared.search.scratch.Scratch.{Scratch}
use Rattle.dh_table.specs.declared.steps.Flight.{Flight}
use Rattle.dh_table.specs.declared.steps.Job.{Job}
use Rattle.dh_table.specs.declared.steps.Step.{Step}
use Rattle.dh_table.specs.declared.steps.Step.TheVariants as steps
use Rattle.dh_table.specs.declared.tables.Table.TheInside.{Inside}
use Rattle.dh_record.specs.declared.rows.recorded.Entrant.{Entrant}
use Rattle.dh_record.specs.declared.rows.recorded.Text.{Text}
use Rattle.dh_record.specs.Brought.{AreShelved, AreTold}
use Rattle.dh_record.specs.Entering.{AreDistinct, IsListed, keys_in}
use Rattle.dh_record.specs.Due.{IsValued}
use Rattle.dh_record.specs.Reading.{IsRead}
use Rattle.dh_table.specs.Inside.Searching.{HasRoom, Knows}
use Rattle.dh_record.specs.Sorting.{IsOrder, rank_of_look, rank_of_text}
use Rattle.dh_table.specs.Shown.{Shown}
use Rattle.dh_table.specs.States.{IsFrozenLook, IsReplayed, state_of}
use Rattle.dh_record.specs.Rows.{rows_of, text_of}

-- what contracts see of the fields of a table
abbrev pub view_of : {W : _} → Inside W → Shown
view_of t = record {
  root = t.root;
  keys = t.keys;
  texts = t.texts.items;
  looks = t.looks.items;
  decided = t.decided.items;
  limited = t.limited.items;
  flights = t.flights.items;
  drawn = t.drawn.items;
  history = t.history.items;
  refused = t.refused.items;
  spare =
      min
      (min (min (vec_capacity t.flights - vec_len t.flights) (vec_capacity t.drawn - vec_len t.drawn)) (min (vec_capacity t.history - vec_len t.history) (vec_capacity t.refused - vec_len t.refused)))
      (min (vec_capacity t.decided - vec_len t.decided) (vec_capacity t.limited - vec_len t.limited));
}

-- the keys that the root and the recorded texts name
abbrev pub keys_named : Scan → List Text → List Key
keys_named root texts = with_bare (keys_of None (term root.expr) ++ keys_found (reverse (map text_of texts)))

-- an undecided key has itself beside it
abbrev pub IsOwned : Entrant → Type 0
IsOwned e = e.outcome ≡ None → e.own ≡ Some e.key

-- the keys of a table are those that its texts name, each once, and the edges of its texts have their numbers
pub record IsKnown (root : Scan) (keys : List Entrant) (texts : List Text) : Type 0 where
  pub few : length keys ≤ 2 ^ 32
  pub distinct : AreDistinct (keys_in keys)
  pub members : (k : Key) → is_in k (keys_in keys) ≡ is_in k (keys_named root texts)
  pub listed : All (IsListed (rows_of keys)) keys
  pub root_fits : Fits None (rows_of keys) (term root.expr) root.edges
  pub read : All (IsRead (rows_of keys)) texts

-- a search of so many keys, and a loop of them, take no memory
pub record IsRoomy (keys : ℕ) (s : Scratch) : Type 0 where
  pub explored : HasRoom keys s.explored
  pub seen : keys ≤ length s.seen
  pub trail : length s.seen ≤ vec_capacity s.trail

-- the key that a step names by its number is there
abbrev pub IsStepNamed : ℕ → Step → Type 0
IsStepNamed n (steps.Cycled k) = k < n
IsStepNamed n _ = Unit {0}

-- the outcomes of the keys have values, and looks in flight are of keys with digests
pub record AreFit (keys : List Entrant) (flights : List Flight) : Type 0 where
  pub values : All IsValued keys
  pub looks : All (λ (f : Flight). IsFrozenLook keys f.job) flights

-- what is always true of a table, in a world that tells this of texts and of the cache
pub record IsGood (told : Loc → Option Got) (shelved : Digest → Option (Option (List ℕ))) {W : _} (t : Inside W) : Type 0 where
  pub replays : IsReplayed (view_of t)
  pub flights_named : All (λ (f : Flight). f.job.key < length t.keys) t.flights.items
  pub drawn_named : All (λ (j : Job). j.key < length t.keys) t.drawn.items
  pub decided_named : All (λ (n : ℕ). n < length t.keys) t.decided.items
  pub limited_named : All (λ (n : ℕ). n < length t.keys) t.limited.items
  pub history_named : All (IsStepNamed (length t.keys)) t.history.items
  pub owned : All IsOwned t.keys
  -- what is known of the keys is what was decided
  pub asks : outcome_of (state_of (view_of t)) ≡ ask_of (rows_of t.keys)
  pub known : IsKnown t.root t.keys t.texts.items
  pub fit : AreFit t.keys t.flights.items
  pub scratch : IsRoomy (length t.keys) t.scratch
  pub explored : Knows (state_of (view_of t)) t.keys t.scratch.explored
  pub room : vec_len t.flights ≤ (view_of t).spare
  pub text_order : IsOrder (map rank_of_text t.texts.items) t.text_order.numbers.items
  pub look_order : IsOrder (map rank_of_look t.looks.items) t.look_order.numbers.items
  -- what is recorded is what the world tells, where that tells
  pub texts_told : AreTold told t.texts.items
  pub looks_shelved : AreShelved shelved t.looks.items
