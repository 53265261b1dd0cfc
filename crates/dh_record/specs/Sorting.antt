-- Numbers in the order of what they stand for.
use Rattle.std.specs.Prelude.{◌≡◌, ◌<◌, ◌≤◌, ℕ, true, false, List, [], ◌∷◌, length, slice_index_or, All, Option, Some, None}
use Rattle.dh_syntax.specs.declared.locations.Key.{Key}
use Rattle.dh_syntax.specs.Bytes.Binary.{mode_code}
use Rattle.dh_syntax.specs.Imports.Keys.{texts_before, digest_rank, loc_rank}
use Rattle.dh_imports.specs.Machine.{IsAmong}
use Rattle.dh_record.specs.declared.rows.recorded.Entrant.{Entrant}
use Rattle.dh_record.specs.declared.rows.recorded.Look.{Look}
use Rattle.dh_record.specs.declared.rows.recorded.Text.{Text}

-- by what things are ordered
abbrev pub Rank : Type 0
Rank = List (List ℕ)

-- a key by its mode, its digest and its location
abbrev pub rank_of : Key → Rank
rank_of k = (mode_code k.mode ∷ []) ∷ digest_rank k.digest ∷ loc_rank k.loc

-- an entrant by its key
abbrev pub rank_of_entrant : Entrant → Rank
rank_of_entrant e = rank_of e.key

-- a text by its location
abbrev pub rank_of_text : Text → Rank
rank_of_text t = loc_rank t.loc

-- a look by its digest
abbrev pub rank_of_look : Look → Rank
rank_of_look l = l.digest.0 ∷ []

-- the rank of the thing of this number
abbrev pub rank_at : List Rank → ℕ → Rank
rank_at ranks n = slice_index_or ranks n []

-- the thing of this number comes before this rank
abbrev pub IsBelow : List Rank → Rank → ℕ → Type 0
IsBelow ranks x n = texts_before (rank_at ranks n) x ≡ true

-- each number comes before those behind it
abbrev pub Ascends : List Rank → List ℕ → Type 0
Ascends ranks [] = Unit {0}
Ascends ranks (n ∷ ns) = All (λ (m : ℕ). texts_before (rank_at ranks n) (rank_at ranks m) ≡ true) ns × Ascends ranks ns

-- all numbers of these things, ascending
pub record IsOrder (ranks : List Rank) (numbers : List ℕ) : Type 0 where
  pub inside : All (λ (n : ℕ). n < length ranks) numbers
  pub ascends : Ascends ranks numbers
  pub complete : (n : ℕ) → n < length ranks → IsAmong n numbers

-- the numbers before this place are of things before this rank, and the others are not
pub record IsPlace (ranks : List Rank) (x : Rank) (numbers : List ℕ) (place : ℕ) : Type 0 where
  pub within : place ≤ length numbers
  pub below : (i : ℕ) → i < place → IsBelow ranks x (slice_index_or numbers i 0)
  pub above : (i : ℕ) → place ≤ i → i < length numbers → texts_before (rank_at ranks (slice_index_or numbers i 0)) x ≡ false

-- the thing of this rank, or there is none
abbrev pub IsRanked : List Rank → Rank → Option ℕ → Type 0
IsRanked ranks x None = (n : ℕ) → n < length ranks → ¬ (rank_at ranks n ≡ x)
IsRanked ranks x (Some n) = (n < length ranks) × (rank_at ranks n ≡ x)
