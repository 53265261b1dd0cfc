-- How keys get their numbers.
use Rattle.std.specs.Prelude.{◌≡◌, ℕ, ◌≤◌, ◌++◌, if◌then◌else◌, false, List, [], ◌∷◌, length, map, Option, Some, None, All, slice_index_or, slice_set}
use Rattle.dh_syntax.specs.declared.locations.Key.{Key}
use Rattle.dh_syntax.specs.declared.locations.Loc.{Loc}
use Rattle.dh_imports.specs.declared.outcomes.Outcome.{Outcome}
use Rattle.dh_syntax.specs.Imports.Keys.{bare}
use Rattle.dh_syntax.specs.Imports.Locations.{loc_text}
use Rattle.dh_imports.specs.Resolver.{is_in}
use Rattle.dh_demand.specs.declared.scans.Edge.{Edge}
use Rattle.dh_demand.specs.Results.{Row, number_of}
use Rattle.dh_demand.specs.Scans.{IsEdge}
use Rattle.dh_record.specs.declared.rows.recorded.Entrant.{Entrant}
use Rattle.dh_record.specs.Rows.{nobody, rows_of}

-- the key of an entrant
abbrev pub key_of_entrant : Entrant → Key
key_of_entrant e = e.key

-- the keys of these entrants, in their order
abbrev pub keys_in : List Entrant → List Key
keys_in es = map key_of_entrant es

-- the keys with one more, where it is new
abbrev pub with_key : List Key → Key → List Key
with_key ks k = if is_in k ks then ks else ks ++ k ∷ []

-- the keys with a key, and with the same key without its digest
abbrev pub entered : List Key → Key → List Key
entered ks k = with_key (with_key ks (bare k)) k

-- the keys with each of the others entered in turn, itself and without its digest
abbrev pub entered_all : List Key → List Key → List Key
entered_all ks [] = ks
entered_all ks (j ∷ js) = entered_all (entered ks j) js

-- the key has beside it the text of its location and the number of the key without its digest
pub record IsListed (rows : List Row) (e : Entrant) : Type 0 where
  pub text_is : e.text ≡ loc_text e.key.loc
  pub bare_is : number_of rows (bare e.key) ≡ Some e.unfrozen

-- the entrant is undecided and has its own key beside it
pub record IsNew (e : Entrant) : Type 0 where
  pub undecided : e.outcome ≡ None
  pub own_is : e.own ≡ Some e.key

-- the entrant of a key, new, with this number of the key without its digest
pub record IsEntrant (k : Key) (unfrozen : ℕ) (e : Entrant) : Type 0 where
  pub key_is : e.key ≡ k
  pub text_is : e.text ≡ loc_text k.loc
  pub unfrozen_is : e.unfrozen ≡ unfrozen
  pub undecided : e.outcome ≡ None
  pub own_is : e.own ≡ Some k

-- more keys stand behind the old ones, and together they are these
pub record AreMore (old : List Entrant) (ks : List Key) (new : List Entrant) : Type 0 where
  pub more : List Entrant
  pub new_is : new ≡ old ++ more
  pub keys_are : keys_in new ≡ ks
  pub listed : All (IsListed (rows_of new)) more
  pub are_new : All IsNew more

-- one edge for each of these keys
abbrev pub AreEdges : Option Loc → List Row → List Key → List Edge → Type 0
AreEdges parent rows [] [] = Unit {0}
AreEdges parent rows [] (e ∷ es) = ⊥
AreEdges parent rows (k ∷ ks) [] = ⊥
AreEdges parent rows (k ∷ ks) (e ∷ es) = IsEdge parent rows k e × AreEdges parent rows ks es

-- the keys of these imports of a root are added, with an edge for each, and they are no more than this
pub record AreFew (old : List Entrant) (ks : List Key) (most : ℕ) (new : List Entrant) (es : List Edge) : Type 0 where
  pub entered_are : AreMore old (entered_all (keys_in old) ks) new
  pub edges_are : AreEdges None (rows_of new) ks es
  pub few : length new ≤ most

-- no key stands twice
abbrev pub AreDistinct : List Key → Type 0
AreDistinct [] = Unit {0}
AreDistinct (k ∷ ks) = (is_in k ks ≡ false) × AreDistinct ks

-- the keys with this outcome for the key of a number
abbrev pub decided_at : List Entrant → ℕ → Outcome → List Entrant
decided_at es n o = slice_set es n (record (slice_index_or es n nobody) { outcome = Some o; own = None })

-- the keys without the outcome of the key of a number
abbrev pub undecided_at : List Entrant → ℕ → List Entrant
undecided_at es n = slice_set es n (record (slice_index_or es n nobody) { outcome = None })
