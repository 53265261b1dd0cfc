-- Rows of which some come to a loop, and marks of what keys ask.
use Rattle.std.specs.Prelude.{◌≡◌, ◌⊎◌, ◌<◌, ◌++◌, ℕ, zero, suc, Bool, true, false, if◌then◌else◌, List, [], ◌∷◌, length, drop, Option, Some, None, slice_get, unwrap_or, refl}
use Rattle.std.specs.Option.{option_map}
use Rattle.std.proofs.Common.{ap, sym, ◌∙◌, subst, inl, inr, arith}
use Rattle.dh_syntax.specs.declared.locations.Key.{Key}
use Rattle.dh_syntax.specs.declared.locations.Loc.{Loc}
use Rattle.dh_syntax.specs.Imports.Keys.{key_eq}
use Rattle.dh_imports.specs.declared.outcomes.Outcome as program
use Rattle.dh_imports.specs.Machine.{IsAmong}
use Rattle.dh_imports.specs.Outcomes.{plain}
use Rattle.dh_import_laws.proofs.Wants.{among_left, among_right, among-split}
use Rattle.dh_demand.specs.declared.scans.Edge.{Edge}
use Rattle.dh_demand.specs.Results.{Row, ask_of, number_of, key_at, outcome_at}
use Rattle.dh_demand.specs.Scans.{Begins}
use Rattle.dh_demand.specs.Wants.{AreMarked}
use Rattle.dh_record.specs.declared.rows.recorded.Entrant.{Entrant}
use Rattle.dh_record.specs.Marks.{IsMarked, is_set}
use Rattle.dh_record.specs.Reading.{IsNumbered}
use Rattle.dh_record.specs.Rows.{rows_of}
use Rattle.dh_record.proofs.Reading.{number_names}
use Rattle.dh_watch_rows.specs.Inside.LoopedRows.{HaveSameKeys, Mark, looped_rows}

-- ---- rows with a loop

pub looped-many : (rs : List Row) (ms : List Bool) (end : program.Outcome) → length (looped_rows rs ms end) ≡ length rs
looped-many [] ms end = refl
looped-many (r ∷ rs) ms end = ap suc (looped-many rs (drop 1 ms) end)

pub looped-numbers : (rs : List Row) (ms : List Bool) (end : program.Outcome) (k : Key) → number_of (looped_rows rs ms end) k ≡ number_of rs k
looped-numbers [] ms end k = refl
looped-numbers (r ∷ rs) ms end k = ap (λ o. if key_eq r.0 k then Some 0 else option_map suc o) (looped-numbers rs (drop 1 ms) end k)

pub looped-same : (rs : List Row) (ms : List Bool) (end : program.Outcome) → HaveSameKeys rs (looped_rows rs ms end)
looped-same rs ms end = record { many = looped-many rs ms end; numbers = looped-numbers rs ms end }

set-next : (ms : List Bool) (n : ℕ) → is_set (drop 1 ms) n ≡ is_set ms (suc n)
set-next [] n = refl
set-next (m ∷ ms) n = refl

pub looped-key : (rs : List Row) (ms : List Bool) (end : program.Outcome) (n : ℕ) → key_at (looped_rows rs ms end) n ≡ key_at rs n
looped-key [] ms end n = refl
looped-key (r ∷ rs) ms end zero = refl
looped-key (r ∷ rs) ms end (suc n) = looped-key rs (drop 1 ms) end n

pub looped-outcome : (rs : List Row) (ms : List Bool) (end : program.Outcome) (n : ℕ) → n < length rs
    → outcome_at (looped_rows rs ms end) n ≡ (if is_set ms n then Some (Some end) else outcome_at rs n)
looped-outcome [] ms end n l = absurd (omega arith)
looped-outcome (r ∷ rs) ms end zero l = go (is_set ms 0)
  where
    go : (b : Bool) → Some (if b then Some end else r.1) ≡ (if b then Some (Some end) else Some r.1)
    go true = refl
    go false = refl
looped-outcome (r ∷ rs) ms end (suc n) l = looped-outcome rs (drop 1 ms) end n (omega arith) ∙ ap (λ b. if b then Some (Some end) else outcome_at rs n) (set-next ms n)

pub got : (ms : List Bool) (n : ℕ) → is_set ms n ≡ unwrap_or (slice_get ms n) false
got [] n = refl
got (m ∷ ms) zero = refl
got (m ∷ ms) (suc n) = got ms n

-- what is asked of them
pub looped-ask : (rs : List Row) (ms : List Bool) (end : program.Outcome) (k : Key) (n : ℕ) → number_of rs k ≡ Some n
    → ask_of (looped_rows rs ms end) k ≡ (if is_set ms n then Some (plain end) else ask_of rs k)
looped-ask [] ms end k n h = cc
looped-ask (r ∷ rs) ms end k n h = go (key_eq r.0 k) refl (number_of rs k) refl h (λ m q. looped-ask rs (drop 1 ms) end k m q)
  where
    first : (b : Bool) → option_map plain (if b then Some end else r.1) ≡ (if b then Some (plain end) else option_map plain r.1)
    first true = refl
    first false = refl

    go : (b : Bool) → key_eq r.0 k ≡ b → (o : Option ℕ) → number_of rs k ≡ o → (if b then Some 0 else option_map suc o) ≡ Some n
        → ((m : ℕ) → number_of rs k ≡ Some m → ask_of (looped_rows rs (drop 1 ms) end) k ≡ (if is_set (drop 1 ms) m then Some (plain end) else ask_of rs k))
        → (if b then option_map plain (if is_set ms 0 then Some end else r.1) else ask_of (looped_rows rs (drop 1 ms) end) k)
        ≡ (if is_set ms n then Some (plain end) else (if b then option_map plain r.1 else ask_of rs k))
    go true p o q h i = let z : 0 ≡ n = cc in first (is_set ms 0) ∙ ap (λ m. if is_set ms m then Some (plain end) else option_map plain r.1) z
    go false p None q h i = cc
    go false p (Some m) q h i =
        let z : suc m ≡ n = cc in
        i m q ∙ ap (λ b. if b then Some (plain end) else ask_of rs k) (set-next ms m) ∙ ap (λ x. if is_set ms x then Some (plain end) else ask_of rs k) z

-- the edges of a text fit rows with the same keys
pub begins-same : (rs rs' : List Row) → HaveSameKeys rs rs' → (parent : Option Loc) (ks : List Key) (es : List Edge) → Begins parent rs ks es → Begins parent rs' ks es
begins-same rs rs' h parent [] es b = tt
begins-same rs rs' h parent (k ∷ ks) [] b = b
begins-same rs rs' h parent (k ∷ ks) (e ∷ es) b = (record { numbered = h.numbers k ∙ (b.0).numbered; sane_is = (b.0).sane_is }, begins-same rs rs' h parent ks es b.1)

-- ---- marks

-- what is marked besides is added
pub mark-more : (keys : List Entrant) (rows : List Row) (marks marks' : List Bool) (ks more : List Key) → HaveSameKeys (rows_of keys) rows
    → ((k : Key) → IsAmong k more → IsNumbered (rows_of keys) k) → AreMarked rows more marks marks' → Mark keys marks ks → Mark keys marks' (more ++ ks)
mark-more keys rows marks marks' ks more same numbered m h = record {
  fit = let e = m.same_length in let f = h.fit in omega arith;
  marked = λ k. (to k, λ i. from k (among-split k more ks i));
  inside = λ n s. elim (m.only n s) [
    | inl old ↦ h.inside n old
    | inr (j, i, q) ↦ (number_names keys j n (sym (same.numbers j) ∙ q)).0
  ];
}
  where
    to : (k : Key) → IsMarked keys marks' k → IsAmong k (more ++ ks)
    to k x =
        elim (m.only x.number x.set) [
          | inl old ↦ among_right k more ks ((h.marked k).0 (record { number = x.number; number_is = x.number_is; set = old }))
          | inr (j, i, q) ↦
              let a = number_names keys j x.number (sym (same.numbers j) ∙ q) in
              let b = number_names keys k x.number x.number_is in
              among_left k more ks (subst (λ z. IsAmong z more) (sym a.1 ∙ b.1) i)
        ]

    from : (k : Key) → IsAmong k more ⊎ IsAmong k ks → IsMarked keys marks' k
    from k (inl i) =
        let x = numbered k i in
        let l = (number_names keys k x.0 x.1).0 in
        let f = h.fit in
        record { number = x.0; number_is = x.1; set = m.set x.0 (omega arith) (k, i, same.numbers k ∙ x.1) }
    from k (inr i) = let x = (h.marked k).1 i in record { number = x.number; number_is = x.number_is; set = m.kept x.number x.set }
