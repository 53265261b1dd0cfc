-- What a table reads in its record, against the plan and the stage of a key.
use Rattle.std.specs.Prelude.{◌≡◌, ◌⊎◌, ◌<◌, ◌≤◌, ◌+◌, ℕ, zero, suc, Bool, true, false, if◌then◌else◌, List, [], ◌∷◌, length, map, reverse, take, filter, Option, Some, None, is_none, refl}
use Rattle.std.specs.Option.{option_map}
use Rattle.std.proofs.Common.{ap, sym, ◌∙◌, subst, arith, inl, inr, get_or}
use Rattle.std.proofs.lemmas.List.{take_more, take_all}
use Rattle.dh_syntax.specs.declared.locations.Digest.{Digest}
use Rattle.dh_syntax.specs.declared.locations.Key.{Key}
use Rattle.dh_syntax.specs.declared.locations.Loc.{Loc}
use Rattle.dh_syntax.specs.declared.locations.Mode.{Mode}
use Rattle.dh_syntax.specs.declared.locations.Mode.TheVariants as modes
use Rattle.dh_imports.specs.declared.outcomes.Outcome as program
use Rattle.dh_imports.specs.declared.outcomes.Why.{Why}
use Rattle.dh_syntax.specs.Expressions.Tree.{Term}
use Rattle.dh_syntax.specs.Imports.Keys.{key_eq}
use Rattle.dh_imports.specs.Machine.{IsAmong}
use Rattle.dh_imports.specs.Outcomes.{plain}
use Rattle.dh_imports.specs.Records.{Record, lookup}
use Rattle.dh_imports.specs.Resolver.{plan, plan_fetch, plan_mode, plan_digest, unfetched}
use Rattle.dh_imports.specs.Walk.{Ask, course, wants, keys_of, place}
use Rattle.dh_laws.proofs.KeyOrder.{none-some, some-equal, key_eq-true}
use Rattle.dh_import_laws.proofs.Wants.{asked-keys}
use Rattle.dh_demand.specs.declared.scans.Edge.{Edge}
use Rattle.dh_demand.specs.Results.{Row, number_of, key_at, outcome_at, ask_of}
use Rattle.dh_demand.specs.Scans.{Begins, Fits}
use Rattle.dh_demand.proofs.Numbers.{stands}
use Rattle.dh_record.specs.declared.rows.recorded.Entrant.{Entrant}
use Rattle.dh_record.specs.Reading.{IsNumbered}
use Rattle.dh_record.specs.Rows.{rows_of, key_named}
use Rattle.dh_record.proofs.Latest.{latest}

-- ---- lists that grow at their end, looked up with the latest first

pub later : {X A B : Type 0} (same : A → A → Bool) (f : X → A × B) (xs : List X) (i : ℕ) (d : X) (a : A) → i < length xs
    → lookup same (reverse (map f (take (i + 1) xs))) a ≡ (if same (f (get_or xs i d)).0 a then Some (f (get_or xs i d)).1 else lookup same (reverse (map f (take i xs))) a)
later same f xs i d a h = ap (λ ys. lookup same (reverse (map f ys)) a) (take_more xs i d h) ∙ ap (λ ys. lookup same ys a) (latest f (take i xs) (get_or xs i d))

-- the element at i is the last of this name, or that one is still the last which was it so far
module _ {X A B : Type 0} (same : A → A → Bool) (f : X → A × B) (xs : List X) (i : ℕ) (x : X) (a : A) (h : i < length xs) (is : x ≡ get_or xs i x) where
  pub named_here : same (f x).0 a ≡ true → Some (f x).1 ≡ lookup same (reverse (map f (take (i + 1) xs))) a
  named_here e =
      sym (later same f xs i x a h
      ∙ ap (λ y. if same (f y).0 a then Some (f y).1 else lookup same (reverse (map f (take i xs))) a) (sym is)
      ∙ ap (λ b. if b then Some (f x).1 else lookup same (reverse (map f (take i xs))) a) e)

  pub named_before : (o : Option B) → same (f x).0 a ≡ false → o ≡ lookup same (reverse (map f (take i xs))) a → o ≡ lookup same (reverse (map f (take (i + 1) xs))) a
  named_before o e p =
      p
      ∙ sym (later same f xs i x a h
      ∙ ap (λ y. if same (f y).0 a then Some (f y).1 else lookup same (reverse (map f (take i xs))) a) (sym is)
      ∙ ap (λ b. if b then Some (f x).1 else lookup same (reverse (map f (take i xs))) a) e)

pub named_all : {X A B : Type 0} (same : A → A → Bool) (f : X → A × B) (xs : List X) (i : ℕ) (a : A) (o : Option B) → length xs ≤ i → o ≡ lookup same (reverse (map f (take i xs))) a → o ≡ lookup same (reverse (map f xs)) a
named_all same f xs i a o h p = p ∙ ap (λ ys. lookup same (reverse (map f ys)) a) (take_all i xs h)

-- ---- the number of a key

pub number_names : (es : List Entrant) (k : Key) (n : ℕ) → number_of (rows_of es) k ≡ Some n → (n < length es) × (key_named es n ≡ k)
number_names [] k n h = none-some refl h
number_names (e ∷ es) k n h = go (key_eq e.key k) (number_of (rows_of es) k) refl refl h (λ m q. number_names es k m q)
  where
    go : (b : Bool) (o : Option ℕ) → key_eq e.key k ≡ b → number_of (rows_of es) k ≡ o → (if b then Some 0 else option_map suc o) ≡ Some n
        → ((m : ℕ) → number_of (rows_of es) k ≡ Some m → (m < length es) × (key_named es m ≡ k)) → (n < length (e ∷ es)) × (key_named (e ∷ es) n ≡ k)
    go true o p q r f =
        let zero_is : 0 ≡ n = cc in
        subst (λ m. (m < length (e ∷ es)) × (key_named (e ∷ es) m ≡ k)) zero_is (omega arith, key_eq-true e.key k p)
    go false None p q r f = none-some refl r
    go false (Some m) p q r f =
        let next : suc m ≡ n = cc in
        let g = f m q in
        subst (λ x. (x < length (e ∷ es)) × (key_named (e ∷ es) x ≡ k)) next (let l = g.0 in omega arith, g.1)

-- ---- the plan of a key needs no limits

fetch-limits : (r : Record) (k : Key) (b : Bool) (w : Option Why) → plan_fetch r k b w ≡ plan_fetch (record r { limits = [] }) k b w
fetch-limits r k b None = refl
fetch-limits r k b (Some w) = refl

mode-limits : (r : Record) (k : Key) (m : Mode) → plan_mode r k m ≡ plan_mode (record r { limits = [] }) k m
mode-limits r k modes.Location = refl
mode-limits r k modes.Text = fetch-limits r k true (unfetched k.loc)
mode-limits r k modes.Code = fetch-limits r k false (unfetched k.loc)

digest-limits : (r : Record) (k : Key) (d : Option Digest) → plan_digest r k d ≡ plan_digest (record r { limits = [] }) k d
digest-limits r k None = mode-limits r k k.mode
digest-limits r k (Some d) = refl

pub plan_limits : (r : Record) (k : Key) → plan r k ≡ plan (record r { limits = [] }) k
plan_limits r k = digest-limits r k k.digest

-- ---- the wants of a text have numbers

pub among-filter : {A : Type 0} (test : A → Bool) (a : A) (xs : List A) → IsAmong a (filter test xs) → IsAmong a xs
among-filter test a [] m = m
among-filter test a (x ∷ xs) m = go (test x) m (λ q. among-filter test a xs q)
  where
    go : (b : Bool) → IsAmong a (if b then x ∷ filter test xs else filter test xs) → (IsAmong a (filter test xs) → IsAmong a xs) → (x ≡ a) ⊎ IsAmong a xs
    go true (inl e) f = inl e
    go true (inr n) f = inr (f n)
    go false n f = inr (f n)

pub begun : (parent : Option Loc) (rows : List Row) (ks : List Key) (es : List Edge) (k : Key) → Begins parent rows ks es → IsAmong k ks → IsNumbered rows k
begun parent rows [] es k b m = absurd m
begun parent rows (j ∷ js) [] k b m = absurd b
begun parent rows (j ∷ js) (e ∷ es) k b (inl p) = subst (IsNumbered rows) p (e.key, b.0.numbered)
begun parent rows (j ∷ js) (e ∷ es) k b (inr n) = begun parent rows js es k b.1 n

pub wants_numbered : (parent : Option Key) (rows : List Row) (ask : Ask) (e : Term) (es : List Edge) (k : Key) → Fits (place parent) rows e es → IsAmong k (wants parent ask e) → IsNumbered rows k
wants_numbered parent rows ask e es k f m =
    begun (place parent) rows (keys_of (place parent) e) es k f.begins
    (asked-keys parent ask k e (among-filter (λ j. is_none (ask j)) k (course parent ask e).asked m))

pub key_at_names : (es : List Entrant) (n : ℕ) (k : Key) → key_at (rows_of es) n ≡ Some k → key_named es n ≡ k
key_at_names [] n k h = none-some refl h
key_at_names (e ∷ es) zero k h = cc
key_at_names (e ∷ es) (suc n) k h = key_at_names es n k h

-- ---- what is known of a key, by its number

pub asked_number : (rows : List Row) (k : Key) (n : ℕ) (o : Option program.Outcome) → number_of rows k ≡ Some n → outcome_at rows n ≡ Some o → option_map plain o ≡ ask_of rows k
asked_number rows k n o h q = let s = stands rows k n h in sym (s.asked ∙ ap (option_map plain) (some-equal (sym s.outcome_is ∙ q)))

pub asked_none : (rows : List Row) (k : Key) → number_of rows k ≡ None → None ≡ ask_of rows k
asked_none [] k h = refl
asked_none (r ∷ rs) k h = go (key_eq r.0 k) (number_of rs k) refl h (λ q. asked_none rs k q)
  where
    go : (b : Bool) (o : Option ℕ) → number_of rs k ≡ o → (if b then Some 0 else option_map suc o) ≡ None → (number_of rs k ≡ None → None ≡ ask_of rs k) → None ≡ (if b then option_map plain r.1 else ask_of rs k)
    go true o p q f = none-some q refl
    go false None p q f = f p
    go false (Some n) p q f = none-some q refl
