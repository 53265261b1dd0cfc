-- The pass over outcomes: each look keeps what is known of it, and in the end it leaves what is due.
use Rattle.std.specs.Prelude.{◌≡◌, ◌⊎◌, ◌<◌, ◌≤◌, ◌+◌, ◌++◌, ℕ, Bool, true, false, is_some, if◌then◌else◌, List, [], ◌∷◌, length, map, reverse, filter, take, drop, All, Option, Some, None, slice_index_or, slice_set, refl}
use Rattle.std.specs.Option.{option_map}
use Rattle.std.proofs.Common.{ap, sym, ◌∙◌, subst, inl, inr, arith, get_or}
use Rattle.std.proofs.lemmas.Bool.Decides.{eqb_tells}
use Rattle.std.proofs.lemmas.List.{append-nil, append_assoc, reverse-append, map_push, drop_more, take_more_set, drop-set-lt}
use Rattle.std.proofs.lemmas.List.Elements.{All-head, All-tail, All-push}
use Rattle.dh_syntax.specs.declared.locations.Key.{Key}
use Rattle.dh_syntax.specs.Imports.Keys.{key_eq}
use Rattle.dh_imports.specs.declared.outcomes.Why.{Why}
use Rattle.dh_imports.specs.Outcomes.{Outcome, plain}
use Rattle.dh_imports.specs.Records.{Record}
use Rattle.dh_imports.specs.Resolver.{plan, of_plan, stage}
use Rattle.dh_imports.specs.Walk.{Ask}
use Rattle.dh_laws.proofs.KeyOrder.{bool-case, none-some, key_eq-true, key_eq-itself}
use Rattle.dh_import_laws.proofs.Calm.{at-same, at-other, at-grown}
use Rattle.dh_demand.specs.Results.{ask_of}
use Rattle.dh_record.specs.declared.rows.recorded.Entrant.{Entrant}
use Rattle.dh_record.specs.declared.rows.recorded.Text.{Text}
use Rattle.dh_record.specs.Entering.{AreDistinct, keys_in, undecided_at}
use Rattle.dh_record.specs.Rows.{key_named, known as known_by, limit_of, nobody, outcome_named, outcome_of_number, rows_of, why_of}
use Rattle.dh_record.proofs.Decided.{named_same, number_itself, outcome_stands}
use Rattle.dh_record.proofs.Latest.{latest, reverse-cons}
use Rattle.dh_record.proofs.Reading.{asked_number}
use Rattle.dh_watch_laws.specs.Kept.{Outcomes, Found, known, one_more}
use Rattle.dh_watch_laws.specs.Sweeping.{is_due, left_in_place, limits_left, put_before}
use Rattle.dh_watch_laws.proofs.InPlace.{found-before}
use Rattle.dh_watch_rows.specs.Inside.Sifting.{Sifting, has_outcome}
use Rattle.dh_watch_rows.proofs.Undecided.{any, same-count, same-names, undecided-asks, undecided-here, undecided-keys, undecided-listed, undecided-read, undecided-same, undecided-valued}

-- ---- outcomes put before others

pub before-reverse : (ps l : Outcomes) → put_before ps l ≡ reverse ps ++ l
before-reverse [] l = refl
before-reverse (p ∷ ps) l = before-reverse ps (p ∷ l) ∙ sym (append_assoc (reverse ps) (p ∷ []) l) ∙ ap (λ z. z ++ l) (sym (reverse-append (p ∷ []) ps))

pub before-nothing : (ps : Outcomes) → put_before ps [] ≡ reverse ps
before-nothing ps = before-reverse ps [] ∙ append-nil (reverse ps)

-- the first of two that is there
abbrev or_else : Option Outcome → Option Outcome → Option Outcome
or_else (Some x) y = Some x
or_else None y = y

known-append : (xs ys : Outcomes) (k : Key) → known (xs ++ ys) k ≡ or_else (known xs k) (known ys k)
known-append [] ys k = refl
known-append (p ∷ ps) ys k = go (key_eq p.0 k) (known-append ps ys k)
  where
    go : (b : Bool) → known (ps ++ ys) k ≡ or_else (known ps k) (known ys k)
        → (if b then Some p.1 else known (ps ++ ys) k) ≡ or_else (if b then Some p.1 else known ps k) (known ys k)
    go true i = refl
    go false i = i

known-before : (ps l : Outcomes) (k : Key) → known (put_before ps l) k ≡ or_else (known (reverse ps) k) (known l k)
known-before ps l k = ap (λ z. known z k) (before-reverse ps l) ∙ known-append (reverse ps) l k

-- without an outcome of which nothing else is known, nothing is known of its key, and all else is
pub known-without : (ps l : Outcomes) (p : Key × Outcome) → known l p.0 ≡ None → known (reverse ps) p.0 ≡ None → (k : Key)
    → known (put_before ps l) k ≡ (if key_eq p.0 k then None else known (put_before ps (p ∷ l)) k)
known-without ps l p new none k = go (bool-case (key_eq p.0 k))
  where
    go : (key_eq p.0 k ≡ true) ⊎ (key_eq p.0 k ≡ false) → known (put_before ps l) k ≡ (if key_eq p.0 k then None else known (put_before ps (p ∷ l)) k)
    go (inl t) =
        let same = key_eq-true p.0 k t in
        known-before ps l k
        ∙ ap (λ o. or_else o (known l k)) (ap (known (reverse ps)) (sym same) ∙ none)
        ∙ ap (known l) (sym same) ∙ new
        ∙ sym (ap (λ b. if b then None else known (put_before ps (p ∷ l)) k) t)
    go (inr f) =
        known-before ps l k
        ∙ ap (or_else (known (reverse ps) k)) (sym (at-other l p.0 k p.1 f))
        ∙ sym (known-before ps (p ∷ l) k)
        ∙ sym (ap (λ b. if b then None else known (put_before ps (p ∷ l)) k) f)

fresh : (r : Record) (k : Key) (o : Outcome) (l : Outcomes) → Found r ((k, o) ∷ l) → known l k ≡ None
fresh r k o l (one_more f e c n q) = e

-- what is known of a key that an older outcome is of, whatever stands in the place of the older ones
over : (r : Record) (ps a b : Outcomes) → Found r (put_before ps b) → (x : Key) (p : Outcome) → known b x ≡ Some p → known (put_before ps a) x ≡ known a x
over r [] a b f x p e = refl
over r ((k, o) ∷ ps) a b f x p e =
    let new = fresh r k o b (found-before r ps ((k, o) ∷ b) f) in
    over r ps ((k, o) ∷ a) ((k, o) ∷ b) f x p (at-grown b k o new x p e) ∙ at-other a k x o (apart new)
  where
    apart : known b k ≡ None → key_eq k x ≡ false
    apart n = go (bool-case (key_eq k x))
      where
        go : (key_eq k x ≡ true) ⊎ (key_eq k x ≡ false) → key_eq k x ≡ false
        go (inr u) = u
        go (inl t) = none-some n (subst (λ z. known b z ≡ Some p) (sym (key_eq-true k x t)) e)

-- ---- one look

-- the pass needs no more of a record than its plans
pub same-pass : (r r' : Record) → ((k : Key) → plan r k ≡ plan r' k) → (done ps : Outcomes) → left_in_place r done ps ≡ left_in_place r' done ps
same-pass r r' plans done [] = refl
same-pass r r' plans done (p ∷ ps) = λ i.
    if is_due (of_plan (known (put_before ps (p ∷ done))) p.0 (plans p.0 i)) then same-pass r r' plans (p ∷ done) ps i else same-pass r r' plans done ps i

module _ (r : Record) (texts : List Text) (old : List Entrant) (all : List ℕ) (d : AreDistinct (keys_in old)) (keys : List Entrant) (kept : List ℕ) (n : ℕ) (rest : List ℕ)
    (s : Sifting r texts old all keys kept (n ∷ rest)) where
  inside : n < length old
  inside = All-head (λ (x : ℕ). x < length old) n rest s.rest_named

  pub within : n < length keys
  within = subst (λ m. n < m) (sym (same-count keys old s.same_keys)) inside

  name : key_named keys n ≡ key_named old n
  name = same-names keys old s.same_keys n

  apart : AreDistinct (keys_in keys)
  apart = subst AreDistinct (sym s.same_keys) d

  here : Found s.by (outcome_of_number old n ∷ s.older)
  here = found-before s.by (map (outcome_of_number old) rest) (outcome_of_number old n ∷ s.older) s.found

  new : known s.older (key_named old n) ≡ None
  new = fresh s.by (key_named old n) (outcome_named old n) s.older here

  not-kept : known (reverse (map (outcome_of_number old) kept)) (key_named old n) ≡ None
  not-kept = go (known (reverse (map (outcome_of_number old) kept)) (key_named old n)) refl
    where
      go : (o : Option Outcome) → known (reverse (map (outcome_of_number old) kept)) (key_named old n) ≡ o → known (reverse (map (outcome_of_number old) kept)) (key_named old n) ≡ None
      go None e = e
      go (Some o) e = none-some new (s.knows (key_named old n) o e)

  itself : (l : Outcomes) → known (outcome_of_number old n ∷ l) (key_named old n) ≡ Some (outcome_named old n)
  itself l = at-same l (key_named old n) (key_named old n) (outcome_named old n) (key_eq-itself (key_named old n))

  not-behind : known (reverse (map (outcome_of_number old) rest)) (key_named old n) ≡ None
  not-behind =
      ap (λ z. known z (key_named old n)) (sym (before-nothing (map (outcome_of_number old) rest)))
      ∙ over s.by (map (outcome_of_number old) rest) [] (outcome_of_number old n ∷ s.older) s.found (key_named old n) (outcome_named old n) (itself s.older)

  test : is_due (stage r (known (put_before (map (outcome_of_number old) rest) (outcome_of_number old n ∷ reverse (map (outcome_of_number old) kept)))) (key_named old n))
      ≡ is_due (stage r (ask_of (rows_of keys)) (key_named keys n))
  test = λ i. is_due (stage r (s.asks i) (sym name i))

  abbrev passed : Bool → Outcomes
  passed b =
      if b then left_in_place r (outcome_of_number old n ∷ reverse (map (outcome_of_number old) kept)) (map (outcome_of_number old) rest)
      else left_in_place r (reverse (map (outcome_of_number old) kept)) (map (outcome_of_number old) rest)

  -- the key still has its outcome
  asked : ask_of (rows_of keys) (key_named keys n) ≡ option_map plain (slice_index_or keys n nobody).outcome
  asked = sym (asked_number (rows_of keys) (key_named keys n) n (slice_index_or keys n nobody).outcome (number_itself keys n apart within) (outcome_stands keys n within))

  still : ask_of (rows_of keys) (key_named keys n) ≡ Some (outcome_named old n)
  still =
      ap (ask_of (rows_of keys)) name ∙ (λ i. sym s.asks i (key_named old n))
      ∙ over s.by (map (outcome_of_number old) rest) (outcome_of_number old n ∷ reverse (map (outcome_of_number old) kept)) (outcome_of_number old n ∷ s.older) s.found (key_named old n)
      (outcome_named old n) (itself s.older)
      ∙ itself (reverse (map (outcome_of_number old) kept))

  same : outcome_of_number keys n ≡ outcome_of_number old n
  same = go (s.outcomes n)
    where
      go : ((slice_index_or keys n nobody).outcome ≡ None) ⊎ ((slice_index_or keys n nobody).outcome ≡ (slice_index_or old n nobody).outcome) → outcome_of_number keys n ≡ outcome_of_number old n
      go (inl e) = none-some (asked ∙ ap (option_map plain) e) still
      go (inr e) = λ i. (name i, known_by (e i))

  pub look-due : is_due (stage r (ask_of (rows_of keys)) (key_named keys n)) ≡ true → Sifting r texts old all keys (kept ++ n ∷ []) rest
  look-due due = record {
    same_keys = s.same_keys;
    listed = s.listed;
    read = s.read;
    valued = s.valued;
    outcomes = s.outcomes;
    kept_named = All-push (λ (x : ℕ). x < length old) kept n s.kept_named inside;
    rest_named = All-tail (λ (x : ℕ). x < length old) n rest s.rest_named;
    kept_same =
        map_push (outcome_of_number keys) kept n ∙ (λ i. s.kept_same i ++ same i ∷ []) ∙ sym (map_push (outcome_of_number old) kept n);
    by = s.by;
    older = outcome_of_number old n ∷ s.older;
    found = s.found;
    knows = λ k o e. more k o (subst (λ z. known z k ≡ Some o) (latest (outcome_of_number old) kept n) e) (bool-case (key_eq (key_named old n) k));
    asks = ap (λ z. known (put_before (map (outcome_of_number old) rest) z)) (latest (outcome_of_number old) kept n) ∙ s.asks;
    goes = ap (λ z. left_in_place r z (map (outcome_of_number old) rest)) (latest (outcome_of_number old) kept n) ∙ sym (ap passed (test ∙ due)) ∙ s.goes;
  }
    where
      more : (k : Key) (o : Outcome) → known (outcome_of_number old n ∷ reverse (map (outcome_of_number old) kept)) k ≡ Some o
          → (key_eq (key_named old n) k ≡ true) ⊎ (key_eq (key_named old n) k ≡ false) → known (outcome_of_number old n ∷ s.older) k ≡ Some o
      more k o e (inl t) =
          at-same s.older (key_named old n) k (outcome_named old n) t
          ∙ sym (at-same (reverse (map (outcome_of_number old) kept)) (key_named old n) k (outcome_named old n) t) ∙ e
      more k o e (inr f) =
          at-other s.older (key_named old n) k (outcome_named old n) f
          ∙ s.knows k o (sym (at-other (reverse (map (outcome_of_number old) kept)) (key_named old n) k (outcome_named old n) f) ∙ e)

  pub look-undue : is_due (stage r (ask_of (rows_of keys)) (key_named keys n)) ≡ false → Sifting r texts old all (undecided_at keys n) kept rest
  look-undue undue = record {
    same_keys = undecided-keys keys n within apart ∙ s.same_keys;
    listed = undecided-listed keys n within apart s.listed;
    read = undecided-read keys n within apart texts s.read;
    valued = undecided-valued keys n within apart s.valued;
    outcomes = λ m. each m;
    kept_named = s.kept_named;
    rest_named = All-tail (λ (x : ℕ). x < length old) n rest s.rest_named;
    kept_same =
        named_same keys n any within apart (outcome_of_number keys) (outcome_of_number (undecided_at keys n)) kept (λ m. refl)
        (λ m p. λ i. (same-names (undecided_at keys n) keys (undecided-keys keys n within apart) m i, known_by (undecided-same keys n within apart m p i)))
        (ap (λ z. known (reverse z) (key_named keys n)) s.kept_same ∙ ap (known (reverse (map (outcome_of_number old) kept))) name ∙ not-kept)
        ∙ s.kept_same;
    by = s.by;
    older = outcome_of_number old n ∷ s.older;
    found = s.found;
    knows = λ k o e. at-grown s.older (key_named old n) (outcome_named old n) new k o (s.knows k o e);
    asks = λ i k.
        (known-without (map (outcome_of_number old) rest) (reverse (map (outcome_of_number old) kept)) (outcome_of_number old n) not-kept not-behind k
        ∙ (λ j. if key_eq (sym name j) k then None else s.asks j k)
        ∙ sym (undecided-asks keys n within apart k)) i;
    goes = sym (ap passed (test ∙ undue)) ∙ s.goes;
  }
    where
      each : (m : ℕ) → ((slice_index_or (undecided_at keys n) m nobody).outcome ≡ None)
          ⊎ ((slice_index_or (undecided_at keys n) m nobody).outcome ≡ (slice_index_or old m nobody).outcome)
      each m = elim (eqb_tells m n) [
        | inl p ↦ inl (ap (λ x. (slice_index_or (undecided_at keys n) x nobody).outcome) p.1 ∙ undecided-here keys n within apart)
        | inr p ↦ elim (s.outcomes m) [
          | inl e ↦ inl (undecided-same keys n within apart m p.1 ∙ e)
          | inr e ↦ inr (undecided-same keys n within apart m p.1 ∙ e)
        ]
      ]

-- ---- the same in a list, whose front has what stays

module _ (r : Record) (texts : List Text) (old : List Entrant) (all : List ℕ) (d : AreDistinct (keys_in old)) (keys : List Entrant) (ns : List ℕ) (left i n : ℕ)
    (s : Sifting r texts old all keys (take left ns) (drop i ns)) (low : left ≤ i) (l : i < length ns) (at : n ≡ get_or ns i n) where
  next : Sifting r texts old all keys (take left ns) (n ∷ drop (i + 1) ns)
  next = subst (Sifting r texts old all keys (take left ns)) (drop_more ns i n l ∙ ap (λ x. x ∷ drop (i + 1) ns) (sym at)) s

  pub next-within : n < length keys
  next-within = within r texts old all d keys (take left ns) n (drop (i + 1) ns) next

  pub next-due : is_due (stage r (ask_of (rows_of keys)) (key_named keys n)) ≡ true → Sifting r texts old all keys (take (left + 1) (slice_set ns left n)) (drop (i + 1) (slice_set ns left n))
  next-due due =
      subst (λ xs. Sifting r texts old all keys xs (drop (i + 1) (slice_set ns left n))) (sym (take_more_set ns left n (omega arith)))
      (subst (Sifting r texts old all keys (take left ns ++ n ∷ [])) (sym (drop-set-lt (i + 1) ns left n (omega arith)))
      (look-due r texts old all d keys (take left ns) n (drop (i + 1) ns) next due))

  pub next-undue : is_due (stage r (ask_of (rows_of keys)) (key_named keys n)) ≡ false → Sifting r texts old all (undecided_at keys n) (take left ns) (drop (i + 1) ns)
  next-undue undue = look-undue r texts old all d keys (take left ns) n (drop (i + 1) ns) next undue

-- ---- limits of the keys that have outcomes

limits-append : (ask : Ask) (xs ys : List (Key × Why)) → limits_left ask (xs ++ ys) ≡ limits_left ask xs ++ limits_left ask ys
limits-append ask [] ys = refl
limits-append ask (p ∷ ps) ys = go (is_some (ask p.0)) (limits-append ask ps ys)
  where
    go : (b : Bool) → limits_left ask (ps ++ ys) ≡ limits_left ask ps ++ limits_left ask ys
        → (if b then p ∷ limits_left ask (ps ++ ys) else limits_left ask (ps ++ ys)) ≡ (if b then p ∷ limits_left ask ps else limits_left ask ps) ++ limits_left ask ys
    go true i = ap (λ z. p ∷ z) i
    go false i = i

module _ (ask : Ask) (old keys : List Entrant) (names : (n : ℕ) → key_named keys n ≡ key_named old n)
    (outcomes : (n : ℕ) → ((slice_index_or keys n nobody).outcome ≡ None) ⊎ ((slice_index_or keys n nobody).outcome ≡ (slice_index_or old n nobody).outcome)) where
  limit-same : (n : ℕ) → has_outcome keys n ≡ true → limit_of keys n ≡ limit_of old n
  limit-same n t = go (outcomes n)
    where
      go : ((slice_index_or keys n nobody).outcome ≡ None) ⊎ ((slice_index_or keys n nobody).outcome ≡ (slice_index_or old n nobody).outcome) → limit_of keys n ≡ limit_of old n
      go (inl e) = let f : false ≡ true = sym (ap is_some e) ∙ t in cc
      go (inr e) = λ i. (names n i, why_of (e i))

  pub limits-sifted : (ns : List ℕ) → All (λ (n : ℕ). has_outcome keys n ≡ is_some (ask (key_named old n))) ns
      → reverse (map (limit_of keys) (filter (has_outcome keys) ns)) ≡ limits_left ask (reverse (map (limit_of old) ns))
  limits-sifted [] h = refl
  limits-sifted (n ∷ ns) h =
      go (has_outcome keys n) refl (limits-sifted ns (All-tail (λ (n : ℕ). has_outcome keys n ≡ is_some (ask (key_named old n))) n ns h))
      ∙ ap (λ b. limits_left ask (reverse (map (limit_of old) ns)) ++ (if b then limit_of old n ∷ [] else []))
      (All-head (λ (n : ℕ). has_outcome keys n ≡ is_some (ask (key_named old n))) n ns h)
      ∙ sym (limits-append ask (reverse (map (limit_of old) ns)) (limit_of old n ∷ [])) ∙ ap (limits_left ask) (sym (reverse-cons (limit_of old) n ns))
    where
      go : (b : Bool) → has_outcome keys n ≡ b → reverse (map (limit_of keys) (filter (has_outcome keys) ns)) ≡ limits_left ask (reverse (map (limit_of old) ns))
          → reverse (map (limit_of keys) (if b then n ∷ filter (has_outcome keys) ns else filter (has_outcome keys) ns))
          ≡ limits_left ask (reverse (map (limit_of old) ns)) ++ (if b then limit_of old n ∷ [] else [])
      go true t i = reverse-cons (limit_of keys) n (filter (has_outcome keys) ns) ∙ (λ j. i j ++ limit-same n t j ∷ [])
      go false f i = i ∙ sym (append-nil (limits_left ask (reverse (map (limit_of old) ns))))
