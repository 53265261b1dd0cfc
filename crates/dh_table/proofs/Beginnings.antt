-- A table before its first step.
use Rattle.std.specs.Prelude.{◌≡◌, ◌<◌, ◌≤◌, ◌^◌, ℕ, Bool, true, false, if◌then◌else◌, List, [], ◌∷◌, length, map, reverse, All, Option, None, nat_lt, refl}
use Rattle.std.specs.Option.{option_map}
use Rattle.std.proofs.Common.{ap, sym, ◌∙◌, subst, arith, append-nil, lt-ltb, le-ltb}
use Rattle.std.proofs.lemmas.List.{length-map}
use Rattle.std.proofs.lemmas.List.Elements.{All-nil, All-cons, All-head, All-tail, All-weaker}
use Rattle.dh_syntax.specs.declared.locations.Key.{Key}
use Rattle.dh_syntax.specs.declared.locations.Loc.{Loc}
use Rattle.dh_syntax.specs.Expressions.Bridge.{term}
use Rattle.dh_syntax.specs.Expressions.Tree.{Term}
use Rattle.dh_syntax.specs.Imports.Keys.{key_eq}
use Rattle.dh_imports.specs.Machine.{opening}
use Rattle.dh_imports.specs.Outcomes.{plain}
use Rattle.dh_imports.specs.Replay.{keys, distinct, with_bare}
use Rattle.dh_imports.specs.Resolver.{is_in}
use Rattle.dh_imports.specs.Walk.{keys_of}
use Rattle.dh_syntax.specs.Limits.{most_keys}
use Rattle.dh_demand.specs.declared.scans.Edge.{Edge}
use Rattle.dh_demand.specs.declared.scans.Scan.{Scan}
use Rattle.dh_demand.specs.Results.{Row, ask_of}
use Rattle.dh_demand.specs.Scans.{Begins, AreInside, Fits}
use Rattle.dh_demand.proofs.Numbers.{within}
use Rattle.dh_record.specs.declared.rows.recorded.Entrant.{Entrant}
use Rattle.dh_record.specs.Entering.{AreDistinct, key_of_entrant, keys_in, entered_all, IsListed, IsNew, AreMore, AreEdges}
use Rattle.dh_record.specs.Reading.{IsRead}
use Rattle.dh_table.specs.Shown.{Shown}
use Rattle.dh_record.specs.Rows.{rows_of, text_of, look_of, limit_of, outcome_of_number}
use Rattle.dh_table.specs.States.{state_of, flight_of, task_of, step_by, IsReplayed}
use Rattle.dh_record.specs.Brought.{news_of}
use Rattle.dh_table.specs.Tables.{IsKnown, IsOwned, keys_named}
use Rattle.dh_record.proofs.Distinct.{in_entered_all, distinct_entered, as_many}

edges_inside : (parent : Option Loc) (rows : List Row) (ks : List Key) (es : List Edge) → AreEdges parent rows ks es → AreInside rows es
edges_inside parent rows [] [] h = All-nil (λ (e : Edge). e.key < length rows)
edges_inside parent rows [] (e ∷ es) h = absurd h
edges_inside parent rows (k ∷ ks) [] h = absurd h
edges_inside parent rows (k ∷ ks) (e ∷ es) h = All-cons (λ (d : Edge). d.key < length rows) e es (within rows k e.key (h.0).numbered) (edges_inside parent rows ks es h.1)

edges_begin : (parent : Option Loc) (rows : List Row) (ks : List Key) (es : List Edge) → AreEdges parent rows ks es → Begins parent rows ks es
edges_begin parent rows [] es h = tt
edges_begin parent rows (k ∷ ks) [] h = absurd h
edges_begin parent rows (k ∷ ks) (e ∷ es) h = (h.0, edges_begin parent rows ks es h.1)

-- the edges of all imports of a text fit it
pub edges_fit : (parent : Option Loc) (rows : List Row) (e : Term) (es : List Edge) → AreEdges parent rows (keys_of parent e) es → Fits parent rows e es
edges_fit parent rows e es h = record { inside = edges_inside parent rows (keys_of parent e) es h; begins = edges_begin parent rows (keys_of parent e) es h }

-- new keys have no outcome
pub new_asks : (es : List Entrant) (k : Key) → All IsNew es → ask_of (rows_of es) k ≡ None
new_asks [] k h = refl
new_asks (e ∷ es) k h = go (key_eq e.key k) (new_asks es k (All-tail IsNew e es h))
  where
    go : (b : Bool) → ask_of (rows_of es) k ≡ None → (if b then option_map plain e.outcome else ask_of (rows_of es) k) ≡ None
    go true p = ap (option_map plain) (All-head IsNew e es h).undecided
    go false p = p

module _ (root : Scan) (es : List Entrant) (m : AreMore [] (entered_all [] (keys_of None (term root.expr))) es) where
  all_more : (P : Entrant → Type 0) → All P m.more → All P es
  all_more P h = subst (λ xs. All P xs) (sym m.new_is) h

  pub all_new : All IsNew es
  all_new = all_more IsNew m.are_new

  pub all_owned : All IsOwned es
  all_owned = All-weaker IsNew IsOwned (λ e n u. n.own_is) es (all_more IsNew m.are_new)

  opened_distinct : AreDistinct (keys_in es)
  opened_distinct = subst AreDistinct (sym m.keys_are) (distinct_entered [] (keys_of None (term root.expr)) tt)

  opened_members : (k : Key) → is_in k (keys_in es) ≡ is_in k (keys_named root [])
  opened_members k =
      ap (is_in k) m.keys_are ∙ in_entered_all k [] (keys_of None (term root.expr))
      ∙ ap (λ ks. is_in k (with_bare ks)) (sym (append-nil (keys_of None (term root.expr))))

  pub opened_known : length es ≤ 2 ^ 32 → AreEdges None (rows_of es) (keys_of None (term root.expr)) root.edges → IsKnown root es []
  opened_known few edges =
      record {
        few = few;
        distinct = opened_distinct;
        members = opened_members;
        listed = all_more (IsListed (rows_of es)) m.listed;
        root_fits = edges_fit None (rows_of es) (term root.expr) root.edges edges;
        read = All-nil (IsRead (rows_of es));
      }

  pub opened_asks : (λ (k : Key). None) ≡ ask_of (rows_of es)
  opened_asks = sym (λ i k. new_asks es k (all_more IsNew m.are_new) i)

  -- as many keys as the root names
  pub opened_count : length es ≡ length (distinct (keys (opening (term root.expr))))
  opened_count = sym (length-map es key_of_entrant) ∙ as_many (keys_in es) (keys (opening (term root.expr))) opened_distinct opened_members

-- so many keys does the root name
pub entered_count : (root : Term) → length (entered_all [] (keys_of None root)) ≡ length (distinct (keys (opening root)))
entered_count root =
    as_many (entered_all [] (keys_of None root)) (keys (opening root)) (distinct_entered [] (keys_of None root) tt)
    (λ k. in_entered_all k [] (keys_of None root) ∙ ap (λ ks. is_in k (with_bare ks)) (sym (append-nil (keys_of None root))))

pub few_enough : (n : ℕ) → n ≤ most_keys → n ≤ 2 ^ 32
few_enough n h = omega arith

pub entered_as : (a : List Entrant) (ks ls : List Key) (es : List Entrant) → a ≡ [] → ks ≡ ls → AreMore a (entered_all (keys_in a) ks) es → AreMore [] (entered_all [] ls) es
entered_as a ks ls es p q m = subst (λ x. AreMore [] (entered_all [] x) es) q (subst (λ x. AreMore x (entered_all (keys_in x) ks) es) p m)

-- a table without a step has nothing recorded, drawn or in flight
pub record IsEmpty (t : Shown) : Type 0 where
  pub texts : t.texts ≡ []
  pub looks : t.looks ≡ []
  pub decided : t.decided ≡ []
  pub limited : t.limited ≡ []
  pub flights : t.flights ≡ []
  pub drawn : t.drawn ≡ []
  pub history : t.history ≡ []
  pub refused : t.refused ≡ []

pub empty_state : (t : Shown) → IsEmpty t → state_of t ≡ opening (term t.root.expr)
empty_state t e = λ i. record {
  root = term t.root.expr;
  recorded = record { texts = reverse (map text_of (e.texts i)); looks = reverse (map look_of (e.looks i)); limits = reverse (map (limit_of t.keys) (e.limited i)) };
  outcomes = reverse (map (outcome_of_number t.keys) (e.decided i));
  flights = reverse (map (flight_of t.keys) (e.flights i));
  drawn = reverse (map (task_of t.keys) (e.drawn i));
}

pub empty_replayed : (t : Shown) → IsEmpty t → IsReplayed t
empty_replayed t e =
    record {
      events = [];
      lawful = tt;
      history_is = sym (ap (map (step_by t.keys)) e.history);
      drawn_is = sym (ap (λ js. reverse (map (task_of t.keys) js)) e.drawn);
      news_is = sym (ap (map news_of) e.refused);
      state_is = sym (empty_state t e);
    }

pub above : (n m : ℕ) → n ≡ m → most_keys < n → nat_lt most_keys m ≡ true
above n m p h = lt-ltb most_keys m (subst (λ x. most_keys < x) p h)

pub not_above : (n m : ℕ) → n ≡ m → n ≤ most_keys → nat_lt most_keys m ≡ false
not_above n m p h = le-ltb most_keys m (subst (λ x. x ≤ most_keys) p h)
