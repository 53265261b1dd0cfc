-- What a table keeps is what its run keeps.
use Rattle.std.specs.Prelude.{◌≡◌, ◌<◌, ℕ, Bool, true, List, [], ◌∷◌, length, slice_index_or, Option, Some, None, refl}
use Rattle.std.specs.Option.{option_map}
use Rattle.std.proofs.Common.{ap, sym, ◌∙◌, subst}
use Rattle.std.proofs.lemmas.List.Elements.{All-get_or}
use Rattle.dh_syntax.specs.declared.expressions.Expr.{Expr}
use Rattle.dh_syntax.specs.declared.locations.Digest.{Digest}
use Rattle.dh_syntax.specs.declared.locations.Key.{Key}
use Rattle.dh_imports.specs.declared.outcomes.Origin.{Origin}
use Rattle.dh_imports.specs.declared.outcomes.Outcome as program
use Rattle.dh_imports.specs.declared.outcomes.Outcome.TheVariants as variants
use Rattle.dh_syntax.specs.Bytes.Binary.{enc}
use Rattle.dh_syntax.specs.Expressions.Bridge.{term}
use Rattle.dh_syntax.specs.Expressions.Tree.{Term}
use Rattle.dh_imports.specs.Keeps.{Visited, by_root, by_key, asked_by, IsFresh, IsLeastFresh, IsKept, AreKeeps}
use Rattle.dh_syntax.specs.Imports.Keys.{key_le, digest_rank}
use Rattle.dh_imports.specs.Machine.{IsAmong, State, Event, Lawful, after_all, outcome_of}
use Rattle.dh_imports.specs.Outcomes.{Outcome, Good, Bad, Loop, plain, of_blame}
use Rattle.dh_imports.specs.Records.{Record}
use Rattle.dh_imports.specs.Resolver.{resolve}
use Rattle.dh_imports.specs.Walk.{Ask, Ready, walk}
use Rattle.dh_syntax.specs.Names.Alpha.{alpha}
use Rattle.dh_laws.proofs.KeyOrder.{none-some, some-equal, key_le-antisymmetric}
use Rattle.dh_import_laws.proofs.Visits.{visits_are_resolved}
use Rattle.dh_demand.specs.Results.{number_of, ask_of}
use Rattle.dh_demand.proofs.Numbers.{stands}
use Rattle.dh_demand.proofs.Visiting.{Blamed, fault, looped, blamed}
use Rattle.dh_record.specs.Entering.{AreDistinct, keys_in}
use Rattle.dh_record.specs.Keeping.{AreVisited, IsFreshAt, AreLeast, IsEntryAt, AreEntries}
use Rattle.dh_record.specs.Reading.{record_by}
use Rattle.dh_table.specs.Shown.{Shown}
use Rattle.dh_table.specs.States.{IsReplayed, record_of, state_of}
use Rattle.dh_record.specs.Rows.{nobody, key_named, rows_of}
use Rattle.dh_record.proofs.Decided.{number_itself, outcome_stands}
use Rattle.dh_record.proofs.KeptEntries.{good_value}
use Rattle.dh_record.proofs.KeyRanks.{one_place}
use Rattle.dh_record.proofs.LeastFresh.{digests, digest_named}
use Rattle.dh_record.proofs.Reading.{number_names, plan_limits}
use Rattle.dh_record.proofs.SortedNumbers.{among_at}

-- ---- values of outcomes

plain_good : (x : Option program.Outcome) (w : Term) (o : Origin) → option_map plain x ≡ Some (Good w o) → (e : Expr) × (p : Origin) × (x ≡ Some (variants.Good e p)) × (term e ≡ w)
plain_good None w o h = none-some refl h
plain_good (Some (variants.Good e p)) w o h = (e, p, refl, same (some-equal h))
  where
    same : Good (term e) p ≡ Good w o → term e ≡ w
    same q = ap (λ (y : Outcome). elim y [ Good z r ↦ z | Bad b ↦ w | Loop j ↦ w ]) q
plain_good (Some (variants.Bad b)) w o h = go (of_blame b.at b.why) (blamed b.at b.why) h
  where
    go : (y : Outcome) → Blamed (record { at = b.at; why = b.why }) y → Some y ≡ Some (Good w o) → (e : Expr) × (p : Origin) × (Some (variants.Bad b) ≡ Some (variants.Good e p)) × (term e ≡ w)
    go _ fault p = cc
    go _ (looped q) p = cc

-- ---- what is visited, whatever limits are recorded

module _ (r : Record) (ask : Ask) (root : Term) where
  visited_unlimited : {k : Key} → Visited r ask root k → Visited (record r { limits = [] }) ask root k
  visited_unlimited (by_root m) = by_root m
  visited_unlimited {k} (by_key {j = j} w m) = by_key (visited_unlimited w) (subst (λ p. IsAmong k (asked_by ask j p)) (plan_limits r j) m)

  visited_limited : {k : Key} → Visited (record r { limits = [] }) ask root k → Visited r ask root k
  visited_limited (by_root m) = by_root m
  visited_limited {k} (by_key {j = j} w m) = by_key (visited_limited w) (subst (λ p. IsAmong k (asked_by ask j p)) (sym (plan_limits r j)) m)

-- ---- the table against the resolver

-- where the root is ready, the table visits the keys that the resolver visits, with the same outcomes
record Agrees (s : State) (root v : Term) (n : ℕ) : Type 0 where
  ready : walk None (resolve s.recorded n []) root ≡ Ready v
  more : (k : Key) → Visited s.recorded (outcome_of s) root k → Visited s.recorded (resolve s.recorded n []) root k × (outcome_of s k ≡ resolve s.recorded n [] k)
  less : (k : Key) → Visited s.recorded (resolve s.recorded n []) root k → Visited s.recorded (outcome_of s) root k

agrees : (root v : Term) (es : List Event) (s : State) → Lawful root es → after_all root es ≡ s → walk None (outcome_of s) root ≡ Ready v → (n : ℕ) × Agrees s root v n
agrees root v es s h e ready =
    subst (λ (x : State). (n : ℕ) × Agrees x root v n) e
    (let x = visits_are_resolved root es v h (subst (λ (y : State). walk None (outcome_of y) root ≡ Ready v) (sym e) ready) in (x.0, record { ready = x.1; more = x.2; less = x.3 }))

module _ (t : Shown) (distinct : AreDistinct (keys_in t.keys)) (asks : outcome_of (state_of t) ≡ ask_of (rows_of t.keys)) (marks : List Bool) (found : List ℕ) (kept : List (Digest × List ℕ))
    (visits : AreVisited (record_by t.texts t.looks) (term t.root.expr) t.keys marks) (least : AreLeast t.keys t.looks marks (length t.keys) found) (entries : AreEntries t.keys found kept)
    (v : Term) (n : ℕ) (a : Agrees (state_of t) (term t.root.expr) v n) where
  abbrev ask : Ask
  ask = resolve (record_of t) n []

  abbrev root : Term
  root = term t.root.expr

  by_table : (k : Key) → Visited (record_by t.texts t.looks) (ask_of (rows_of t.keys)) root k → Visited (record_of t) (outcome_of (state_of t)) root k
  by_table k w = subst (λ (f : Ask). Visited (record_of t) f root k) (sym asks) (visited_limited (record_of t) (ask_of (rows_of t.keys)) root w)

  by_marks : (k : Key) → Visited (record_of t) (outcome_of (state_of t)) root k → Visited (record_by t.texts t.looks) (ask_of (rows_of t.keys)) root k
  by_marks k w = visited_unlimited (record_of t) (ask_of (rows_of t.keys)) root (subst (λ (f : Ask). Visited (record_of t) f root k) asks w)

  asked_at : (m : ℕ) → m < length t.keys → ask_of (rows_of t.keys) (key_named t.keys m) ≡ option_map plain (slice_index_or t.keys m nobody).outcome
  asked_at m l =
      let s = stands (rows_of t.keys) (key_named t.keys m) m (number_itself t.keys m distinct l) in
      s.asked ∙ ap (option_map plain) (some-equal (sym s.outcome_is ∙ outcome_stands t.keys m l))

  -- a fresh key of a number is fresh
  fresh_of : (m : ℕ) (d : Digest) (f : IsFreshAt t.keys t.looks marks m d) → IsFresh (record_of t) ask root d (key_named t.keys m) (term f.value)
  fresh_of m d f =
      let s = visits.sound m f.marked in
      let x = a.more (key_named t.keys m) (by_table (key_named t.keys m) s.1) in
      record {
        visited = x.0;
        frozen = f.frozen;
        origin = f.origin;
        valued = sym x.1 ∙ (λ i. asks i (key_named t.keys m)) ∙ asked_at m s.0 ∙ ap (option_map plain) f.valued;
        unseen = f.unseen;
      }

  -- a fresh key has a number
  record IsOf (k : Key) (d : Digest) (w : Term) (m : ℕ) : Type 0 where
    inside : m < length t.keys
    named : key_named t.keys m ≡ k
    fresh : IsFreshAt t.keys t.looks marks m d
    value_is : term fresh.value ≡ w

  number_of_fresh : (k : Key) (d : Digest) (w : Term) → IsFresh (record_of t) ask root d k w → (m : ℕ) × IsOf k d w m
  number_of_fresh k d w f =
      let here = a.less k f.visited in
      let m = visits.complete k (by_marks k here) in
      let at = number_names t.keys k m.number m.number_is in
      let same : ask_of (rows_of t.keys) k ≡ Some (Good w f.origin) = sym (λ i. asks i k) ∙ (a.more k here).1 ∙ f.valued in
      let there : option_map plain (slice_index_or t.keys m.number nobody).outcome ≡ Some (Good w f.origin) =
      sym (asked_at m.number at.0) ∙ subst (λ (j : Key). ask_of (rows_of t.keys) j ≡ Some (Good w f.origin)) (sym at.1) same in
      let g = plain_good (slice_index_or t.keys m.number nobody).outcome w f.origin there in (
        m.number,
        record {
          inside = at.0;
          named = at.1;
          fresh = record { marked = m.set; frozen = ap (λ (j : Key). j.digest) at.1 ∙ f.frozen; value = g.0; origin = g.1; valued = g.2; unseen = f.unseen };
          value_is = g.3;
        },
      )

  found_inside : (m : ℕ) → IsAmong m found → m < length t.keys
  found_inside m h = let i = among_at m found h in subst (λ (y : ℕ). y < length t.keys) i.2 (All-get_or (λ (y : ℕ). y < length t.keys) found i.0 0 i.1 least.inside)

  -- one number was found for a digest
  found_once : (m j : ℕ) (d : Digest) → IsAmong m found → IsAmong j found → (key_named t.keys m).digest ≡ Some d → (key_named t.keys j).digest ≡ Some d → m ≡ j
  found_once m j d h k p q =
      one_place (digests t.keys) found m j least.ascends h k
      (digest_named t.keys m (found_inside m h) ∙ ap (λ (x : Option Digest). digest_rank x ∷ []) (p ∙ sym q) ∙ sym (digest_named t.keys j (found_inside j k)))

  found_fresh : (m : ℕ) (d : Digest) → IsAmong m found → (key_named t.keys m).digest ≡ Some d → IsFreshAt t.keys t.looks marks m d
  found_fresh m d h p =
      let i = among_at m found h in
      let f = subst (λ (y : ℕ). (e : Digest) × IsFreshAt t.keys t.looks marks y e) i.2 (All-get_or (λ (y : ℕ). (e : Digest) × IsFreshAt t.keys t.looks marks y e) found i.0 0 i.1 least.fresh) in
      subst (λ (e : Digest). IsFreshAt t.keys t.looks marks m e) (some-equal (sym f.1.frozen ∙ p)) f.1

  least_of : (m : ℕ) (d : Digest) → IsAmong m found → (f : IsFreshAt t.keys t.looks marks m d) → IsLeastFresh (record_of t) ask root d (term f.value)
  least_of m d h f = record {
    key = key_named t.keys m;
    fresh = fresh_of m d f;
    least =
        λ k w g.
        let x = number_of_fresh k d w g in
        let y = least.least x.0 d x.1.inside x.1.fresh in
        subst (λ (j : Key). key_le (key_named t.keys m) j ≡ true) x.1.named (subst (λ (i : ℕ). key_le (key_named t.keys i) (key_named t.keys x.0) ≡ true) (found_once y.0 m d y.1 h y.2 f.frozen) y.3);
  }

  to_kept : (p : Digest × List ℕ) → IsAmong p kept → IsKept (record_of t) ask root p
  to_kept p h =
      let x = (entries.members p).0 h in
      let f = found_fresh x.0 p.0 x.1 x.2.frozen in
      record {
        value = term f.value;
        least = least_of x.0 p.0 x.1 f;
        bytes = x.2.bytes_are ∙ ap (λ (e : Expr). enc (alpha (term e))) (good_value x.2.value f.value x.2.origin f.origin (sym x.2.valued ∙ f.valued));
        small = x.2.small;
      }

  from_kept : (p : Digest × List ℕ) → IsKept (record_of t) ask root p → IsAmong p kept
  from_kept p k =
      let x = number_of_fresh k.least.key p.0 k.value k.least.fresh in
      let y = least.least x.0 p.0 x.1.inside x.1.fresh in
      let f = found_fresh y.0 p.0 y.1 y.2 in
      let below : key_le k.least.key (key_named t.keys y.0) ≡ true = k.least.least (key_named t.keys y.0) (term f.value) (fresh_of y.0 p.0 f) in
      let above : key_le (key_named t.keys y.0) k.least.key ≡ true = subst (λ (j : Key). key_le (key_named t.keys y.0) j ≡ true) x.1.named y.3 in
      let one : key_named t.keys x.0 ≡ key_named t.keys y.0 = x.1.named ∙ key_le-antisymmetric k.least.key (key_named t.keys y.0) below above in
      let same : x.0 ≡ y.0 =
      some-equal (sym (number_itself t.keys x.0 distinct x.1.inside) ∙ ap (number_of (rows_of t.keys)) one ∙ number_itself t.keys y.0 distinct (found_inside y.0 y.1)) in
      (entries.members p).1 (
        y.0,
        y.1,
        subst (λ (i : ℕ). IsEntryAt t.keys i p) same
            (record {
              frozen = x.1.fresh.frozen;
              value = x.1.fresh.value;
              origin = x.1.fresh.origin;
              valued = x.1.fresh.valued;
              bytes_are = k.bytes ∙ ap (λ (e : Term). enc (alpha e)) (sym x.1.value_is);
              small = k.small;
            }),
      )

  are_keeps : AreKeeps (record_of t) ask root kept
  are_keeps = record {
    ready = (n, v, refl, a.ready);
    sorted = entries.sorted;
    members = λ p. (to_kept p, from_kept p);
  }

pub table_keeps : (t : Shown) (marks : List Bool) (found : List ℕ) (kept : List (Digest × List ℕ)) (v : Term) → IsReplayed t → AreDistinct (keys_in t.keys) → outcome_of (state_of t) ≡ ask_of (rows_of t.keys)
    → AreVisited (record_by t.texts t.looks) (term t.root.expr) t.keys marks → AreLeast t.keys t.looks marks (length t.keys) found → AreEntries t.keys found kept
    → walk None (outcome_of (state_of t)) (term t.root.expr) ≡ Ready v → (n : ℕ) × AreKeeps (record_of t) (resolve (record_of t) n []) (term t.root.expr) kept
table_keeps t marks found kept v replays distinct asks visits least entries ready =
    let x = agrees (term t.root.expr) v replays.events (state_of t) replays.lawful replays.state_is ready in
    (x.0, are_keeps t distinct asks marks found kept visits least entries v x.0 x.1)
