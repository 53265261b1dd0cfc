-- How many keys are visited from a root that what is kept decides.
use Rattle.std.specs.Prelude.{◌≡◌, ◌⊎◌, ◌↔◌, ◌+◌, ◌≤◌, ◌<◌, ◌++◌, ℕ, true, false, if◌then◌else◌, List, [], ◌∷◌, length, Some, refl}
use Rattle.std.proofs.Common.{ap, sym, ◌∙◌, subst, inl, inr, arith}
use Rattle.std.proofs.lemmas.List.{length-append}
use Rattle.dh_syntax.specs.declared.locations.Key.{Key}
use Rattle.dh_syntax.specs.Limits.{most_keys}
use Rattle.dh_syntax.specs.Imports.Keys.{key_eq}
use Rattle.dh_imports.specs.Machine.{IsAmong}
use Rattle.dh_imports.specs.Outcomes.{Outcome, Loop}
use Rattle.dh_imports.specs.Records.{Record, limit_at}
use Rattle.dh_imports.specs.Resolver.{is_in, least_back_to, resolve}
use Rattle.dh_imports.specs.Walk.{Ask}
use Rattle.dh_laws.proofs.KeyOrder.{bool-case, none-some, key_eq-true}
use Rattle.dh_import_laws.proofs.Calm.{at-other}
use Rattle.dh_import_laws.proofs.Grow.{Longer, longer-itself}
use Rattle.dh_import_laws.proofs.Walks.{Knows}
use Rattle.dh_import_laws.proofs.Wants.{among_left, among_right}
use Rattle.dh_watch_laws.specs.Asking.{Asked, decided, loops, kept}
use Rattle.dh_watch_laws.specs.Counting.{AreVisited}
use Rattle.dh_watch_laws.specs.Depending.{From}
use Rattle.dh_watch_laws.specs.Kept.{Outcomes, known, Kept, IsSound}
use Rattle.dh_watch_laws.specs.Overflowing.{Continues}
use Rattle.dh_watch_laws.specs.Running.{keys_of_outcomes}
use Rattle.dh_watch_laws.specs.Visiting.{AreThese, IsClosed, looped}
use Rattle.dh_watch_laws.specs.VisitCounts.{ClosesLoop, Settles, has, comes_to_loop, Counts, CountsOverflow, OneCounts, CountsAreKept, CountsAreAsked}
use Rattle.dh_watch_laws.proofs.Holding.{found-grown, kept_are_resolved}
use Rattle.dh_watch_laws.proofs.Looping.{visits_loop, closed, in-loop}
use Rattle.dh_watch_laws.proofs.Many.{keys-length, keys-no-longer}
use Rattle.dh_watch_laws.proofs.Needing.{in-of, of-in}
use Rattle.dh_watch_laws.proofs.Overflowing.{knows-more}
use Rattle.dh_watch_laws.proofs.Running.{chain-longer, from-longer, runs_close, runs_decide}
use Rattle.dh_watch_laws.proofs.Visiting.{found-closed, from-less, from-more, from-settled, visits_kept}

-- ---- outcomes that decide a root

-- these outcomes are the resolver's, and decide the root
pub record Settled (r : Record) (ask : Ask) (root : Key) : Type 0 where
  pub closed_by : IsClosed r ask
  pub units : ℕ
  pub these : AreThese r ask units
  pub outcome : Outcome
  pub decides : ask root ≡ Some outcome

-- the root is on its chain
pub root-among : (s : Kept) (root : Key) (xs : List Key) (j : Key) → ClosesLoop s root xs j → IsAmong root xs
root-among s root xs j c = subst (λ z. IsAmong root z) (sym c.root_is) (among_right root c.later (root ∷ []) (inl refl))

-- over the record, or a longer one with the same limits
settled : (s : Kept) (root : Key) (r : Record) → Longer s.recorded r → IsSound s
    → ((k : Key) (o : Outcome) → known s.outcomes k ≡ Some o → limit_at s.recorded k ≡ limit_at r k) → (ask : Ask) → Settles s root ask → Settled r ask root
settled s root r g h l ask (has o e) =
    let f = found-grown s.recorded r g h.found l in
    let v = visits_kept r s.outcomes root o f e in
    record { closed_by = found-closed r f; units = v.units; these = v.these; outcome = o; decides = e }
settled s root r g h l ask (comes_to_loop xs j c) =
    let f = found-grown s.recorded r g h.found l in
    let d = chain-longer s.recorded r g (known s.outcomes) c.next xs c.chain in
    let t = in-of root xs (root-among s root xs j c) in
    let v = visits_loop r s.outcomes c.next xs root f d c.closes t in
    subst (λ i. Settled r (looped xs i (known s.outcomes)) root) (sym c.is_least) (record {
      closed_by = closed r s.outcomes c.next xs f d c.closes;
      units = v.units;
      these = v.these;
      outcome = Loop (least_back_to c.next xs);
      decides = in-loop r s.outcomes c.next xs f d c.closes root t;
    })

pub settled-here : (s : Kept) (root : Key) → IsSound s → (ask : Ask) → Settles s root ask → Settled s.recorded ask root
settled-here s root h ask d = settled s root s.recorded (longer-itself s.recorded) h (λ k o e. refl) ask d

-- ---- what is visited by them

-- it is what is visited by all that know more
visited-more : (r : Record) (ask more : Ask) (root : Key) → Settled r ask root → Knows ask more → (j : Key) → From r ask root j ↔ From r more root j
visited-more r ask more root d h j =
    (λ f. from-more r ask d.closed_by more h f (d.outcome, d.decides), λ f. from-less r ask d.closed_by more h f (d.outcome, d.decides))

-- so it is what the resolver visits, with so much to spend or more
visited-resolved : (r : Record) (ask : Ask) (root : Key) (d : Settled r ask root) (extra : ℕ) (j : Key) → From r ask root j ↔ From r (resolve r (extra + d.units) []) root j
visited-resolved r ask root d extra j = visited-more r ask (resolve r (extra + d.units) []) root d (knows-more r ask extra d.units d.these) j

-- and by two such outcomes the same is visited
visited-both : (r : Record) (a b : Ask) (root : Key) → Settled r a root → Settled r b root → (j : Key) → From r a root j ↔ From r b root j
visited-both r a b root c d j =
    let e : c.units + d.units ≡ d.units + c.units = omega arith in
    let x = visited-resolved r a root c d.units j in
    let y = visited-more r b (resolve r (d.units + c.units) []) root d (subst (λ m. Knows b (resolve r m [])) e (knows-more r b c.units d.units d.these)) j in
    (λ f. y.1 (x.0 f), λ f. x.1 (y.0 f))

same-visited : (r : Record) (a b : Ask) (root : Key) (n : ℕ) → ((j : Key) → From r a root j ↔ From r b root j) → AreVisited r a root n → AreVisited r b root n
same-visited r a b root n h v = record {
  keys = v.keys;
  apart = v.apart;
  members = λ k. (λ m. (h k).0 ((v.members k).0 m), λ f. (v.members k).1 ((h k).1 f));
  count = v.count;
}

no-more-visited : (r : Record) (ask : Ask) (root : Key) (m n : ℕ) → AreVisited r ask root m → AreVisited r ask root n → m ≤ n
no-more-visited r ask root m n a b =
    let less = keys-no-longer a.keys b.keys a.apart (λ k i. (b.members k).1 ((a.members k).0 i)) in
    omega (arith, less, a.count, b.count)

-- ---- the laws

pub counts_overflow : CountsOverflow
counts_overflow now s root n h over c big = record {
  recorded = s.recorded;
  over = over;
  many = λ more k. go more k;
}
  where
    longer : (more : Record) → Continues s.recorded more → Longer s.recorded more
    longer more k = record { texts = k.texts; looks = k.looks }

    by : (more : Record) (k : Continues s.recorded more) (d : Settled more c.ask root) (extra v : ℕ) → AreVisited more (resolve more (extra + d.units) []) root v → most_keys < v
    by more k d extra v a =
        let less = keys-no-longer c.visited.keys a.keys c.visited.apart
        (λ x i. (a.members x).1 ((visited-resolved more c.ask root d extra x).0 (from-longer s.recorded more (longer more k) c.ask ((c.visited.members x).0 i)))) in
        omega (arith, less, c.visited.count, a.count, big)

    go : (more : Record) → Continues s.recorded more → (enough : ℕ) × ((extra v : ℕ) → AreVisited more (resolve more (extra + enough) []) root v → most_keys < v)
    go more k =
        let d = settled s root more (longer more k) h (λ x o e. k.limits x o (kept_are_resolved s h x o e)) c.ask c.settles in
        (d.units, λ extra v a. by more k d extra v a)

-- so many are visited by outcomes that decide the root otherwise
counts-by : (s : Kept) (root : Key) (n : ℕ) → IsSound s → Counts s root n → (ask : Ask) → Settled s.recorded ask root → AreVisited s.recorded ask root n
counts-by s root n h c ask d =
    same-visited s.recorded c.ask ask root n (visited-both s.recorded c.ask ask root (settled-here s root h c.ask c.settles) d) c.visited

pub one_counts : OneCounts
one_counts s root m n h a b =
    let v = counts-by s root m h a b.ask (settled-here s root h b.ask b.settles) in
    let up = no-more-visited s.recorded b.ask root m n v b.visited in
    let down = no-more-visited s.recorded b.ask root n m b.visited v in
    omega (arith, up, down)

-- what is visited has outcomes
visited-known : (r : Record) (ask : Ask) (root : Key) (n : ℕ) (keys : List Key) → Settled r ask root → ((k : Key) (o : Outcome) → ask k ≡ Some o → IsAmong k keys) → AreVisited r ask root n → n ≤ length keys
visited-known r ask root n keys d h v =
    let less = keys-no-longer v.keys keys v.apart (λ k i. let o = from-settled r ask d.closed_by ((v.members k).0 i) (d.outcome, d.decides) in h k o.0 o.1) in
    omega (arith, less, v.count)

known-among : (l : Outcomes) (k : Key) (o : Outcome) → known l k ≡ Some o → IsAmong k (keys_of_outcomes l)
known-among [] k o e = none-some refl e
known-among ((x, p) ∷ l) k o e = go (bool-case (key_eq x k)) (known-among l k o)
  where
    go : (key_eq x k ≡ true) ⊎ (key_eq x k ≡ false) → (known l k ≡ Some o → IsAmong k (keys_of_outcomes l)) → IsAmong k (x ∷ keys_of_outcomes l)
    go (inl t) i = inl (key_eq-true x k t)
    go (inr f) i = inr (i (sym (at-other l x k p f) ∙ e))

pub counts_are_kept : CountsAreKept
counts_are_kept s root n h c = (of_outcome, of_loop)
  where
    of_outcome : (o : Outcome) → known s.outcomes root ≡ Some o → n ≤ length s.outcomes
    of_outcome o e =
        let d = settled-here s root h (known s.outcomes) (has o e) in
        let less = visited-known s.recorded (known s.outcomes) root n (keys_of_outcomes s.outcomes) d (known-among s.outcomes) (counts-by s root n h c (known s.outcomes) d) in
        omega (arith, less, keys-length s.outcomes)

    of_loop : (xs : List Key) (j : Key) → ClosesLoop s root xs j → n ≤ length xs + length s.outcomes
    of_loop xs j k =
        let ask = looped xs j (known s.outcomes) in
        let d = settled-here s root h ask (comes_to_loop xs j k) in
        let less = visited-known s.recorded ask root n (xs ++ keys_of_outcomes s.outcomes) d (λ x o e. on x o e (bool-case (is_in x xs))) (counts-by s root n h c ask d) in
        omega (arith, less, keys-length s.outcomes, length-append xs (keys_of_outcomes s.outcomes))
      where
        on : (x : Key) (o : Outcome) → looped xs j (known s.outcomes) x ≡ Some o → (is_in x xs ≡ true) ⊎ (is_in x xs ≡ false) → IsAmong x (xs ++ keys_of_outcomes s.outcomes)
        on x o e (inl u) = among_left x xs (keys_of_outcomes s.outcomes) (of-in x xs u)
        on x o e (inr u) =
            among_right x xs (keys_of_outcomes s.outcomes) (known-among s.outcomes x o (sym (ap (λ b. if b then Some (Loop j) else known s.outcomes x) u) ∙ e))

-- an ask that is not refused is decided by what is then kept
asked-settles : (old s : Kept) (root : Key) (m : ℕ) → IsSound old → Asked old root s m → (ask : Ask) × Settles s root ask
asked-settles old s root m h (decided run c) = let d = runs_decide old s root h run in (known s.outcomes, has d.0 d.1)
asked-settles old s root m h (loops k y xs run w i c) =
    (looped (k ∷ xs) (least_back_to y (k ∷ xs)) (known s.outcomes), comes_to_loop (k ∷ xs) (least_back_to y (k ∷ xs)) (runs_close old s root k y xs h run w i))
asked-settles old s root m h (kept o e) = (known s.outcomes, has o e)

pub counts_are_asked : CountsAreAsked
counts_are_asked old s root m h a few d extra n v =
    let t = asked-settles old s root m h a in
    let b : Settled s.recorded d.ask root = record { closed_by = d.closed; units = d.visits.units; these = d.visits.these; outcome = d.outcome; decides = d.decided } in
    let c : Settled s.recorded t.0 root = settled-here s root d.sound t.0 t.1 in
    let by_ask = same-visited s.recorded (resolve s.recorded (extra + d.visits.units) []) d.ask root n (λ j. let x = visited-resolved s.recorded d.ask root b extra j in (x.1, x.0)) v in
    let by_kept = same-visited s.recorded d.ask t.0 root n (visited-both s.recorded d.ask t.0 root b c) by_ask in
    few n (record { ask = t.0; settles = t.1; visited = by_kept })
