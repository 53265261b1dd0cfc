-- Depth-first runs.
use Rattle.std.specs.Prelude.{◌≡◌, ◌⊎◌, ◌++◌, Bool, true, false, ◌||◌, if◌then◌else◌, List, [], ◌∷◌, Option, Some, None, refl}
use Rattle.std.proofs.Common.{ap, sym, ◌∙◌, subst, inl, inr}
use Rattle.dh_syntax.specs.declared.locations.Digest.{Digest}
use Rattle.dh_syntax.specs.declared.locations.Key.{Key}
use Rattle.dh_syntax.specs.declared.locations.Loc.{Loc}
use Rattle.dh_imports.specs.declared.outcomes.Why.{Why}
use Rattle.dh_syntax.specs.Expressions.SameTree.{loc_eq}
use Rattle.dh_syntax.proofs.SameTree.{locs_tell, digests_tell}
use Rattle.dh_imports.specs.Keeps.{asked_by}
use Rattle.dh_syntax.specs.Imports.Keys.{key_eq}
use Rattle.dh_imports.specs.Machine.{IsAmong, Blocks, with_text, with_look, with_limit}
use Rattle.dh_imports.specs.Outcomes.{Outcome, Loop}
use Rattle.dh_imports.specs.Records.{Record, Noted, Seen, text_at, look_at}
use Rattle.dh_imports.specs.Resolver.{TextOf, Plan, Unknown, Now, Walks, Asks, plan, Lacks, Waits, stage, is_in, least_back_to}
use Rattle.dh_imports.specs.Walk.{Ask}
use Rattle.dh_laws.proofs.KeyOrder.{bool-case, true_false, none-some, key_eq-true, key_eq-itself}
use Rattle.dh_import_laws.proofs.Walks.{Knows}
use Rattle.dh_import_laws.proofs.Grow.{Longer, longer-itself, PlanGrown, plan-grown, OnWait, StageGrown, stage-grown, StageTold, stage-told}
use Rattle.dh_import_laws.proofs.Calm.{at-same, at-other, at-grown}
use Rattle.dh_import_laws.proofs.Keep.{named-other, named-grown, limits_longer}
use Rattle.dh_import_laws.proofs.Wants.{among-split}
use Rattle.dh_watch_laws.specs.Depending.{part_of, From, here, there}
use Rattle.dh_watch_laws.specs.Kept.{Outcomes, known, Kept, IsSound, keep_text, keep_look, keep_outcome, IsLast}
use Rattle.dh_watch_laws.specs.Sweeping.{AreOf}
use Rattle.dh_watch_laws.specs.Visiting.{Chain, ends, waits}
use Rattle.dh_watch_laws.specs.VisitCounts.{RunsClose}
use Rattle.dh_watch_laws.specs.Running.{stage_at, Runs, begins, fetches, looks, enters, finishes, IsVisited, keys_of_outcomes, AreApart, RunsAdd, RunsDecide, RunsLoop, LoopsClose}
use Rattle.dh_watch_laws.proofs.Forgetting.{plan-unknown}
use Rattle.dh_watch_laws.proofs.Holding.{text_kept, look_kept, outcome_kept, kept_are_resolved}
use Rattle.dh_watch_laws.proofs.Looping.{visits_loop, closed, loop-more, in-loop}
use Rattle.dh_watch_laws.proofs.Needing.{asked-needed, in-of, of-in}
use Rattle.dh_watch_laws.proofs.Visiting.{visits_kept}

-- ---- visits over longer records

asked-grown : (more : Ask) (k y : Key) (p q : Plan) → PlanGrown p q → IsAmong y (asked_by more k p) → IsAmong y (asked_by more k q)
asked-grown more k y (Unknown p) q g m = absurd m
asked-grown more k y (Now i) q g m = absurd m
asked-grown more k y (Walks e allow) q g m = subst (λ z. IsAmong y (asked_by more k z)) (sym g) m
asked-grown more k y (Asks j) q g m = subst (λ z. IsAmong y (asked_by more k z)) (sym g) m

pub from-longer : (r r' : Record) → Longer r r' → (more : Ask) {k j : Key} → From r more k j → From r' more k j
from-longer r r' g more here = here
from-longer r r' g more (there {k = k} {y = y} m f) = there (asked-grown more k y (plan r k) (plan r' k) (plan-grown r r' g k) m) (from-longer r r' g more f)

pub from-joined : (r : Record) (more : Ask) {k j i : Key} → From r more k j → From r more j i → From r more k i
from-joined r more here f = f
from-joined r more (there m g) f = there m (from-joined r more g f)

-- ---- trails

abbrev pub last_of : Key → List Key → Key
last_of k [] = k
last_of k (x ∷ xs) = last_of x xs

-- from the last key of a chain its end is visited
chain-from : (r : Record) (ask more : Ask) → Knows ask more → (k : Key) (xs : List Key) → Chain r ask k xs → From r more (last_of k xs) k
chain-from r ask more h k [] c = here
chain-from r ask more h k (x ∷ xs) (waits b c) =
    from-joined r more (chain-from r ask more h x xs c) (there (asked-needed ask more h x (plan r x) k b.1) here)

-- so is each key of it
pub chain-among : (r : Record) (ask more : Ask) → Knows ask more → (k : Key) (xs : List Key) → Chain r ask k xs → (j : Key) → IsAmong j (k ∷ xs) → From r more (last_of k xs) j
chain-among r ask more h k xs c j (inl p) = subst (λ z. From r more (last_of k xs) z) p (chain-from r ask more h k xs c)
chain-among r ask more h k [] c j (inr m) = absurd m
chain-among r ask more h k (x ∷ xs) (waits b c) j (inr m) = chain-among r ask more h x xs c j m

waits-longer : (r r' : Record) → Longer r r' → (ask : Ask) (x y : Key) → Blocks r ask x y → Blocks r' ask x y
waits-longer r r' g ask x y b =
    let n : ask y ≡ None = subst (λ s. StageTold r ask x s) b.1 (stage-told r ask x) in
    let h : StageGrown ask (Waits y) (stage r' ask x) = subst (λ s. StageGrown ask s (stage r' ask x)) b.1 (stage-grown r r' g ask ask (λ k o q. q) x) in
    (b.0, subst (λ a. OnWait y (stage r' ask x) a) n h)

pub chain-longer : (r r' : Record) → Longer r r' → (ask : Ask) (k : Key) (xs : List Key) → Chain r ask k xs → Chain r' ask k xs
chain-longer r r' g ask k [] c = ends
chain-longer r r' g ask k (x ∷ xs) (waits b c) = waits (waits-longer r r' g ask x k b) (chain-longer r r' g ask x xs c)

or-false : (a b : Bool) → a || b ≡ false → (a ≡ false) × (b ≡ false)
or-false true b h = true_false refl h
or-false false b h = (refl, h)

true_in : (k : Key) (ks : List Key) → is_in k (k ∷ ks) ≡ true
true_in k ks = ap (λ b. b || is_in k ks) (key_eq-itself k)

-- a link stays where another key comes to an outcome
link-stays : (r : Record) (l : Outcomes) (z : Key) (o : Outcome) (x y : Key) → known l z ≡ None → Blocks r (known l) x y → key_eq z x ≡ false → key_eq z y ≡ false
    → Blocks r (known ((z, o) ∷ l)) x y
link-stays r l z o x y e b f g =
    let ask' = known ((z, o) ∷ l) in
    let n : known l y ≡ None = subst (λ s. StageTold r (known l) x s) b.1 (stage-told r (known l) x) in
    let h : StageGrown ask' (Waits y) (stage r ask' x) = subst (λ s. StageGrown ask' s (stage r ask' x)) b.1 (stage-grown r r (longer-itself r) (known l) ask' (at-grown l z o e) x) in
    (at-other l z x o f ∙ b.0, subst (λ a. OnWait y (stage r ask' x) a) (at-other l z y o g ∙ n) h)

chain-stays : (r : Record) (l : Outcomes) (z : Key) (o : Outcome) (k : Key) (xs : List Key) → known l z ≡ None → is_in z (k ∷ xs) ≡ false → Chain r (known l) k xs
    → Chain r (known ((z, o) ∷ l)) k xs
chain-stays r l z o k [] e i c = ends
chain-stays r l z o k (x ∷ xs) e i (waits b c) =
    let s = or-false (key_eq k z) (is_in z (x ∷ xs)) i in
    let t = or-false (key_eq x z) (is_in z xs) s.1 in
    waits (link-stays r l z o x k e b (turned x z t.0) (turned k z s.0)) (chain-stays r l z o x xs e s.1 c)
  where
    turned : (a b : Key) → key_eq a b ≡ false → key_eq b a ≡ false
    turned a b h = go (bool-case (key_eq b a))
      where
        go : (key_eq b a ≡ true) ⊎ (key_eq b a ≡ false) → key_eq b a ≡ false
        go (inr f) = f
        go (inl t) = true_false (subst (λ w. key_eq w b ≡ true) (key_eq-true b a t) (key_eq-itself b)) h

-- ---- what stands where a run has come

abbrev Stands : Kept → Key → List Key → Type 0
Stands s root [] = (o : Outcome) × (known s.outcomes root ≡ Some o)
Stands s root (k ∷ xs) = Chain s.recorded (known s.outcomes) k xs × (known s.outcomes k ≡ None) × AreApart (k ∷ xs) × (last_of k xs ≡ root)

record Inv (old : Kept) (root : Key) (s : Kept) (trail : List Key) : Type 0 where
  sound : IsSound s
  texts : AreOf old.recorded.texts s.recorded.texts
  fetched : (l : Loc) (t : Noted) → text_at s.recorded l ≡ Some t → text_at old.recorded l ≡ None → (j : Key) × (part_of j ≡ Some (TextOf l)) × IsVisited s root j
  found : Outcomes
  outcomes : s.outcomes ≡ found ++ old.outcomes
  visited : (j : Key) → IsAmong j (keys_of_outcomes found) → IsVisited s root j
  decided : (j : Key) → IsAmong j (keys_of_outcomes found) → (o : Outcome) × (known s.outcomes j ≡ Some o)
  apart : AreApart (keys_of_outcomes found)
  stands : Stands s root trail

-- what was visited is visited later
visited-later : (s s' : Kept) (root j : Key) → Longer s.recorded s'.recorded → Knows (known s.outcomes) (known s'.outcomes) → IsVisited s root j → IsVisited s' root j
visited-later s s' root j g h v more m = from-longer s.recorded s'.recorded g more (v more (λ k o e. m k o (h k o e)))

-- each key of the trail is visited
trail-visited : (s : Kept) (root : Key) (k : Key) (xs : List Key) → Stands s root (k ∷ xs) → (j : Key) → IsAmong j (k ∷ xs) → IsVisited s root j
trail-visited s root k xs st j m more h =
    subst (λ z. From s.recorded more z j) st.3 (chain-among s.recorded (known s.outcomes) more h k xs st.0 j m)

knows-itself : (l : Outcomes) → Knows (known l) (known l)
knows-itself l k o h = h

module _ (old : Kept) (root : Key) where
  begin : IsSound old → known old.outcomes root ≡ None → Inv old root old (root ∷ [])
  begin h e = record {
    sound = h;
    texts = λ l t q. q;
    fetched = λ l t q n. none-some n q;
    found = [];
    outcomes = refl;
    visited = λ j m. absurd m;
    decided = λ j m. absurd m;
    apart = tt;
    stands = (ends, e, (refl, tt), refl);
  }

  -- the record grew by texts and looks alone
  module _ (s : Kept) (k : Key) (xs : List Key) (i : Inv old root s (k ∷ xs)) (r' : Record) (g : Longer s.recorded r') where
    longer-stands : Stands (record { recorded = r'; outcomes = s.outcomes }) root (k ∷ xs)
    longer-stands = let st = i.stands in (chain-longer s.recorded r' g (known s.outcomes) k xs st.0, st.1, st.2, st.3)

    still-visited : (j : Key) → IsVisited s root j → IsVisited (record { recorded = r'; outcomes = s.outcomes }) root j
    still-visited j v = visited-later s (record { recorded = r'; outcomes = s.outcomes }) root j g (knows-itself s.outcomes) v

  fetch : (s : Kept) (k : Key) (xs : List Key) (l : Loc) (t : Noted) → Inv old root s (k ∷ xs) → stage_at s k ≡ Lacks (TextOf l) → Inv old root (keep_text s l t) (k ∷ xs)
  fetch s k xs l t i e = record {
    sound = text_kept s l t i.sound u.1;
    texts = λ l' t' q. named-grown locs_tell s.recorded.texts l t u.1 l' t' (i.texts l' t' q);
    fetched = λ l' t' q n. which l' t' q n (bool-case (loc_eq l l'));
    found = i.found;
    outcomes = i.outcomes;
    visited = λ j m. still-visited s k xs i (with_text s.recorded l t) longer j (i.visited j m);
    decided = i.decided;
    apart = i.apart;
    stands = longer-stands s k xs i (with_text s.recorded l t) longer;
  }
    where
      u : (part_of k ≡ Some (TextOf l)) × (text_at s.recorded l ≡ None)
      u = plan-unknown s.recorded k (TextOf l) (subst (StageTold s.recorded (known s.outcomes) k) e (stage-told s.recorded (known s.outcomes) k))

      longer : Longer s.recorded (with_text s.recorded l t)
      longer = record { texts = named-grown locs_tell s.recorded.texts l t u.1; looks = λ d look q. q }

      which : (l' : Loc) (t' : Noted) → text_at (with_text s.recorded l t) l' ≡ Some t' → text_at old.recorded l' ≡ None → (loc_eq l l' ≡ true) ⊎ (loc_eq l l' ≡ false)
          → (j : Key) × (part_of j ≡ Some (TextOf l')) × IsVisited (keep_text s l t) root j
      which l' t' q n (inl y) =
          (k, subst (λ z. part_of k ≡ Some (TextOf z)) (locs_tell.equal l l' y) u.0, trail-visited (keep_text s l t) root k xs (longer-stands s k xs i (with_text s.recorded l t) longer) k (inl refl))
      which l' t' q n (inr f) =
          let w = i.fetched l' t' (sym (named-other locs_tell s.recorded.texts l l' t f) ∙ q) n in
          (w.0, w.1, still-visited s k xs i (with_text s.recorded l t) longer w.0 w.2)

  look : (s : Kept) (trail : List Key) (d : Digest) (seen : Seen) → Inv old root s trail → look_at s.recorded d ≡ None → Inv old root (keep_look s d seen) trail
  look s trail d seen i e = record {
    sound = look_kept s d seen i.sound e;
    texts = i.texts;
    fetched = λ l t q n. let w = i.fetched l t q n in (w.0, w.1, still w.0 w.2);
    found = i.found;
    outcomes = i.outcomes;
    visited = λ j m. still j (i.visited j m);
    decided = i.decided;
    apart = i.apart;
    stands = stands trail i.stands;
  }
    where
      longer : Longer s.recorded (with_look s.recorded d seen)
      longer = record { texts = λ l t q. q; looks = named-grown digests_tell s.recorded.looks d seen e }

      still : (j : Key) → IsVisited s root j → IsVisited (keep_look s d seen) root j
      still j v = visited-later s (keep_look s d seen) root j longer (knows-itself s.outcomes) v

      stands : (ks : List Key) → Stands s root ks → Stands (keep_look s d seen) root ks
      stands [] st = st
      stands (k ∷ xs) st = (chain-longer s.recorded (with_look s.recorded d seen) longer (known s.outcomes) k xs st.0, st.1, st.2, st.3)

  enter : (s : Kept) (k y : Key) (xs : List Key) → Inv old root s (k ∷ xs) → stage_at s k ≡ Waits y → is_in y (k ∷ xs) ≡ false → Inv old root s (y ∷ k ∷ xs)
  enter s k y xs i e n = let st = i.stands in record {
    sound = i.sound;
    texts = i.texts;
    fetched = i.fetched;
    found = i.found;
    outcomes = i.outcomes;
    visited = i.visited;
    decided = i.decided;
    apart = i.apart;
    stands = (waits (st.1, e) st.0, subst (StageTold s.recorded (known s.outcomes) k) e (stage-told s.recorded (known s.outcomes) k), (n, st.2), st.3);
  }

  finish : (s : Kept) (k : Key) (xs : List Key) (limit : Option Why) (o : Outcome) → Inv old root s (k ∷ xs) → IsLast s k limit o → Inv old root (keep_outcome s k limit o) xs
  finish s k xs limit o i d = record {
    sound = outcome_kept s k limit o i.sound st.1 d;
    texts = λ l t q. longer.texts l t (i.texts l t q);
    fetched = λ l t q n. let w = i.fetched l t (same_text limit l q) n in (w.0, w.1, still w.0 w.2);
    found = (k, o) ∷ i.found;
    outcomes = ap (λ z. (k, o) ∷ z) i.outcomes;
    visited = λ j m. each j m;
    decided = λ j m. known_later j m;
    apart = (off k (bool-case (is_in k (keys_of_outcomes i.found))), i.apart);
    stands = left xs st.0 st.2 st.3;
  }
    where
      st : Stands s root (k ∷ xs)
      st = i.stands

      longer : Longer s.recorded (with_limit s.recorded k limit)
      longer = limits_longer s.recorded k limit

      grown : Knows (known s.outcomes) (known ((k, o) ∷ s.outcomes))
      grown = at-grown s.outcomes k o st.1

      still : (j : Key) → IsVisited s root j → IsVisited (keep_outcome s k limit o) root j
      still j v = visited-later s (keep_outcome s k limit o) root j longer grown v

      same_text : (w : Option Why) (l : Loc) {t : Option Noted} → text_at (with_limit s.recorded k w) l ≡ t → text_at s.recorded l ≡ t
      same_text None l q = q
      same_text (Some w) l q = q

      each : (j : Key) → IsAmong j (k ∷ keys_of_outcomes i.found) → IsVisited (keep_outcome s k limit o) root j
      each j (inl p) = still j (trail-visited s root k xs st j (inl p))
      each j (inr m) = still j (i.visited j m)

      known_later : (j : Key) → IsAmong j (k ∷ keys_of_outcomes i.found) → (p : Outcome) × (known ((k, o) ∷ s.outcomes) j ≡ Some p)
      known_later j (inl p) = (o, subst (λ z. known ((k, o) ∷ s.outcomes) z ≡ Some o) p (at-same s.outcomes k k o (key_eq-itself k)))
      known_later j (inr m) = let w = i.decided j m in (w.0, grown j w.0 w.1)

      off : (z : Key) → (is_in k (keys_of_outcomes i.found) ≡ true) ⊎ (is_in k (keys_of_outcomes i.found) ≡ false) → is_in k (keys_of_outcomes i.found) ≡ false
      off z (inr f) = f
      off z (inl t) = let w = i.decided k (of-in k (keys_of_outcomes i.found) t) in none-some st.1 w.1

      left : (ys : List Key) → Chain s.recorded (known s.outcomes) k ys → AreApart (k ∷ ys) → last_of k ys ≡ root → Stands (keep_outcome s k limit o) root ys
      left [] c a e = (o, subst (λ z. known ((k, o) ∷ s.outcomes) z ≡ Some o) e (at-same s.outcomes k k o (key_eq-itself k)))
      left (y ∷ ys) (waits b c) a e =
          let x = or-false (key_eq y k) (is_in k ys) a.0 in (
            chain-longer s.recorded (with_limit s.recorded k limit) longer (known ((k, o) ∷ s.outcomes)) y ys (chain-stays s.recorded s.outcomes k o y ys st.1 a.0 c),
            at-other s.outcomes k y o (turned y x.0) ∙ b.0,
            a.1,
            e,
          )
        where
          turned : (y : Key) → key_eq y k ≡ false → key_eq k y ≡ false
          turned y h = go (bool-case (key_eq k y))
            where
              go : (key_eq k y ≡ true) ⊎ (key_eq k y ≡ false) → key_eq k y ≡ false
              go (inr f) = f
              go (inl t) = true_false (subst (λ w. key_eq w k ≡ true) (key_eq-true k y t) (key_eq-itself k)) h

  runs : IsSound old → {s : Kept} {trail : List Key} → Runs old root s trail → Inv old root s trail
  runs h (begins e) = begin h e
  runs h (fetches {s = s} {k = k} {xs = xs} {l = l} run e t) = fetch s k xs l t (runs h run) e
  runs h (looks {s = s} {trail = ks} {d = d} run e seen) = look s ks d seen (runs h run) e
  runs h (enters {s = s} {k = k} {y = y} {xs = xs} run e n) = enter s k y xs (runs h run) e n
  runs h (finishes {s = s} {k = k} {xs = xs} run limit o d) = finish s k xs limit o (runs h run) d

-- ---- the laws

-- keys of a trail have no outcome
chain-unknown : (r : Record) (ask : Ask) (k : Key) (xs : List Key) → Chain r ask k xs → ask k ≡ None → (j : Key) → IsAmong j (k ∷ xs) → ask j ≡ None
chain-unknown r ask k xs c e j (inl p) = subst (λ z. ask z ≡ None) p e
chain-unknown r ask k [] c e j (inr m) = absurd m
chain-unknown r ask k (x ∷ xs) (waits b c) e j (inr m) = chain-unknown r ask x xs c b.0 j m

pub both-apart : (ks js : List Key) → AreApart ks → AreApart js → ((j : Key) → IsAmong j ks → is_in j js ≡ false) → AreApart (ks ++ js)
both-apart [] js a b f = b
both-apart (k ∷ ks) js a b f = (go (bool-case (is_in k (ks ++ js))), both-apart ks js a.1 b (λ j m. f j (inr m)))
  where
    split : IsAmong k ks ⊎ IsAmong k js → is_in k (ks ++ js) ≡ false
    split (inl m) = true_false (in-of k ks m) a.0
    split (inr m) = true_false (in-of k js m) (f k (inl refl))

    go : (is_in k (ks ++ js) ≡ true) ⊎ (is_in k (ks ++ js) ≡ false) → is_in k (ks ++ js) ≡ false
    go (inr e) = e
    go (inl t) = split (among-split k ks js (of-in k (ks ++ js) t))

trail-apart : (s : Kept) (root : Key) (trail : List Key) → Stands s root trail → AreApart trail
trail-apart s root [] st = tt
trail-apart s root (k ∷ xs) st = st.2

trail-unknown : (s : Kept) (root : Key) (trail : List Key) → Stands s root trail → (j : Key) → IsAmong j trail → known s.outcomes j ≡ None
trail-unknown s root [] st j m = absurd m
trail-unknown s root (k ∷ xs) st j m = chain-unknown s.recorded (known s.outcomes) k xs st.0 st.1 j m

trail-is-visited : (s : Kept) (root : Key) (trail : List Key) → Stands s root trail → (j : Key) → IsAmong j trail → IsVisited s root j
trail-is-visited s root [] st j m = absurd m
trail-is-visited s root (k ∷ xs) st j m = trail-visited s root k xs st j m

pub runs_add : RunsAdd
runs_add old s root trail h run = record {
  sound = i.sound;
  texts = i.texts;
  fetched = i.fetched;
  found = i.found;
  outcomes = i.outcomes;
  apart = both-apart trail (keys_of_outcomes i.found) (trail-apart s root trail i.stands) i.apart (λ j m. off j m (bool-case (is_in j (keys_of_outcomes i.found))));
  visited = λ j m. each j (among-split j trail (keys_of_outcomes i.found) m);
}
  where
    i : Inv old root s trail
    i = runs old root h run

    off : (j : Key) → IsAmong j trail → (is_in j (keys_of_outcomes i.found) ≡ true) ⊎ (is_in j (keys_of_outcomes i.found) ≡ false) → is_in j (keys_of_outcomes i.found) ≡ false
    off j m (inr f) = f
    off j m (inl t) = let w = i.decided j (of-in j (keys_of_outcomes i.found) t) in none-some (trail-unknown s root trail i.stands j m) w.1

    each : (j : Key) → IsAmong j trail ⊎ IsAmong j (keys_of_outcomes i.found) → IsVisited s root j
    each j (inl m) = trail-is-visited s root trail i.stands j m
    each j (inr m) = i.visited j m

pub runs_decide : RunsDecide
runs_decide old s root h run =
    let i = runs old root h run in
    let d = i.stands in
    (d.0, d.1, kept_are_resolved s i.sound root d.0 d.1, visits_kept s.recorded s.outcomes root d.0 i.sound.found d.1)

last-in : (k : Key) (xs : List Key) → is_in (last_of k xs) (k ∷ xs) ≡ true
last-in k xs = in-of (last_of k xs) (k ∷ xs) (go k xs)
  where
    go : (k : Key) (xs : List Key) → IsAmong (last_of k xs) (k ∷ xs)
    go k [] = inl refl
    go k (x ∷ xs) = inr (go x xs)

-- the root is on the trail
pub root-on-trail : (old s : Kept) (root k : Key) (xs : List Key) → IsSound old → Runs old root s (k ∷ xs) → is_in root (k ∷ xs) ≡ true
root-on-trail old s root k xs h run =
    let st : Stands s root (k ∷ xs) = (runs old root h run).stands in
    subst (λ z. is_in z (k ∷ xs) ≡ true) st.3 (last-in k xs)

-- the last key of a list ends it
last-ends : (k : Key) (xs : List Key) → (later : List Key) × (k ∷ xs ≡ later ++ last_of k xs ∷ [])
last-ends k [] = ([], refl)
last-ends k (x ∷ xs) = let e = last-ends x xs in (k ∷ e.0, ap (λ z. k ∷ z) e.1)

-- the keys of a run wait for each other, and the latest for one of them
pub runs_close : RunsClose
runs_close old s root k y xs h run e i =
    let st : Stands s root (k ∷ xs) = (runs old root h run).stands in
    let l = last-ends k xs in
    record {
      next = y;
      chain = waits (st.1, e) st.0;
      closes = i;
      apart = st.2;
      later = l.0;
      root_is = l.1 ∙ ap (λ z. l.0 ++ z ∷ []) st.3;
      is_least = refl;
    }

pub runs_loop : RunsLoop
runs_loop old s root k y xs h run e i =
    let v = runs old root h run in
    let st : Stands s root (k ∷ xs) = v.stands in
    let c : Chain s.recorded (known s.outcomes) y (k ∷ xs) = waits (st.1, e) st.0 in
    let at : is_in root (k ∷ xs) ≡ true = subst (λ z. is_in z (k ∷ xs) ≡ true) st.3 (last-in k xs) in
    let w = visits_loop s.recorded s.outcomes y (k ∷ xs) root v.sound.found c i at in
    ((w.units, w.these root (Loop (least_back_to y (k ∷ xs))) (ap (λ b. if b then Some (Loop (least_back_to y (k ∷ xs))) else known s.outcomes root) at)), w)

-- the latest key of a run has no outcome
pub runs-open : (old s : Kept) (root k : Key) (xs : List Key) → IsSound old → Runs old root s (k ∷ xs) → known s.outcomes k ≡ None
runs-open old s root k xs h run = (runs old root h run).stands.1

pub loops_close : LoopsClose
loops_close old s root k y xs h run e i =
    let v = runs old root h run in
    let st : Stands s root (k ∷ xs) = v.stands in
    let c : Chain s.recorded (known s.outcomes) y (k ∷ xs) = waits (st.1, e) st.0 in
    let at : is_in root (k ∷ xs) ≡ true = subst (λ z. is_in z (k ∷ xs) ≡ true) st.3 (last-in k xs) in
    (closed s.recorded s.outcomes y (k ∷ xs) v.sound.found c i, loop-more s.recorded s.outcomes y (k ∷ xs) v.sound.found c i, in-loop s.recorded s.outcomes y (k ∷ xs) v.sound.found c i root at)
