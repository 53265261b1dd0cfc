-- An ask that is not refused decides its root.
use Rattle.std.specs.Prelude.{◌≡◌, ◌↔◌, false, if◌then◌else◌, List, [], ◌∷◌, Some, None, refl}
use Rattle.std.proofs.Common.{ap, sym, ◌∙◌}
use Rattle.dh_syntax.specs.declared.locations.Key.{Key}
use Rattle.dh_syntax.specs.declared.locations.Loc.{Loc}
use Rattle.dh_imports.specs.Machine.{IsAmong}
use Rattle.dh_imports.specs.Outcomes.{Outcome, Loop}
use Rattle.dh_imports.specs.Records.{Record, Noted, text_at}
use Rattle.dh_imports.specs.Resolver.{is_in, least_back_to}
use Rattle.dh_imports.specs.Walk.{Ask}
use Rattle.dh_laws.proofs.KeyOrder.{none-some}
use Rattle.dh_import_laws.proofs.Wants.{among_left}
use Rattle.dh_watch_laws.specs.Asking.{decided, loops, kept, AsksDecide}
use Rattle.dh_watch_laws.specs.Counting.{IsAskedText}
use Rattle.dh_watch_laws.specs.Kept.{Kept, known}
use Rattle.dh_watch_laws.specs.Running.{Adds, keys_of_outcomes}
use Rattle.dh_watch_laws.specs.Visiting.{IsClosed, looped}
use Rattle.dh_watch_laws.proofs.Counting.{due-has, runs_count}
use Rattle.dh_watch_laws.proofs.Needing.{in-of, of-in}
use Rattle.dh_watch_laws.proofs.Reached.{Reached, reached, reached-loop, TextsOf, texts_of}
use Rattle.dh_watch_laws.proofs.Running.{runs_add, runs_decide, runs_loop, loops_close, root-on-trail}
use Rattle.dh_watch_laws.proofs.Visiting.{from-settled, found-closed, visits_kept}

-- the locations whose texts are asked from the root on
asked-texts : (r : Record) (ask : Ask) (root : Key) (a : Reached r ask root) (t : TextsOf a.keys) (l : Loc) → IsAmong l t.locs ↔ IsAskedText r ask root l
asked-texts r ask root a t l =
    (λ m. let w = (t.members l).0 m in (w.0, (a.members w.0).0 w.1, w.2), λ w. (t.members l).1 (w.0, (a.members w.0).1 w.1, w.2))

-- what a run adds is asked
added-asked : (old s : Kept) (root : Key) (trail : List Key) → Adds old root s trail → (ask : Ask) → ((k : Key) (o : Outcome) → known s.outcomes k ≡ Some o → ask k ≡ Some o)
    → (l : Loc) (t : Noted) → text_at s.recorded l ≡ Some t → text_at old.recorded l ≡ None → IsAskedText s.recorded ask root l
added-asked old s root trail adds ask more l t e n = let v = adds.fetched l t e n in (v.0, v.2 ask more, v.1)

pub asks_decide : AsksDecide
asks_decide old s root n h (decided run c) =
    let adds = runs_add old s root [] h run in
    let e = runs_decide old s root h run in
    let closed = found-closed s.recorded adds.sound.found in
    let a = reached s.recorded adds.sound.found root e.0 e.1 in
    let t = texts_of a.keys in
    record {
      sound = adds.sound;
      kept = adds.texts;
      ask = known s.outcomes;
      closed = closed;
      more = λ k o q. q;
      outcome = e.0;
      decided = e.1;
      visits = e.3;
      count = runs_count old s root [] (known s.outcomes) e.0 n h run closed (λ k o q. q) e.1 c;
      only = added-asked old s root [] adds (known s.outcomes) (λ k o q. q);
      texts = t.locs;
      once = t.once;
      members = asked-texts s.recorded (known s.outcomes) root a t;
    }
asks_decide old s root n h (loops k y xs run w i c) =
    let adds = runs_add old s root (k ∷ xs) h run in
    let e = runs_loop old s root k y xs h run w i in
    let f = loops_close old s root k y xs h run w i in
    let j = least_back_to y (k ∷ xs) in
    let ask = looped (k ∷ xs) j (known s.outcomes) in
    let a = reached-loop s.recorded adds.sound.found ask f.0 f.1 (k ∷ xs) (off (k ∷ xs) j) (on (k ∷ xs) j) root (of-in root (k ∷ xs) (root-on-trail old s root k xs h run))
    (λ x m. adds.visited x (among_left x (k ∷ xs) (keys_of_outcomes adds.found) m) ask f.1) in
    let t = texts_of a.keys in
    record {
      sound = adds.sound;
      kept = adds.texts;
      ask = ask;
      closed = f.0;
      more = f.1;
      outcome = Loop j;
      decided = f.2;
      visits = e.1;
      count = runs_count old s root (k ∷ xs) ask (Loop j) n h run f.0 f.1 f.2 c;
      only = added-asked old s root (k ∷ xs) adds ask f.1;
      texts = t.locs;
      once = t.once;
      members = asked-texts s.recorded ask root a t;
    }
  where
    -- each key of the chain comes to the loop
    on : (ks : List Key) (j : Key) (x : Key) → IsAmong x ks → (o : Outcome) × (looped ks j (known s.outcomes) x ≡ Some o)
    on ks j x m = (Loop j, ap (λ b. if b then Some (Loop j) else known s.outcomes x) (in-of x ks m))

    -- what a key beside the chain comes to is kept
    off : (ks : List Key) (j : Key) (x : Key) (o : Outcome) → looped ks j (known s.outcomes) x ≡ Some o → is_in x ks ≡ false → known s.outcomes x ≡ Some o
    off ks j x o q u = sym (ap (λ b. if b then Some (Loop j) else known s.outcomes x) u) ∙ q
asks_decide old s root n h (kept o e) =
    let closed = found-closed old.recorded h.found in
    let a = reached old.recorded h.found root o e in
    let t = texts_of a.keys in
    record {
      sound = h;
      kept = λ l t q. q;
      ask = known old.outcomes;
      closed = closed;
      more = λ k p q. q;
      outcome = o;
      decided = e;
      visits = visits_kept old.recorded old.outcomes root o h.found e;
      count = record { locs = []; once = tt; members = λ x. (λ m. absurd m, λ w. none closed x w.0 w.1); count = refl };
      only = λ l t q u. none-some u q;
      texts = t.locs;
      once = t.once;
      members = asked-texts old.recorded (known old.outcomes) root a t;
    }
  where
    none : IsClosed old.recorded (known old.outcomes) → (x : Loc) → text_at old.recorded x ≡ None → IsAskedText old.recorded (known old.outcomes) root x → ⊥
    none closed x u (j, f, p) =
        let d = from-settled old.recorded (known old.outcomes) closed f (o, e) in
        let t = due-has old.recorded (known old.outcomes) j x p (closed j d.0 d.1) in
        none-some u t.1
