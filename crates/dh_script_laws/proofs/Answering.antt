-- Asks are answered by what is kept.
use Rattle.std.specs.Prelude.{◌≡◌, ◌⊎◌, ◌++◌, ℕ, List, [], ◌∷◌, Option, Some, None, refl}
use Rattle.std.proofs.Common.{ap, ◌∙◌, inl, inr}
use Rattle.dh_syntax.specs.declared.locations.Key.{Key}
use Rattle.dh_syntax.specs.declared.locations.Loc.{Loc}
use Rattle.dh_imports.specs.declared.outcomes.Origin.{Origin}
use Rattle.dh_imports.specs.declared.outcomes.Origin.TheVariants.{Fetched, Cached, Made}
use Rattle.dh_command.specs.declared.statuses.Status.{Status}
use Rattle.dh_syntax.specs.Expressions.Tree.{Term}
use Rattle.dh_imports.specs.Machine.{IsAmong}
use Rattle.dh_imports.specs.Outcomes.{Outcome, Good, Loop}
use Rattle.dh_imports.specs.Records.{Noted, text_at}
use Rattle.dh_imports.specs.Resolver.{least_back_to, resolve}
use Rattle.dh_imports.specs.Walk.{Ask, Ready, by_outcome}
use Rattle.dh_laws.proofs.KeyOrder.{none-some}
use Rattle.dh_import_laws.proofs.Walks.{Knows}
use Rattle.dh_import_laws.proofs.Grow.{longer-itself}
use Rattle.dh_import_laws.proofs.Wants.{among_left, among_right, among-split}
use Rattle.dh_watch_laws.specs.Counting.{IsAskedText, IsCount}
use Rattle.dh_watch_laws.specs.Kept.{known, Kept, IsSound}
use Rattle.dh_watch_laws.specs.Running.{Adds}
use Rattle.dh_watch_laws.specs.Visiting.{IsClosed, Visits, looped}
use Rattle.dh_watch_laws.specs.Contents.{Now, IsOver}
use Rattle.dh_script_laws.specs.Asks.{RootLine, root_key, root_of, AreLicensed, IsAsked, AsksAreAnswered, LoopsAreAnswered, KeptAreAnswered, RootsAreKeys}
use Rattle.dh_watch_laws.specs.Editing.{Agrees}
use Rattle.dh_watch_laws.proofs.Counting.{due-has, runs_count}
use Rattle.dh_watch_laws.proofs.Holding.{has-grown}
use Rattle.dh_watch_laws.proofs.Running.{runs_add, runs_decide, runs_loop, loops_close}
use Rattle.dh_watch_laws.proofs.Visiting.{from-settled, found-closed, visits_kept}

-- by these outcomes the root is decided, and so many locations were fetched
record Decides (old s : Kept) (root : Key) (ask : Ask) (n : ℕ) : Type 0 where
  closed : IsClosed s.recorded ask
  more : Knows (known s.outcomes) ask
  outcome : Outcome
  decided : ask root ≡ Some outcome
  visits : Visits s.recorded ask root
  count : IsCount s.recorded ask root old.recorded n

licensed : (s : Kept) → IsSound s → (n : ℕ) → Knows (known s.outcomes) (resolve s.recorded n []) → AreLicensed s.recorded n
licensed s h n more k w e =
    let i = h.limited k w e in
    (i.code, i.allow, has-grown s.recorded s.recorded (longer-itself s.recorded) (known s.outcomes) (resolve s.recorded n []) more k _ i.due, i.licensed)

module _ (now : Now) (asked : List Loc) (old s : Kept) (l : Loc) (line : List ℕ) (st : Status) (n : ℕ) (a : Agrees now asked old) (ask : Ask)
    (d : Decides old s (root_key l) ask n) where
  root : Key
  root = root_key l

  not-asked : (x : Loc) → text_at old.recorded x ≡ None → ¬ IsAmong x asked
  not-asked x e m = let t = (a.asked_are_kept x).0 m in none-some e t.1

  not-kept : (x : Loc) → ¬ IsAmong x asked → text_at old.recorded x ≡ None
  not-kept x f = go (text_at old.recorded x) refl
    where
      go : (t : Option Noted) → text_at old.recorded x ≡ t → text_at old.recorded x ≡ None
      go None e = e
      go (Some t) e = absurd (f ((a.asked_are_kept x).1 (t, e)))

  to_resolver : (x : Loc) → IsAskedText s.recorded ask (root_key l) x → IsAskedText s.recorded (resolve s.recorded d.visits.units []) (root_key l) x
  to_resolver x (j, f, p) = (j, (d.visits.same j).0 f, p)

  of_resolver : (x : Loc) → IsAskedText s.recorded (resolve s.recorded d.visits.units []) (root_key l) x → IsAskedText s.recorded ask (root_key l) x
  of_resolver x (j, f, p) = (j, (d.visits.same j).1 f, p)

  is-asked : IsSound s → IsOver now s.recorded → RootLine s.recorded (root_of l) line st → IsAsked now asked l line st n d.count.locs
  is-asked h over r = record {
    recorded = s.recorded;
    over = over;
    units = d.visits.units;
    decided = (d.outcome, d.visits.these (root_key l) d.outcome d.decided);
    licensed = licensed s h d.visits.units (λ k o e. d.visits.these k o (d.more k o e));
    answers = r;
    once = d.count.once;
    members = λ x. (λ m. let w = (d.count.members x).0 m in (not-asked x w.0, to_resolver x w.1), λ w. (d.count.members x).1 (not-kept x w.0, of_resolver x w.1));
    count = d.count.count;
  }

  -- a text that is asked is recorded
  recorded_text : (x : Loc) → IsAskedText s.recorded ask (root_key l) x → (t : Noted) × (text_at s.recorded x ≡ Some t)
  recorded_text x (j, f, p) = let o = from-settled s.recorded ask d.closed f (d.outcome, d.decided) in due-has s.recorded ask j x p (d.closed j o.0 o.1)

  agrees : (trail : List Key) → Adds old (root_key l) s trail → IsOver now s.recorded → Agrees now (d.count.locs ++ asked) s
  agrees trail adds over = record { sound = adds.sound; over = over; asked_are_kept = λ x. (to x, from x) }
    where
      to : (x : Loc) → IsAmong x (d.count.locs ++ asked) → (t : Noted) × (text_at s.recorded x ≡ Some t)
      to x m = go (among-split x d.count.locs asked m)
        where
          go : IsAmong x d.count.locs ⊎ IsAmong x asked → (t : Noted) × (text_at s.recorded x ≡ Some t)
          go (inl y) = recorded_text x ((d.count.members x).0 y).1
          go (inr y) = let t = (a.asked_are_kept x).0 y in (t.0, adds.texts x t.0 t.1)

      from : (x : Loc) → (t : Noted) × (text_at s.recorded x ≡ Some t) → IsAmong x (d.count.locs ++ asked)
      from x (t, e) = go (text_at old.recorded x) refl
        where
          go : (u : Option Noted) → text_at old.recorded x ≡ u → IsAmong x (d.count.locs ++ asked)
          go (Some u) q = among_right x d.count.locs asked ((a.asked_are_kept x).1 (u, q))
          go None q =
              let v = adds.fetched x t e q in
              among_left x d.count.locs asked ((d.count.members x).1 (q, (v.0, v.2 ask d.more, v.1)))

pub asks_are_answered : AsksAreAnswered
asks_are_answered now asked old s l line st n a run over c r =
    let adds = runs_add old s (root_key l) [] a.sound run in
    let e = runs_decide old s (root_key l) a.sound run in
    let closed = found-closed s.recorded adds.sound.found in
    let d : Decides old s (root_key l) (known s.outcomes) n = record {
      closed = closed;
      more = λ k o q. q;
      outcome = e.0;
      decided = e.1;
      visits = e.3;
      count = runs_count old s (root_key l) [] (known s.outcomes) e.0 n a.sound run closed (λ k o q. q) e.1 c;
    } in
    (d.count.locs, is-asked now asked old s l line st n a (known s.outcomes) d adds.sound over r, agrees now asked old s l line st n a (known s.outcomes) d [] adds over)

pub loops_are_answered : LoopsAreAnswered
loops_are_answered now asked old s l k y xs line st n a run w i over c r =
    let adds = runs_add old s (root_key l) (k ∷ xs) a.sound run in
    let e = runs_loop old s (root_key l) k y xs a.sound run w i in
    let f = loops_close old s (root_key l) k y xs a.sound run w i in
    let j = least_back_to y (k ∷ xs) in
    let ask = looped (k ∷ xs) j (known s.outcomes) in
    let d : Decides old s (root_key l) ask n = record {
      closed = f.0;
      more = f.1;
      outcome = Loop j;
      decided = f.2;
      visits = e.1;
      count = runs_count old s (root_key l) (k ∷ xs) ask (Loop j) n a.sound run f.0 f.1 f.2 c;
    } in
    (d.count.locs, is-asked now asked old s l line st n a ask d adds.sound over r, agrees now asked old s l line st n a ask d (k ∷ xs) adds over)

pub kept_are_answered : KeptAreAnswered
kept_are_answered now asked s l o line st a e r =
    is-asked now asked s s l line st 0 a (known s.outcomes) (record {
      closed = closed;
      more = λ k p q. q;
      outcome = o;
      decided = e;
      visits = visits_kept s.recorded s.outcomes (root_key l) o a.sound.found e;
      count = record { locs = []; once = tt; members = λ x. (λ m. absurd m, λ w. none x w.0 w.1); count = refl };
    }) a.sound a.over r
  where
    closed : IsClosed s.recorded (known s.outcomes)
    closed = found-closed s.recorded a.sound.found

    none : (x : Loc) → text_at s.recorded x ≡ None → IsAskedText s.recorded (known s.outcomes) (root_key l) x → ⊥
    none x n (j, f, p) =
        let d = from-settled s.recorded (known s.outcomes) closed f (o, e) in
        let t = due-has s.recorded (known s.outcomes) j x p (closed j d.0 d.1) in
        none-some n t.1

-- ---- roots

good-root : (k : Key) (v : Term) (o : Origin) → by_outcome None k (Some (Good v o)) ≡ Ready v
good-root k v (Fetched allow) = refl
good-root k v Cached = refl
good-root k v Made = refl

pub roots_are_keys : RootsAreKeys
roots_are_keys r l = (
  λ v o e. (e.0, ap (by_outcome None (root_key l)) e.1 ∙ good-root (root_key l) v o),
  λ b e. (e.0, ap (by_outcome None (root_key l)) e.1),
  λ j e. (e.0, ap (by_outcome None (root_key l)) e.1),
)
