-- Asks are answered, and refused, by what is kept.
use Rattle.std.specs.Prelude.{◌≡◌, ◌⊎◌, ◌↔◌, ◌+◌, ◌≤◌, ◌-◌, ◌++◌, ℕ, true, false, List, [], ◌∷◌, length, Option, Some, None, Result, Ok, Err, IfErr, OnErr, refl}
use Rattle.std.specs.Result.{IsErrAnd}
use Rattle.std.proofs.Common.{ap, sym, subst, inl, inr, arith}
use Rattle.dh_syntax.specs.declared.locations.Key.{Key}
use Rattle.dh_syntax.specs.declared.locations.Loc.{Loc}
use Rattle.dh_syntax.specs.Expressions.SameTree.{loc_eq}
use Rattle.dh_syntax.specs.Limits.{most_keys}
use Rattle.dh_syntax.proofs.SameTree.{locs_tell}
use Rattle.dh_command.specs.declared.statuses.Status.{Status}
use Rattle.dh_imports.specs.Machine.{IsAmong}
use Rattle.dh_imports.specs.Outcomes.{Outcome}
use Rattle.dh_imports.specs.Records.{Noted, text_at}
use Rattle.dh_imports.specs.Resolver.{resolve}
use Rattle.dh_imports.specs.Walk.{Ask}
use Rattle.dh_laws.proofs.KeyOrder.{bool-case, true_false, none-some}
use Rattle.dh_import_laws.proofs.Grow.{longer-itself}
use Rattle.dh_import_laws.proofs.Walks.{Knows}
use Rattle.dh_import_laws.proofs.Wants.{among_left, among_right, among-split}
use Rattle.dh_script_laws.specs.Answering.{AreAmong, IsAnswered, IsAnsweredAs, IsRefused, TooMany, Memory}
use Rattle.dh_script_laws.specs.Asks.{AreLicensed, IsAsked, RootLine, root_key, root_of}
use Rattle.dh_watch.specs.Watchers.{IsStopped, MeetsFew, MeetsMany, in_run, counted}
use Rattle.dh_watch_laws.specs.Asking.{Asked, Decides}
use Rattle.dh_watch_laws.specs.Contents.{Now, IsOver}
use Rattle.dh_watch_laws.specs.Counting.{AreOnce, IsAskedText}
use Rattle.dh_watch_laws.specs.Editing.{locs_of}
use Rattle.dh_watch_laws.specs.Kept.{IsSound, Kept, known}
use Rattle.dh_watch_laws.specs.Overflowing.{Overflows}
use Rattle.dh_watch_laws.specs.Sweeping.{AreOf}
use Rattle.dh_watch_laws.specs.VisitCounts.{AreFew}
use Rattle.dh_watch_laws.specs.Visiting.{IsClosed}
use Rattle.dh_watch_laws.proofs.Asking.{asks_decide}
use Rattle.dh_watch_laws.proofs.Counting.{due-has, found-in, in-found, no-longer}
use Rattle.dh_watch_laws.proofs.Holding.{has-grown}
use Rattle.dh_watch_laws.proofs.Many.{many_are_visited}
use Rattle.dh_watch_laws.proofs.Overflowing.{many_overflow}
use Rattle.dh_watch_laws.proofs.VisitCounts.{counts_are_asked, counts_overflow}
use Rattle.dh_watch_laws.proofs.Visiting.{from-settled}
use Rattle.dh_watch_runs.specs.declared.deciding.Stop.{Stop}
use Rattle.dh_watch_runs.specs.declared.deciding.Stop.TheVariants as stops
use Rattle.dh_watch_runs.specs.Resolving.{AsksFor, HasMany}
use Rattle.dh_watching.specs.declared.watches.Line.{Line}
use Rattle.dh_watching.specs.declared.watches.WatchFault.{WatchFault}
use Rattle.dh_watching.specs.declared.watches.WatchFault.TheVariants as faults
use Rattle.dh_watching.specs.Steps.{AsksOneMore, IsAnswer, IsRefusal, refusal_of}
use Rattle.dh_watch_asks.specs.Stops.{fault_of}

-- ---- locations beside others

among-loc : (l : Loc) (ls : List Loc) → IsAmong l ls ⊎ (¬ IsAmong l ls)
among-loc l [] = inr (λ m. m)
among-loc l (x ∷ xs) = go (bool-case (loc_eq x l)) (among-loc l xs)
  where
    go : (loc_eq x l ≡ true) ⊎ (loc_eq x l ≡ false) → IsAmong l xs ⊎ (¬ IsAmong l xs) → IsAmong l (x ∷ xs) ⊎ (¬ IsAmong l (x ∷ xs))
    go (inl t) i = inl (inl (locs_tell.equal x l t))
    go (inr f) (inl m) = inl (inr m)
    go (inr f) (inr n) = inr no
      where
        no : ¬ IsAmong l (x ∷ xs)
        no (inl p) = true_false (subst (λ z. loc_eq x z ≡ true) p (locs_tell.itself x)) f
        no (inr m) = n m

-- those of a list that are not on another one
record Beside (others xs : List Loc) : Type 0 where
  locs : List Loc
  once : AreOnce locs
  members : (x : Loc) → IsAmong x locs ↔ ((¬ IsAmong x others) × IsAmong x xs)

beside : (others xs : List Loc) → AreOnce xs → Beside others xs
beside others [] o = record { locs = []; once = tt; members = λ x. (λ m. absurd m, λ w. absurd w.1) }
beside others (y ∷ ys) o = go (among-loc y others) (beside others ys o.1)
  where
    skip : IsAmong y others → (b : Beside others ys) (x : Loc) → (¬ IsAmong x others) × IsAmong x (y ∷ ys) → IsAmong x b.locs
    skip m b x (n, inl p) = absurd (n (subst (λ z. IsAmong z others) p m))
    skip m b x (n, inr i) = (b.members x).1 (n, i)

    out : ¬ IsAmong y others → (b : Beside others ys) (x : Loc) → IsAmong x (y ∷ b.locs) → (¬ IsAmong x others) × IsAmong x (y ∷ ys)
    out f b x (inl p) = (subst (λ z. ¬ IsAmong z others) p f, inl p)
    out f b x (inr i) = let w = (b.members x).0 i in (w.0, inr w.1)

    back : (b : Beside others ys) (x : Loc) → (¬ IsAmong x others) × IsAmong x (y ∷ ys) → IsAmong x (y ∷ b.locs)
    back b x (n, inl p) = inl p
    back b x (n, inr i) = inr ((b.members x).1 (n, i))

    go : IsAmong y others ⊎ (¬ IsAmong y others) → Beside others ys → Beside others (y ∷ ys)
    go (inl m) b = record { locs = b.locs; once = b.once; members = λ x. (λ i. let w = (b.members x).0 i in (w.0, inr w.1), skip m b x) }
    go (inr f) b = record { locs = y ∷ b.locs; once = (λ i. o.0 ((b.members y).0 i).1, b.once); members = λ x. (out f b x, back b x) }

-- ---- an ask that is answered

-- a text that is asked is recorded
asked-recorded : (s : Kept) (root : Key) (ask : Ask) → IsClosed s.recorded ask → (o : Outcome) × (ask root ≡ Some o) → (x : Loc) → IsAskedText s.recorded ask root x
    → (t : Noted) × (text_at s.recorded x ≡ Some t)
asked-recorded s root ask closed known-root x (j, f, p) =
    let o = from-settled s.recorded ask closed f known-root in due-has s.recorded ask j x p (closed j o.0 o.1)

licensed : (s : Kept) → IsSound s → (n : ℕ) → Knows (known s.outcomes) (resolve s.recorded n []) → AreLicensed s.recorded n
licensed s h n more k w e =
    let i = h.limited k w e in
    (i.code, i.allow, has-grown s.recorded s.recorded (longer-itself s.recorded) (known s.outcomes) (resolve s.recorded n []) more k _ i.due, i.licensed)

module _ (now : Now) (old s : Kept) (l : Loc) (line : List ℕ) (st : Status) (n : ℕ) (d : Decides old s (root_key l) n) (over : IsOver now s.recorded)
    (r : RootLine s.recorded (root_of l) line st) (few : AreFew s.recorded d.visits.units (root_key l)) (asked : List Loc) (least : AreAmong asked (locs_of old.recorded.texts)) where
  new : Beside asked d.texts
  new = beside asked d.texts d.once

  to_resolver : (x : Loc) → IsAskedText s.recorded d.ask (root_key l) x → IsAskedText s.recorded (resolve s.recorded d.visits.units []) (root_key l) x
  to_resolver x (j, f, p) = (j, (d.visits.same j).0 f, p)

  of_resolver : (x : Loc) → IsAskedText s.recorded (resolve s.recorded d.visits.units []) (root_key l) x → IsAskedText s.recorded d.ask (root_key l) x
  of_resolver x (j, f, p) = (j, (d.visits.same j).1 f, p)

  is-asked : IsAsked now asked l line st (length new.locs) new.locs
  is-asked = record {
    recorded = s.recorded;
    over = over;
    units = d.visits.units;
    decided = (d.outcome, d.visits.these (root_key l) d.outcome d.decided);
    licensed = licensed s d.sound d.visits.units (λ k o e. d.visits.these k o (d.more k o e));
    answers = r;
    once = new.once;
    members = λ x. (
      λ m. let w = (new.members x).0 m in (w.0, to_resolver x ((d.members x).0 w.1)),
      λ w. (new.members x).1 (w.0, (d.members x).1 (of_resolver x w.1)),
    );
    count = refl;
  }

  -- a text that is asked is recorded
  recorded_text : (x : Loc) → IsAskedText s.recorded d.ask (root_key l) x → IsAmong x (locs_of s.recorded.texts)
  recorded_text x m = let t = asked-recorded s (root_key l) d.ask d.closed (d.outcome, d.decided) x m in in-found s.recorded.texts x t.0 t.1

  -- what was kept still is
  still : (x : Loc) → IsAmong x (locs_of old.recorded.texts) → IsAmong x (locs_of s.recorded.texts)
  still x m = let t = found-in old.recorded.texts x m in in-found s.recorded.texts x t.0 (d.kept x t.0 t.1)

  -- what was not kept was not asked
  fetched-new : (x : Loc) → IsAmong x d.count.locs → IsAmong x new.locs
  fetched-new x m =
      let w = (d.count.members x).0 m in
      (new.members x).1 ((λ i. let t = found-in old.recorded.texts x (least x i) in none-some w.0 t.1), (d.members x).1 w.1)

  all-kept : AreAmong (new.locs ++ asked) (locs_of s.recorded.texts)
  all-kept x m = go (among-split x new.locs asked m)
    where
      go : IsAmong x new.locs ⊎ IsAmong x asked → IsAmong x (locs_of s.recorded.texts)
      go (inl i) = recorded_text x ((d.members x).0 ((new.members x).0 i).1)
      go (inr i) = still x (least x i)

  module _ (most : AreAmong (locs_of old.recorded.texts) asked) where
    -- what was not asked was not kept
    new-fetched : (x : Loc) → IsAmong x new.locs → IsAmong x d.count.locs
    new-fetched x m = go (text_at old.recorded x) refl
      where
        w : (¬ IsAmong x asked) × IsAmong x d.texts
        w = (new.members x).0 m

        go : (t : Option Noted) → text_at old.recorded x ≡ t → IsAmong x d.count.locs
        go None e = (d.count.members x).1 (e, (d.members x).0 w.1)
        go (Some t) e = absurd (w.0 (most x (in-found old.recorded.texts x t e)))

    count-is : n ≡ length new.locs
    count-is =
        let up = no-longer d.count.locs new.locs d.count.once new.once fetched-new in
        let down = no-longer new.locs d.count.locs new.once d.count.once new-fetched in
        omega (arith, up, down, d.count.count)

    all-asked : AreAmong (locs_of s.recorded.texts) (new.locs ++ asked)
    all-asked x m = by (found-in s.recorded.texts x m)
      where
        by : (t : Noted) × (text_at s.recorded x ≡ Some t) → IsAmong x (new.locs ++ asked)
        by (t, e) = go (text_at old.recorded x) refl (among-loc x asked)
          where
            go : (u : Option Noted) → text_at old.recorded x ≡ u → IsAmong x asked ⊎ (¬ IsAmong x asked) → IsAmong x (new.locs ++ asked)
            go u q (inl i) = among_right x new.locs asked i
            go (Some u) q (inr f) = absurd (f (most x (in-found old.recorded.texts x u q)))
            go None q (inr f) = among_left x new.locs asked ((new.members x).1 (f, (d.members x).1 (d.only x t e q)))

  is-answered-as : IsAnsweredAs now (locs_of old.recorded.texts) (locs_of s.recorded.texts) asked l line st n
  unfolding is-asked
  is-answered-as = record {
    most = length new.locs;
    new = new.locs;
    is_asked = is-asked;
    few = few;
    fewer = let up = no-longer d.count.locs new.locs d.count.once new.once fetched-new in omega (arith, up, d.count.count);
    kept = all-kept;
    exact = λ most. (count-is most, all-asked most);
  }

is-answered : (now : Now) (old s : Kept) (l : Loc) (line : List ℕ) (st : Status) (n : ℕ) → IsSound old → Asked old (root_key l) s n → IsOver now s.recorded
    → RootLine s.recorded (root_of l) line st → MeetsFew s (root_key l) → IsAnswered now (locs_of old.recorded.texts) (locs_of s.recorded.texts) l line st n
is-answered now old s l line st n h a over r few asked least =
    let d = asks_decide old s (root_key l) n h a in is-answered-as now old s l line st n d over r (counts_are_asked old s (root_key l) n h a few d) asked least

-- ---- an ask that is refused

still-kept : (old s : Kept) → AreOf old.recorded.texts s.recorded.texts → AreAmong (locs_of old.recorded.texts) (locs_of s.recorded.texts)
still-kept old s h x m = let t = found-in old.recorded.texts x m in in-found s.recorded.texts x t.0 (h x t.0 t.1)

-- it met so many keys
run-overflows : (now : Now) (old s : Kept) (root : Key) → IsSound old → IsSound s → IsOver now s.recorded → HasMany most_keys old root s → Overflows now root
run-overflows now old s root h g over m =
    let n = (length m.trail + length s.outcomes) - length old.outcomes in
    let e : n + length old.outcomes ≡ length m.trail + length s.outcomes = omega (arith, m.many) in
    many_overflow now s root n g over (many_are_visited old s root m.trail n h m.run e) (omega (arith, m.many, e))

overflows : (now : Now) (old s : Kept) (root : Key) → IsSound old → IsSound s → IsOver now s.recorded → MeetsMany old root s → Overflows now root
overflows now old s root h g over (in_run m) = run-overflows now old s root h g over m
overflows now old s root h g over (counted n c m) = counts_overflow now s root n g over c m

too-many : (stop : Stop) → refusal_of (fault_of stop) ≡ TooMany → stop ≡ stops.TooMany
too-many stops.Failed e = cc
too-many stops.TooMany e = refl
too-many stops.Memory e = cc

is-refused : (now : Now) (old s : Kept) (l : Loc) (stop : Stop) → IsSound old → IsSound s → IsOver now s.recorded → IsStopped old (root_key l) s stop
    → IsRefused now (locs_of old.recorded.texts) (locs_of s.recorded.texts) l (refusal_of (fault_of stop))
is-refused now old s l stop h g over st = record {
  kept = still-kept old s st.texts;
  many = λ e. overflows now old s (root_key l) h g over (st.many (too-many stop e));
}

lacks-memory : (now : Now) (old s : Kept) (l : Loc) → AreOf old.recorded.texts s.recorded.texts → IsRefused now (locs_of old.recorded.texts) (locs_of s.recorded.texts) l Memory
lacks-memory now old s l h = record { kept = still-kept old s h; many = λ e. let f : Memory ≡ TooMany = e in cc }

-- ---- what is asked for

-- what is new is not kept before, and is kept
module _ (old s : Kept) (locs : List Loc) (once : AreOnce locs) (fresh : (x : Loc) → IsAmong x locs → text_at old.recorded x ≡ None)
    (recorded : (x : Loc) → IsAmong x locs → (t : Noted) × (text_at s.recorded x ≡ Some t)) (a b : ℕ) (most : b ≤ a + length locs + 1) where
  one_more : AsksOneMore (locs_of old.recorded.texts) (locs_of s.recorded.texts) a b
  one_more = record {
    locs = locs;
    once = once;
    fresh = λ x m i. let t = found-in old.recorded.texts x i in none-some (fresh x m) t.1;
    kept = λ x m. let t = recorded x m in in-found s.recorded.texts x t.0 t.1;
    most = most;
  }

pub asks-none : (texts : List (Loc × Noted)) (a : ℕ) → AsksOneMore (locs_of texts) (locs_of texts) a a
asks-none texts a = record { locs = []; once = tt; fresh = λ x m. absurd m; kept = λ x m. absurd m; most = omega arith }

-- an ask that was refused
grown-most : (old s : Kept) (n a b : ℕ) → length s.recorded.texts ≡ n + length old.recorded.texts → AsksFor 1 a old b s → b ≤ a + n + 1
grown-most old s n a b e h = let k : b + length old.recorded.texts ≤ a + length s.recorded.texts + 1 = h in omega (arith, e, k)

pub asks-grown : (old : Kept) (root : Key) (s : Kept) (stop : Stop) (a b : ℕ) → IsStopped old root s stop → AsksFor 1 a old b s
    → AsksOneMore (locs_of old.recorded.texts) (locs_of s.recorded.texts) a b
asks-grown old root s stop a b st h =
    let g = st.grown in one_more old s g.locs g.once g.fresh g.recorded a b (grown-most old s (length g.locs) a b g.count h)

-- an ask that fetched so many, for whose line memory is wanting
pub asks-fetched : (texts : List (Loc × Noted)) (old s : Kept) (l : Loc) (n a b : ℕ) → old.recorded.texts ≡ texts → IsSound old → Asked old (root_key l) s n → b ≤ a + n
    → AsksOneMore (locs_of texts) (locs_of s.recorded.texts) a b
asks-fetched texts old s l n a b same h asked most =
    let d = asks_decide old s (root_key l) n h asked in
    let c = d.count in
    subst (λ z. AsksOneMore (locs_of z) (locs_of s.recorded.texts) a b) same
    (one_more old s c.locs c.once (λ x m. ((c.members x).0 m).0) (λ x m. asked-recorded s (root_key l) d.ask d.closed (d.outcome, d.decided) x ((c.members x).0 m).1) a b
    (let e : n ≡ length c.locs = c.count in omega (arith, e, most)))

-- the count of the same files
pub asks-told : {F : Type 0} (count : F → ℕ) (f g : F) (b n k : ℕ) → g ≡ f → b ≤ count g + n → k ≡ n → b ≤ count f + k
asks-told count f g b n k same h e = let c = ap count same in omega (arith, c, h, e)

pub asks-from : {F : Type 0} (count : F → ℕ) (f g : F) (b n : ℕ) → g ≡ f → b ≤ count g + n → b ≤ count f + n
asks-from count f g b n same h = asks-told count f g b n n same h refl

-- a refusal that is handed on, where the first files and texts are those before the ask
pub asks-handed-on : {X E F : Type 0} (r : Result X E) (count : F → ℕ) (f g : F) (texts texts' : List (Loc × Noted)) (s : Kept) (b : ℕ) → g ≡ f → texts ≡ texts'
    → AsksOneMore (locs_of texts) (locs_of s.recorded.texts) (count g) b → OnErr r (AsksOneMore (locs_of texts') (locs_of s.recorded.texts) (count f) b)
asks-handed-on (Ok x) count f g texts texts' s b same e h = tt
asks-handed-on (Err y) count f g texts texts' s b same e h =
    subst (λ z. AsksOneMore (locs_of z) (locs_of s.recorded.texts) (count f) b) e (subst (λ z. AsksOneMore (locs_of texts) (locs_of s.recorded.texts) (count z) b) same h)

-- ---- over what is told of the contents

-- the texts that are kept are of the contents, where these are told
abbrev pub IsOverTold : Option Now → Kept → Type 0
IsOverTold told s = (now : Now) → told ≡ Some now → IsOver now s.recorded

-- the line of an ask, where the first texts are those that were kept
pub answered : (told : Option Now) (texts : List (Loc × Noted)) (old s : Kept) (l : Loc) (line : Line) (n : ℕ) → old.recorded.texts ≡ texts → IsSound old → Asked old (root_key l) s n
    → IsOverTold told s → RootLine s.recorded (root_of l) line.text line.status → MeetsFew s (root_key l) → line.asked ≡ n → IsAnswer told (locs_of texts) l (locs_of s.recorded.texts) line
answered told texts old s l line n same h a over r few count now t =
    subst (λ m. IsAnswered now (locs_of texts) (locs_of s.recorded.texts) l line.text line.status m) (sym count)
    (subst (λ z. IsAnswered now (locs_of z) (locs_of s.recorded.texts) l line.text line.status n) same (is-answered now old s l line.text line.status n h a (over now t) r few))

-- its resolution has no end
pub refused : (told : Option Now) (old s : Kept) (l : Loc) (stop : Stop) → IsSound old → IsSound s → IsOverTold told s → IsStopped old (root_key l) s stop
    → IsRefusal told (locs_of old.recorded.texts) l (locs_of s.recorded.texts) (fault_of stop)
refused told old s l stop h g over st now t = is-refused now old s l stop h g (over now t) st

-- memory is wanting before it is resolved
pub lacking : (told : Option Now) (s : Kept) (l : Loc) → IsRefusal told (locs_of s.recorded.texts) l (locs_of s.recorded.texts) faults.Memory
lacking told s l now t = lacks-memory now s s l (λ x n e. e)

-- memory is wanting for its line
pub lacking-line : (told : Option Now) (texts : List (Loc × Noted)) (old s : Kept) (l : Loc) (n : ℕ) → old.recorded.texts ≡ texts → IsSound old → Asked old (root_key l) s n
    → IsRefusal told (locs_of texts) l (locs_of s.recorded.texts) faults.Memory
lacking-line told texts old s l n same h a now t =
    subst (λ z. IsRefused now (locs_of z) (locs_of s.recorded.texts) l Memory) same (lacks-memory now old s l (asks_decide old s (root_key l) n h a).kept)

-- a refusal that is handed on, where the first contents and texts are those before the ask
pub handed-on : {X : Type 0} (r : Result X WatchFault) (f : WatchFault) (told told' : Option Now) (texts texts' : List (Loc × Noted)) (s : Kept) (l : Loc) → told ≡ told' → texts ≡ texts'
    → IsErrAnd r (λ y. y ≡ f) → IsRefusal told (locs_of texts) l (locs_of s.recorded.texts) f → IfErr r (IsRefusal told' (locs_of texts') l (locs_of s.recorded.texts))
handed-on (Ok x) f told told' texts texts' s l t e h q = tt
handed-on (Err y) f told told' texts texts' s l t e h q =
    subst (λ z. IsRefusal told' (locs_of texts') l (locs_of s.recorded.texts) z) (sym h)
    (subst (λ z. IsRefusal told' (locs_of z) l (locs_of s.recorded.texts) f) e (subst (λ z. IsRefusal z (locs_of texts) l (locs_of s.recorded.texts) f) t q))
