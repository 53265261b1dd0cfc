-- How many locations a run fetches.
use Rattle.std.specs.Prelude.{◌≡◌, ◌⊎◌, ◌+◌, ◌≤◌, ◌++◌, suc, Bool, true, false, if◌then◌else◌, List, [], ◌∷◌, length, Option, Some, None, refl}
use Rattle.std.proofs.Common.{ap, sym, ◌∙◌, subst, inl, inr, arith}
use Rattle.std.proofs.lemmas.List.{length-append}
use Rattle.dh_syntax.specs.declared.locations.Digest.{Digest}
use Rattle.dh_syntax.specs.declared.locations.Key.{Key}
use Rattle.dh_syntax.specs.declared.locations.Loc.{Loc}
use Rattle.dh_syntax.specs.declared.locations.Mode.{Mode}
use Rattle.dh_syntax.specs.declared.locations.Mode.TheVariants as modes
use Rattle.dh_imports.specs.declared.outcomes.Why.{Why}
use Rattle.dh_syntax.specs.Expressions.SameTree.{loc_eq}
use Rattle.dh_syntax.proofs.SameTree.{locs_tell}
use Rattle.dh_imports.specs.Machine.{IsAmong}
use Rattle.dh_imports.specs.Records.{lookup, Record, Noted, text_at}
use Rattle.dh_imports.specs.Resolver.{Part, TextOf, LookOf, Unknown, plan_text, plan_fetch, plan_mode, plan_digest, of_plan, stage, unfetched}
use Rattle.dh_imports.specs.Walk.{Ask}
use Rattle.dh_laws.proofs.KeyOrder.{bool-case, true_false, none-some}
use Rattle.dh_import_laws.proofs.Keep.{named-same, named-other}
use Rattle.dh_import_laws.proofs.Grow.{StageTold, stage-told}
use Rattle.dh_watch_laws.specs.Depending.{part_fetched, part_of_mode, part_of_digest, part_of}
use Rattle.dh_watch_laws.specs.Kept.{known, Kept, keep_text}
use Rattle.dh_watch_laws.specs.Sweeping.{is_due}
use Rattle.dh_watch_laws.specs.Running.{Runs, begins, fetches, looks, enters, finishes}
use Rattle.dh_watch_laws.specs.Editing.{locs_of}
use Rattle.dh_watch_laws.specs.Counting.{IsAskedText, AreOnce, RunsCount, OneCount, TextsGrow}
use Rattle.dh_watch_laws.proofs.Forgetting.{plan-unknown}
use Rattle.dh_watch_laws.proofs.Running.{runs_add}
use Rattle.dh_watch_laws.proofs.Visiting.{from-settled}

-- ---- a text that is asked and due is recorded

fetch-lacks : (r : Record) (k : Key) (b : Bool) (w : Option Why) (l : Loc) → part_fetched k.loc w ≡ Some (TextOf l) → text_at r l ≡ None → plan_fetch r k b w ≡ Unknown (TextOf l)
fetch-lacks r k b (Some w) l h e = none-some refl h
fetch-lacks r k b None l h e =
    let s : k.loc ≡ l = part_text h in
    subst (λ z. plan_text k b (text_at r k.loc) ≡ Unknown (TextOf z)) s (ap (plan_text k b) (subst (λ z. text_at r z ≡ None) (sym s) e))
  where
    part_text : {a b : Loc} → Some (TextOf a) ≡ Some (TextOf b) → a ≡ b
    part_text {a = a} p = ap (loc_or a) p
      where
        loc_or : Loc → Option Part → Loc
        loc_or x None = x
        loc_or x (Some (TextOf y)) = y
        loc_or x (Some (LookOf d)) = x

mode-lacks : (r : Record) (k : Key) (m : Mode) (l : Loc) → part_of_mode k.loc m ≡ Some (TextOf l) → text_at r l ≡ None → plan_mode r k m ≡ Unknown (TextOf l)
mode-lacks r k modes.Location l h e = none-some refl h
mode-lacks r k modes.Text l h e = fetch-lacks r k true (unfetched k.loc) l h e
mode-lacks r k modes.Code l h e = fetch-lacks r k false (unfetched k.loc) l h e

some-parts : {P : Type 0} {d : Digest} {l : Loc} → Some (LookOf d) ≡ Some (TextOf l) → P
some-parts h = cc

digest-lacks : (r : Record) (k : Key) (q : Option Digest) (l : Loc) → part_of_digest k q ≡ Some (TextOf l) → text_at r l ≡ None → plan_digest r k q ≡ Unknown (TextOf l)
digest-lacks r k None l h e = mode-lacks r k k.mode l h e
digest-lacks r k (Some d) l h e = some-parts h

pub due-has : (r : Record) (ask : Ask) (k : Key) (l : Loc) → part_of k ≡ Some (TextOf l) → is_due (stage r ask k) ≡ true → (t : Noted) × (text_at r l ≡ Some t)
due-has r ask k l h d = go (text_at r l) refl
  where
    go : (t : Option Noted) → text_at r l ≡ t → (t : Noted) × (text_at r l ≡ Some t)
    go (Some t) e = (t, e)
    go None e = true_false d (ap (λ p. is_due (of_plan ask k p)) (digest-lacks r k k.digest l h e))

-- ---- the texts that a run adds

locs-length : (ps : List (Loc × Noted)) → length (locs_of ps) ≡ length ps
locs-length [] = refl
locs-length (p ∷ ps) = ap suc (locs-length ps)

pub found-in : (ps : List (Loc × Noted)) (l : Loc) → IsAmong l (locs_of ps) → (t : Noted) × (lookup loc_eq ps l ≡ Some t)
found-in [] l m = absurd m
found-in (p ∷ ps) l m = go (bool-case (loc_eq p.0 l)) m (λ n. found-in ps l n)
  where
    go : (loc_eq p.0 l ≡ true) ⊎ (loc_eq p.0 l ≡ false) → IsAmong l (locs_of (p ∷ ps)) → (IsAmong l (locs_of ps) → (t : Noted) × (lookup loc_eq ps l ≡ Some t))
        → (t : Noted) × (lookup loc_eq (p ∷ ps) l ≡ Some t)
    go (inl y) n i = (p.1, named-same locs_tell ps p.0 l p.1 y)
    go (inr f) (inl e) i = true_false (subst (λ z. loc_eq p.0 z ≡ true) e (locs_tell.itself p.0)) f
    go (inr f) (inr n) i = let w = i n in (w.0, named-other locs_tell ps p.0 l p.1 f ∙ w.1)

pub in-found : (ps : List (Loc × Noted)) (l : Loc) (t : Noted) → lookup loc_eq ps l ≡ Some t → IsAmong l (locs_of ps)
in-found [] l t h = none-some refl h
in-found (p ∷ ps) l t h = go (bool-case (loc_eq p.0 l)) (λ q. in-found ps l t q)
  where
    go : (loc_eq p.0 l ≡ true) ⊎ (loc_eq p.0 l ≡ false) → (lookup loc_eq ps l ≡ Some t → IsAmong l (locs_of ps)) → IsAmong l (locs_of (p ∷ ps))
    go (inl y) i = inl (locs_tell.equal p.0 l y)
    go (inr f) i = inr (i (sym (named-other locs_tell ps p.0 l p.1 f) ∙ h))

-- looked up in two lists, one behind the other
lookup-split : (ps qs : List (Loc × Noted)) (l : Loc) → ((t : Noted) × (lookup loc_eq ps l ≡ Some t) × (lookup loc_eq (ps ++ qs) l ≡ Some t)) ⊎ ((lookup loc_eq ps l ≡ None) × (lookup loc_eq (ps ++ qs) l ≡ lookup loc_eq qs l))
lookup-split [] qs l = inr (refl, refl)
lookup-split (p ∷ ps) qs l = go (bool-case (loc_eq p.0 l)) (lookup-split ps qs l)
  where
    go : (loc_eq p.0 l ≡ true) ⊎ (loc_eq p.0 l ≡ false)
        → ((t : Noted) × (lookup loc_eq ps l ≡ Some t) × (lookup loc_eq (ps ++ qs) l ≡ Some t)) ⊎ ((lookup loc_eq ps l ≡ None) × (lookup loc_eq (ps ++ qs) l ≡ lookup loc_eq qs l))
        → ((t : Noted) × (lookup loc_eq (p ∷ ps) l ≡ Some t) × (lookup loc_eq ((p ∷ ps) ++ qs) l ≡ Some t)) ⊎ ((lookup loc_eq (p ∷ ps) l ≡ None) × (lookup loc_eq ((p ∷ ps) ++ qs) l ≡ lookup loc_eq qs l))
    go (inl y) i = inl (p.1, named-same locs_tell ps p.0 l p.1 y, named-same locs_tell (ps ++ qs) p.0 l p.1 y)
    go (inr f) (inl (t, a, b)) = inl (t, named-other locs_tell ps p.0 l p.1 f ∙ a, named-other locs_tell (ps ++ qs) p.0 l p.1 f ∙ b)
    go (inr f) (inr (a, b)) = inr (named-other locs_tell ps p.0 l p.1 f ∙ a, named-other locs_tell (ps ++ qs) p.0 l p.1 f ∙ b)

record Added (old s : Kept) : Type 0 where
  new : List (Loc × Noted)
  texts : s.recorded.texts ≡ new ++ old.recorded.texts
  once : AreOnce (locs_of new)
  fresh : (l : Loc) → IsAmong l (locs_of new) → text_at old.recorded l ≡ None

added : (old : Kept) (root : Key) {s : Kept} {trail : List Key} → Runs old root s trail → Added old s
added old root (begins e) = record { new = []; texts = refl; once = tt; fresh = λ l m. absurd m }
added old root (looks run e seen) = let a = added old root run in record { new = a.new; texts = a.texts; once = a.once; fresh = a.fresh }
added old root (enters run e n) = added old root run
added old root (finishes {s = s} run None o d) = let a = added old root run in record { new = a.new; texts = a.texts; once = a.once; fresh = a.fresh }
added old root (finishes {s = s} run (Some w) o d) = let a = added old root run in record { new = a.new; texts = a.texts; once = a.once; fresh = a.fresh }
added old root (fetches {s = s} {k = k} {xs = xs} {l = l} run e t) = one (added old root run)
  where
    none : text_at s.recorded l ≡ None
    none = (plan-unknown s.recorded k (TextOf l) (subst (StageTold s.recorded (known s.outcomes) k) e (stage-told s.recorded (known s.outcomes) k))).1

    one : Added old s → Added old (keep_text s l t)
    one a = record { new = (l, t) ∷ a.new; texts = ap (λ z. (l, t) ∷ z) a.texts; once = (lacks, a.once); fresh = fresh }
      where
        apart : lookup loc_eq (a.new ++ old.recorded.texts) l ≡ None
        apart = subst (λ z. lookup loc_eq z l ≡ None) a.texts none

        split : (lookup loc_eq a.new l ≡ None) × (lookup loc_eq old.recorded.texts l ≡ None)
        split = go (lookup-split a.new old.recorded.texts l)
          where
            go : ((t : Noted) × (lookup loc_eq a.new l ≡ Some t) × (lookup loc_eq (a.new ++ old.recorded.texts) l ≡ Some t)) ⊎ ((lookup loc_eq a.new l ≡ None) × (lookup loc_eq (a.new ++ old.recorded.texts) l ≡ lookup loc_eq old.recorded.texts l))
                → (lookup loc_eq a.new l ≡ None) × (lookup loc_eq old.recorded.texts l ≡ None)
            go (inl (t', x, y)) = none-some apart y
            go (inr (x, y)) = (x, sym y ∙ apart)

        lacks : ¬ IsAmong l (locs_of a.new)
        lacks m = let w = found-in a.new l m in none-some split.0 w.1

        fresh : (l' : Loc) → IsAmong l' (l ∷ locs_of a.new) → text_at old.recorded l' ≡ None
        fresh l' (inl p) = subst (λ z. text_at old.recorded z ≡ None) p split.1
        fresh l' (inr m) = a.fresh l' m

pub runs_count : RunsCount
runs_count old s root trail ask o n h run closed more e c = record {
  locs = locs_of a.new;
  once = a.once;
  members = λ l. (to l, from l);
  count = omega (arith, c, locs-length a.new, ap (λ z. length z) a.texts, length-append a.new old.recorded.texts);
}
  where
    a : Added old s
    a = added old root run

    behind : (l : Loc) (t : Noted) → IsAmong l (locs_of a.new) → (t : Noted) × (text_at s.recorded l ≡ Some t)
    behind l t m = go (lookup-split a.new old.recorded.texts l)
      where
        go : ((t : Noted) × (lookup loc_eq a.new l ≡ Some t) × (lookup loc_eq (a.new ++ old.recorded.texts) l ≡ Some t)) ⊎ ((lookup loc_eq a.new l ≡ None) × (lookup loc_eq (a.new ++ old.recorded.texts) l ≡ lookup loc_eq old.recorded.texts l))
            → (t : Noted) × (text_at s.recorded l ≡ Some t)
        go (inl (t', x, y)) = (t', subst (λ z. lookup loc_eq z l ≡ Some t') (sym a.texts) y)
        go (inr (x, y)) = none-some x (found-in a.new l m).1

    to : (l : Loc) → IsAmong l (locs_of a.new) → (text_at old.recorded l ≡ None) × IsAskedText s.recorded ask root l
    to l m =
        let b = behind l (found-in a.new l m).0 m in
        let v = (runs_add old s root trail h run).fetched l b.0 b.1 (a.fresh l m) in
        (a.fresh l m, (v.0, v.2 ask more, v.1))

    from : (l : Loc) → (text_at old.recorded l ≡ None) × IsAskedText s.recorded ask root l → IsAmong l (locs_of a.new)
    from l (none, (j, f, p)) =
        let d = from-settled s.recorded ask closed f (o, e) in
        let t = due-has s.recorded ask j l p (closed j d.0 d.1) in
        go t.0 t.1 (lookup-split a.new old.recorded.texts l)
      where
        go : (t : Noted) → text_at s.recorded l ≡ Some t
            → ((t : Noted) × (lookup loc_eq a.new l ≡ Some t) × (lookup loc_eq (a.new ++ old.recorded.texts) l ≡ Some t)) ⊎ ((lookup loc_eq a.new l ≡ None) × (lookup loc_eq (a.new ++ old.recorded.texts) l ≡ lookup loc_eq old.recorded.texts l))
            → IsAmong l (locs_of a.new)
        go t q (inl (t', x, y)) = in-found a.new l t' x
        go t q (inr (x, y)) = none-some (y ∙ none) (subst (λ z. lookup loc_eq z l ≡ Some t) a.texts q)

-- ---- one number

-- a list without this location
without : Loc → List Loc → List Loc
without l [] = []
without l (x ∷ xs) = if loc_eq x l then without l xs else x ∷ without l xs

kept-in : (l x : Loc) (xs : List Loc) → IsAmong x xs → ¬ (l ≡ x) → IsAmong x (without l xs)
unfolding without
kept-in l x [] m n = m
kept-in l x (y ∷ ys) m n = go (bool-case (loc_eq y l)) m (λ q. kept-in l x ys q n)
  where
    go : (loc_eq y l ≡ true) ⊎ (loc_eq y l ≡ false) → IsAmong x (y ∷ ys) → (IsAmong x ys → IsAmong x (without l ys)) → IsAmong x (if loc_eq y l then without l ys else y ∷ without l ys)
    go (inl t) (inl p) i = absurd (n (sym (locs_tell.equal y l t) ∙ p))
    go (inl t) (inr q) i = subst (λ b. IsAmong x (if b then without l ys else y ∷ without l ys)) (sym t) (i q)
    go (inr f) (inl p) i = subst (λ b. IsAmong x (if b then without l ys else y ∷ without l ys)) (sym f) (inl p)
    go (inr f) (inr q) i = subst (λ b. IsAmong x (if b then without l ys else y ∷ without l ys)) (sym f) (inr (i q))

-- what was on the list is on it still
was-in : (l x : Loc) (xs : List Loc) → IsAmong x (without l xs) → IsAmong x xs
unfolding without
was-in l x [] m = m
was-in l x (y ∷ ys) m = go (bool-case (loc_eq y l)) (λ q. was-in l x ys q)
  where
    go : (loc_eq y l ≡ true) ⊎ (loc_eq y l ≡ false) → (IsAmong x (without l ys) → IsAmong x ys) → IsAmong x (y ∷ ys)
    go (inl t) i = inr (i (subst (λ b. IsAmong x (if b then without l ys else y ∷ without l ys)) t m))
    go (inr f) i = by (subst (λ b. IsAmong x (if b then without l ys else y ∷ without l ys)) f m)
      where
        by : IsAmong x (y ∷ without l ys) → IsAmong x (y ∷ ys)
        by (inl p) = inl p
        by (inr q) = inr (i q)

not-in : (l : Loc) (xs : List Loc) → ¬ IsAmong l xs → without l xs ≡ xs
unfolding without
not-in l [] n = refl
not-in l (y ∷ ys) n = go (bool-case (loc_eq y l)) (not-in l ys (λ m. n (inr m)))
  where
    go : (loc_eq y l ≡ true) ⊎ (loc_eq y l ≡ false) → without l ys ≡ ys → (if loc_eq y l then without l ys else y ∷ without l ys) ≡ y ∷ ys
    go (inl t) i = absurd (n (inl (locs_tell.equal y l t)))
    go (inr f) i = ap (λ b. if b then without l ys else y ∷ without l ys) f ∙ ap (λ z. y ∷ z) i

one-fewer : (l : Loc) (xs : List Loc) → AreOnce xs → IsAmong l xs → length xs ≡ length (without l xs) + 1
unfolding without
one-fewer l [] o m = absurd m
one-fewer l (y ∷ ys) o m = go (bool-case (loc_eq y l)) m (λ q. one-fewer l ys o.1 q)
  where
    go : (loc_eq y l ≡ true) ⊎ (loc_eq y l ≡ false) → IsAmong l (y ∷ ys) → (IsAmong l ys → length ys ≡ length (without l ys) + 1)
        → length (y ∷ ys) ≡ length (if loc_eq y l then without l ys else y ∷ without l ys) + 1
    go (inl t) q i =
        let same : y ≡ l = locs_tell.equal y l t in
        let gone : without l ys ≡ ys = not-in l ys (λ m. o.0 (subst (λ z. IsAmong z ys) (sym same) m)) in
        omega (arith, ap (λ b. length (if b then without l ys else y ∷ without l ys)) t, ap (λ z. length z) gone)
    go (inr f) (inl p) i = true_false (subst (λ z. loc_eq y z ≡ true) p (locs_tell.itself y)) f
    go (inr f) (inr q) i = omega (arith, ap (λ b. length (if b then without l ys else y ∷ without l ys)) f, i q)

once-still : (l : Loc) (xs : List Loc) → AreOnce xs → AreOnce (without l xs)
unfolding without
once-still l [] o = o
once-still l (y ∷ ys) o = go (bool-case (loc_eq y l)) (once-still l ys o.1)
  where
    go : (loc_eq y l ≡ true) ⊎ (loc_eq y l ≡ false) → AreOnce (without l ys) → AreOnce (if loc_eq y l then without l ys else y ∷ without l ys)
    go (inl t) i = subst (λ b. AreOnce (if b then without l ys else y ∷ without l ys)) (sym t) i
    go (inr f) i = subst (λ b. AreOnce (if b then without l ys else y ∷ without l ys)) (sym f) ((λ m. o.0 (was-in l y ys m)), i)

-- a list of different elements of another one is not longer
pub no-longer : (xs ys : List Loc) → AreOnce xs → AreOnce ys → ((l : Loc) → IsAmong l xs → IsAmong l ys) → length xs ≤ length ys
no-longer [] ys o q f = omega arith
no-longer (x ∷ xs) ys o q f =
    let less = no-longer xs (without x ys) o.1 (once-still x ys q) (λ l m. kept-in x l ys (f l (inr m)) (λ e. o.0 (subst (λ z. IsAmong z xs) (sym e) m))) in
    omega (arith, less, one-fewer x ys q (f x (inl refl)))

pub one_count : OneCount
one_count r ask root kept m n a b =
    let up = no-longer a.locs b.locs a.once b.once (λ l i. (b.members l).1 ((a.members l).0 i)) in
    let down = no-longer b.locs a.locs b.once a.once (λ l i. (a.members l).1 ((b.members l).0 i)) in
    omega (arith, up, down, a.count, b.count)

pub texts_grow : TextsGrow
texts_grow old s root trail run = let a = added old root run in (a.new, a.texts)
