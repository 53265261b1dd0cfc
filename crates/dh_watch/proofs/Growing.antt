-- The texts that a run adds to what was kept, and how many were asked for.
use Rattle.std.specs.Prelude.{◌≡◌, ◌⊎◌, ◌+◌, ◌≤◌, ℕ, suc, true, false, List, [], ◌∷◌, length, Option, Some, None, refl}
use Rattle.std.proofs.Common.{sym, ◌∙◌, subst, inl, inr, arith}
use Rattle.dh_syntax.specs.declared.locations.Key.{Key}
use Rattle.dh_syntax.specs.declared.locations.Loc.{Loc}
use Rattle.dh_syntax.specs.Expressions.SameTree.{loc_eq}
use Rattle.dh_syntax.proofs.SameTree.{locs_tell}
use Rattle.dh_imports.specs.Machine.{IsAmong}
use Rattle.dh_imports.specs.Records.{Noted, text_at}
use Rattle.dh_laws.proofs.KeyOrder.{bool-case, true_false, none-some}
use Rattle.dh_import_laws.proofs.Keep.{named-same, named-other}
use Rattle.dh_watch_laws.specs.Asking.{Asked, decided, loops, kept}
use Rattle.dh_watch_laws.specs.Kept.{IsSound, Kept, keep_text}
use Rattle.dh_watch_laws.specs.Running.{Runs, begins, fetches, looks, enters, finishes}
use Rattle.dh_watch_laws.specs.Sweeping.{AreOf}
use Rattle.dh_watch_laws.proofs.Running.{runs_add}
use Rattle.dh_watch_runs.specs.Resolving.{AsksFor}
use Rattle.dh_watch.specs.Watchers.{HasGrown}
use Rattle.dh_watch.proofs.SourceSteps.{lacks-text}

-- ---- what is recorded

pub grown-none : (old s : Kept) → s ≡ old → HasGrown old s
grown-none old s e = subst (HasGrown old) (sym e) (record { locs = []; once = tt; fresh = λ l m. absurd m; recorded = λ l m. absurd m; count = omega arith })

one-longer : (a b c : ℕ) → a ≡ b + c → suc a ≡ suc b + c
one-longer a b c e = omega (arith, e)

-- one text more
grown-text : (old s : Kept) (l : Loc) (t : Noted) → AreOf old.recorded.texts s.recorded.texts → text_at s.recorded l ≡ None → HasGrown old s → HasGrown old (keep_text s l t)
grown-text old s l t still none g = record {
  locs = l ∷ g.locs;
  once = (lacks, g.once);
  fresh = fresh;
  recorded = each;
  count = one-longer (length s.recorded.texts) (length g.locs) (length old.recorded.texts) g.count;
}
  where
    lacks : ¬ IsAmong l g.locs
    lacks m = let w = g.recorded l m in none-some none w.1

    unkept : text_at old.recorded l ≡ None
    unkept = go (text_at old.recorded l) refl
      where
        go : (u : Option Noted) → text_at old.recorded l ≡ u → text_at old.recorded l ≡ None
        go None e = e
        go (Some u) e = none-some none (still l u e)

    fresh : (x : Loc) → IsAmong x (l ∷ g.locs) → text_at old.recorded x ≡ None
    fresh x (inl p) = subst (λ z. text_at old.recorded z ≡ None) p unkept
    fresh x (inr m) = g.fresh x m

    each : (x : Loc) → IsAmong x (l ∷ g.locs) → (u : Noted) × (text_at (keep_text s l t).recorded x ≡ Some u)
    each x m = go (bool-case (loc_eq l x)) m
      where
        go : (loc_eq l x ≡ true) ⊎ (loc_eq l x ≡ false) → IsAmong x (l ∷ g.locs) → (u : Noted) × (text_at (keep_text s l t).recorded x ≡ Some u)
        go (inl y) i = (t, named-same locs_tell s.recorded.texts l x t y)
        go (inr n) (inl p) = true_false (subst (λ z. loc_eq l z ≡ true) p (locs_tell.itself l)) n
        go (inr n) (inr i) = let w = g.recorded x i in (w.0, named-other locs_tell s.recorded.texts l x t n ∙ w.1)

pub grown-run : (old : Kept) (root : Key) → IsSound old → {s : Kept} {trail : List Key} → Runs old root s trail → HasGrown old s
grown-run old root h (begins e) = grown-none old old refl
grown-run old root h (fetches {s = s} {k = k} {xs = xs} {l = l} run e t) =
    grown-text old s l t (runs_add old s root (k ∷ xs) h run).texts (lacks-text s k l e) (grown-run old root h run)
grown-run old root h (looks run e seen) =
    let g = grown-run old root h run in record { locs = g.locs; once = g.once; fresh = g.fresh; recorded = g.recorded; count = g.count }
grown-run old root h (enters run e n) = grown-run old root h run
grown-run old root h (finishes run None o d) =
    let g = grown-run old root h run in record { locs = g.locs; once = g.once; fresh = g.fresh; recorded = g.recorded; count = g.count }
grown-run old root h (finishes run (Some w) o d) =
    let g = grown-run old root h run in record { locs = g.locs; once = g.once; fresh = g.fresh; recorded = g.recorded; count = g.count }

-- an ask that is not refused
pub grown-asked : (old : Kept) (root : Key) (s : Kept) (n : ℕ) → IsSound old → Asked old root s n → HasGrown old s
grown-asked old root s n h (decided run c) = grown-run old root h run
grown-asked old root s n h (loops x y xs run w i c) = grown-run old root h run
grown-asked old root s n h (kept o e) = grown-none old old refl

-- ---- what is asked for

-- an ask that is not refused asked for no more texts than it fetched
pub asked-most : (old : Kept) (root : Key) (s : Kept) (n a b : ℕ) → Asked old root s n → AsksFor 0 a old b s → b ≤ a + n
asked-most old root s n a b (decided run c) h =
    let d : n + length old.recorded.texts ≡ length s.recorded.texts = c in
    let k : b + length old.recorded.texts ≤ a + length s.recorded.texts + 0 = h in
    omega (arith, d, k)
asked-most old root s n a b (loops x y xs run w i c) h =
    let d : n + length old.recorded.texts ≡ length s.recorded.texts = c in
    let k : b + length old.recorded.texts ≤ a + length s.recorded.texts + 0 = h in
    omega (arith, d, k)
asked-most old root s n a b (kept o e) h = let k : b + length old.recorded.texts ≤ a + length old.recorded.texts + 0 = h in omega (arith, k)

-- nothing was asked for
pub asked-none : (old s : Kept) (a : ℕ) → s ≡ old → AsksFor 1 a old a s
asked-none old s a e = subst (λ z. AsksFor 1 a old a z) (sym e) (omega arith)
