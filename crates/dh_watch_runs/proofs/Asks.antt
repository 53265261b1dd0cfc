-- Asks are answered.
use Rattle.std.specs.Prelude.{◌≡◌, ◌≤◌, ℕ, List, length, is_some, true, Option, Some, None}
use Rattle.std.proofs.Common.{ap, subst, sym, arith, refl}
use Rattle.std.proofs.lemmas.List.{length-append}
use Rattle.dh_syntax.specs.declared.locations.Key.{Key}
use Rattle.dh_imports.specs.Outcomes.{Outcome, Loop}
use Rattle.dh_imports.specs.Resolver.{Resolves}
use Rattle.dh_laws.proofs.KeyOrder.{true_false}
use Rattle.dh_watch_laws.specs.Asking.{Asked, Fetched, decided, loops}
use Rattle.dh_watch_laws.specs.Kept.{Kept, IsSound}
use Rattle.dh_watch_laws.specs.Running.{Runs}
use Rattle.dh_watch_laws.proofs.Counting.{texts_grow}
use Rattle.dh_watch_laws.proofs.Running.{runs_decide, runs_loop}
use Rattle.dh_watch_runs.specs.declared.deciding.End.{End}
use Rattle.dh_watch_runs.specs.declared.deciding.End.TheVariants as ends
use Rattle.dh_watch_runs.specs.Asks.{ComesTo}
use Rattle.dh_watch_runs.specs.Endings.{HasEnded}

-- the run that has ended
ended-run : (old s : Kept) (root : Key) (keys : List Key) (end : End) → HasEnded old root keys s end → (trail : List Key) × Runs old root s trail
ended-run old s root keys ends.Decided h = (_, h)
ended-run old s root keys (ends.Loop n) h = (_, h.1.run)

pub texts-more : (old s : Kept) (root : Key) (keys : List Key) (end : End) → HasEnded old root keys s end → length old.recorded.texts ≤ length s.recorded.texts
texts-more old s root keys end h =
    let r = ended-run old s root keys end h in
    let t = texts_grow old s root r.0 r.1 in
    omega (arith, ap (λ z. length z) t.1, length-append t.0 old.recorded.texts)

pub asked : (old s : Kept) (root : Key) (keys : List Key) (end : End) (n : ℕ) → HasEnded old root keys s end → Fetched old s n → Asked old root s n
asked old s root keys ends.Decided n h c = decided h c
asked old s root keys (ends.Loop m) n h c = loops h.1.latest h.1.next h.1.trail h.1.run h.1.waits h.1.closes c

pub comes : (old s : Kept) (root : Key) (keys : List Key) (end : End) → IsSound old → HasEnded old root keys s end → ComesTo root keys s end
comes old s root keys ends.Decided h e = let d = runs_decide old s root h e in (d.0, d.1)
comes old s root keys (ends.Loop m) h e =
    let l = runs_loop old s root e.1.latest e.1.next e.1.trail h e.1.run e.1.waits e.1.closes in
    (e.0, subst (λ z. Resolves s.recorded root (Loop z)) (sym e.1.is_least) l.0)

pub some-of : (x : Option Outcome) → is_some x ≡ true → (o : Outcome) × (x ≡ Some o)
some-of (Some o) h = (o, refl)
some-of None h = true_false h refl
