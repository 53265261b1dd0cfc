-- The steps of a depth-first run, over keys by their numbers.
use Rattle.std.specs.Prelude.{◌≡◌, ◌+◌, ◌≤◌, ◌<◌, ℕ, true, false, List, [], ◌∷◌, ◌++◌, All, drop, length, map, reverse, refl}
use Rattle.std.proofs.Common.{ap, sym, ◌∙◌, subst, arith}
use Rattle.std.proofs.lemmas.List.{length-append, length-map}
use Rattle.std.proofs.lemmas.List.Elements.{All-head, All-tail, All-cons, All-weaker}
use Rattle.dh_syntax.specs.declared.locations.Key.{Key}
use Rattle.dh_imports.specs.Resolver.{is_in, least_back_to}
use Rattle.dh_watch_laws.specs.Kept.{Kept, IsSound}
use Rattle.dh_watch_laws.specs.Running.{stage_at, Runs, enters}
use Rattle.dh_watch_laws.specs.VisitCounts.{ClosesLoop}
use Rattle.dh_watch_laws.proofs.Running.{runs_close}
use Rattle.dh_watch_runs.specs.Resolving.{named, trail_of, AreMore, GoesOn, IsWait, HasLooped, HasMany}
use Rattle.dh_watch_runs.proofs.Reversing.{trail-more, in-reverse, trail-numbers}

abbrev AreIn : List Key → List ℕ → Type 0
AreIn keys ns = All (λ (n : ℕ). n < length keys) ns

more-length : (keys more : List Key) → AreMore keys more → length keys ≤ length more
more-length keys more (ks, e) = omega (arith, ap length e, length-append keys ks)

pub in-more : (keys more : List Key) → AreMore keys more → (ns : List ℕ) → All (λ (n : ℕ). n < length keys) ns → All (λ (n : ℕ). n < length more) ns
in-more keys more a ns h = All-weaker (λ (n : ℕ). n < length keys) (λ (n : ℕ). n < length more) (λ n l. less n l (more-length keys more a)) ns h
  where
    less : (n : ℕ) → n < length keys → length keys ≤ length more → n < length more
    less n l m = omega (arith, l, m)

pub more-more : (a b c : List Key) → AreMore a b → AreMore b c → AreMore a c
more-more a b c (xs, p) (ys, q) = (xs ++ ys, q ∙ ap (λ z. z ++ ys) p ∙ assoc a xs ys)
  where
    assoc : (a b c : List Key) → (a ++ b) ++ c ≡ a ++ (b ++ c)
    assoc [] b c = refl
    assoc (x ∷ a) b c = ap (λ z. x ∷ z) (assoc a b c)

pub top-inside : (keys : List Key) (trail : List ℕ) (top : ℕ) → trail ≡ top ∷ drop 1 trail → All (λ (n : ℕ). n < length keys) trail → top < length keys
top-inside keys trail top e h = All-head (λ (n : ℕ). n < length keys) top (drop 1 trail) (subst (All (λ (n : ℕ). n < length keys)) e h)

pub rest-inside : (keys : List Key) (trail : List ℕ) (top : ℕ) → trail ≡ top ∷ drop 1 trail → All (λ (n : ℕ). n < length keys) trail → All (λ (n : ℕ). n < length keys) (drop 1 trail)
rest-inside keys trail top e h = All-tail (λ (n : ℕ). n < length keys) top (drop 1 trail) (subst (All (λ (n : ℕ). n < length keys)) e h)

-- a key went as far as it comes
pub advanced : (old : Kept) (root : Key) (keys more : List Key) (s s' : Kept) (trail : List ℕ) (top : ℕ) → trail ≡ top ∷ drop 1 trail
    → All (λ (n : ℕ). n < length keys) trail → AreMore keys more → GoesOn s s' (named keys top) → Runs old root s (trail_of keys trail)
    → Runs old root s' (named more top ∷ trail_of more (drop 1 trail))
advanced old root keys more s s' trail top e h a g run =
    let was : Runs old root s (named keys top ∷ trail_of keys (drop 1 trail)) = subst (λ z. Runs old root s (trail_of keys z)) e run in
    let now : Runs old root s' (named keys top ∷ trail_of keys (drop 1 trail)) = g old root (trail_of keys (drop 1 trail)) was in
    subst (Runs old root s') (sym (trail-more keys more a (top ∷ drop 1 trail) (subst (All (λ (n : ℕ). n < length keys)) e h))) now

pub shorter : (trail : List ℕ) (top : ℕ) → trail ≡ top ∷ drop 1 trail → length trail ≡ length (drop 1 trail) + 1
shorter trail top e = omega (arith, ap length e)

-- a loop is met
pub met-loop : (old : Kept) (root : Key) (keys : List Key) (s : Kept) (trail ns ms : List ℕ) (top next least : ℕ) → trail ≡ top ∷ drop 1 trail
    → Runs old root s (named keys top ∷ trail_of keys (drop 1 trail)) → IsWait keys (stage_at s (named keys top)) next
    → reverse ns ≡ trail → is_in (named keys next) (map (named keys) ns) ≡ true
    → reverse ms ≡ trail → named keys least ≡ least_back_to (named keys next) (reverse (map (named keys) ms))
    → HasLooped old root s (named keys least)
met-loop old root keys s trail ns ms top next least e run w p i q l = record {
  latest = named keys top;
  next = named keys next;
  trail = trail_of keys (drop 1 trail);
  run = run;
  waits = w.1;
  closes = subst (λ z. is_in (named keys next) z ≡ true) (trail-numbers keys ns trail p ∙ ap (trail_of keys) e) (in-reverse (named keys next) (map (named keys) ns) ∙ i);
  is_least = l ∙ ap (least_back_to (named keys next)) (trail-numbers keys ms trail q ∙ ap (trail_of keys) e);
}

-- its chain
pub met-chain : (old : Kept) (root : Key) (keys : List Key) (s : Kept) (trail ns ms : List ℕ) (top next least : ℕ) → IsSound old → trail ≡ top ∷ drop 1 trail
    → Runs old root s (named keys top ∷ trail_of keys (drop 1 trail)) → IsWait keys (stage_at s (named keys top)) next
    → reverse ns ≡ trail → is_in (named keys next) (map (named keys) ns) ≡ true
    → reverse ms ≡ trail → named keys least ≡ least_back_to (named keys next) (reverse (map (named keys) ms))
    → ClosesLoop s root (trail_of keys trail) (named keys least)
unfolding met-loop
met-chain old root keys s trail ns ms top next least h e run w p i q l =
    let m = met-loop old root keys s trail ns ms top next least e run w p i q l in
    subst (λ z. ClosesLoop s root (trail_of keys z) (named keys least)) (sym e)
    (subst (ClosesLoop s root (named keys top ∷ trail_of keys (drop 1 trail))) (sym m.is_least)
    (runs_close old s root (named keys top) (named keys next) (trail_of keys (drop 1 trail)) h run w.1 m.closes))

-- the next key is entered
pub entered : (old : Kept) (root : Key) (keys : List Key) (s : Kept) (trail ns : List ℕ) (top next : ℕ) → trail ≡ top ∷ drop 1 trail
    → Runs old root s (named keys top ∷ trail_of keys (drop 1 trail)) → IsWait keys (stage_at s (named keys top)) next
    → reverse ns ≡ trail → is_in (named keys next) (map (named keys) ns) ≡ false
    → Runs old root s (trail_of keys (next ∷ trail))
entered old root keys s trail ns top next e run w p i =
    subst (λ z. Runs old root s (named keys next ∷ trail_of keys z)) (sym e)
    (enters run w.1
    (subst (λ z. is_in (named keys next) z ≡ false) (trail-numbers keys ns trail p ∙ ap (trail_of keys) e) (in-reverse (named keys next) (map (named keys) ns) ∙ i)))

pub entered-inside : (keys : List Key) (next : ℕ) (trail : List ℕ) → next < length keys → All (λ (n : ℕ). n < length keys) trail → All (λ (n : ℕ). n < length keys) (next ∷ trail)
entered-inside keys next trail h k = All-cons (λ (n : ℕ). n < length keys) next trail h k

-- so many keys are met
pub met-many : (old : Kept) (root : Key) (keys : List Key) (s : Kept) (trail : List ℕ) (next found : ℕ) → Runs old root s (trail_of keys (next ∷ trail))
    → found + length old.outcomes ≡ length s.outcomes → 4096 ≤ found + length trail → HasMany 4096 old root s
met-many old root keys s trail next found run c m = record {
  trail = trail_of keys (next ∷ trail);
  run = run;
  many = omega (arith, c, m, length-map trail (named keys));
}

pub more-itself : (keys : List Key) → AreMore keys keys
more-itself keys = ([], same keys)
  where
    same : (ks : List Key) → ks ≡ ks ++ []
    same [] = refl
    same (k ∷ ks) = ap (λ z. k ∷ z) (same ks)
