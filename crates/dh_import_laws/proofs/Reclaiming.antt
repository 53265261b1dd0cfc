-- What is in flight stays so until it is released or recorded, and what is in flight or recorded is not claimed.
use Rattle.std.specs.Prelude.{◌≡◌, ◌⊎◌, ◌≤◌, ◌+◌, ℕ, suc, Bool, true, false, cond, if◌then◌else◌, List, [], ◌∷◌, ◌++◌, length, Option, Some, None, count_by, refl}
use Rattle.std.proofs.Common.{ap, sym, ◌∙◌, subst, inl, inr, arith}
use Rattle.std.proofs.lemmas.List.Sums.{sum_by-cons}
use Rattle.dh_syntax.specs.declared.locations.Loc.{Loc}
use Rattle.dh_syntax.specs.Expressions.Numbers.{eq}
use Rattle.dh_syntax.specs.Expressions.Tree.{Term}
use Rattle.dh_syntax.proofs.Numbers.{eq-itself, eq-true}
use Rattle.dh_syntax.proofs.SameTree.{locs_tell, digests_tell}
use Rattle.dh_imports.specs.Machine.{IsAmong, Task, Fetch, Look, Finish, State, outcome_of, InFlight, IsOpen, Event, Claim, Release, Fetched, Looked, Finished, Late, Cycled, May, without, effect, after_all, Lawful}
use Rattle.dh_imports.specs.Records.{lookup, text_at, look_at}
use Rattle.dh_laws.proofs.KeyOrder.{bool-case, true_false, none-some, some-equal, key_eq-itself}
use Rattle.dh_import_laws.specs.Claims.{ReleasedBetween, is_fetch_of, is_release, FetchesByReleases}
use Rattle.dh_import_laws.specs.ImportLaws.{IsUnrecorded}
use Rattle.dh_import_laws.proofs.Calm.{at-same}
use Rattle.dh_import_laws.proofs.Facts.{Grows, step-grows}
use Rattle.dh_import_laws.proofs.Keep.{Inv, lawful-keeps, task-unrecorded, named-same, flew, nothing_flies}

-- ---- serials in flight were drawn

abbrev AreDrawn : State → Type 0
AreDrawn s = (n : ℕ) (t : Task) → InFlight s n t → n ≤ length s.drawn

claimed_drawn : (s : State) (worker : ℕ) (u : Task) → AreDrawn s → AreDrawn (effect (Claim worker u) s)
claimed_drawn s worker u d n t f = go (bool-case (eq (suc (length s.drawn)) n))
  where
    go : (eq (suc (length s.drawn)) n ≡ true) ⊎ (eq (suc (length s.drawn)) n ≡ false) → n ≤ length (u ∷ s.drawn)
    go (inl e) = omega (arith, eq-true (suc (length s.drawn)) n e)
    go (inr e) = omega (arith, d n t (subst (λ b. (if b then Some u else lookup eq s.flights n) ≡ Some t) e f))

lawful_drawn : (root : Term) (es : List Event) → Lawful root es → AreDrawn (after_all root es)
lawful_drawn root [] h = λ n t f. none-some refl f
lawful_drawn root (Claim w u ∷ es) h = claimed_drawn (after_all root es) w u (lawful_drawn root es h.0)
lawful_drawn root (Release m ∷ es) h = λ n t f. lawful_drawn root es h.0 n t (flew m n t (after_all root es).flights f)
lawful_drawn root (Fetched m l text ∷ es) h = λ n t f. lawful_drawn root es h.0 n t (flew m n t (after_all root es).flights f)
lawful_drawn root (Looked m d look ∷ es) h = λ n t f. lawful_drawn root es h.0 n t (flew m n t (after_all root es).flights f)
lawful_drawn root (Finished m k i limit o ∷ es) h = λ n t f. lawful_drawn root es h.0 n t (flew m n t (after_all root es).flights f)
lawful_drawn root (Late m news ∷ es) h = lawful_drawn root es h.0
lawful_drawn root (Cycled k ∷ es) h = lawful_drawn root es h.0

-- ---- one step

-- the task is in flight under this serial, or recorded
abbrev Stands : State → ℕ → Task → Type 0
Stands s n t = InFlight s n t ⊎ (¬ IsUnrecorded s t)

none_before : {A : Type 0} (x y : Option A) → ((a : A) → x ≡ Some a → y ≡ Some a) → y ≡ None → x ≡ None
none_before None y f e = refl
none_before (Some a) y f e = none-some e (f a refl)

unrecorded_before : (s s' : State) → Grows s s' → (t : Task) → IsUnrecorded s' t → IsUnrecorded s t
unrecorded_before s s' g (Fetch l) e = none_before (text_at s.recorded l) (text_at s'.recorded l) (g.longer.texts l) e
unrecorded_before s s' g (Look d) e = none_before (look_at s.recorded d) (look_at s'.recorded d) (g.longer.looks d) e
unrecorded_before s s' g (Finish k) e = none_before (outcome_of s k) (outcome_of s' k) (g.knows k) e

-- what landed under another serial leaves it in flight
stays_aloft : (m n : ℕ) (t : Task) (fs : List (ℕ × Task)) → eq m n ≡ false → lookup eq fs n ≡ Some t → lookup eq (without m fs) n ≡ Some t
stays_aloft m n t [] d h = h
stays_aloft m n t (f ∷ fs) d h = go (bool-case (eq f.0 m)) (bool-case (eq f.0 n)) (λ q. stays_aloft m n t fs d q)
  where
    at_front : (c : Bool) → eq f.0 n ≡ c → (if c then Some f.1 else lookup eq fs n) ≡ Some t
    at_front c e = subst (λ b. (if b then Some f.1 else lookup eq fs n) ≡ Some t) e h

    go : (eq f.0 m ≡ true) ⊎ (eq f.0 m ≡ false) → (eq f.0 n ≡ true) ⊎ (eq f.0 n ≡ false) → (lookup eq fs n ≡ Some t → lookup eq (without m fs) n ≡ Some t)
        → lookup eq (without m (f ∷ fs)) n ≡ Some t
    go (inl e) y rest =
        let other : eq f.0 n ≡ false = subst (λ x. eq x n ≡ false) (sym (eq-true f.0 m e)) d in
        subst (λ c. lookup eq (if c then without m fs else f ∷ without m fs) n ≡ Some t) (sym e) (rest (at_front false other))
    go (inr e) (inl y) rest =
        subst (λ c. lookup eq (if c then without m fs else f ∷ without m fs) n ≡ Some t) (sym e) (ap (λ c. if c then Some f.1 else lookup eq (without m fs) n) y ∙ at_front true y)
    go (inr e) (inr y) rest =
        subst (λ c. lookup eq (if c then without m fs else f ∷ without m fs) n ≡ Some t) (sym e)
        (ap (λ c. if c then Some f.1 else lookup eq (without m fs) n) y ∙ rest (at_front false y))

-- What lands is recorded, or was under another serial.
lands : (s s' : State) (m n : ℕ) (t u : Task) → s'.flights ≡ without m s.flights → InFlight s m u → (¬ IsUnrecorded s' u) → InFlight s n t → Stands s' n t
lands s s' m n t u is at_m recorded at_n = go (bool-case (eq m n))
  where
    go : (eq m n ≡ true) ⊎ (eq m n ≡ false) → Stands s' n t
    go (inl e) = inr (subst (λ x. ¬ IsUnrecorded s' x) (some-equal (sym at_m ∙ ap (λ x. lookup eq s.flights x) (eq-true m n e) ∙ at_n)) recorded)
    go (inr e) = inl (subst (λ fs. lookup eq fs n ≡ Some t) (sym is) (stays_aloft m n t s.flights e at_n))

claimed_aloft : (s : State) (worker n : ℕ) (t u : Task) → AreDrawn s → InFlight s n t → InFlight (effect (Claim worker u) s) n t
claimed_aloft s worker n t u d f = go (bool-case (eq (suc (length s.drawn)) n))
  where
    go : (eq (suc (length s.drawn)) n ≡ true) ⊎ (eq (suc (length s.drawn)) n ≡ false) → InFlight (effect (Claim worker u) s) n t
    go (inl e) = absurd (omega (arith, eq-true (suc (length s.drawn)) n e, d n t f))
    go (inr e) = ap (λ c. if c then Some u else lookup eq s.flights n) e ∙ f

flight_step : (e : Event) (s : State) → AreDrawn s → May e s → (n : ℕ) (t : Task) → InFlight s n t → (e ≡ Release n) ⊎ Stands (effect e s) n t
flight_step (Claim w u) s d m n t f = inr (inl (claimed_aloft s w n t u d f))
flight_step (Release k) s d m n t f = go (bool-case (eq k n))
  where
    go : (eq k n ≡ true) ⊎ (eq k n ≡ false) → (Release k ≡ Release n) ⊎ Stands (effect (Release k) s) n t
    go (inl e) = inl (ap (λ x. Release x) (eq-true k n e))
    go (inr e) = inr (inl (stays_aloft k n t s.flights e f))
flight_step (Fetched k l text) s d m n t f =
    inr (lands s (effect (Fetched k l text) s) k n t (Fetch l) refl m.0 (λ u. none-some u (named-same locs_tell s.recorded.texts l l text (locs_tell.itself l))) f)
flight_step (Looked k x look) s d m n t f =
    inr (lands s (effect (Looked k x look) s) k n t (Look x) refl m.0 (λ u. none-some u (named-same digests_tell s.recorded.looks x x look (digests_tell.itself x))) f)
flight_step (Finished k j item limit o) s d m n t f =
    inr (lands s (effect (Finished k j item limit o) s) k n t (Finish j) refl m.0.0 (λ u. none-some u (at-same s.outcomes j j o (key_eq-itself j))) f)
flight_step (Late k news) s d m n t f = inr (inl f)
flight_step (Cycled k) s d m n t f = nothing_flies s.flights n t m.0 f

step_stands : (e : Event) (s : State) → Inv s → AreDrawn s → May e s → (n : ℕ) (t : Task) → Stands s n t → (e ≡ Release n) ⊎ Stands (effect e s) n t
step_stands e s i d m n t (inl f) = flight_step e s d m n t f
step_stands e s i d m n t (inr r) = inr (inr (λ u. r (unrecorded_before s (effect e s) (step-grows e s i m) t u)))

claimed_here : (s : State) (worker : ℕ) (t : Task) → InFlight (effect (Claim worker t) s) (suc (length s.drawn)) t
claimed_here s worker t = ap (λ c. if c then Some t else lookup eq s.flights (suc (length s.drawn))) (eq-itself (suc (length s.drawn)))

not_open : {P : Type 0} (s : State) (n : ℕ) (t : Task) → IsOpen s t → Stands s n t → P
not_open s n t o (inl f) = absurd (o.free n f)
not_open s n t o (inr r) = absurd (r (task-unrecorded s t o.due))

-- ---- histories

lawful_before : (root : Term) (later es : List Event) → Lawful root (later ++ es) → Lawful root es
lawful_before root [] es h = h
lawful_before root (e ∷ later) es h = lawful_before root later es h.0

stands_on : (root : Term) (middle before : List Event) (n : ℕ) (t : Task) → Lawful root (middle ++ before) → Stands (after_all root before) n t
    → IsAmong (Release n) middle ⊎ Stands (after_all root (middle ++ before)) n t
stands_on root [] before n t h x = inr x
stands_on root (e ∷ middle) before n t h x = go (stands_on root middle before n t h.0 x)
  where
    one : (e ≡ Release n) ⊎ Stands (effect e (after_all root (middle ++ before))) n t → IsAmong (Release n) (e ∷ middle) ⊎ Stands (after_all root (e ∷ middle ++ before)) n t
    one (inl is) = inl (inl is)
    one (inr y) = inr y

    go : IsAmong (Release n) middle ⊎ Stands (after_all root (middle ++ before)) n t → IsAmong (Release n) (e ∷ middle) ⊎ Stands (after_all root (e ∷ middle ++ before)) n t
    go (inl among) = inl (inr among)
    go (inr y) = one (step_stands e (after_all root (middle ++ before)) (lawful-keeps root (middle ++ before) h.0) (lawful_drawn root (middle ++ before) h.0) h.1 n t y)

pub released_between : ReleasedBetween
released_between root later middle earlier v w t h =
    let n = suc (length (after_all root earlier).drawn) in
    let here : InFlight (after_all root (Claim v t ∷ earlier)) n t = claimed_here (after_all root earlier) v t in
    let second : Lawful root (Claim w t ∷ (middle ++ Claim v t ∷ earlier)) = lawful_before root later (Claim w t ∷ (middle ++ Claim v t ∷ earlier)) h in
    (n, here, go n (stands_on root middle (Claim v t ∷ earlier) n t second.0 (inl here)) second.1)
  where
    go : (n : ℕ) → IsAmong (Release n) middle ⊎ Stands (after_all root (middle ++ Claim v t ∷ earlier)) n t → IsOpen (after_all root (middle ++ Claim v t ∷ earlier)) t → IsAmong (Release n) middle
    go n (inl among) o = among
    go n (inr y) o = not_open (after_all root (middle ++ Claim v t ∷ earlier)) n t o y

-- ---- counts

fetch_claim : (l : Loc) (e : Event) → is_fetch_of l e ≡ true → (w : ℕ) × (e ≡ Claim w (Fetch l))
fetch_claim l (Claim w (Fetch m)) h = (w, ap (λ x. Claim w (Fetch x)) (locs_tell.equal m l h))
fetch_claim l (Claim w (Look d)) h = true_false h refl
fetch_claim l (Claim w (Finish k)) h = true_false h refl
fetch_claim l (Release n) h = true_false h refl
fetch_claim l (Fetched n m text) h = true_false h refl
fetch_claim l (Looked n d look) h = true_false h refl
fetch_claim l (Finished n k i limit o) h = true_false h refl
fetch_claim l (Late n news) h = true_false h refl
fetch_claim l (Cycled k) h = true_false h refl

-- the claims are no more than the releases, or one more, and then the location stands
abbrev Counted : Term → List Event → Loc → Type 0
Counted root es l =
    (count_by (is_fetch_of l) es ≤ count_by is_release es) ⊎ ((count_by (is_fetch_of l) es ≤ count_by is_release es + 1) × (n : ℕ) × Stands (after_all root es) n (Fetch l))

at_most : (root : Term) (es : List Event) (l : Loc) → Counted root es l → count_by (is_fetch_of l) es ≤ count_by is_release es + 1
at_most root es l (inl le) = omega (arith, le)
at_most root es l (inr c) = c.0

counted_more : (root : Term) (e : Event) (es : List Event) (l : Loc) → Lawful root (e ∷ es) → Counted root es l → Counted root (e ∷ es) l
counted_more root e es l h = go (bool-case (is_fetch_of l e)) (bool-case (is_release e))
  where
    claims : (c : Bool) → is_fetch_of l e ≡ c → count_by (is_fetch_of l) (e ∷ es) ≡ cond c 1 0 + count_by (is_fetch_of l) es
    claims c is = sum_by-cons (λ x. cond (is_fetch_of l x) 1 0) e es ∙ ap (λ b. cond b 1 0 + count_by (is_fetch_of l) es) is

    releases : (c : Bool) → is_release e ≡ c → count_by is_release (e ∷ es) ≡ cond c 1 0 + count_by is_release es
    releases c is = sum_by-cons (λ x. cond (is_release x) 1 0) e es ∙ ap (λ b. cond b 1 0 + count_by is_release es) is

    claimed : (w : ℕ) × (e ≡ Claim w (Fetch l)) → Stands (after_all root (e ∷ es)) (suc (length (after_all root es).drawn)) (Fetch l)
    claimed (w, is) = subst (λ x. Stands (effect x (after_all root es)) (suc (length (after_all root es).drawn)) (Fetch l)) (sym is) (inl (claimed_here (after_all root es) w (Fetch l)))

    refused : {P : Type 0} (n : ℕ) → (w : ℕ) × (e ≡ Claim w (Fetch l)) → Stands (after_all root es) n (Fetch l) → P
    refused n (w, is) y = not_open (after_all root es) n (Fetch l) (subst (λ x. May x (after_all root es)) is h.1) y

    on : (n : ℕ) → is_release e ≡ false → (e ≡ Release n) ⊎ Stands (after_all root (e ∷ es)) n (Fetch l) → Stands (after_all root (e ∷ es)) n (Fetch l)
    on n r (inl is) = true_false (ap is_release is) r
    on n r (inr y) = y

    go : (is_fetch_of l e ≡ true) ⊎ (is_fetch_of l e ≡ false) → (is_release e ≡ true) ⊎ (is_release e ≡ false) → Counted root es l → Counted root (e ∷ es) l
    go (inl c) r (inr x) = refused x.1 (fetch_claim l e c) x.2
    go (inl c) r (inl le) = inr (omega (arith, le, claims true c, releases (is_release e) refl), suc (length (after_all root es).drawn), claimed (fetch_claim l e c))
    go (inr c) (inl r) x = inl (omega (arith, at_most root es l x, claims false c, releases true r))
    go (inr c) (inr r) (inl le) = inl (omega (arith, le, claims false c, releases false r))
    go (inr c) (inr r) (inr x) =
        inr (omega (arith, x.0, claims false c, releases false r), x.1, on x.1 r (step_stands e (after_all root es) (lawful-keeps root es h.0) (lawful_drawn root es h.0) h.1 x.1 (Fetch l) x.2))

counted : (root : Term) (es : List Event) (l : Loc) → Lawful root es → Counted root es l
counted root [] l h = inl (omega arith)
counted root (e ∷ es) l h = counted_more root e es l h (counted root es l h.0)

pub fetches_by_releases : FetchesByReleases
fetches_by_releases root es l h = at_most root es l (counted root es l h)
