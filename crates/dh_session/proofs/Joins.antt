-- From each place to the whole run.
use Rattle.std.proofs.Common.{◌≡◌, ℕ, zero, suc, ◌+◌, ◌<◌, ◌≤◌, ◌⊎◌, inl, inr, Bool, true, List, [], ◌∷◌, ◌++◌, map, length, drop, get_or, set, refl, sym, ap, ◌∙◌, subst, arith, rules}
use Rattle.std.specs.Prelude.{Option, sum_by, count_by, Any, All}
use Rattle.std.proofs.Math.Seq.{drop-append_seam}
use Rattle.std.proofs.lemmas.Grind.{common_steps}
use Rattle.std.proofs.lemmas.List.{length-map}
use Rattle.std.proofs.lemmas.List.Sums.{sum_by-append, sum_by-cons}
use Rattle.std.proofs.lemmas.List.Elements.{All-get_or}
use Rattle.dh_syntax.specs.declared.locations.Digest.{Digest}
use Rattle.dh_shared.specs.Held.{Held, none_held, sum_held}
use Rattle.dh_session.specs.Works.{AtLast}
use Rattle.dh_session.specs.Inside.{Goes}
use Rattle.dh_shared.specs.Closed.{Closes}
use Rattle.dh_session.specs.Ended.{Ends, AsksAll, FailsAll, NoneFell, none_left, more_left}
use Rattle.dh_session.proofs.Rises.{Sums, One, sums_rise}
use Rattle.dh_table.specs.Calls.{failures}
use Rattle.dh_table.specs.Shown.{Shown}
use Rattle.dh_table.specs.States.{state_of}
use Rattle.dh_shared.specs.Counting.{is_release, is_late, is_fetch_claim}

sum_mapped : {P D : Type 0} (f : D → ℕ) (g : P → D) (xs : List P) → sum_by f (map g xs) ≡ sum_by (λ p. f (g p)) xs
sum_mapped f g [] = refl
sum_mapped f g (x ∷ xs) = omega (arith, sum_mapped f g xs, sum_by-cons f (g x) (map g xs), sum_by-cons (λ p. f (g p)) x xs)

-- the sum over the places, and over the desks that stood by
sum_all : {P D : Type 0} (f : D → ℕ) (g : P → D) (xs : List P) (left all : List D) → all ≡ map g xs ++ left → sum_by f all ≡ sum_by (λ p. f (g p)) xs + sum_by f left
sum_all f g xs left all is = ap (λ ds. sum_by f ds) is ∙ sum_by-append f (map g xs) left ∙ ap (λ n. n + sum_by f left) (sum_mapped f g xs)

any_mapped : {P D : Type 0} (Q : D → Type 0) (g : P → D) (xs : List P) (left : List D) → Any (λ p. Q (g p)) xs → Any Q (map g xs ++ left)
any_mapped Q g [] left (i, x, lt, is, q) = absurd (omega arith)
any_mapped Q g (x ∷ xs) left (zero, y, lt, is, q) = (0, g x, omega arith, refl, (let R : _ → Type 0 = λ p. Q (g p) in subst R (sym is) q))
any_mapped Q g (x ∷ xs) left (suc i, y, lt, is, q) =
    let rest = any_mapped Q g xs left (i, y, (omega arith), is, q) in (suc rest.0, rest.1, (let l = rest.2 in omega arith), rest.3, rest.4)

sum_none : {P : Type 0} (held : P → Held) (f : Held → ℕ) (xs : List P) → f (none_held 1) ≡ 0 → All (λ p. held p ≡ none_held 1) xs → sum_by (λ p. f (held p)) xs ≡ 0
sum_none held f [] none all = refl
sum_none held f (x ∷ xs) none all =
    let here : held x ≡ none_held 1 = all 0 x (omega arith) in
    let rest : sum_by (λ p. f (held p)) xs ≡ 0 = sum_none held f xs none (λ k d lt. all (suc k) d (omega arith)) in
    omega (arith, rest, none, ap f here, sum_by-cons (λ p. f (held p)) x xs)

asks_all : {P D : Type 0} (ask : D → ℕ) (desk : P → D) (held : P → Held) (xs ys : List P) (left before after : List D) (table : Shown)
    → before ≡ map desk xs ++ left → after ≡ map desk ys ++ left → sum_by (λ p. (held p).fetches) xs ≡ 0 → count_by is_fetch_claim table.history ≡ sum_by (λ p. (held p).fetches) ys
    → (Any (λ p. AtLast (ask (desk p))) ys ⊎ (sum_by (λ p. ask (desk p)) ys + sum_by (λ p. (held p).fetches) xs ≡ sum_by (λ p. ask (desk p)) xs + sum_by (λ p. (held p).fetches) ys))
    → AsksAll ask before after table
asks_all ask desk held xs ys left before after table was is none count (inl any) =
    inl (let Q : List _ → Type 0 = λ ds. Any (λ d. AtLast (ask d)) ds in subst Q (sym is) (any_mapped (λ d. AtLast (ask d)) desk ys left any))
asks_all ask desk held xs ys left before after table was is none count (inr sums) =
    inr (omega (arith, sums, none, count, sum_all ask desk xs left before was, sum_all ask desk ys left after is))

fails_all : {P D : Type 0} (fault : D → ℕ) (desk : P → D) (held : P → Held) (xs ys : List P) (left before after : List D) (table : Shown)
    → before ≡ map desk xs ++ left → after ≡ map desk ys ++ left → sum_by (λ p. (held p).failed) xs ≡ 0 → failures (state_of table) ≡ sum_by (λ p. (held p).failed) ys
    → (Any (λ p. AtLast (fault (desk p))) ys ⊎ (sum_by (λ p. (held p).failed) ys + sum_by (λ p. fault (desk p)) xs ≤ sum_by (λ p. (held p).failed) xs + sum_by (λ p. fault (desk p)) ys))
    → FailsAll fault before after table
fails_all fault desk held xs ys left before after table was is none count (inl any) =
    inl (let Q : List _ → Type 0 = λ ds. Any (λ d. AtLast (fault d)) ds in subst Q (sym is) (any_mapped (λ d. AtLast (fault d)) desk ys left any))
fails_all fault desk held xs ys left before after table was is none count (inr sums) =
    inr (omega (arith, sums, none, count, sum_all fault desk xs left before was, sum_all fault desk ys left after is))

-- what is told of each element, and stays, stays of all
stays_beside : {P D A : Type 0} (f : D → A) (desk : P → D) (left : List D) (xs ys : List P) → length ys ≡ length xs
    → ((i : ℕ) (d : P) → i < length xs → f (desk (get_or ys i d)) ≡ f (desk (get_or xs i d))) → map f (map desk ys ++ left) ≡ map f (map desk xs ++ left)
stays_beside f desk left [] [] len each = refl
stays_beside f desk left [] (y ∷ ys) len each = absurd (omega arith)
stays_beside f desk left (x ∷ xs) [] len each = absurd (omega arith)
stays_beside f desk left (x ∷ xs) (y ∷ ys) len each =
    let here : f (desk y) ≡ f (desk x) = each 0 x (omega arith) in
    let rest : map f (map desk ys ++ left) ≡ map f (map desk xs ++ left) = stays_beside f desk left xs ys (omega arith) (λ i d lt. each (suc i) d (omega arith)) in
    ap (λ one. one ∷ map f (map desk ys ++ left)) here ∙ ap (λ more. f (desk x) ∷ more) rest

pub stays : {P D A : Type 0} (f : D → A) (desk : P → D) (xs ys : List P) (left before after : List D)
    → map desk xs ++ left ≡ before → after ≡ map desk ys ++ left → length ys ≡ length xs
    → ((i : ℕ) (d : P) → i < length xs → f (desk (get_or ys i d)) ≡ f (desk (get_or xs i d))) → map f after ≡ map f before
stays f desk xs ys left before after was is len each = ap (λ ds. map f ds) is ∙ stays_beside f desk left xs ys len each ∙ ap (λ ds. map f ds) was

-- what stands behind the places stays
behind : {P D : Type 0} (desk : P → D) (xs : List P) (left : List D) (n : ℕ) → length xs ≡ n → drop n (map desk xs ++ left) ≡ left
behind desk xs left n len = ap (λ k. drop k (map desk xs ++ left)) (sym len ∙ sym (length-map xs desk)) ∙ drop-append_seam (map desk xs) left

pub stays_behind : {P D : Type 0} (desk : P → D) (xs ys : List P) (left before after : List D) (n : ℕ) → map desk xs ++ left ≡ before → after ≡ map desk ys ++ left
    → length xs ≡ n → length ys ≡ n → drop n after ≡ drop n before
stays_behind desk xs ys left before after n was is len len' =
    ap (drop n) is ∙ behind desk ys left n len' ∙ sym (behind desk xs left n len) ∙ ap (drop n) was

-- no count fell of those that stay, nor of those of which none fell
none_fell_itself : (ns : List ℕ) → NoneFell ns ns
none_fell_itself [] = none_left
none_fell_itself (n ∷ ns) = more_left (omega arith) (none_fell_itself ns)

none_fell_beside : {P D : Type 0} (f : D → ℕ) (desk : P → D) (left : List D) (xs ys : List P) → length ys ≡ length xs
    → ((i : ℕ) (d : P) → i < length xs → f (desk (get_or xs i d)) ≤ f (desk (get_or ys i d))) → NoneFell (map f (map desk xs ++ left)) (map f (map desk ys ++ left))
none_fell_beside f desk left [] [] len each = none_fell_itself (map f left)
none_fell_beside f desk left [] (y ∷ ys) len each = absurd (omega arith)
none_fell_beside f desk left (x ∷ xs) [] len each = absurd (omega arith)
none_fell_beside f desk left (x ∷ xs) (y ∷ ys) len each =
    more_left (each 0 x (omega arith)) (none_fell_beside f desk left xs ys (omega arith) (λ i d lt. each (suc i) d (omega arith)))

pub none_fell : {P D : Type 0} (f : D → ℕ) (desk : P → D) (xs ys : List P) (left before after : List D)
    → map desk xs ++ left ≡ before → after ≡ map desk ys ++ left → length ys ≡ length xs
    → ((i : ℕ) (d : P) → i < length xs → f (desk (get_or xs i d)) ≤ f (desk (get_or ys i d))) → NoneFell (map f before) (map f after)
none_fell f desk xs ys left before after was is len each =
    subst (λ b. NoneFell (map f b) (map f after)) was (subst (λ a. NoneFell (map f (map desk xs ++ left)) (map f a)) (sym is) (none_fell_beside f desk left xs ys len each))

-- every worker ended well, so the root is decided and the counts of the desks are those of the history
pub ends : {P D S : Type 0} (ask fault : D → ℕ) (filed : D → Option (List (Digest × List ℕ))) (desk : P → D) (seat : P → S) (shares : S → Held) (done : P → Bool)
    (xs ys : List P) (left before after : List D) (seats : List S) (table : Shown)
    → map desk xs ++ left ≡ before → after ≡ map desk ys ++ left → seats ≡ map seat ys ++ []
    → length ys ≡ length xs → 0 < length ys
    → All (λ p. shares (seat p) ≡ none_held 1) xs → All (λ p. done p ≡ true) ys
    → ((i : ℕ) (d : P) → i < length xs → Goes (done (get_or ys i d)) (ask (desk (get_or xs i d))) (ask (desk (get_or ys i d))) (fault (desk (get_or xs i d))) (fault (desk (get_or ys i d))) (filed (desk (get_or xs i d))) (filed (desk (get_or ys i d))) (shares (seat (get_or xs i d))) (shares (seat (get_or ys i d))))
    → Closes table (sum_held (map shares seats))
    → Ends ask fault before after table
ends ask fault filed desk seat shares done xs ys left before after seats table was is seated len some new all each closed =
    let held : _ → Held = λ p. shares (seat p) in
    let s : Sums (λ p. ask (desk p)) (λ p. fault (desk p)) held xs ys = sums_rise (λ p. ask (desk p)) (λ p. fault (desk p)) held xs ys (sym len)
    (λ i d lt. let e = each i d lt in let fine = all i d (omega arith) in record { asks = e.asks fine; fails = e.fails; frees = e.frees fine; delivers = e.delivers fine; over = e.over fine }) in
    let total : (f : Held → ℕ) → sum_by f (map shares seats) ≡ sum_by (λ p. f (held p)) ys
    = λ f. sum_mapped f shares seats ∙ sum_all (λ p. f (shares p)) seat ys [] seats seated ∙ (omega arith) in
    record {
      decided = closed.overs (omega (arith, s.overs some, total (λ (h : Held). h.overs)));
      releases = omega (
        arith,
        closed.releases,
        closed.lates,
        s.frees,
        total (λ (h : Held). h.releases),
        total (λ (h : Held). h.lates),
        sum_none held (λ (h : Held). h.releases) xs refl new,
        sum_none held (λ (h : Held). h.lates) xs refl new,
      );
      delivered = omega (
        arith,
        closed.claims,
        closed.kept,
        closed.lates,
        s.delivers,
        total (λ (h : Held). h.claims),
        total (λ (h : Held). h.kept),
        total (λ (h : Held). h.lates),
        sum_none held (λ (h : Held). h.claims) xs refl new,
        sum_none held (λ (h : Held). h.kept) xs refl new,
        sum_none held (λ (h : Held). h.lates) xs refl new,
      );
      asks = asks_all ask desk held xs ys left before after table (sym was) is (sum_none held (λ (h : Held). h.fetches) xs refl new) (closed.fetches ∙ total (λ (h : Held). h.fetches)) s.asks;
      fails = fails_all fault desk held xs ys left before after table (sym was) is (sum_none held (λ (h : Held). h.failed) xs refl new) (closed.failed ∙ total (λ (h : Held). h.failed)) s.fails;
    }

-- ---- one worker

-- what holds of the one element of a list
one_all : {X : Type 0} (Q : X → Type 0) (x : X) → Q x → All Q (x ∷ [])
one_all Q x q zero d lt = q
one_all Q x q (suc i) d lt = absurd (omega arith)

one_each : {X : Type 0} (Q : X → X → Type 0) (x y : X) → Q x y → (i : ℕ) (d : X) → i < length (x ∷ []) → Q (get_or (x ∷ []) i d) (get_or (y ∷ []) i d)
one_each Q x y q zero d lt = q
one_each Q x y q (suc i) d lt = absurd (omega arith)

-- a list of one element, whose element gives way to another
set_one : {X : Type 0} (xs : List X) (y : X) → length xs ≡ 1 → set xs 0 y ≡ y ∷ []
set_one [] y len = absurd (omega arith)
set_one (x ∷ []) y len = refl
set_one (x ∷ z ∷ xs) y len = absurd (omega arith)

-- so of a list of which this is known
pub set_only : {X : Type 0} (Q : X → Type 0) (xs : List X) → All Q xs → (y : X) → length xs ≡ 1 → set xs 0 y ≡ y ∷ []
set_only Q xs all y len = set_one xs y len

-- the one worker ended well, so the root is decided and the counts of its desk are those of the history
pub ends_one : {D S : Type 0} (ask fault : D → ℕ) (filed : D → Option (List (Digest × List ℕ))) (shares : S → Held) (d e : D) (s t : S) (seats : List S) (table : Shown)
    → Closes table (sum_held (map shares seats)) → seats ≡ t ∷ [] → shares s ≡ none_held 1 → Goes true (ask d) (ask e) (fault d) (fault e) (filed d) (filed e) (shares s) (shares t)
    → Ends ask fault (d ∷ []) (e ∷ []) table
ends_one {D} {S} ask fault filed shares d e s t seats table closed is new went =
    ends {P = D × S} ask fault filed (λ p. p.0) (λ p. p.1) shares (λ p. true) ((d, s) ∷ []) ((e, t) ∷ []) [] (d ∷ []) (e ∷ []) seats table refl refl is refl (omega arith)
    (one_all (λ (p : D × S). shares (p.1) ≡ none_held 1) (d, s) new) (one_all (λ (p : D × S). true ≡ true) (e, t) refl)
    (one_each (λ (p q : D × S). Goes true (ask (p.0)) (ask (q.0)) (fault (p.0)) (fault (q.0)) (filed (p.0)) (filed (q.0)) (shares (p.1)) (shares (q.1))) (d, s) (e, t) went) closed
