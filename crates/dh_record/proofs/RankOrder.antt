-- The order of ranks is total and strict, and a key is told by its rank.
use Rattle.std.specs.Prelude.{◌≡◌, ◌⊎◌, ℕ, zero, suc, Bool, true, false, ◌&&◌, ◌||◌, List, [], ◌∷◌, Option, Some, None, refl}
use Rattle.std.proofs.Common.{ap, sym, ◌∙◌, subst, inl, inr}
use Rattle.dh_syntax.specs.declared.locations.Digest.{Digest}
use Rattle.dh_syntax.specs.declared.locations.Key.{Key}
use Rattle.dh_syntax.specs.declared.locations.Loc.{Loc}
use Rattle.dh_syntax.specs.declared.locations.Loc.TheVariants as locs
use Rattle.dh_syntax.specs.declared.locations.Mode.{Mode}
use Rattle.dh_syntax.specs.declared.locations.Mode.TheVariants as modes
use Rattle.dh_syntax.specs.declared.locations.Url.{Url}
use Rattle.dh_syntax.specs.Bytes.Binary.{mode_code}
use Rattle.dh_syntax.specs.Expressions.Numbers.{bytes_eq}
use Rattle.dh_syntax.specs.Expressions.Order.{before}
use Rattle.dh_syntax.specs.Imports.Keys.{texts_before, digest_rank, query_rank, loc_rank}
use Rattle.dh_syntax.proofs.Numbers.{and-true_left, and-true_right, bytes_eq-itself, bytes_eq-true}
use Rattle.dh_syntax.proofs.Order.{before_irreflexive, before-transitive, before-total}
use Rattle.dh_record.specs.Sorting.{Rank, rank_of}

or-cases : (a b : Bool) → (a || b) ≡ true → (a ≡ true) ⊎ (b ≡ true)
or-cases true b h = inl refl
or-cases false b h = inr h

or-none : (a b : Bool) → (a || b) ≡ false → (a ≡ false) × (b ≡ false)
or-none true b h = cc
or-none false b h = (refl, h)

or-left : (a b : Bool) → a ≡ true → (a || b) ≡ true
or-left a b h = rw h refl

or-right : (a b : Bool) → b ≡ true → (a || b) ≡ true
or-right true b h = refl
or-right false b h = h

and-both : (a b : Bool) → a ≡ true → b ≡ true → (a && b) ≡ true
and-both a b p q = rw (p, q) refl

and-second : (a b : Bool) → a ≡ true → (a && b) ≡ false → b ≡ false
and-second true b h k = k
and-second false b h k = cc

pub before_itself : (x : Rank) → texts_before x x ≡ false
before_itself [] = refl
before_itself (a ∷ x) = rw (before_irreflexive a, bytes_eq-itself a, before_itself x) refl

pub before_through : (x y z : Rank) → texts_before x y ≡ true → texts_before y z ≡ true → texts_before x z ≡ true
before_through [] [] z h k = cc
before_through [] (b ∷ y) [] h k = cc
before_through [] (b ∷ y) (c ∷ z) h k = refl
before_through (a ∷ x) [] z h k = cc
before_through (a ∷ x) (b ∷ y) [] h k = cc
before_through (a ∷ x) (b ∷ y) (c ∷ z) h k =
    go (or-cases _ _ h) (or-cases _ _ k) (λ p q. before_through x y z p q)
  where
    go : (before a b ≡ true) ⊎ ((bytes_eq a b && texts_before x y) ≡ true) → (before b c ≡ true) ⊎ ((bytes_eq b c && texts_before y z) ≡ true)
        → (texts_before x y ≡ true → texts_before y z ≡ true → texts_before x z ≡ true) → (before a c || (bytes_eq a c && texts_before x z)) ≡ true
    go (inl p) (inl q) r = or-left _ _ (before-transitive a b c p q)
    go (inl p) (inr q) r = or-left _ _ (subst (λ t. before a t ≡ true) (bytes_eq-true b c (and-true_left _ _ q)) p)
    go (inr p) (inl q) r = or-left _ _ (subst (λ t. before t c ≡ true) (sym (bytes_eq-true a b (and-true_left _ _ p))) q)
    go (inr p) (inr q) r =
        or-right _ _ (and-both _ _
        (subst (λ t. bytes_eq a t ≡ true) (bytes_eq-true b c (and-true_left _ _ q)) (and-true_left _ _ p))
        (r (and-true_right _ _ p) (and-true_right _ _ q)))

-- of two ranks one comes before the other, or they are the same
pub before_neither : (x y : Rank) → texts_before x y ≡ false → texts_before y x ≡ false → x ≡ y
before_neither [] [] h k = refl
before_neither [] (b ∷ y) h k = cc
before_neither (a ∷ x) [] h k = cc
before_neither (a ∷ x) (b ∷ y) h k =
    let p = before-total a b (or-none _ _ h).0 (or-none _ _ k).0 in
    let e : bytes_eq a b ≡ true = subst (λ t. bytes_eq a t ≡ true) p (bytes_eq-itself a) in
    let e' : bytes_eq b a ≡ true = subst (λ t. bytes_eq t a ≡ true) p (bytes_eq-itself a) in
    let l : texts_before x y ≡ false = and-second _ _ e (or-none _ _ h).1 in
    let m : texts_before y x ≡ false = and-second _ _ e' (or-none _ _ k).1 in
    let q = before_neither x y l m in
    λ i. p i ∷ q i

-- ---- a key is told by its rank

abbrev head_text : Rank → List ℕ
head_text [] = []
head_text (a ∷ x) = a

abbrev rest_texts : Rank → Rank
rest_texts [] = []
rest_texts (a ∷ x) = x

abbrev digest_back : List ℕ → Option Digest
digest_back [] = None
digest_back (z ∷ x) = Some (record { 0 = x })

abbrev query_back : List ℕ → Option (List ℕ)
query_back [] = None
query_back (z ∷ x) = Some x

digest-back : (d : Option Digest) → digest_back (digest_rank d) ≡ d
digest-back None = refl
digest-back (Some d) = refl

query-back : (q : Option (List ℕ)) → query_back (query_rank q) ≡ q
query-back None = refl
query-back (Some q) = refl

abbrev url_back : Rank → Url
url_back xs = record { host = head_text xs; comps = rest_texts (rest_texts xs); query = query_back (head_text (rest_texts xs)) }

abbrev tag_of : List ℕ → ℕ
tag_of [] = 0
tag_of (n ∷ ns) = n

abbrev by_tag : ℕ → Rank → Loc
by_tag zero cs = locs.Abs cs
by_tag (suc zero) cs = locs.Here cs
by_tag (suc (suc zero)) cs = locs.Parent cs
by_tag (suc (suc (suc zero))) cs = locs.Home cs
by_tag (suc (suc (suc (suc zero)))) cs = locs.Http (url_back cs)
by_tag (suc (suc (suc (suc (suc zero))))) cs = locs.Https (url_back cs)
by_tag (suc (suc (suc (suc (suc (suc zero)))))) cs = locs.Env (head_text cs)
by_tag (suc (suc (suc (suc (suc (suc (suc n))))))) cs = locs.Missing

abbrev loc_back : Rank → Loc
loc_back xs = by_tag (tag_of (head_text xs)) (rest_texts xs)

url-back : (u : Url) → url_back (u.host ∷ query_rank u.query ∷ u.comps) ≡ u
url-back u = ap (λ (q : Option (List ℕ)). record { host = u.host; comps = u.comps; query = q }) (query-back u.query)

loc-back : (l : Loc) → loc_back (loc_rank l) ≡ l
loc-back (locs.Abs cs) = refl
loc-back (locs.Here cs) = refl
loc-back (locs.Parent cs) = refl
loc-back (locs.Home cs) = refl
loc-back (locs.Http u) = ap (λ (x : Url). locs.Http x) (url-back u)
loc-back (locs.Https u) = ap (λ (x : Url). locs.Https x) (url-back u)
loc-back (locs.Env x) = refl
loc-back locs.Missing = refl

-- a location is told by its rank
pub loc_told : (a b : Loc) → loc_rank a ≡ loc_rank b → a ≡ b
loc_told a b h = sym (loc-back a) ∙ ap loc_back h ∙ loc-back b

abbrev mode_back : List ℕ → Mode
mode_back [] = modes.Code
mode_back (zero ∷ ns) = modes.Code
mode_back (suc zero ∷ ns) = modes.Text
mode_back (suc (suc n) ∷ ns) = modes.Location

mode-back : (m : Mode) → mode_back (mode_code m ∷ []) ≡ m
mode-back modes.Code = refl
mode-back modes.Text = refl
mode-back modes.Location = refl

abbrev key_back : Rank → Key
key_back xs = record {
  loc = loc_back (rest_texts (rest_texts xs));
  mode = mode_back (head_text xs);
  digest = digest_back (head_text (rest_texts xs));
}

key-back : (k : Key) → key_back (rank_of k) ≡ k
key-back k = λ i. record { loc = loc-back k.loc i; mode = mode-back k.mode i; digest = digest-back k.digest i }

pub key_told : (j k : Key) → rank_of j ≡ rank_of k → j ≡ k
key_told j k h = sym (key-back j) ∙ ap key_back h ∙ key-back k
