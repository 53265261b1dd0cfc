-- Keys: their test of equality tells, and their order is total.
use Rattle.std.specs.Prelude.{◌≡◌, ◌⊎◌, ℕ, zero, suc, Bool, true, false, not, ◌&&◌, ◌||◌, List, [], ◌∷◌, Option, Some, None, refl}
use Rattle.std.proofs.Common.{ap, sym, ◌∙◌, subst, inl, inr}
use Rattle.dh_syntax.specs.declared.locations.Digest.{Digest}
use Rattle.dh_syntax.specs.declared.locations.Key.{Key}
use Rattle.dh_syntax.specs.declared.locations.Loc.{Loc}
use Rattle.dh_syntax.specs.declared.locations.Loc.TheVariants as locs
use Rattle.dh_syntax.specs.declared.locations.Mode.{Mode}
use Rattle.dh_syntax.specs.declared.locations.Mode.TheVariants as modes
use Rattle.dh_syntax.specs.declared.locations.Url.{Url}
use Rattle.dh_syntax.specs.Bytes.Binary.{mode_code}
use Rattle.dh_syntax.specs.Expressions.Numbers.{bytes_eq}
use Rattle.dh_syntax.specs.Expressions.Order.{before}
use Rattle.dh_syntax.specs.Expressions.SameTree.{option_eq, digest_eq, mode_eq}
use Rattle.dh_syntax.proofs.Numbers.{and-true_left, and-true_right, bytes_eq-itself, bytes_eq-true}
use Rattle.dh_syntax.proofs.Order.{before_irreflexive, before-transitive, before-total}
use Rattle.dh_syntax.proofs.SameTree.{locs_tell, digests_tell}
use Rattle.dh_syntax.specs.Imports.Keys.{key_eq, texts_before, digest_rank, query_rank, loc_rank, key_rank, key_le}

pub bool-case : (b : Bool) → (b ≡ true) ⊎ (b ≡ false)
bool-case true = inl refl
bool-case false = inr refl

pub true_false : {P : Type 0} {b : Bool} → b ≡ true → b ≡ false → P
true_false h k = cc

abbrev pub IsSomething : {A : Type 0} → Option A → Type 0
IsSomething None = ⊥
IsSomething (Some a) = Unit {0}

pub none-some : {A : Type 0} {P : Type 0} {x : Option A} {a : A} → x ≡ None → x ≡ Some a → P
none-some h k = cc

pub some-equal : {A : Type 0} {a b : A} → Some a ≡ Some b → a ≡ b
some-equal {A = A} {a = a} h = ap (λ (x : Option A). elim x [ None ↦ a | Some c ↦ c ]) h

-- ---- equality

pub mode_eq-itself : (m : Mode) → mode_eq m m ≡ true
mode_eq-itself modes.Code = refl
mode_eq-itself modes.Text = refl
mode_eq-itself modes.Location = refl

pub mode_eq-true : (m n : Mode) → mode_eq m n ≡ true → m ≡ n
mode_eq-true modes.Code modes.Code h = refl
mode_eq-true modes.Text modes.Text h = refl
mode_eq-true modes.Location modes.Location h = refl
mode_eq-true modes.Code modes.Text h = cc
mode_eq-true modes.Code modes.Location h = cc
mode_eq-true modes.Text modes.Code h = cc
mode_eq-true modes.Text modes.Location h = cc
mode_eq-true modes.Location modes.Code h = cc
mode_eq-true modes.Location modes.Text h = cc

digest_option-itself : (d : Option Digest) → option_eq digest_eq d d ≡ true
digest_option-itself None = refl
digest_option-itself (Some d) = digests_tell.itself d

digest_option-true : (d e : Option Digest) → option_eq digest_eq d e ≡ true → d ≡ e
digest_option-true None None h = refl
digest_option-true (Some d) (Some e) h = ap (λ (x : Digest). Some x) (digests_tell.equal d e h)
digest_option-true None (Some e) h = cc
digest_option-true (Some d) None h = cc

and3 : (a b c : Bool) → a ≡ true → b ≡ true → c ≡ true → a && b && c ≡ true
and3 a b c p q r = rw (p, q, r) refl

pub key_eq-itself : (k : Key) → key_eq k k ≡ true
key_eq-itself k = and3 _ _ _ (locs_tell.itself k.loc) (mode_eq-itself k.mode) (digest_option-itself k.digest)

keys-equal : (j k : Key) → j.loc ≡ k.loc → j.mode ≡ k.mode → j.digest ≡ k.digest → j ≡ k
keys-equal j k p q r = λ i. record { loc = p i; mode = q i; digest = r i }

pub key_eq-true : (j k : Key) → key_eq j k ≡ true → j ≡ k
key_eq-true j k h =
    keys-equal j k
    (locs_tell.equal j.loc k.loc (and-true_left _ _ (and-true_left _ _ h)))
    (mode_eq-true j.mode k.mode (and-true_right _ _ (and-true_left _ _ h)))
    (digest_option-true j.digest k.digest (and-true_right _ _ h))

pub key_eq-false : (j k : Key) → key_eq j k ≡ false → ¬ (j ≡ k)
key_eq-false j k h p = true_false (subst (λ x. key_eq j x ≡ true) p (key_eq-itself j)) h

-- ---- order

texts_irreflexive : (x : List (List ℕ)) → texts_before x x ≡ false
texts_irreflexive [] = refl
texts_irreflexive (a ∷ x) = rw (before_irreflexive a, bytes_eq-itself a, texts_irreflexive x) refl

or-cases : (a b : Bool) → a || b ≡ true → (a ≡ true) ⊎ (b ≡ true)
or-cases true b h = inl refl
or-cases false b h = inr h

or-left : (a b : Bool) → a ≡ true → a || b ≡ true
or-left a b h = rw h refl

or-none : (a b : Bool) → a || b ≡ false → (a ≡ false) × (b ≡ false)
or-none true b h = cc
or-none false b h = (refl, h)

or-right : (a b : Bool) → b ≡ true → a || b ≡ true
or-right true b h = refl
or-right false b h = h

and-both : (a b : Bool) → a ≡ true → b ≡ true → a && b ≡ true
and-both a b p q = rw (p, q) refl

and-second : (a b : Bool) → a ≡ true → a && b ≡ false → b ≡ false
and-second true b h k = k
and-second false b h k = cc

texts-transitive : (x y z : List (List ℕ)) → texts_before x y ≡ true → texts_before y z ≡ true → texts_before x z ≡ true
texts-transitive [] [] z h k = cc
texts-transitive [] (b ∷ y) [] h k = cc
texts-transitive [] (b ∷ y) (c ∷ z) h k = refl
texts-transitive (a ∷ x) [] z h k = cc
texts-transitive (a ∷ x) (b ∷ y) [] h k = cc
texts-transitive (a ∷ x) (b ∷ y) (c ∷ z) h k =
    go (or-cases _ _ h) (or-cases _ _ k) (λ p q. texts-transitive x y z p q)
  where
    go : (before a b ≡ true) ⊎ (bytes_eq a b && texts_before x y ≡ true) → (before b c ≡ true) ⊎ (bytes_eq b c && texts_before y z ≡ true)
        → (texts_before x y ≡ true → texts_before y z ≡ true → texts_before x z ≡ true) → before a c || (bytes_eq a c && texts_before x z) ≡ true
    go (inl p) (inl q) r = or-left _ _ (before-transitive a b c p q)
    go (inl p) (inr q) r = or-left _ _ (subst (λ t. before a t ≡ true) (bytes_eq-true b c (and-true_left _ _ q)) p)
    go (inr p) (inl q) r = or-left _ _ (subst (λ t. before t c ≡ true) (sym (bytes_eq-true a b (and-true_left _ _ p))) q)
    go (inr p) (inr q) r =
        or-right _ _ (and-both _ _
        (subst (λ t. bytes_eq a t ≡ true) (bytes_eq-true b c (and-true_left _ _ q)) (and-true_left _ _ p))
        (r (and-true_right _ _ p) (and-true_right _ _ q)))

texts-total : (x y : List (List ℕ)) → texts_before x y ≡ false → texts_before y x ≡ false → x ≡ y
texts-total [] [] h k = refl
texts-total [] (b ∷ y) h k = cc
texts-total (a ∷ x) [] h k = cc
texts-total (a ∷ x) (b ∷ y) h k =
    let p = before-total a b (or-none _ _ h).0 (or-none _ _ k).0 in
    let e : bytes_eq a b ≡ true = subst (λ t. bytes_eq a t ≡ true) p (bytes_eq-itself a) in
    let e' : bytes_eq b a ≡ true = subst (λ t. bytes_eq t a ≡ true) p (bytes_eq-itself a) in
    let l : texts_before x y ≡ false = and-second _ _ e (or-none _ _ h).1 in
    let m : texts_before y x ≡ false = and-second _ _ e' (or-none _ _ k).1 in
    let q = texts-total x y l m in
    λ i. p i ∷ q i

-- ---- ranks

abbrev head_text : List (List ℕ) → List ℕ
head_text [] = []
head_text (a ∷ x) = a

abbrev rest_texts : List (List ℕ) → List (List ℕ)
rest_texts [] = []
rest_texts (a ∷ x) = x

abbrev digest_back : List ℕ → Option Digest
digest_back [] = None
digest_back (z ∷ x) = Some (record { 0 = x })

abbrev query_back : List ℕ → Option (List ℕ)
query_back [] = None
query_back (z ∷ x) = Some x

digest-back : (d : Option Digest) → digest_back (digest_rank d) ≡ d
digest-back None = refl
digest-back (Some d) = refl

query-back : (q : Option (List ℕ)) → query_back (query_rank q) ≡ q
query-back None = refl
query-back (Some q) = refl

abbrev url_back : List (List ℕ) → Url
url_back xs = record { host = head_text xs; comps = rest_texts (rest_texts xs); query = query_back (head_text (rest_texts xs)) }

abbrev tag_of : List ℕ → ℕ
tag_of [] = 0
tag_of (n ∷ ns) = n

abbrev by_tag : ℕ → List (List ℕ) → Loc
by_tag zero cs = locs.Abs cs
by_tag (suc zero) cs = locs.Here cs
by_tag (suc (suc zero)) cs = locs.Parent cs
by_tag (suc (suc (suc zero))) cs = locs.Home cs
by_tag (suc (suc (suc (suc zero)))) cs = locs.Http (url_back cs)
by_tag (suc (suc (suc (suc (suc zero))))) cs = locs.Https (url_back cs)
by_tag (suc (suc (suc (suc (suc (suc zero)))))) cs = locs.Env (head_text cs)
by_tag (suc (suc (suc (suc (suc (suc (suc n))))))) cs = locs.Missing

abbrev loc_back : List (List ℕ) → Loc
loc_back xs = by_tag (tag_of (head_text xs)) (rest_texts xs)

url-back : (u : Url) → url_back (u.host ∷ query_rank u.query ∷ u.comps) ≡ u
url-back u = ap (λ (q : Option (List ℕ)). record { host = u.host; comps = u.comps; query = q }) (query-back u.query)

loc-back : (l : Loc) → loc_back (loc_rank l) ≡ l
loc-back (locs.Abs cs) = refl
loc-back (locs.Here cs) = refl
loc-back (locs.Parent cs) = refl
loc-back (locs.Home cs) = refl
loc-back (locs.Http u) = ap (λ (x : Url). locs.Http x) (url-back u)
loc-back (locs.Https u) = ap (λ (x : Url). locs.Https x) (url-back u)
loc-back (locs.Env x) = refl
loc-back locs.Missing = refl

abbrev mode_back : List ℕ → Mode
mode_back [] = modes.Code
mode_back (zero ∷ ns) = modes.Code
mode_back (suc zero ∷ ns) = modes.Text
mode_back (suc (suc n) ∷ ns) = modes.Location

mode-back : (m : Mode) → mode_back (mode_code m ∷ []) ≡ m
mode-back modes.Code = refl
mode-back modes.Text = refl
mode-back modes.Location = refl

abbrev key_back : List (List ℕ) → Key
key_back xs = record {
  loc = loc_back (rest_texts (rest_texts (rest_texts xs)));
  mode = mode_back (head_text (rest_texts xs));
  digest = digest_back (head_text (rest_texts (rest_texts xs)));
}

key-back : (k : Key) → key_back (key_rank k) ≡ k
key-back k = keys-equal _ k (loc-back k.loc) (mode-back k.mode) (digest-back k.digest)

not-true : (b : Bool) → not b ≡ true → b ≡ false
not-true false h = refl
not-true true h = cc

not-false : (b : Bool) → not b ≡ false → b ≡ true
not-false true h = refl
not-false false h = cc

false-not : (b : Bool) → b ≡ false → not b ≡ true
false-not b h = rw h refl

pub key_le-total : (j k : Key) → (key_le j k ≡ true) ⊎ (key_le k j ≡ true)
key_le-total j k = go (bool-case (texts_before (key_rank k) (key_rank j))) (bool-case (texts_before (key_rank j) (key_rank k)))
  where
    go : (texts_before (key_rank k) (key_rank j) ≡ true) ⊎ (texts_before (key_rank k) (key_rank j) ≡ false)
        → (texts_before (key_rank j) (key_rank k) ≡ true) ⊎ (texts_before (key_rank j) (key_rank k) ≡ false)
        → (key_le j k ≡ true) ⊎ (key_le k j ≡ true)
    go (inr p) q = inl (false-not (texts_before (key_rank k) (key_rank j)) p)
    go (inl p) (inr q) = inr (false-not (texts_before (key_rank j) (key_rank k)) q)
    go (inl p) (inl q) = true_false (texts-transitive (key_rank k) (key_rank j) (key_rank k) p q) (texts_irreflexive (key_rank k))

pub key_le-itself : (k : Key) → key_le k k ≡ true
key_le-itself k = false-not _ (texts_irreflexive (key_rank k))

pub key_le-antisymmetric : (j k : Key) → key_le j k ≡ true → key_le k j ≡ true → j ≡ k
key_le-antisymmetric j k p q =
    let e : key_rank j ≡ key_rank k = texts-total (key_rank j) (key_rank k) (not-true _ q) (not-true _ p) in
    sym (key-back j) ∙ ap key_back e ∙ key-back k

pub key_le-transitive : (i j k : Key) → key_le i j ≡ true → key_le j k ≡ true → key_le i k ≡ true
key_le-transitive i j k p q = go (bool-case (texts_before (key_rank k) (key_rank i))) (bool-case (texts_before (key_rank i) (key_rank j)))
  where
    go : (texts_before (key_rank k) (key_rank i) ≡ true) ⊎ (texts_before (key_rank k) (key_rank i) ≡ false)
        → (texts_before (key_rank i) (key_rank j) ≡ true) ⊎ (texts_before (key_rank i) (key_rank j) ≡ false) → key_le i k ≡ true
    go (inr a) b = false-not (texts_before (key_rank k) (key_rank i)) a
    go (inl a) (inl b) = true_false (texts-transitive (key_rank k) (key_rank i) (key_rank j) a b) (not-true (texts_before (key_rank k) (key_rank j)) q)
    go (inl a) (inr b) =
        let e : key_rank i ≡ key_rank j = texts-total (key_rank i) (key_rank j) b (not-true (texts_before (key_rank j) (key_rank i)) p) in
        true_false (subst (λ x. texts_before (key_rank k) x ≡ true) e a) (not-true (texts_before (key_rank k) (key_rank j)) q)
