-- What a pass finds by what it has seen.
use Rattle.std.proofs.Common.{◌≡◌, ℕ, zero, suc, ◌+◌, ◌<◌, ◌≤◌, Bool, true, false, List, [], ◌∷◌, length, map, set, ◌-◌, arith, refl, sym, ◌∙◌, ap, subst, get_or, if◌then◌else◌}
use Rattle.std.proofs.Common.{inl, inr}
use Rattle.std.proofs.lemmas.Bool.{cases_lt}
use Rattle.std.proofs.lemmas.List.{get_or-map, get_or-set_same, get_or_past, set-get_or, map-set, length-map}
use Rattle.std.specs.Prelude.{◌⊎◌, Option, Some, None}
use Rattle.dh_syntax.specs.declared.locations.Digest.{Digest}
use Rattle.dh_syntax.specs.Expressions.SameTree.{digest_eq}
use Rattle.dh_syntax.proofs.SameTree.{digests_tell}
use Rattle.dh_record.specs.Entries.{EntryParts}
use Rattle.dh_shelf.specs.Inside.{IsSame}
use Rattle.dh_shelf.specs.Shelves.{finds, finds_from, or_further, seen_at, slot_of, most_probes, Agree, GaveOthers, Grows, HasGap, IsFull, IsOther, Stays}

abbrev pub Seen : Type 0
Seen = List (Option EntryParts)

abbrev IsNoneOf : Option EntryParts → Type 0
IsNoneOf None = Unit {0}
IsNoneOf (Some e) = ⊥

-- ---- what was seen stays

pub stays_itself : (o : Option EntryParts) → Stays o o
stays_itself None = tt
stays_itself (Some e) = refl

pub stays_on : (a b c : Option EntryParts) → Stays a b → Stays b c → Stays a c
stays_on None b c h k = tt
stays_on (Some e) b c h k = subst (λ x. Stays x c) h k

pub grows_itself : (s : Seen) → Grows s s
grows_itself s at = stays_itself (seen_at s at)

pub grows_on : (a b c : Seen) → Grows a b → Grows b c → Grows a c
grows_on a b c h k at = stays_on (seen_at a at) (seen_at b at) (seen_at c at) (h at) (k at)

other_stays : (d : Digest) (a b : Option EntryParts) → Stays a b → IsOther d a → IsOther d b
other_stays d None b h k = elim k [ ]
other_stays d (Some e) b h k = subst (IsOther d) (sym h) k

pub others_stay : (n : ℕ) (a b : Seen) (d : Digest) → Grows a b → GaveOthers n a d → GaveOthers n b d
others_stay n a b d h k i p = other_stays d (seen_at a (slot_of d i)) (seen_at b (slot_of d i)) (h (slot_of d i)) (k i p)

pub grows_set : (s : Seen) (at : ℕ) (o : Option EntryParts) → Stays (seen_at s at) o → Grows s (set s at o)
grows_set [] at o h i = stays_itself (seen_at [] i)
grows_set (x ∷ s) zero o h zero = h
grows_set (x ∷ s) zero o h (suc i) = stays_itself (seen_at s i)
grows_set (x ∷ s) (suc at) o h zero = stays_itself x
grows_set (x ∷ s) (suc at) o h (suc i) = grows_set s at o h i

-- what is seen of notes, one of which gives way to another
pub seen_set : {A : Type 0} (f : A → Option EntryParts) (ns : List A) (at k : ℕ) (n : A) → length ns ≡ k → at < k → f n ≡ seen_at (map f (set ns at n)) at
seen_set f ns at k n e h =
    sym (ap (λ s. seen_at s at) (map-set f ns at n) ∙ get_or-set_same (map f ns) at (f n) None (subst (λ m. at < m) (sym (length-map ns f ∙ e)) h))

pub seen_here : {A : Type 0} (f : A → Option EntryParts) (ns : List A) (at k : ℕ) (n : A) → length ns ≡ k → at < k → n ≡ get_or ns at n → f n ≡ seen_at (map f ns) at
seen_here f ns at k n e h a = ap f a ∙ sym (get_or-map f ns at n None (subst (λ m. at < m) (sym e) h))

pub grows_by_note : {A : Type 0} (f : A → Option EntryParts) (ns : List A) (at k : ℕ) (m n : A) → length ns ≡ k → at < k → m ≡ get_or ns at m → Stays (f m) (f n) → Grows (map f ns) (map f (set ns at n))
grows_by_note f ns at k m n e h a w =
    subst (Grows (map f ns)) (sym (map-set f ns at n))
    (grows_set (map f ns) at (f n) (subst (λ o. Stays o (f n)) (sym (get_or-map f ns at m None (subst (λ j. at < j) (sym e) h) ∙ ap f (sym a))) w))

-- ---- what the probes find

one_other : (d : Digest) (o further : Option EntryParts) → IsOther d o → or_further d o further ≡ further
one_other d None further h = elim h [ ]
one_other d (Some e) further h = rw h refl

-- probes that gave other digests are passed over
passed : (k n t i j : ℕ) (s : Seen) (d : Digest) → t ≡ k + n → j ≡ i + k → ((m : ℕ) → m < k → IsOther d (seen_at s (slot_of d (i + m)))) → finds_from t i s d ≡ finds_from n j s d
passed zero n t i j s d a b h = ap (λ x. finds_from x i s d) (omega arith) ∙ ap (λ x. finds_from n x s d) (omega arith)
passed (suc k) n t i j s d a b h =
    ap (λ x. finds_from x i s d) (let e : t ≡ suc (k + n) = omega arith in e)
    ∙ one_other d (seen_at s (slot_of d i)) (finds_from (k + n) (suc i) s d) (subst (λ m. IsOther d (seen_at s (slot_of d m))) (omega arith) (h 0 (omega arith)))
    ∙ passed k n (k + n) (suc i) j s d refl (omega arith) (λ m p. subst (λ x. IsOther d (seen_at s (slot_of d x))) (omega arith) (h (suc m) (omega arith)))

finds_is : (s : Seen) (d : Digest) → finds s d ≡ finds_from most_probes 0 s d
unfolding finds
finds_is s d = refl

-- what is found where the first n probes gave other digests
found_after : (n m : ℕ) (s : Seen) (d : Digest) → most_probes ≡ n + suc m → GaveOthers n s d → finds s d ≡ or_further d (seen_at s (slot_of d n)) (finds_from m (suc n) s d)
found_after n m s d e h = finds_is s d ∙ passed n (suc m) most_probes 0 n s d e (omega arith) (λ j p. subst (λ x. IsOther d (seen_at s (slot_of d x))) (omega arith) (h j p))

rest_of : (n : ℕ) → n < most_probes → (m : ℕ) × (most_probes ≡ n + suc m)
rest_of n p = (most_probes - suc n, omega arith)

one_same : (d : Digest) (o further : Option EntryParts) (e : EntryParts) → o ≡ Some e → digest_eq e.digest d ≡ true → or_further d o further ≡ Some e
one_same d o further e h k = ap (λ x. or_further d x further) h ∙ (rw k refl)

pub finds_one : (n : ℕ) (s : Seen) (d : Digest) (e : EntryParts) → n < most_probes → GaveOthers n s d → seen_at s (slot_of d n) ≡ Some e → digest_eq e.digest d ≡ true → finds s d ≡ Some e
finds_one n s d e p h a k = let r = rest_of n p in found_after n r.0 s d r.1 h ∙ one_same d (seen_at s (slot_of d n)) (finds_from r.0 (suc n) s d) e a k

pub finds_none : (s : Seen) (d : Digest) → HasGap s d → finds s d ≡ None
finds_none s d g = let r = rest_of g.0 g.1 in found_after g.0 r.0 s d r.1 g.2 ∙ ap (λ x. or_further d x (finds_from r.0 (suc g.0) s d)) g.3

pub finds_no_more : (s : Seen) (d : Digest) → IsFull s d → finds s d ≡ None
finds_no_more s d h = finds_is s d ∙ passed most_probes 0 most_probes 0 most_probes s d (omega arith) (omega arith) (λ j p. subst (λ x. IsOther d (seen_at s (slot_of d x))) (omega arith) (h j p))

-- ---- what is found stays found

further_stays : (d : Digest) (a b x y : Option EntryParts) (e : EntryParts) → Stays a b → (x ≡ Some e → y ≡ Some e) → or_further d a x ≡ Some e → or_further d b y ≡ Some e
further_stays d None b x y e h k p = absurd (subst IsNoneOf p tt)
further_stays d (Some f) b x y e h k p = ap (λ o. or_further d o y) h ∙ by_test (digest_eq f.digest d) p
  where
    by_test : (t : Bool) → (if t then Some f else x) ≡ Some e → (if t then Some f else y) ≡ Some e
    by_test true q = q
    by_test false q = k q

from_stays : (n i : ℕ) (a b : Seen) (d : Digest) (e : EntryParts) → Grows a b → finds_from n i a d ≡ Some e → finds_from n i b d ≡ Some e
from_stays zero i a b d e h p = p
from_stays (suc n) i a b d e h p =
    further_stays d (seen_at a (slot_of d i)) (seen_at b (slot_of d i)) (finds_from n (suc i) a d) (finds_from n (suc i) b d) e (h (slot_of d i)) (from_stays n (suc i) a b d e h) p

pub finds_stays : (a b : Seen) (d : Digest) (e : EntryParts) → Grows a b → finds a d ≡ Some e → finds b d ≡ Some e
finds_stays a b d e h p = finds_is b d ∙ from_stays most_probes 0 a b d e h (sym (finds_is a d) ∙ p)

none_before : (o p : Option EntryParts) → ((e : EntryParts) → o ≡ Some e → p ≡ Some e) → p ≡ None → o ≡ None
none_before None p h q = refl
none_before (Some e) p h q = absurd (subst IsNoneOf (sym q ∙ h e refl) tt)

pub finds_none_before : (a b : Seen) (d : Digest) → Grows a b → finds b d ≡ None → finds a d ≡ None
finds_none_before a b d h q = none_before (finds a d) (finds b d) (λ e p. finds_stays a b d e h p) q

-- ---- probes in turn

-- the probes of d up to the n-th were made by a pass of this shelf, and gave other digests
pub record Went (shelf cells : List ℕ) (before after : Seen) (d : Digest) (n : ℕ) : Type 0 where
  pub of_this : cells ≡ shelf
  pub keeps : Grows before after
  pub others : GaveOthers n after d

pub went_first : (shelf cells : List ℕ) (s : Seen) (d : Digest) → cells ≡ shelf → Went shelf cells s s d 0
went_first shelf cells s d e = record { of_this = e; keeps = grows_itself s; others = λ i p. absurd (omega arith) }

one_more : (n : ℕ) (s : Seen) (d : Digest) → GaveOthers n s d → IsOther d (seen_at s (slot_of d n)) → GaveOthers (n + 1) s d
one_more n s d h k i p = by_order (cases_lt i n)
  where
    by_order : (i < n) ⊎ (n ≤ i) → IsOther d (seen_at s (slot_of d i))
    by_order (inl q) = h i q
    by_order (inr q) = subst (λ m. IsOther d (seen_at s (slot_of d m))) (omega arith) k

module _ (shelf cells cells' : List ℕ) (before after after' : Seen) (d : Digest) (n : ℕ) (w : Went shelf cells before after d n) (e : cells' ≡ cells) (g : Grows after after') where
  pub went_on : IsOther d (seen_at after' (slot_of d n)) → Went shelf cells' before after' d (n + 1)
  went_on h = record { of_this = e ∙ w.of_this; keeps = grows_on before after after' w.keeps g; others = one_more n after' d (others_stay n after after' d g w.others) h }

  pub went_still : GaveOthers n after' d
  went_still = others_stay n after after' d g w.others

  pub went_gap : n < most_probes → seen_at after' (slot_of d n) ≡ None → HasGap after' d
  went_gap p h = (n, p, went_still, h)

  pub went_one : (f : EntryParts) → n < most_probes → seen_at after' (slot_of d n) ≡ Some f → digest_eq f.digest d ≡ true → finds after' d ≡ Some f
  went_one f p h k = finds_one n after' d f p went_still h k

-- ---- two passes

agree_more : (a b : Seen) (n : ℕ) → ((at : ℕ) → at < n → Agree (seen_at a at) (seen_at b at)) → Agree (seen_at a n) (seen_at b n) → (at : ℕ) → at < n + 1 → Agree (seen_at a at) (seen_at b at)
agree_more a b n h k at p = by_order (cases_lt at n)
  where
    by_order : (at < n) ⊎ (n ≤ at) → Agree (seen_at a at) (seen_at b at)
    by_order (inl q) = h at q
    by_order (inr q) = subst (λ m. Agree (seen_at a m) (seen_at b m)) (omega arith) k

none_agrees : (o p : Option EntryParts) → o ≡ None → Agree o p
none_agrees o p h = subst (λ x. Agree x p) (sym h) tt

-- two lists of notes agree everywhere where they agree up to the end of the first
pub agree_all : (a b : Seen) (n : ℕ) → length a ≤ n → ((at : ℕ) → at < n → Agree (seen_at a at) (seen_at b at)) → (at : ℕ) → Agree (seen_at a at) (seen_at b at)
agree_all a b n l h at = by_order (cases_lt at n)
  where
    by_order : (at < n) ⊎ (n ≤ at) → Agree (seen_at a at) (seen_at b at)
    by_order (inl q) = h at q
    by_order (inr q) = none_agrees (seen_at a at) (seen_at b at) (get_or_past a at None (omega (arith, l, q)))

-- one more place at which they agree
pub agree_on : {A : Type 0} (f : A → Option EntryParts) (xs xs' ys ys' : List A) (i n : ℕ) (x y : A) → xs' ≡ xs → ys' ≡ ys → length xs ≡ n → length ys ≡ n → i < n → x ≡ get_or xs' i x → y ≡ get_or ys' i y → Agree (f x) (f y)
    → ((at : ℕ) → at < i → Agree (seen_at (map f xs) at) (seen_at (map f ys) at)) → (at : ℕ) → at < i + 1 → Agree (seen_at (map f xs) at) (seen_at (map f ys) at)
agree_on f xs xs' ys ys' i n x y ex ey lx ly p a b h k =
    agree_more (map f xs) (map f ys) i k
    (subst (λ o. Agree o (seen_at (map f ys) i)) (seen_here f xs i n x lx p (a ∙ ap (λ zs. get_or zs i x) ex)) (subst (Agree (f x)) (seen_here f ys i n y ly p (b ∙ ap (λ zs. get_or zs i y) ey)) h))

pub set_back : {A : Type 0} (xs ys : List A) (i : ℕ) (x y : A) → xs ≡ ys → x ≡ get_or xs i x → y ≡ x → set xs i y ≡ ys
set_back xs ys i x y e a h = ap (set xs i) (h ∙ a) ∙ set-get_or xs i x ∙ e

abbrev unsome : EntryParts → Option EntryParts → EntryParts
unsome e None = e
unsome e (Some x) = x

agree_by_test : (t : Bool) (x y e f : EntryParts) (o p : Option EntryParts) → x ≡ y → (o ≡ Some e → p ≡ Some f → e ≡ f) → (if t then Some x else o) ≡ Some e → (if t then Some y else p) ≡ Some f → e ≡ f
agree_by_test true x y e f o p same k u v = sym (ap (unsome e) u) ∙ same ∙ ap (unsome f) v
agree_by_test false x y e f o p same k u v = k u v

agree_further : (d : Digest) (a b o p : Option EntryParts) (e f : EntryParts) → Agree a b → (o ≡ Some e → p ≡ Some f → e ≡ f) → or_further d a o ≡ Some e → or_further d b p ≡ Some f → e ≡ f
agree_further d None b o p e f same k u v = absurd (subst IsNoneOf u tt)
agree_further d (Some x) None o p e f same k u v = absurd (subst IsNoneOf v tt)
agree_further d (Some x) (Some y) o p e f same k u v = agree_by_test (digest_eq x.digest d) x y e f o p same k u (subst (λ z. (if digest_eq z.digest d then Some y else p) ≡ Some f) (sym same) v)

agree_found : (n i : ℕ) (a b : Seen) (d : Digest) (e f : EntryParts) → ((at : ℕ) → Agree (seen_at a at) (seen_at b at)) → finds_from n i a d ≡ Some e → finds_from n i b d ≡ Some f → e ≡ f
agree_found zero i a b d e f h p q = absurd (subst IsNoneOf p tt)
agree_found (suc n) i a b d e f h p q =
    agree_further d (seen_at a (slot_of d i)) (seen_at b (slot_of d i)) (finds_from n (suc i) a d) (finds_from n (suc i) b d) e f (h (slot_of d i)) (agree_found n (suc i) a b d e f h) p q

pub agree_finds : (a b : Seen) (d : Digest) (e f : EntryParts) → ((at : ℕ) → Agree (seen_at a at) (seen_at b at)) → finds a d ≡ Some e → finds b d ≡ Some f → e ≡ f
agree_finds a b d e f h p q = agree_found most_probes 0 a b d e f h (sym (finds_is a d) ∙ p) (sym (finds_is b d) ∙ q)

-- ---- what one read or one offer comes to

-- what a get answers where a slot gave no value
pub gap_again : (before after : Seen) (d : Digest) → Grows before after → HasGap after d → (e : EntryParts) → finds before d ≡ Some e → None ≡ Some e
gap_again before after d g h e p = sym (finds_none after d h) ∙ finds_stays before after d e g p

-- and where all gave others
pub full_again : (before after : Seen) (d : Digest) → Grows before after → IsFull after d → (e : EntryParts) → finds before d ≡ Some e → None ≡ Some e
full_again before after d g h e p = sym (finds_no_more after d h) ∙ finds_stays before after d e g p

-- and where one gave an entry of the digest
same_is : (d : Digest) (o : Option EntryParts) → IsSame d o → (f : EntryParts) × (o ≡ Some f) × (digest_eq f.digest d ≡ true)
same_is d None h = elim h [ ]
same_is d (Some f) h = (f, refl, h)

module _ (shelf cells : List ℕ) (before mid after : Seen) (d : Digest) (n : ℕ) (w : Went shelf cells before mid d n) (g : Grows mid after) (p : n < most_probes) (e : EntryParts) (same : d ≡ e.digest) where
  pub took_slot : seen_at mid (slot_of d n) ≡ None → seen_at after (slot_of d n) ≡ Some e → (finds before e.digest ≡ None) × (finds after e.digest ≡ Some e)
  took_slot h k =
      subst (λ x. (finds before x ≡ None) × (finds after x ≡ Some e)) same
      (finds_none_before before mid d w.keeps (finds_none mid d (n, p, w.others, h)), finds_one n after d e p (others_stay n mid after d g w.others) k (subst (λ x. digest_eq x d ≡ true) same (digests_tell.itself d)))

  pub there_in_slot : IsSame e.digest (seen_at after (slot_of d n)) → (f : EntryParts) × (finds after e.digest ≡ Some f)
  there_in_slot h =
      let f = same_is e.digest (seen_at after (slot_of d n)) h in
      (f.0, subst (λ x. finds after x ≡ Some f.0) same (finds_one n after d f.0 p (others_stay n mid after d g w.others) f.1 (subst (λ x. digest_eq (f.0).digest x ≡ true) (sym same) f.2)))

pub one_again : (before after : Seen) (d : Digest) (f : EntryParts) → Grows before after → finds after d ≡ Some f → (e : EntryParts) → finds before d ≡ Some e → Some f ≡ Some e
one_again before after d f g h e p = sym h ∙ finds_stays before after d e g p
