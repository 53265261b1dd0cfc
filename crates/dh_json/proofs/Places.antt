-- The place that is answered where there is no value.
use Rattle.std.specs.Prelude.{◌≡◌, ◌<◌, ◌⊎◌, ℕ, zero, suc, ◌+◌, List, [], ◌∷◌, length, Option, Some, None, Result, Ok, Err, refl, ⊤}
use Rattle.std.proofs.Common.{inl, inr, sym, ◌∙◌, ap, subst, arith}
use Rattle.serde_json.specs.Data.{Data, Items, Members, item, put, array, object, no_members}
use Rattle.dh_syntax.specs.declared.expressions.Op.{Op}
use Rattle.dh_syntax.specs.Expressions.Arity.{AreWellFormed, IsWellFormed}
use Rattle.dh_syntax.specs.Expressions.Rows.{row_length}
use Rattle.dh_syntax.specs.Expressions.Tree.{Row, Leaf, Node, Var, Name, Term, kid, end}
use Rattle.dh_json.specs.Inside.{HasParts}
use Rattle.dh_json.specs.JsonPlaces.{FitsNone, IsBefore, IsFirst, Names, Reaches, part}
use Rattle.dh_json.specs.JsonValue.{Answer, Case, Whole, Elements, Fields, Part, NoCase, answer_map, by_case, case_of, elements, from_part, json, jsons, members, part_at}
use Rattle.dh_json.proofs.Shapes.{has_parts}

abbrev path_of : {A : Type 0} → Result A (List ℕ) → List ℕ
path_of (Ok x) = []
path_of (Err p) = p

abbrev HasNone : {A : Type 0} → Result A (List ℕ) → Type 0
HasNone (Ok x) = ⊥
HasNone (Err p) = ⊤

abbrev IsSomeOf : Option Term → Type 0
IsSomeOf None = ⊥
IsSomeOf (Some e) = ⊤

abbrev some_or : Term → Option Term → Term
some_or d None = d
some_or d (Some e) = e

unsome : {t : Term} (e : Term) → Some e ≡ Some t → e ≡ t
unsome e h = ap (some_or e) h

abbrev HasValue : Term → Type 0
HasValue e = (d : Data) × (json e ≡ Ok d)

unmapped : {A B : Type 0} (f : A → B) (x : Result A (List ℕ)) (p : List ℕ) → answer_map f x ≡ Err p → x ≡ Err p
unmapped f (Ok a) p h = absurd (subst HasNone (sym h) tt)
unmapped f (Err q) p h = ap (λ y. Err (path_of y)) h

unmapped_value : {A B : Type 0} (f : A → B) (x : Result A (List ℕ)) (b : B) → answer_map f x ≡ Ok b → (a : A) × (x ≡ Ok a)
unmapped_value f (Ok a) b h = (a, refl)
unmapped_value f (Err q) b h = absurd (subst HasNone h tt)

-- ---- where there is a value, the parts that the case names have one

-- each part has a value
abbrev HaveValues : Row Var Name → Type 0
HaveValues r = (k : ℕ) (u : Term) → part k r ≡ Some u → HasValue u

have_values : (b : Option Name) (e : Term) (r : Row Var Name) (d : Data) → json e ≡ Ok d → HaveValues r → HaveValues (kid b e r)
have_values b e r d h f zero u l = (d, ap json (sym (unsome e l)) ∙ h)
have_values b e r d h f (suc k) u l = f k u l

no_parts : HaveValues end
no_parts k u l = absurd (subst IsSomeOf (sym l) tt)

element_values : (i : ℕ) (b : Option Name) (e : Term) (r : Row Var Name) (is : Items) (a : Answer) → json e ≡ a → ((js : Items) → elements (suc i) (jsons r) ≡ Ok js → HaveValues r) → elements i (a ∷ jsons r) ≡ Ok is → HaveValues (kid b e r)
element_values i b e r is (Err p) h f g = absurd (subst HasNone g tt)
element_values i b e r is (Ok d) h f g = let rest = unmapped_value (item d) (elements (suc i) (jsons r)) is g in have_values b e r d h (f rest.0 rest.1)

elements_values : (i : ℕ) (r : Row Var Name) (is : Items) → elements i (jsons r) ≡ Ok is → HaveValues r
elements_values i end is h = no_parts
elements_values i (kid b e r) is h = element_values i b e r is (json e) refl (elements_values (suc i) r) h

member_values : (i : ℕ) (x : Name) (xs : List Name) (ms : Members) (b : Option Name) (e : Term) (r : Row Var Name) (ns : Members) (a : Answer) → json e ≡ a
    → ((ms' ns' : Members) → members (suc i) xs ms' (jsons r) ≡ Ok ns' → HaveValues r) → members i (x ∷ xs) ms (a ∷ jsons r) ≡ Ok ns → HaveValues (kid b e r)
member_values i x xs ms b e r ns (Err p) h f g = absurd (subst HasNone g tt)
member_values i x xs ms b e r ns (Ok d) h f g = have_values b e r d h (f (put x d ms) ns g)

members_values : (i : ℕ) (xs : List Name) (r : Row Var Name) → row_length r ≡ length xs → (ms ns : Members) → members i xs ms (jsons r) ≡ Ok ns → HaveValues r
members_values i xs end l ms ns h = no_parts
members_values i [] (kid b e r) l ms ns h = absurd (omega (arith, l))
members_values i (x ∷ xs) (kid b e r) l ms ns h = member_values i x xs ms b e r ns (json e) refl (members_values (suc i) xs r (omega (arith, l))) h

from_value : (i : ℕ) (a : Answer) (d : Data) → from_part i a ≡ Ok d → a ≡ Ok d
from_value i (Ok e) d h = h
from_value i (Err p) d h = absurd (subst HasNone h tt)

-- the part n places on, whose number is i
part_value : (i n : ℕ) (r : Row Var Name) (d : Data) (u : Term) → part_at i n (jsons r) ≡ Ok d → part n r ≡ Some u → HasValue u
part_value i n end d u h l = absurd (subst IsSomeOf (sym l) tt)
part_value i zero (kid b e r) d u h l = (d, ap json (sym (unsome e l)) ∙ from_value i (json e) d h)
part_value i (suc n) (kid b e r) d u h l = part_value i n r d u h l

case_values : (r : Row Var Name) (d : Data) (c : Case) → HasParts c r → by_case c (jsons r) ≡ Ok d → (k : ℕ) (u : Term) → Names c k → part k r ≡ Some u → HasValue u
case_values r d (Whole e) l h k u n g = absurd n
case_values r d Elements l h k u n g = let all = unmapped_value array (elements 0 (jsons r)) d h in elements_values 0 r all.0 all.1 k u g
case_values r d (Fields xs) l h k u n g = let all = unmapped_value object (members 0 xs no_members (jsons r)) d h in members_values 0 xs r l.0 no_members all.0 all.1 k u g
case_values r d (Part i) l h k u n g = part_value i i r d u h (subst (λ m. part m r ≡ Some u) n g)
case_values r d NoCase l h k u n g = absurd n

has_case : (op : Op) (r : Row Var Name) (d : Data) (t : Term) → json (Node op r) ≡ Ok d → Node op r ≡ t → FitsNone t → ⊥
has_case op r d t h e f = subst HasNone (ap (λ c. by_case c (jsons r)) (sym (subst FitsNone (sym e) f)) ∙ h) tt

mutual
  pub value_cases : (e : Term) (d : Data) → IsWellFormed e → json e ≡ Ok d → (q : List ℕ) (t : Term) → Reaches e q t → FitsNone t → ⊥
  value_cases (Leaf v) d w h q t g f = subst HasNone h tt
  value_cases (Node op r) d w h [] t g f = has_case op r d t h g f
  value_cases (Node op r) d w h (k ∷ q) t g f = let v = case_values r d (case_of op r) (has_parts op r w.0) h k g.0 g.2 g.1 in values_cases r w.1 k g.0 g.1 v.0 v.1 q t g.3 f

  values_cases : (r : Row Var Name) → AreWellFormed r → (k : ℕ) (u : Term) → part k r ≡ Some u → (d : Data) → json u ≡ Ok d → (q : List ℕ) (t : Term) → Reaches u q t → FitsNone t → ⊥
  values_cases end w k u l d h q t g f = subst IsSomeOf (sym l) tt
  values_cases (kid b e r) w zero u l d h q t g f = let same = unsome e l in value_cases e d w.0 (ap json same ∙ h) q t (subst (λ x. Reaches x q t) (sym same) g) f
  values_cases (kid b e r) w (suc k) u l d h q t g f = values_cases r w.1 k u l d h q t g f

-- ---- where there is none, some part has none, and those before it that the case names have one

record Leads (N : ℕ → Type 0) (i : ℕ) (r : Row Var Name) (p : List ℕ) : Type 0 where
  number : ℕ
  t : Term
  q : List ℕ
  there : part number r ≡ Some t
  none : json t ≡ Err q
  is : p ≡ (i + number) ∷ q
  named : N number
  earlier : (j : ℕ) (u : Term) → j < number → N j → part j r ≡ Some u → HasValue u

-- each part is named
abbrev Each : ℕ → Type 0
Each k = ⊤

module _ (i : ℕ) (b : Option Name) (e : Term) (r : Row Var Name) (p : List ℕ) where
  valued : (d : Data) → json e ≡ Ok d → (n : ℕ) → ((j : ℕ) (u : Term) → j < n → Each j → part j r ≡ Some u → HasValue u) → (j : ℕ) (u : Term) → j < suc n → Each j → part j (kid b e r) ≡ Some u → HasValue u
  valued d h n f zero u l m g = (d, ap json (sym (unsome e g)) ∙ h)
  valued d h n f (suc j) u l m g = f j u (omega (arith, l)) tt g

  later_leads : (d : Data) → json e ≡ Ok d → Leads Each (suc i) r p → Leads Each i (kid b e r) p
  later_leads d h l = record { number = suc l.number; t = l.t; q = l.q; there = l.there; none = l.none; is = l.is ∙ ap (λ n. n ∷ l.q) (omega arith); named = tt; earlier = valued d h l.number l.earlier }

  first_leads : (q : List ℕ) → json e ≡ Err q → i ∷ q ≡ p → Leads Each i (kid b e r) p
  first_leads q h k = record { number = 0; t = e; q = q; there = refl; none = h; is = sym k ∙ ap (λ n. n ∷ q) (omega arith); named = tt; earlier = λ j u l m g. absurd (omega (arith, l)) }

elements_lead : (i : ℕ) (b : Option Name) (e : Term) (r : Row Var Name) (p : List ℕ) (a : Answer) → json e ≡ a → ((q : List ℕ) → elements (suc i) (jsons r) ≡ Err q → Leads Each (suc i) r q) → elements i (a ∷ jsons r) ≡ Err p → Leads Each i (kid b e r) p
elements_lead i b e r p (Ok d) h k g = later_leads i b e r p d h (k p (unmapped (item d) (elements (suc i) (jsons r)) p g))
elements_lead i b e r p (Err q) h k g = first_leads i b e r p q h (ap path_of g)

elements_leads : (i : ℕ) (r : Row Var Name) (p : List ℕ) → elements i (jsons r) ≡ Err p → Leads Each i r p
elements_leads i end p h = absurd (subst HasNone (sym h) tt)
elements_leads i (kid b e r) p h = elements_lead i b e r p (json e) refl (elements_leads (suc i) r) h

members_lead : (i : ℕ) (x : Name) (xs : List Name) (ms : Members) (b : Option Name) (e : Term) (r : Row Var Name) (p : List ℕ) (a : Answer) → json e ≡ a
    → ((ns : Members) (q : List ℕ) → members (suc i) xs ns (jsons r) ≡ Err q → Leads Each (suc i) r q) → members i (x ∷ xs) ms (a ∷ jsons r) ≡ Err p → Leads Each i (kid b e r) p
members_lead i x xs ms b e r p (Ok d) h k g = later_leads i b e r p d h (k (put x d ms) p g)
members_lead i x xs ms b e r p (Err q) h k g = first_leads i b e r p q h (ap path_of g)

members_leads : (i : ℕ) (xs : List Name) (ms : Members) (r : Row Var Name) (p : List ℕ) → members i xs ms (jsons r) ≡ Err p → Leads Each i r p
members_leads i [] ms r p h = absurd (subst HasNone (sym h) tt)
members_leads i (x ∷ xs) ms end p h = absurd (subst HasNone (sym h) tt)
members_leads i (x ∷ xs) ms (kid b e r) p h = members_lead i x xs ms b e r p (json e) refl (λ ns. members_leads (suc i) xs ns r) h

-- the part n places on, whose number is i, has no value
record IsWithout (i n : ℕ) (r : Row Var Name) (p : List ℕ) : Type 0 where
  t : Term
  q : List ℕ
  there : part n r ≡ Some t
  none : json t ≡ Err q
  is : p ≡ i ∷ q

without_first : (i : ℕ) (b : Option Name) (e : Term) (r : Row Var Name) (p : List ℕ) (a : Answer) → json e ≡ a → from_part i a ≡ Err p → IsWithout i 0 (kid b e r) p
without_first i b e r p (Ok d) h g = absurd (subst HasNone (sym g) tt)
without_first i b e r p (Err q) h g = record { t = e; q = q; there = refl; none = h; is = sym (ap path_of g) }

without : (i n : ℕ) (r : Row Var Name) (p : List ℕ) → n < row_length r → part_at i n (jsons r) ≡ Err p → IsWithout i n r p
without i n end p l h = absurd (omega (arith, l))
without i zero (kid b e r) p l h = without_first i b e r p (json e) refl h
without i (suc n) (kid b e r) p l h = let w = without i n r p (omega (arith, l)) h in record { t = w.t; q = w.q; there = w.there; none = w.none; is = w.is }

part_leads : (i : ℕ) (r : Row Var Name) (p : List ℕ) → IsWithout i i r p → Leads (λ k. k ≡ i) 0 r p
part_leads i r p w = record { number = i; t = w.t; q = w.q; there = w.there; none = w.none; is = w.is ∙ ap (λ n. n ∷ w.q) (omega arith); named = refl; earlier = λ j u l m g. absurd (omega (arith, l, m)) }

-- the answer of a node, by its case
case_leads : (r : Row Var Name) (p : List ℕ) (c : Case) → HasParts c r → by_case c (jsons r) ≡ Err p → ((c ≡ NoCase) × (p ≡ [])) ⊎ Leads (Names c) 0 r p
case_leads r p (Whole d) l h = absurd (subst HasNone (sym h) tt)
case_leads r p Elements l h = inr (elements_leads 0 r p (unmapped array (elements 0 (jsons r)) p h))
case_leads r p (Fields xs) l h = inr (members_leads 0 xs no_members r p (unmapped object (members 0 xs no_members (jsons r)) p h))
case_leads r p (Part i) l h = inr (part_leads i r p (without i i r p l h))
case_leads r p NoCase l h = inl (refl, sym (ap path_of h))

-- ---- the first place

first_here : (e : Term) → FitsNone e → IsFirst e []
first_here e f = record { none = (e, refl, f); first = λ q t b g h. b }

names_none : (c : Case) (k : ℕ) → c ≡ NoCase → Names c k → ⊥
names_none c k e n = subst (λ d. Names d k) e n

below_first : (op : Op) (r : Row Var Name) → AreWellFormed r → (k : ℕ) (u : Term) (p : List ℕ) → part k r ≡ Some u → Names (case_of op r) k → IsFirst u p
    → ((j : ℕ) (v : Term) → j < k → Names (case_of op r) j → part j r ≡ Some v → HasValue v)
    → (q : List ℕ) (t : Term) → IsBefore q (k ∷ p) → Reaches (Node op r) q t → FitsNone t → ⊥
below_first op r w k u p l n i f [] t b g h = names_none (case_of op r) k (subst FitsNone (sym g) h) n
below_first op r w k u p l n i f (j ∷ q) t (inl b) g h = let v = f j g.0 b g.2 g.1 in values_cases r w j g.0 g.1 v.0 v.1 q t g.3 h
below_first op r w k u p l n i f (j ∷ q) t (inr b) g h = i.first q t b.1 (subst (λ x. Reaches x q t) (unsome g.0 (sym g.1 ∙ ap (λ m. part m r) b.0 ∙ l)) g.3) h

first_below : (op : Op) (r : Row Var Name) (p : List ℕ) → AreWellFormed r → (l : Leads (Names (case_of op r)) 0 r p) → IsFirst l.t l.q → IsFirst (Node op r) p
first_below op r p w l i =
    subst (IsFirst (Node op r)) (sym (l.is ∙ ap (λ n. n ∷ l.q) (omega arith)))
    (record { none = (i.none.0, (l.t, l.there, l.named, i.none.1), i.none.2); first = below_first op r w l.number l.t l.q l.there l.named i l.earlier })

first_by : (op : Op) (r : Row Var Name) (p : List ℕ) → AreWellFormed r → ((k : ℕ) (t : Term) (q : List ℕ) → part k r ≡ Some t → json t ≡ Err q → IsFirst t q) → ((case_of op r ≡ NoCase) × (p ≡ [])) ⊎ Leads (Names (case_of op r)) 0 r p → IsFirst (Node op r) p
first_by op r p w f (inl k) = subst (IsFirst (Node op r)) (sym k.1) (first_here (Node op r) k.0)
first_by op r p w f (inr l) = first_below op r p w l (f l.number l.t l.q l.there l.none)

mutual
  pub fault_first : (e : Term) (p : List ℕ) → IsWellFormed e → json e ≡ Err p → IsFirst e p
  fault_first (Leaf v) p w h = subst (IsFirst (Leaf v)) (ap path_of h) (first_here (Leaf v) tt)
  fault_first (Node op r) p w h = first_by op r p w.1 (faults_first r w.1) (case_leads r p (case_of op r) (has_parts op r w.0) h)

  faults_first : (r : Row Var Name) → AreWellFormed r → (k : ℕ) (t : Term) (q : List ℕ) → part k r ≡ Some t → json t ≡ Err q → IsFirst t q
  faults_first end w k t q h g = absurd (subst IsSomeOf (sym h) tt)
  faults_first (kid b e r) w zero t q h g = subst (λ x. IsFirst x q) (unsome e h) (fault_first e q w.0 (ap json (unsome e h) ∙ g))
  faults_first (kid b e r) w (suc k) t q h g = faults_first r w.1 k t q h g
