-- What has variables of lower numbers alone, and the types of variables that have numbers.
use Rattle.std.specs.Prelude.{◌≡◌, ◌<◌, ◌≤◌, ◌+◌, ◌^◌, ℕ, zero, suc, nat_lt, Bool, true, false, map, List, [], ◌∷◌, length, Option, Some, None, option_map, if◌then◌else◌, refl}
use Rattle.std.proofs.Common.{ap, sym, ◌∙◌, arith}
use Rattle.std.proofs.lemmas.Bool.Decides.{nat_tests}
use Rattle.dh_syntax.specs.Expressions.Numbers.{eq}
use Rattle.dh_syntax.specs.Expressions.Tree.{Leaf, Name}
use Rattle.dh_syntax.specs.Names.Nameless.{Ref, Bound, Free, Core, lifted, past, renamed_ref, ren, sub, sub_ref, first}
use Rattle.dh_syntax.specs.Normalising.NamelessRuns.{ref_eq}
use Rattle.dh_syntax.specs.Typing.NamelessTyping.{nth_type, core_scopes}
use Rattle.dh_syntax.specs.Typing.Scopes.{Context, enter}
use Rattle.dh_syntax.proofs.Numbers.{eq-itself, eq-true}
use Rattle.dh_norm.specs.References.{Apart, lower, opened}
use Rattle.dh_norm.proofs.Opening.{opened-ren}
use Rattle.dh_types.specs.Closed.{IsClosed, IsClosedBelow}
use Rattle.dh_infer.specs.Inside.Levels.{past_number, past_level, moving, IsOf, IsOfBelow, AreOf, entering}
use Rattle.dh_infer.specs.Inside.OpenTyping.{level, level_type, type_at}
use Rattle.dh_infer.proofs.Agreeing.{leaf, past-same, fixed-more, fixed-ren, fixed-sub, puts-opened}
use Rattle.dh_infer.proofs.RenamedTyping.{LooksRenamed}

pub number-of : (x y : Name) (m n : ℕ) → Free x m ≡ Free y n → m ≡ n
number-of x y m n h = cc

pub bound-once : (i j : ℕ) → Bound i ≡ Bound j → i ≡ j
bound-once i j h = cc

no-next : {P : Type 0} (i : ℕ) → suc i ≡ i → P
no-next i h = absurd (omega arith)

-- ---- what a renaming of this kind does not change

pub fixed-number : (k m : ℕ) → past_number k m ≡ m → nat_lt m k ≡ true
fixed-number k m h = grind (arith, nat_tests)

pub low-number : (k m : ℕ) → nat_lt m k ≡ true → past_number k m ≡ m
low-number k m h = ap (λ b. if b then m else suc m) h

high-number : (k m : ℕ) → nat_lt m k ≡ false → past_number k m ≡ suc m
high-number k m h = ap (λ b. if b then m else suc m) h

lower-number : (i n m : ℕ) → i ≤ n → nat_lt m (i + 2 ^ 32) ≡ true → nat_lt m (n + 2 ^ 32) ≡ true
lower-number i n m l h = grind (arith, nat_tests)

-- variables of numbers below a lower one are of numbers below this one
more-levels : (i n : ℕ) → i ≤ n → (r : Ref) → (moving i).fun r ≡ r → (moving n).fun r ≡ r
more-levels i n l (Bound j) h = no-next j (bound-once (suc j) j h)
more-levels i n l (Free [] m) h = ap (Free []) (low-number (n + 2 ^ 32) m (lower-number i n m l (fixed-number (i + 2 ^ 32) m (number-of _ _ _ _ h))))
more-levels i n l (Free (b ∷ x) m) h = refl

pub of-more : (i n : ℕ) (e : Core) → i ≤ n → IsOf i e → IsOf n e
of-more i n e l h = fixed-more (moving i) (moving n) (more-levels i n l) e h

more-below : (i n : ℕ) → i ≤ n → (r : Ref) → (lower (moving i)).fun r ≡ r → (lower (moving n)).fun r ≡ r
more-below i n l (Bound zero) h = refl
more-below i n l (Bound (suc j)) h = no-next (suc j) (bound-once (suc (suc j)) (suc j) h)
more-below i n l (Free x m) h = ap past (more-levels i n l (Free x m) (past-same ((moving i).fun (Free x m)) (Free x m) h))

pub of_below-more : (i n : ℕ) (e : Core) → i ≤ n → IsOfBelow i e → IsOfBelow n e
of_below-more i n e l h = fixed-more (lower (moving i)) (lower (moving n)) (more-below i n l) e h

-- no variable of a binder above
kept-free : (n : ℕ) (f : ℕ → ℕ) (r : Ref) → (moving n).fun r ≡ r → r ≡ renamed_ref f r
kept-free n f (Bound j) h = no-next j (bound-once (suc j) j h)
kept-free n f (Free x m) h = refl

pub of-ren : (n : ℕ) (f : ℕ → ℕ) (e : Core) → IsOf n e → ren f e ≡ e
of-ren n f e h = fixed-ren (moving n) f (kept-free n f) e h

pub of-closed : (n : ℕ) (e : Core) → IsOf n e → IsClosed e
of-closed n e h = of-ren n (λ i. suc i) e h

-- the same below a binder
kept-below : (n : ℕ) (r : Ref) → (lower (moving n)).fun r ≡ r → r ≡ renamed_ref (lifted (λ i. suc i)) r
kept-below n (Bound zero) h = refl
kept-below n (Bound (suc j)) h = no-next (suc j) (bound-once (suc (suc j)) (suc j) h)
kept-below n (Free x m) h = refl

pub of_below-closed : (n : ℕ) (e : Core) → IsOfBelow n e → IsClosedBelow e
of_below-closed n e h = fixed-ren (lower (moving n)) (lifted (λ i. suc i)) (kept-below n) e h

unput : (n : ℕ) (a : ℕ → Core) (r : Ref) → (moving n).fun r ≡ r → leaf r ≡ sub_ref a r
unput n a (Bound j) h = no-next j (bound-once (suc j) j h)
unput n a (Free x m) h = refl

pub of-sub : (n : ℕ) (a : ℕ → Core) (e : Core) → IsOf n e → sub a e ≡ e
of-sub n a e h = fixed-sub (moving n) a (unput n a) e h

entered-still : (n : ℕ) (r : Ref) → (moving n).fun r ≡ r → (entering n).fun r ≡ r
entered-still n (Bound j) h = no-next j (bound-once (suc j) j h)
entered-still n (Free x m) h = h

pub of-entering : (n : ℕ) (e : Core) → IsOf n e → opened (entering n) e ≡ e
of-entering n e h = fixed-more (moving n) (entering n) (entered-still n) e h

-- the body of a binder, opened
entered-put : (n : ℕ) (r : Ref) → (lower (moving n)).fun r ≡ r → leaf ((entering n).fun r) ≡ sub_ref (first (Leaf (level n))) r
entered-put n (Bound zero) h = refl
entered-put n (Bound (suc j)) h = refl
entered-put n (Free x m) h = ap Leaf (past-same ((moving n).fun (Free x m)) (Free x m) h)

pub of-opened : (n : ℕ) (b : Core) → IsOfBelow n b → opened (entering n) b ≡ sub (first (Leaf (level n))) b
of-opened n b h = puts-opened (lower (moving n)) (entering n) (first (Leaf (level n))) (entered-put n) b h

-- ---- the types of variables that have numbers

pub not-this : (n m : ℕ) → (n ≡ m → ⊥) → eq n m ≡ false
not-this n m k = by (eq n m) refl
  where
    by : (b : Bool) → eq n m ≡ b → eq n m ≡ false
    by true h = absurd (k (eq-true n m h))
    by false h = h

pub level-type : (t : Core) (ts : List Core) → level_type (t ∷ ts) (level (length ts)) ≡ Some t
level-type t ts = ap (λ b. if b then Some t else level_type ts (level (length ts))) (eq-itself (length ts + 2 ^ 32))

pub named-none : (ts : List Core) (x : Name) (m b : ℕ) → level_type ts (Free (b ∷ x) m) ≡ None
named-none [] x m b = refl
named-none (t ∷ ts) x m b = named-none ts x m b

pub high-none : (ts : List Core) (m : ℕ) → length ts + 2 ^ 32 ≤ m → level_type ts (Free [] m) ≡ None
high-none [] m l = refl
high-none (t ∷ ts) m l =
    ap (λ b. if b then Some t else level_type ts (Free [] m)) (not-this (length ts + 2 ^ 32) m (λ e. omega arith)) ∙ high-none ts m (omega arith)

-- a renaming that changes no variable of a lower number than n
abbrev pub Spares : ℕ → Apart → Type 0
Spares n s = (r : Ref) → (moving n).fun r ≡ r → s.fun r ≡ r

moving-spares : (n : ℕ) → Spares n (moving n)
moving-spares n r h = h

entering-spares : (n : ℕ) → Spares n (entering n)
entering-spares n r h = entered-still n r h

-- the types of such variables are not changed
type-still : (n : ℕ) (s : Apart) → Spares n s → (ts : List Core) → length ts ≤ n → AreOf ts → (r : Ref) → option_map (opened s) (level_type ts r) ≡ level_type ts r
type-still n s k [] l a r = refl
type-still n s k (t ∷ ts) l a r =
    by (ref_eq (level (length ts)) r) (fixed-more (moving n) s k t (of-more (length ts) n t (omega arith) a.0)) (type-still n s k ts (omega arith) a.1 r)
  where
    by : (b : Bool) → opened s t ≡ t → option_map (opened s) (level_type ts r) ≡ level_type ts r
        → option_map (opened s) (if b then Some t else level_type ts r) ≡ (if b then Some t else level_type ts r)
    by true p q = ap Some p
    by false p q = q

past-high : (k m : ℕ) → k ≤ m → nat_lt m k ≡ false
past-high k m l = grind (arith, nat_tests)

high-of : (k m : ℕ) → nat_lt m k ≡ false → k ≤ m
high-of k m h = grind (arith, nat_tests)

pub low-of : (k m : ℕ) → nat_lt m k ≡ true → m < k
low-of k m h = grind (arith, nat_tests)

-- what follows where a number is low, and where it is not
by-number : {P : Type 0} (k m : ℕ) → (nat_lt m k ≡ true → P) → (nat_lt m k ≡ false → P) → P
by-number {P = P} k m yes' no' = by (nat_lt m k) refl
  where
    by : (b : Bool) → nat_lt m k ≡ b → P
    by true h = yes' h
    by false h = no' h

-- ---- the renamings keep the types of variables

-- among as many types
levels-moved : (s : Apart) (ts : List Core) → Spares (length ts) s → AreOf ts → (x : Name) (m : ℕ)
    → level_type ts (past_level (length ts) (Free x m)) ≡ option_map (opened s) (level_type ts (Free x m))
levels-moved s ts k a (b ∷ x) m = sym (type-still (length ts) s k ts (omega arith) a (Free (b ∷ x) m))
levels-moved s ts k a [] m =
    by-number (length ts + 2 ^ 32) m
    (λ h. ap (λ n. level_type ts (Free [] n)) (low-number (length ts + 2 ^ 32) m h) ∙ sym (type-still (length ts) s k ts (omega arith) a (Free [] m)))
    (λ h.
    let l = high-of (length ts + 2 ^ 32) m h in
    ap (λ n. level_type ts (Free [] n)) (high-number (length ts + 2 ^ 32) m h) ∙ high-none ts (suc m) (omega arith) ∙ sym (ap (option_map (opened s)) (high-none ts m l)))

-- and with one more type
levels-grown : (s : Apart) (t : Core) (ts : List Core) → Spares (length ts) s → AreOf ts → (x : Name) (m : ℕ)
    → level_type (t ∷ ts) (past_level (length ts) (Free x m)) ≡ option_map (opened s) (level_type ts (Free x m))
levels-grown s t ts k a (b ∷ x) m = sym (type-still (length ts) s k ts (omega arith) a (Free (b ∷ x) m))
levels-grown s t ts k a [] m =
    by-number (length ts + 2 ^ 32) m
    (λ h.
    let l = low-of (length ts + 2 ^ 32) m h in
    ap (λ n. level_type (t ∷ ts) (Free [] n)) (low-number (length ts + 2 ^ 32) m h)
    ∙ ap (λ b. if b then Some t else level_type ts (Free [] m)) (not-this (length ts + 2 ^ 32) m (λ e. omega arith))
    ∙ sym (type-still (length ts) s k ts (omega arith) a (Free [] m)))
    (λ h.
    let l = high-of (length ts + 2 ^ 32) m h in
    ap (λ n. level_type (t ∷ ts) (Free [] n)) (high-number (length ts + 2 ^ 32) m h)
    ∙ ap (λ b. if b then Some t else level_type ts (Free [] (suc m))) (not-this (length ts + 2 ^ 32) (suc m) (λ e. omega arith))
    ∙ high-none ts (suc m) (omega arith) ∙ sym (ap (option_map (opened s)) (high-none ts m l)))

pub moved-looks : (ts : List Core) → AreOf ts → LooksRenamed (type_at ts) (type_at ts) (moving (length ts)) [] []
moved-looks ts a (Bound i) = refl
moved-looks ts a (Free x m) = to-free x m ∙ levels-moved (moving (length ts)) ts (moving-spares (length ts)) a x m
  where
    to-free : (x : Name) (m : ℕ) → type_at ts [] (past_level (length ts) (Free x m)) ≡ level_type ts (past_level (length ts) (Free x m))
    to-free [] m = refl
    to-free (b ∷ x) m = refl

pub grown-looks : (t : Core) (ts : List Core) → AreOf ts → LooksRenamed (type_at (t ∷ ts)) (type_at ts) (moving (length ts)) [] []
grown-looks t ts a (Bound i) = refl
grown-looks t ts a (Free x m) = to-free x m ∙ levels-grown (moving (length ts)) t ts (moving-spares (length ts)) a x m
  where
    to-free : (x : Name) (m : ℕ) → type_at (t ∷ ts) [] (past_level (length ts) (Free x m)) ≡ level_type (t ∷ ts) (past_level (length ts) (Free x m))
    to-free [] m = refl
    to-free (b ∷ x) m = refl

pub entered-looks : (x : Name) (t : Core) (ts : List Core) → IsOf (length ts) t → AreOf ts
    → LooksRenamed (type_at (t ∷ ts)) (type_at ts) (entering (length ts)) [] (enter core_scopes x t [])
entered-looks x t ts h a (Bound zero) = level-type t ts ∙ ap Some (sym (ap (opened (entering (length ts))) (of-closed (length ts) t h) ∙ of-entering (length ts) t h))
entered-looks x t ts h a (Bound (suc i)) = refl
entered-looks x t ts h a (Free y m) = to-free y m ∙ levels-grown (entering (length ts)) t ts (entering-spares (length ts)) a y m
  where
    to-free : (x : Name) (m : ℕ) → type_at (t ∷ ts) [] (past_level (length ts) (Free x m)) ≡ level_type (t ∷ ts) (past_level (length ts) (Free x m))
    to-free [] m = refl
    to-free (b ∷ x) m = refl

-- ---- below one more binder

nth-map : (g : Core → Core) (c : Context Ref Name) (i : ℕ) → nth_type (map (λ (y, u). (y, g u)) c) i ≡ option_map g (nth_type c i)
nth-map g [] i = refl
nth-map g ((y, t) ∷ c) zero = refl
nth-map g ((y, t) ∷ c) (suc i) = nth-map g c i

closed-type : (ts : List Core) → AreOf ts → (r : Ref) → level_type ts r ≡ option_map (ren (λ k. suc k)) (level_type ts r)
closed-type [] a r = refl
closed-type (t ∷ ts) a r = by (ref_eq (level (length ts)) r) (sym (of-closed (length ts) t a.0)) (closed-type ts a.1 r)
  where
    by : (b : Bool) → t ≡ ren (λ k. suc k) t → level_type ts r ≡ option_map (ren (λ k. suc k)) (level_type ts r)
        → (if b then Some t else level_type ts r) ≡ option_map (ren (λ k. suc k)) (if b then Some t else level_type ts r)
    by true p q = ap Some p
    by false p q = q

type_at-past : (ts : List Core) → AreOf ts → (x : Name) (t : Core) (c : Context Ref Name) (q : Ref) → type_at ts (enter core_scopes x t c) (past q) ≡ option_map (ren (λ k. suc k)) (type_at ts c q)
type_at-past ts a x t c (Bound j) = nth-map (ren (λ k. suc k)) c j
type_at-past ts a x t c (Free y m) = closed-type ts a (Free y m)

map-of : (f g f' g' : Core → Core) → ((e : Core) → f (g e) ≡ f' (g' e)) → (o : Option Core) → option_map f (option_map g o) ≡ option_map f' (option_map g' o)
map-of f g f' g' k (Some e) = ap Some (k e)
map-of f g f' g' k None = refl

pub looks-below : (ts' ts : List Core) → AreOf ts' → AreOf ts → (s : Apart) (x : Name) (t : Core) (c' c : Context Ref Name) → LooksRenamed (type_at ts') (type_at ts) s c' c
    → LooksRenamed (type_at ts') (type_at ts) (lower s) (enter core_scopes x (opened s t) c') (enter core_scopes x t c)
looks-below ts' ts a' a s x t c' c g (Bound zero) = ap Some (sym (opened-ren s t))
looks-below ts' ts a' a s x t c' c g (Bound (suc i)) =
    type_at-past ts' a' x (opened s t) c' (s.fun (Bound i)) ∙ ap (option_map (ren (λ k. suc k))) (g (Bound i))
    ∙ map-of (ren (λ k. suc k)) (opened s) (opened (lower s)) (ren (λ k. suc k)) (λ e. sym (opened-ren s e)) (type_at ts c (Bound i))
    ∙ ap (option_map (opened (lower s))) (sym (type_at-past ts a x t c (Bound i)))
looks-below ts' ts a' a s x t c' c g (Free y m) =
    type_at-past ts' a' x (opened s t) c' (s.fun (Free y m)) ∙ ap (option_map (ren (λ k. suc k))) (g (Free y m))
    ∙ map-of (ren (λ k. suc k)) (opened s) (opened (lower s)) (ren (λ k. suc k)) (λ e. sym (opened-ren s e)) (type_at ts c (Free y m))
    ∙ ap (option_map (opened (lower s))) (sym (type_at-past ts a x t c (Free y m)))
