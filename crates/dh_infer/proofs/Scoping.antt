-- What is known of the variables of the binders above.
use Rattle.std.specs.Prelude.{◌≡◌, ◌<◌, ◌≤◌, ◌-◌, ◌+◌, ◌^◌, ◌⊎◌, ℕ, zero, suc, Bool, true, false, List, [], ◌∷◌, map, length, Option, Some, None, slice_get, if◌then◌else◌, refl}
use Rattle.std.proofs.Common.{ap, sym, ◌∙◌, arith, inl, inr, subst as along}
use Rattle.dh_syntax.specs.Expressions.Tree.{Leaf}
use Rattle.dh_syntax.specs.Names.Nameless.{Bound, Core}
use Rattle.dh_infer.specs.declared.frames.Entry.{Entry}
use Rattle.dh_infer.specs.Inside.Debts.{whole}
use Rattle.dh_infer.specs.Inside.Levels.{IsOf, AreOf}
use Rattle.dh_infer.specs.Inside.OpenTyping.{level, level_type}
use Rattle.dh_infer.specs.Inside.Scopes.{env, IsTyped, Knows, behind, IsScope}
use Rattle.dh_infer.proofs.Leading.{found-grown}
use Rattle.dh_infer.proofs.LevelTypes.{of-more, level-type, high-none, not-this}
use Rattle.dh_infer.proofs.Reversed.{either-place}

-- the types of the variables that have numbers have variables of lower numbers alone
behind-of : (g : ℕ → Core) (b : Bool) (es : List Entry) (ls : List ℕ) → ((ks : List ℕ) → IsScope g es ks → AreOf (map g ks)) → behind b g (IsScope g es) ls → AreOf (map g ls)
behind-of g true es [] ih h = absurd h
behind-of g true es (l ∷ ls) ih h = (h.0, ih ls h.1)
behind-of g false es ls ih h = ih ls h

pub scope-of : (g : ℕ → Core) (es : List Entry) (ls : List ℕ) → IsScope g es ls → AreOf (map g ls)
scope-of g [] [] h = tt
scope-of g [] (l ∷ ls) h = absurd h
scope-of g (e ∷ es) ls h = behind-of g e.opened es ls (λ ks k. scope-of g es ks k) h.1

-- what is known of an entry is known where one more variable has a number
typed-grown : (g : ℕ → Core) (u : Core) (ts : List Core) → AreOf (u ∷ ts) → (v : Core) → IsOf (length ts) v → (o : Option ℕ) → IsTyped g (whole ts v) o → IsTyped g (whole (u ∷ ts) v) o
typed-grown g u ts a v h None k = tt
typed-grown g u ts a v h (Some t) k = found-grown u ts a v (g t) h k

pub knows-grown : (g : ℕ → Core) (u : Core) (ts : List Core) → AreOf (u ∷ ts) → (e : Entry) → Knows g ts e → Knows g (u ∷ ts) e
knows-grown g u ts a e k = record {
  value = of-more (length ts) (suc (length ts)) (g e.value) (omega arith) k.value;
  typed = typed-grown g u ts a (g e.value) k.value e.typed k.typed;
}

-- what is known of the entries
behind-knows : (g : ℕ → Core) (b : Bool) (es : List Entry) (ls : List ℕ) (e : Entry) → ((ks : List ℕ) → IsScope g es ks → Knows g (map g ks) e)
    → AreOf (map g ls) → behind b g (IsScope g es) ls → Knows g (map g ls) e
behind-knows g true es [] e ih a h = absurd h
behind-knows g true es (l ∷ ls) e ih a h = knows-grown g (g l) (map g ls) a e (ih ls h.1)
behind-knows g false es ls e ih a h = ih ls h

pub scope-knows : (g : ℕ → Core) (es : List Entry) (ls : List ℕ) → IsScope g es ls → (i : ℕ) (e : Entry) → slice_get es i ≡ Some e → Knows g (map g ls) e
scope-knows g [] ls h i e p = absurd cc
scope-knows g (d ∷ es) ls h zero e p = let q : d ≡ e = cc in along (Knows g (map g ls)) q h.0
scope-knows g (d ∷ es) ls h (suc i) e p = behind-knows g d.opened es ls e (λ ks k. scope-knows g es ks k i e p) (scope-of g (d ∷ es) ls h) h.1

-- ---- what stands for a variable

pub env-there : (g : ℕ → Core) (es : List Entry) (i : ℕ) (e : Entry) → slice_get es i ≡ Some e → env g es i ≡ g e.value
env-there g [] i e p = absurd cc
env-there g (d ∷ es) zero e p = let q : d ≡ e = cc in ap (λ z. g z.value) q
env-there g (d ∷ es) (suc i) e p = env-there g es i e p

pub env-past : (g : ℕ → Core) (es : List Entry) (i : ℕ) → slice_get es i ≡ None → (j : ℕ) × (env g es i ≡ Leaf (Bound j))
env-past g [] i p = (i, refl)
env-past g (d ∷ es) zero p = absurd cc
env-past g (d ∷ es) (suc i) p = env-past g es i p

-- ---- the type of a variable that has a number

pub map-length : (g : ℕ → Core) (ls : List ℕ) → length (map g ls) ≡ length ls
map-length g [] = refl
map-length g (l ∷ ls) = ap suc (map-length g ls)

module _ (g : ℕ → Core) (k : ℕ) (ls : List ℕ) (n t : ℕ) where
  at-top : n ≡ length ls → slice_get (k ∷ ls) (suc (length ls) - 1 - n) ≡ Some t → level_type (map g (k ∷ ls)) (level n) ≡ Some (g t)
  at-top e p =
      let z : suc (length ls) - 1 - n ≡ 0 = omega arith in
      let q : Some k ≡ Some t = ap (slice_get (k ∷ ls)) (sym z) ∙ p in
      let r : k ≡ t = cc in
      ap (λ m. level_type (map g (k ∷ ls)) (level m)) (e ∙ sym (map-length g ls)) ∙ level-type (g k) (map g ls) ∙ ap (λ m. Some (g m)) r

  further : n < length ls → (slice_get ls (length ls - 1 - n) ≡ Some t → level_type (map g ls) (level n) ≡ Some (g t))
      → slice_get (k ∷ ls) (suc (length ls) - 1 - n) ≡ Some t → level_type (map g (k ∷ ls)) (level n) ≡ Some (g t)
  further l ih p =
      let z : suc (length ls) - 1 - n ≡ suc (length ls - 1 - n) = omega arith in
      let q : slice_get ls (length ls - 1 - n) ≡ Some t = ap (slice_get (k ∷ ls)) (sym z) ∙ p in
      let m = map-length g ls in
      ap (λ b. if b then Some (g k) else level_type (map g ls) (level n)) (not-this (length (map g ls) + 2 ^ 32) (n + 2 ^ 32) (λ e. omega arith)) ∙ ih q

pub number-type : (g : ℕ → Core) (ls : List ℕ) (n t : ℕ) → n < length ls → slice_get ls (length ls - 1 - n) ≡ Some t → level_type (map g ls) (level n) ≡ Some (g t)
number-type g [] n t l p = absurd cc
number-type g (k ∷ ls) n t l p = by (either-place (length ls) n l) (λ m. number-type g ls n t m)
  where
    by : (n ≡ length ls) ⊎ (n < length ls) → (n < length ls → slice_get ls (length ls - 1 - n) ≡ Some t → level_type (map g ls) (level n) ≡ Some (g t))
        → level_type (map g (k ∷ ls)) (level n) ≡ Some (g t)
    by (inl e) ih = at-top g k ls n t e p
    by (inr m) ih = further g k ls n t m (ih m) p

pub number-none : (g : ℕ → Core) (ls : List ℕ) (n : ℕ) → length ls ≤ n → level_type (map g ls) (level n) ≡ None
number-none g ls n l = high-none (map g ls) (n + 2 ^ 32) (let m = map-length g ls in omega arith)

of-item : (n : ℕ) (g : ℕ → Core) (ls : List ℕ) → AreOf (map g ls) → length (map g ls) ≤ n → (i t : ℕ) → slice_get ls i ≡ Some t → IsOf n (g t)
of-item n g [] a l i t p = absurd cc
of-item n g (k ∷ ls) a l zero t p = let q : k ≡ t = cc in along (λ c. IsOf n (g c)) q (of-more _ n (g k) (omega arith) a.0)
of-item n g (k ∷ ls) a l (suc i) t p = of-item n g ls a.1 (omega arith) i t p

pub number-of : (g : ℕ → Core) (ls : List ℕ) → AreOf (map g ls) → (i t : ℕ) → slice_get ls i ≡ Some t → IsOf (length (map g ls)) (g t)
number-of g ls a i t p = of-item (length (map g ls)) g ls a (omega arith) i t p
