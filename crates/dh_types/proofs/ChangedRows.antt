-- Parts of a node that were changed, one by one.
use Rattle.std.specs.Prelude.{◌≡◌, ◌<◌, ◌≤◌, ◌+◌, ◌++◌, ◌^◌, ℕ, zero, suc, Bool, true, false, nat_eq, ◌==◌, List, [], ◌∷◌, map, take, length, Option, if◌then◌else◌, refl}
use Rattle.std.proofs.Common.{ap, sym, ◌∙◌, arith, eqb-true, get_or, subst as along}
use Rattle.std.proofs.lemmas.List.{take_more}
use Rattle.std.proofs.lemmas.Bool.{false≢true}
use Rattle.dh_syntax.specs.Expressions.Numbers.{eq}
use Rattle.dh_syntax.specs.Expressions.Tree.{Row, Leaf, kid, Name}
use Rattle.dh_syntax.specs.Names.Nameless.{Ref, Bound, Core}
use Rattle.dh_syntax.specs.Normalising.NamelessRuns.{ref_eq}
use Rattle.dh_syntax.specs.Typing.NamelessTyping.{above}
use Rattle.dh_syntax.proofs.NativeTests.{eq-native}
use Rattle.dh_syntax.proofs.Numbers.{eq-itself, eq-true}
use Rattle.dh_store.specs.declared.codes.CodeKid.{CodeKid}
use Rattle.dh_store.specs.Cells.{code_row, nothing, outside, AreKidsBelow}
use Rattle.dh_types.specs.declared.changes.Change.{Change}
use Rattle.dh_types.specs.declared.changes.Change.TheVariants as changes
use Rattle.dh_types.specs.Inside.Changes.{changed, changed_row, found_by, leaf_by}

-- ---- variables

eq-other : (m n : ℕ) → (m ≡ n → ⊥) → eq m n ≡ false
eq-other m n h = by (eq m n) refl
  where
    by : (b : Bool) → eq m n ≡ b → b ≡ false
    by false p = refl
    by true p = absurd (h (eq-true m n p))

module _ (f : ℕ → Core) (change : Change) (c i k : ℕ) (is : change ≡ changes.Puts c) where
  pub bound-sought : i ≡ k → leaf_by f change k (Bound i) ≡ found_by f change k
  bound-sought e =
      ap (λ ch. leaf_by f ch k (Bound i)) is ∙ ap (λ b. if b then f c else Leaf (Bound i)) (ap (λ j. eq j k) e ∙ eq-itself k) ∙ sym (ap (λ ch. found_by f ch k) is)

  pub bound-other : (i ≡ k → ⊥) → leaf_by f change k (Bound i) ≡ Leaf (Bound i)
  bound-other h = ap (λ ch. leaf_by f ch k (Bound i)) is ∙ ap (λ b. if b then f c else Leaf (Bound i)) (eq-other i k h)

pub is-variable : (v : ℕ) (x : Name) (n : ℕ) → x ≡ [] → nat_eq n v ≡ ref_eq (outside [] v) (outside x n)
is-variable v [] n e = sym (eq-native n v) ∙ by (eq n v) refl
  where
    by : (b : Bool) → eq n v ≡ b → b ≡ eq (v + 2 ^ 32) (n + 2 ^ 32)
    by true p = let q = eq-true n v p in sym (ap (λ j. eq (v + 2 ^ 32) (j + 2 ^ 32)) q ∙ eq-itself (v + 2 ^ 32))
    by false p = sym (eq-other (v + 2 ^ 32) (n + 2 ^ 32) (λ e. false≢true (sym p ∙ ap (eq n) (back e) ∙ eq-itself n)))
      where
        back : v + 2 ^ 32 ≡ n + 2 ^ 32 → v ≡ n
        back e = omega arith
is-variable v (b ∷ x) n e = absurd cc

-- ---- parts

abbrev Part : Type 0
Part = Option Name × Core

abbrev pub part : (ℕ → Core) → CodeKid → Part
part f k = (k.binder, f k.code)

abbrev pub changed_part : (ℕ → Core) → (ℕ → Ref → Core) → ℕ → CodeKid → Part
changed_part f g n k = (k.binder, changed g (above k.binder n) (f k.code))

-- these parts are what the others become
abbrev pub ArePartsOf : (ℕ → Core) → (ℕ → Ref → Core) → ℕ → List CodeKid → List CodeKid → Type 0
ArePartsOf f g n js ks = map (part f) js ≡ map (changed_part f g n) ks

map-push : {X Y : Type 0} (g : X → Y) (xs : List X) (x : X) → map g (xs ++ x ∷ []) ≡ map g xs ++ g x ∷ []
map-push g [] x = refl
map-push g (y ∷ ys) x = ap (λ zs. g y ∷ zs) (map-push g ys x)

abbrev pair : Option Name → Core → Part
pair b e = (b, e)

same-part : (a b : Option Name) (d e : Core) → a ≡ b → d ≡ e → pair a d ≡ pair b e
same-part a b d e p q = cc

pub parts-more : (f : ℕ → Core) (g : ℕ → Ref → Core) (n : ℕ) (ks : List CodeKid) (i : ℕ) (k : CodeKid) (js : List CodeKid) (j : CodeKid) → i < length ks → k ≡ get_or ks i k → j.binder ≡ k.binder → f j.code ≡ changed g (above k.binder n) (f k.code)
    → ArePartsOf f g n js (take i ks) → ArePartsOf f g n (js ++ j ∷ []) (take (i + 1) ks)
parts-more f g n ks i k js j h e b c so_far =
    map-push (part f) js j ∙ ap (λ ps. ps ++ part f j ∷ []) so_far ∙ ap (λ p. map (changed_part f g n) (take i ks) ++ p ∷ []) (same-part _ _ _ _ b c)
    ∙ sym (map-push (changed_part f g n) (take i ks) k) ∙ sym (ap (map (changed_part f g n)) (take_more ks i k h ∙ ap (λ y. take i ks ++ y ∷ []) (sym e)))

take-whole : {X : Type 0} (xs : List X) (n : ℕ) → length xs ≤ n → take n xs ≡ xs
take-whole [] zero h = refl
take-whole [] (suc n) h = refl
take-whole (x ∷ xs) zero h = absurd (omega arith)
take-whole (x ∷ xs) (suc n) h = ap (λ ys. x ∷ ys) (take-whole xs n (omega arith))

heads-same : {X : Type 0} (x y : X) (xs ys : List X) → x ∷ xs ≡ y ∷ ys → x ≡ y
heads-same x y xs ys e = cc

tails-same : {X : Type 0} (x y : X) (xs ys : List X) → x ∷ xs ≡ y ∷ ys → xs ≡ ys
tails-same x y xs ys e = cc

row-of : (f : ℕ → Core) (g : ℕ → Ref → Core) (n : ℕ) (js ks : List CodeKid) → ArePartsOf f g n js ks → code_row f js ≡ changed_row g n (code_row f ks)
row-of f g n [] [] e = refl
row-of f g n [] (k ∷ ks) e = absurd cc
row-of f g n (j ∷ js) [] e = absurd cc
row-of f g n (j ∷ js) (k ∷ ks) e = same-kid _ _ _ _ _ _ (ap (λ p. p.0) (heads-same _ _ _ _ e)) (ap (λ p. p.1) (heads-same _ _ _ _ e)) (row-of f g n js ks (tails-same _ _ _ _ e))
  where
    same-kid : (a b : Option Name) (d e : Core) (r s : Row Ref Name) → a ≡ b → d ≡ e → r ≡ s → kid a d r ≡ kid b e s
    same-kid a b d e r s p q t = cc

pub parts-row : (f : ℕ → Core) (g : ℕ → Ref → Core) (n : ℕ) (js ks : List CodeKid) (i : ℕ) → length ks ≤ i → ArePartsOf f g n js (take i ks) → code_row f js ≡ changed_row g n (code_row f ks)
parts-row f g n js ks i h e = row-of f g n js ks (along (ArePartsOf f g n js) (take-whole ks i h) e)

pub no-bytes : (x : Name) → (length x == 0) ≡ true → x ≡ []
no-bytes [] h = refl
no-bytes (b ∷ x) h = absurd (omega (arith, eqb-true (length (b ∷ x)) 0 h))

pub kept-more : (f : ℕ → Core) (g : ℕ → Ref → Core) (n : ℕ) (ks : List CodeKid) (i : ℕ) (k : CodeKid) (inner code : ℕ) → i < length ks → k ≡ get_or ks i k → inner ≡ above k.binder n → code ≡ k.code → f code ≡ changed g inner (f k.code)
    → ArePartsOf f g n (take i ks) (take i ks) → ArePartsOf f g n (take (i + 1) ks) (take (i + 1) ks)
kept-more f g n ks i k inner code h e a b c so_far =
    along (λ js. ArePartsOf f g n js (take (i + 1) ks)) (sym (take_more ks i k h ∙ ap (λ y. take i ks ++ y ∷ []) (sym e)))
    (parts-more f g n ks i k (take i ks) k h e refl (ap f (sym b) ∙ c ∙ ap (λ m. changed g m (f k.code)) a) so_far)

pub kept-row : (f : ℕ → Core) (g : ℕ → Ref → Core) (n : ℕ) (ks : List CodeKid) (i : ℕ) → length ks ≤ i → ArePartsOf f g n (take i ks) (take i ks) → changed_row g n (code_row f ks) ≡ code_row f ks
kept-row f g n ks i h e = sym (row-of f g n ks ks (along (λ js. ArePartsOf f g n js js) (take-whole ks i h) e))

-- ---- where they stand

pub kids-push : (n : ℕ) (ks : List CodeKid) (k : CodeKid) → AreKidsBelow n ks → k.code < n → AreKidsBelow n (ks ++ k ∷ [])
kids-push n [] k b h = (h, tt)
kids-push n (j ∷ ks) k b h = (b.0, kids-push n ks k b.1 h)

abbrev pub binders : List CodeKid → List (Option Name)
binders ks = map (λ (k : CodeKid). k.binder) ks

pub binders-more : (ks : List CodeKid) (i : ℕ) (k : CodeKid) (js : List CodeKid) (j : CodeKid) → i < length ks → k ≡ get_or ks i k → j.binder ≡ k.binder → binders js ≡ binders (take i ks) → binders (js ++ j ∷ []) ≡ binders (take (i + 1) ks)
binders-more ks i k js j h e b so_far =
    map-push (λ (k : CodeKid). k.binder) js j ∙ ap (λ ps. ps ++ j.binder ∷ []) so_far ∙ ap (λ p. binders (take i ks) ++ p ∷ []) b
    ∙ sym (map-push (λ (k : CodeKid). k.binder) (take i ks) k) ∙ sym (ap binders (take_more ks i k h ∙ ap (λ y. take i ks ++ y ∷ []) (sym e)))

blank-row : (js ks : List CodeKid) → binders js ≡ binders ks → code_row (λ c. nothing) js ≡ code_row (λ c. nothing) ks
blank-row [] [] e = refl
blank-row [] (k ∷ ks) e = absurd cc
blank-row (j ∷ js) [] e = absurd cc
blank-row (j ∷ js) (k ∷ ks) e = same-blank _ _ _ _ (heads-same _ _ _ _ e) (blank-row js ks (tails-same _ _ _ _ e))
  where
    same-blank : (a b : Option Name) (r s : Row Ref Name) → a ≡ b → r ≡ s → kid a nothing r ≡ kid b nothing s
    same-blank a b r s p t = cc

pub binders-row : (js ks : List CodeKid) (i : ℕ) → length ks ≤ i → binders js ≡ binders (take i ks) → code_row (λ c. nothing) js ≡ code_row (λ c. nothing) ks
binders-row js ks i h e = blank-row js ks (e ∙ ap binders (take-whole ks i h))
