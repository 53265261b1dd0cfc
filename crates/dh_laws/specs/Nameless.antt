-- Going nameless and back, and what α-normal forms, shifts and substitutions are on nameless forms.
use Rattle.std.specs.Prelude.{◌≡◌, ◌↔◌, ℕ, suc, List, ◌∷◌}
use Rattle.dh_syntax.specs.Names.Alpha.{alpha, IsSame}
use Rattle.dh_syntax.specs.Names.Nameless.{Ref, Bound, ref_of, core_below, term_below, to_core, from_core, forget, with_blanks, bare, lifted, ren, raised, sub, first, at_place, Core}
use Rattle.dh_syntax.specs.Names.Subst.{shift_up, subst}
use Rattle.dh_syntax.specs.Expressions.Tree.{Tree, Leaf, Name, Term}
use Rattle.dh_laws.specs.Substituting.{put}

-- Reading names back undoes going nameless.
abbrev pub ReadingBack : Type 0
ReadingBack = (e : Term) → from_core (to_core e) ≡ e

-- Below any binders, reading back the nameless form gives the expression.
abbrev pub ReadingBackBelow : Type 0
ReadingBackBelow = (ys : List Name) (e : Term) → term_below ys (core_below ys e) ≡ e

-- Two expressions are the same exactly where they have one nameless form without names.
abbrev pub SameIsBare : Type 0
SameIsBare = (e f : Term) → IsSame e f ↔ (bare e ≡ bare f)

-- The α-normal form is the nameless form without names, read back with the name `_` for each binder.
abbrev pub AlphaReadsBare : Type 0
AlphaReadsBare = (e : Term) → alpha e ≡ from_core (with_blanks (bare e))

-- Shifting up at the name of one more binder is, in nameless terms, going below that binder.
abbrev pub CoreOfShiftUp : Type 0
CoreOfShiftUp = (x : Name) (ys : List Name) (e : Term) → core_below (x ∷ ys) (shift_up x 0 e) ≡ ren (λ i. suc i) (core_below ys e)

-- Substitution for the variable of a binder above is, in nameless terms, substitution for its number.
abbrev pub CoreOfSubst : Type 0
CoreOfSubst =
    (ys : List Name) (x : Name) (n k : ℕ) (a e : Term) → ref_of ys x n ≡ Bound k
    → core_below ys (subst x n a e) ≡ sub (at_place k (core_below ys a)) (core_below ys e)

-- Putting an argument for the variable of a binder is, in nameless terms, substitution for the nearest binder.
abbrev pub CoreOfPut : Type 0
CoreOfPut =
    (y : Name) (ys : List Name) (a b : Term) → core_below ys (put y a b) ≡ sub (first (core_below ys a)) (core_below (y ∷ ys) b)

-- Two renamings are one.
abbrev pub RenOfRen : Type 0 → Type 0
RenOfRen B = (f g : ℕ → ℕ) (c : Tree Ref B) → ren f (ren g c) ≡ ren (λ i. f (g i)) c

-- Renaming and then substitution is one substitution.
abbrev pub SubOfRen : Type 0 → Type 0
SubOfRen B = (s : ℕ → Tree Ref B) (f : ℕ → ℕ) (c : Tree Ref B) → sub s (ren f c) ≡ sub (λ i. s (f i)) c

-- Substitution and then renaming is one substitution.
abbrev pub RenOfSub : Type 0 → Type 0
RenOfSub B = (f : ℕ → ℕ) (s : ℕ → Tree Ref B) (c : Tree Ref B) → ren f (sub s c) ≡ sub (λ i. ren f (s i)) c

-- Two substitutions are one.
abbrev pub SubOfSub : Type 0 → Type 0
SubOfSub B = (s t : ℕ → Tree Ref B) (c : Tree Ref B) → sub s (sub t c) ≡ sub (λ i. sub s (t i)) c

-- Putting each variable for itself changes nothing.
abbrev pub SubOfVariables : Type 0 → Type 0
SubOfVariables B = (c : Tree Ref B) → sub (λ i. Leaf (Bound i)) c ≡ c

-- Renaming is substitution of variables.
abbrev pub RenIsSub : Type 0 → Type 0
RenIsSub B = (f : ℕ → ℕ) (c : Tree Ref B) → ren f c ≡ sub (λ i. Leaf (Bound (f i))) c

-- Substitution and putting something for the nearest binder can be exchanged.
abbrev pub SubOfFirst : Type 0 → Type 0
SubOfFirst B = (s : ℕ → Tree Ref B) (c b : Tree Ref B) → sub s (sub (first c) b) ≡ sub (first (sub s c)) (sub (raised s) b)

-- Renaming and putting something for the nearest binder can be exchanged.
abbrev pub RenOfFirst : Type 0 → Type 0
RenOfFirst B = (f : ℕ → ℕ) (c b : Tree Ref B) → ren f (sub (first c) b) ≡ sub (first (ren f c)) (ren (lifted f) b)

-- Forgetting the names of binders and substitution can be exchanged.
abbrev pub ForgetOfSub : Type 0
ForgetOfSub = (s : ℕ → Core) (c : Core) → forget (sub s c) ≡ sub (λ i. forget (s i)) (forget c)
