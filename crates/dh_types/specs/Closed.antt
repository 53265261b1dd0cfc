-- Types without loose variables.
--
-- The variables of the context are free variables, each with a number of its own, so a type has no variable of a binder that
-- stands above it.
use Rattle.std.specs.Prelude.{◌≡◌, ℕ, suc, List, [], ◌∷◌, Option, Some, None}
use Rattle.dh_syntax.specs.Expressions.Tree.{Name}
use Rattle.dh_syntax.specs.Names.Nameless.{Core, lifted, ren}
use Rattle.dh_store.specs.declared.codes.CodeKid.{CodeKid}

-- seen from below one more binder it is itself
abbrev pub IsClosed : Core → Type 0
IsClosed e = ren (λ i. suc i) e ≡ e

-- it is so but for the variable of the nearest binder
abbrev pub IsClosedBelow : Core → Type 0
IsClosedBelow e = ren (lifted (λ i. suc i)) e ≡ e

-- it is so where it stands: below a binder or not
abbrev pub IsClosedIn : Option Name → Core → Type 0
IsClosedIn None e = IsClosed e
IsClosedIn (Some x) e = IsClosedBelow e

-- each of these parts is so
abbrev pub AreClosed : (ℕ → Core) → List CodeKid → Type 0
AreClosed f [] = Unit {0}
AreClosed f (k ∷ ks) = IsClosedIn k.binder (f k.code) × AreClosed f ks

-- each of these parts, which stand under no binder, is so
abbrev pub AreClosedTypes : (ℕ → Core) → List CodeKid → Type 0
AreClosedTypes f [] = Unit {0}
AreClosedTypes f (k ∷ ks) = IsClosed (f k.code) × AreClosedTypes f ks
