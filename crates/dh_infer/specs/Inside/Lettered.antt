-- Expressions of the program as the machine takes them: each variable that no binder binds has one letter more in front of its name,
-- so that it is none of those that have numbers.
use Rattle.std.specs.Prelude.{◌≡◌, ℕ, ◌∷◌}
use Rattle.dh_syntax.specs.Expressions.Tree.{Row, Name}
use Rattle.dh_syntax.specs.Names.Moves.{moved_row}
use Rattle.dh_syntax.specs.Names.Nameless.{Ref, Bound, Free, Core}
use Rattle.dh_norm.specs.References.{Apart, renamer, opened}

-- the name with `x` in front
abbrev pub with_letter : Name → Name
with_letter x = 120 ∷ x

-- the reference with one letter more in front of its name, if it is free
abbrev pub lettered_ref : Ref → Ref
lettered_ref (Bound i) = Bound i
lettered_ref (Free x n) = Free (with_letter x) n

number-of : (x y : Name) (m n : ℕ) → Free x m ≡ Free y n → m ≡ n
number-of x y m n h = cc

name-of : (x y : Name) (m n : ℕ) → Free x m ≡ Free y n → x ≡ y
name-of x y m n h = cc

without_letter : (x y : Name) → with_letter x ≡ with_letter y → x ≡ y
without_letter x y h = cc

both-equal : (x y : Name) (m n : ℕ) → x ≡ y → m ≡ n → Free x m ≡ Free y n
both-equal x y m n p q = cc

-- different references stay different with the letter in front
pub lettered-apart : (r s : Ref) → lettered_ref r ≡ lettered_ref s → r ≡ s
lettered-apart (Bound i) (Bound j) h = h
lettered-apart (Bound i) (Free y n) h = absurd cc
lettered-apart (Free x m) (Bound j) h = absurd cc
lettered-apart (Free x m) (Free y n) h = both-equal x y m n (without_letter x y (name-of _ _ _ _ h)) (number-of _ _ _ _ h)

-- the renaming that puts a letter in front of the name of each free variable
abbrev pub lettering : Apart
lettering = record { fun = lettered_ref; apart = lettered-apart }

-- the expression with a letter in front of the name of each free variable
abbrev pub lettered : Core → Core
lettered e = opened lettering e

-- the row with a letter in front of the name of each free variable
abbrev pub lettered_row : Row Ref Name → Row Ref Name
lettered_row r = moved_row renamer lettering r
