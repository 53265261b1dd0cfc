-- Runs of expressions that differ only in the names of their binders.
use Rattle.std.specs.Prelude.{◌≡◌, ℕ}
use Rattle.dh_syntax.specs.Names.Alpha.{IsSame}
use Rattle.dh_syntax.specs.Normalising.Heads.{Answer, Found, Wide, Deep, Over, run, Extent}
use Rattle.dh_syntax.specs.Normalising.Named.{names}
use Rattle.dh_syntax.specs.Expressions.Nesting.{nesting}
use Rattle.dh_syntax.specs.Normalising.Normal.{endless, HasNormalForm, HasWholeCost, AreEquivalent, HasCost, plain_answer}
use Rattle.dh_syntax.specs.Expressions.Tree.{Term}

-- the second answer is the first one, but for the names of binders in what is found
abbrev pub IsSameAnswer : Answer Term → Answer Term → Type 0
IsSameAnswer (Found d left) b = (g : Term) × IsSame d g × (b ≡ Found g left)
IsSameAnswer (Wide left) b = b ≡ Wide left
IsSameAnswer (Deep left) b = b ≡ Deep left
IsSameAnswer Over b = b ≡ Over

-- Expressions that differ only in the names of their binders have the same kind of answer, the same units left and the
-- same result but for the names of binders.
abbrev pub SameRuns : Type 0
SameRuns =
    (heights : ℕ) (mode : Extent) (units : ℕ) (e f : Term) → IsSame e f
    → IsSameAnswer (run names heights mode units e) (run names heights mode units f)

-- So without an end by nesting.
abbrev pub SameEndlessRuns : Type 0
SameEndlessRuns =
    (heights : ℕ) (mode : Extent) (units : ℕ) (e f : Term) → IsSame e f
    → IsSameAnswer (run (endless names) heights mode units e) (run (endless names) heights mode units f)

-- So the answers of the plain normaliser.
abbrev pub SamePlainAnswers : Type 0
SamePlainAnswers =
    (units : ℕ) (e f : Term) → IsSame e f → IsSameAnswer (plain_answer names nesting units e) (plain_answer names nesting units f)

-- So the normal forms, and their equivalence.
abbrev pub SameNormalForms : Type 0
SameNormalForms = (e f d : Term) → IsSame e f → HasNormalForm names e d → (g : Term) × HasNormalForm names f g × IsSame d g

-- Expressions that are the same are equivalent, where one has a normal form.
abbrev pub SameIsEquivalent : Type 0
SameIsEquivalent = (e f d : Term) → IsSame e f → HasNormalForm names e d → AreEquivalent names e f

-- So the costs.
abbrev pub SameWholeCost : Type 0
SameWholeCost = (e f : Term) (n : ℕ) → IsSame e f → HasWholeCost names e n → HasWholeCost names f n

-- Expressions that are the same have the same costs of a plain run.
abbrev pub SameCost : Type 0
SameCost = (e f : Term) (n : ℕ) → IsSame e f → HasCost names e n → HasCost names f n
