-- What more units, more heights, a greater purse and more depth change in what typing comes to, and that it comes to one
-- judgment.
use Rattle.std.specs.Prelude.{◌≡◌, ℕ, ◌+◌, List, ⊤}
use Rattle.dh_syntax.specs.Expressions.Tree.{Tree, Name, Var, Term}
use Rattle.dh_syntax.specs.Normalising.Heads.{Lang}
use Rattle.dh_syntax.specs.Typing.Inference.{Inference, Judgment, Has, Ill, IsWide, IsDeep, IsOver, IsOverAside, IsShallow, judged_within, ComesTo}
use Rattle.dh_syntax.specs.Typing.NamedTyping.{HasType, IsIll}
use Rattle.dh_syntax.specs.Typing.Scopes.{Scopes, Context}
use Rattle.dh_syntax.specs.Typing.Typing.{typing}

-- the same judgment, with the function on its type
abbrev pub judgment_map : {S T : Type 0} → (S → T) → Judgment S → Judgment T
judgment_map f (Has t left) = Has (f t) left
judgment_map f (Ill path rule) = Ill path rule
judgment_map f IsWide = IsWide
judgment_map f IsDeep = IsDeep
judgment_map f IsOver = IsOver
judgment_map f IsOverAside = IsOverAside
judgment_map f IsShallow = IsShallow

-- ---- any inference

-- the second judgment is the first one with so many more units left, unless the first one ran out of units
abbrev pub IsJudgedWithMore : {T : Type 0} → ℕ → Judgment T → Judgment T → Type 0
IsJudgedWithMore more (Has t left) b = b ≡ Has t (left + more)
IsJudgedWithMore more (Ill path rule) b = b ≡ Ill path rule
IsJudgedWithMore more IsWide b = b ≡ IsWide
IsJudgedWithMore more IsDeep b = b ≡ IsDeep
IsJudgedWithMore more IsOver b = ⊤
IsJudgedWithMore more IsOverAside b = b ≡ IsOverAside
IsJudgedWithMore more IsShallow b = b ≡ IsShallow

-- More units change no judgment but `IsOver`.
abbrev pub MoreUnits : Type 0 → Type 0
MoreUnits T =
    (L : Lang T) (heights purse units more : ℕ) (i : Inference T)
    → IsJudgedWithMore more (judged_within L heights purse units i) (judged_within L heights purse (units + more) i)

-- the second judgment is the first one, unless the first one had not enough heights, depth or purse
abbrev pub IsUnlessTooFew : {T : Type 0} → Judgment T → Judgment T → Type 0
IsUnlessTooFew (Has t left) b = b ≡ Has t left
IsUnlessTooFew (Ill path rule) b = b ≡ Ill path rule
IsUnlessTooFew IsWide b = b ≡ IsWide
IsUnlessTooFew IsDeep b = ⊤
IsUnlessTooFew IsOver b = b ≡ IsOver
IsUnlessTooFew IsOverAside b = ⊤
IsUnlessTooFew IsShallow b = ⊤

-- More heights and a greater purse for typings aside change no judgment but `IsDeep`, `IsOverAside` and `IsShallow`.
abbrev pub MoreHeights : Type 0 → Type 0
MoreHeights T =
    (L : Lang T) (heights more purse further units : ℕ) (i : Inference T)
    → IsUnlessTooFew (judged_within L heights purse units i) (judged_within L (heights + more) (purse + further) units i)

-- neither the heights nor the purse nor the depth were too few
abbrev pub IsFirm : {T : Type 0} → Judgment T → Type 0
IsFirm (Has t left) = Unit {0}
IsFirm (Ill path rule) = Unit {0}
IsFirm IsWide = Unit {0}
IsFirm IsDeep = ⊥
IsFirm IsOver = Unit {0}
IsFirm IsOverAside = ⊥
IsFirm IsShallow = ⊥

-- With so many units an inference comes to one judgment.
abbrev pub OneJudgment : Type 0 → Type 0
OneJudgment T =
    (L : Lang T) (units : ℕ) (i : Inference T) (a b : Judgment T) → IsFirm a → IsFirm b → ComesTo L units i a → ComesTo L units i b → a ≡ b

-- ---- typing

-- the second judgment is the first one, unless the depth of the first one did not suffice
abbrev pub IsUnlessShallow : {T : Type 0} → Judgment T → Judgment T → Type 0
IsUnlessShallow (Has t left) b = b ≡ Has t left
IsUnlessShallow (Ill path rule) b = b ≡ Ill path rule
IsUnlessShallow IsWide b = b ≡ IsWide
IsUnlessShallow IsDeep b = b ≡ IsDeep
IsUnlessShallow IsOver b = b ≡ IsOver
IsUnlessShallow IsOverAside b = b ≡ IsOverAside
IsUnlessShallow IsShallow b = ⊤

-- More depth changes no judgment but `IsShallow`.
abbrev pub MoreDepth : {A B : Type 0} → Scopes A B → Lang (Tree A B) → Type 0
MoreDepth {A = A} {B = B} S L =
    (heights purse depth more : ℕ) (c : Context A B) (units : ℕ) (e : Tree A B)
    → IsUnlessShallow (judged_within L heights purse units (typing S depth c e)) (judged_within L heights purse units (typing S (depth + more) c e))

-- An expression has one type, which takes one number of units to find.
abbrev pub OneType : Type 0
OneType = (c : Context Var Name) (e t u : Term) (n m : ℕ) → HasType c e t n → HasType c e u m → (t ≡ u) × (n ≡ m)

-- It is refused at one place by one rule.
abbrev pub OneRefusal : Type 0
OneRefusal =
    (c : Context Var Name) (e : Term) (path place : List ℕ) (number other : ℕ) → IsIll c e path number → IsIll c e place other
    → (path ≡ place) × (number ≡ other)

-- It is not refused where it has a type.
abbrev pub TypeOrRefusal : Type 0
TypeOrRefusal = (c : Context Var Name) (e t : Term) (n : ℕ) (path : List ℕ) (number : ℕ) → HasType c e t n → IsIll c e path number → ⊥
