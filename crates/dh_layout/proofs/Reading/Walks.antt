-- What a text is read as from any state at a place.
use Rattle.std.specs.Prelude.{◌≡◌, ℕ, suc, Bool, not, ◌||◌, List, [], ◌∷◌, ◌++◌, Ok, IsTrue}
use Rattle.dh_syntax.specs.declared.tokens.Token.{Token}
use Rattle.dh_syntax.specs.Text.Lexing.{Place, Outside, Interpolated, Among, Before, Start, AName, NameAt, Other, State, tokens_from}
use Rattle.dh_syntax.specs.Text.Spelling.{AreTokens}
use Rattle.dh_syntax.specs.Text.Yield.{Written}

-- a place that does not stand among the characters of a text
abbrev pub IsCode : Place → Type 0
IsCode Outside = Unit {0}
IsCode (Interpolated braces f from place) = Unit {0}
IsCode (Among f from place) = ⊥

-- no index is awaited
abbrev pub IsCalm : Before → Type 0
IsCalm Start = Unit {0}
IsCalm AName = Unit {0}
IsCalm NameAt = ⊥
IsCalm Other = Unit {0}

-- one brace more is open
abbrev pub braced : Place → Place
braced Outside = Outside
braced (Interpolated braces f from place) = Interpolated (suc braces) f from place
braced (Among f from place) = Among f from place

abbrev pub state : Place → Before → Bool → State
state p b g = record { place = p; before = b; gap = g }

-- the text is read from this state as these tokens, its first so many bytes left out
abbrev pub Goal : State → ℕ → ℕ → List ℕ → List Written → Type 0
Goal s skip at bs ws = (ts : List Token) × (tokens_from s skip at bs ≡ Ok ts) × AreTokens ws ts

-- The text is read as these tokens at this place, whatever stands before; white space does where it is asked for.
pub record Lexes (p : Place) (g : Bool) (bs : List ℕ) (ws : List Written) : Type 0 where
  pub lexes : (before : Before) (gap : Bool) → IsCalm before → IsTrue (not g || gap) → (at : ℕ) → Goal (state p before gap) 0 at bs ws

-- lists in a row, grouped to the left and to the right
abbrev pub lefts : {A : Type 0} → List A → List (List A) → List A
lefts a [] = a
lefts a (x ∷ xs) = lefts (a ++ x) xs

abbrev pub rights : {A : Type 0} → List (List A) → List A → List A
rights [] rest = rest
rights (x ∷ xs) rest = x ++ rights xs rest
