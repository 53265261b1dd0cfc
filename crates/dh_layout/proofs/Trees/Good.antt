-- What is to be shown of a printed expression and its tree.
use Rattle.std.specs.Prelude.{◌≡◌, ℕ, Bool, true, false, List, ◌++◌, nat_le}
use Rattle.dh_syntax.specs.Text.Derivation.{Derivation}
use Rattle.dh_syntax.specs.Text.Derived.{binds, is_special, derived}
use Rattle.dh_syntax.specs.Text.Lexing.{Place}
use Rattle.dh_syntax.specs.Text.Meaning.{meaning}
use Rattle.dh_syntax.specs.Text.Printed.{layout}
use Rattle.dh_syntax.specs.Expressions.Tree.{Term}
use Rattle.dh_syntax.specs.Text.Yield.{Written, yield}
use Rattle.dh_layout.proofs.Reading.Ends.{is_seam}
use Rattle.dh_layout.proofs.Reading.Walks.{IsCode, Lexes}

-- this text is read as the tokens of this tree, before what may follow an expression of this level
abbrev pub Reads : ℕ → List ℕ → Derivation → Type 0
Reads m text d =
    (n : ℕ) (g : Bool) (p : Place) (rest : List ℕ) (ws : List Written) → IsCode p → is_seam m rest ≡ true
    → Lexes p false rest ws → Lexes p g (text ++ rest) (yield n g d ++ ws)

-- an expression and its tree
pub record Good (e : Term) (d : Derivation) : Type 0 where
  pub means : meaning d ≡ e
  pub is_derived : derived d ≡ true
  pub levels : (layout e).level ≡ binds d
  pub bares : (layout e).bare ≡ is_special d
  pub reads : Reads (binds d) (layout e).text d

-- the same where a level is needed
pub record Fits (m : ℕ) (text : List ℕ) (e : Term) (d : Derivation) : Type 0 where
  pub means : meaning d ≡ e
  pub is_derived : derived d ≡ true
  pub level : nat_le m (binds d) ≡ true
  pub reads : Reads m text d
