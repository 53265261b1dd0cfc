-- One code for codes that stand for one expression.
use Rattle.std.specs.Prelude.{◌≡◌, ◌≤◌, ℕ, List, Some, slice_get}
use Rattle.dh_syntax.specs.Names.Nameless.{Core}

-- In the following, `g` is what codes stand for.

-- the code k, which is no newer, stands for what c stands for
pub record IsShareOf (g : ℕ → Core) (c k : ℕ) : Type 0 where
  pub older : k ≤ c
  pub core : g k ≡ g c

-- so it is with each of these, by its place
abbrev pub AreShared : (ℕ → Core) → List ℕ → Type 0
AreShared g firsts = (c k : ℕ) → slice_get firsts c ≡ Some k → IsShareOf g c k
