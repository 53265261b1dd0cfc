-- The text of the root with digests written behind its imports.
use Rattle.std.specs.Prelude.{◌≡◌, ◌↔◌, ℕ, suc, ◌-◌, ◌≤◌, true, List, [], ◌∷◌, ◌++◌, take, drop, Option, Some}
use Rattle.dh_syntax.specs.declared.locations.Digest.{Digest}
use Rattle.dh_syntax.specs.Expressions.Tree.{Term}
use Rattle.dh_imports.specs.Freezing.{digests_behind}
use Rattle.dh_imports.specs.Machine.{IsAmong}
use Rattle.dh_imports.specs.Walk.{Ask}
use Rattle.dh_syntax.specs.Text.Printed.{digest_text}
use Rattle.dh_syntax.specs.Text.Offsets.{SpellsWith}

-- a digest at an offset
abbrev pub Insertion : Type 0
Insertion = ℕ × Digest

-- the offsets ascend strictly, from a number on
abbrev pub Ascend : ℕ → List Insertion → Type 0
Ascend from [] = Unit {0}
Ascend from (p ∷ ps) = (from ≤ p.0) × Ascend (suc p.0) ps

-- the text from an offset on: up to the first insertion as it was, then the digest, and so on behind it
abbrev pub with_digests : ℕ → List ℕ → List Insertion → List ℕ
with_digests at text [] = drop at text
with_digests at text (p ∷ ps) = take (p.0 - at) (drop at text) ++ digest_text (Some p.1) ++ with_digests p.0 text ps

-- each import with its offset and the digest to write behind it
abbrev pub side_by_side : List ℕ → List (Option Digest) → List (ℕ × Option Digest)
side_by_side (o ∷ os) (d ∷ ds) = (o, d) ∷ side_by_side os ds
side_by_side _ _ = []

-- The text of a root, by these outcomes, with each digest that it gets behind the location of its import, and each other byte as it was.
pub record IsFrozenText (text : List ℕ) (root : Term) (ask : Ask) (bytes : List ℕ) : Type 0 where
  pub offsets : List ℕ
  pub spells : SpellsWith text root offsets
  pub insertions : List Insertion
  pub ascend : Ascend 0 insertions
  pub members : (p : Insertion) → IsAmong p insertions ↔ IsAmong (p.0, Some p.1) (side_by_side offsets (digests_behind ask true root))
  pub bytes_are : bytes ≡ with_digests 0 text insertions
