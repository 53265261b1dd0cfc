-- Where the imports of an expression stand in its text: for each import node, in the order of the nodes, the offset after
-- its location.
use Rattle.std.specs.Prelude.{◌≡◌, ℕ, suc, List, [], ◌∷◌, ◌++◌, map}
use Rattle.dh_syntax.specs.declared.tokens.Token.{Token}
use Rattle.dh_syntax.specs.Expressions.Tree.{Term}
use Rattle.dh_syntax.specs.Text.Derivation.{Derivation}
use Rattle.dh_syntax.specs.Text.Noting.{Noting, ends_before, noted}
use Rattle.dh_syntax.specs.Text.Spelling.{Spells}

-- the numbers of the locations
abbrev pub locating : Noting
locating = record { row = List ℕ; none = []; joined = λ xs ys. xs ++ ys; node = λ from to parts. parts; import_node = λ from to. from ∷ []; parts = λ xs. xs }

-- the offsets after the tokens of these numbers
abbrev pub offsets_after : List Token → List ℕ → List ℕ
offsets_after tokens xs = map (λ i. ends_before tokens (suc i)) xs

-- the offsets of the imports in these tokens, by a tree of theirs
abbrev pub import_offsets : List Token → Derivation → List ℕ
import_offsets tokens d = offsets_after tokens (noted locating d 0).0

-- the text spells this expression, and these are the offsets of its imports
abbrev pub SpellsWith : List ℕ → Term → List ℕ → Type 0
SpellsWith bytes e places = (s : Spells bytes e) × (places ≡ import_offsets s.tokens s.tree)
