-- What a code is.
use Rattle.std.specs.Prelude.{◌≡◌, ℕ}
use Rattle.dh_syntax.specs.Expressions.Tree.{Leaf}
use Rattle.dh_syntax.specs.Names.Nameless as ref
use Rattle.dh_store.specs.declared.codes.Codes.{Codes}
use Rattle.dh_store.specs.Cells.{code_core, outside}
use Rattle.dh_types.specs.declared.nodes.Seen.{Seen}
use Rattle.dh_types.specs.declared.nodes.Seen.TheVariants as seen
use Rattle.dh_types.specs.Shown.{IsNode}

-- the code is that of a bound variable, a free variable or a node with these parts
abbrev pub IsSeen : Codes → ℕ → Seen → Type 0
IsSeen cs c (seen.Bound i) = code_core cs c ≡ Leaf (ref.Bound i)
IsSeen cs c (seen.Free x n) = code_core cs c ≡ Leaf (outside x.now n)
IsSeen cs c (seen.Node op ks) = IsNode cs c op.now ks.now
