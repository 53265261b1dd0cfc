-- What is shown of a code.
use Rattle.std.specs.Prelude.{◌≡◌, ℕ, List, IsTrue}
use Rattle.dh_syntax.specs.declared.expressions.Op.{Op}
use Rattle.dh_syntax.specs.Expressions.Arity.{fits}
use Rattle.dh_syntax.specs.Expressions.Tree.{Leaf, Node}
use Rattle.dh_syntax.specs.Names.Nameless.{Ref, Core}
use Rattle.dh_store.specs.declared.codes.CodeKid.{CodeKid}
use Rattle.dh_store.specs.declared.codes.Codes.{Codes}
use Rattle.dh_store.specs.Cells.{code_core, code_row, AreKidsBelow}
use Rattle.dh_store.specs.Growth.{count}
use Rattle.dh_types.specs.Closed.{AreClosed, IsClosed}

-- an expression that is a variable
abbrev pub IsLeaf : Core → Type 0
IsLeaf e = (r : Ref) × (e ≡ Leaf r)

-- the code is there, and is a node with this operator over these parts, which are older, and such as the operator has
pub record IsNode (cs : Codes) (c : ℕ) (op : Op) (ks : List CodeKid) : Type 0 where
  pub core : code_core cs c ≡ Node op (code_row (code_core cs) ks)
  pub older : AreKidsBelow c ks
  pub there : AreKidsBelow (count cs) ks
  pub fits : (f : ℕ → Core) → IsTrue (fits op (code_row f ks))
  pub closed : IsClosed (code_core cs c) → AreClosed (code_core cs) ks
