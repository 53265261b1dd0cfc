-- The alternatives of a union and their types, taken one at a time.
use Rattle.std.proofs.Common.{◌≡◌, List, [], map, Option, Some, None, refl, is_some}
use Rattle.dh_syntax.specs.Expressions.Tree.{Name}
use Rattle.dh_grammar.specs.Stubs as stubs
use Rattle.dh_grammar.specs.Stubs.{Parts, and_typed, is_typed}
use Rattle.dh_operands.specs.declared.parts.Part.{Part}
use Rattle.dh_operands.specs.Inside.Nodes.{Gathered, and_parts}
use Rattle.dh_operands.specs.Operands.{note_of}

abbrev pub rows_of : List (Name × Option Part) → List (Name × Option (stubs.Part))
rows_of as' = map (λ a. (a.0, note_of a.1)) as'

pub typed-is_some : (a : Option Part) → is_some a ≡ is_typed (note_of a)
typed-is_some None = refl
typed-is_some (Some p) = refl

pub and_note : (g : Gathered) (a : Option (stubs.Part)) (ps : Parts) → and_parts (and_parts g (and_typed a [])) ps ≡ and_parts g (and_typed a ps)
and_note g None ps = refl
and_note g (Some p) ps = refl
