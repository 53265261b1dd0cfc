-- What the parts, operands, bindings, texts and items of the program stand for.
use Rattle.std.specs.Prelude.{List, map, Option, option_map}
use Rattle.dh_syntax.specs.Expressions.Bridge.{term}
use Rattle.dh_grammar.specs.Stubs as stubs
use Rattle.dh_grammar.specs.Stubs.{Kept, KeptBinding, KeptTexts}
use Rattle.dh_operands.specs.declared.bindings.Binding.{Binding}
use Rattle.dh_operands.specs.declared.bindings.Lets.{Lets}
use Rattle.dh_operands.specs.declared.chunks.Chunks.{Chunks}
use Rattle.dh_operands.specs.declared.items.Items.{Items}
use Rattle.dh_operands.specs.declared.operands.Operand.{Operand}
use Rattle.dh_operands.specs.declared.parts.Part.{Part}

-- an expression and how deep it nests
abbrev pub part_of : Part → stubs.Part
part_of p = record { expression = term p.expression; nests = p.nests }

-- an annotation, where there is one
abbrev pub note_of : Option Part → Option (stubs.Part)
note_of a = option_map part_of a

-- what stands between the pieces of a text
abbrev pub chunks_of : Chunks → KeptTexts
chunks_of cs = record { pieces = cs.pieces; interpolations = map part_of cs.interpolations }

-- the elements of a list of the program
abbrev pub items_of : Items → List (stubs.Part)
items_of is = map part_of is.parts

-- a part and how tightly it binds
abbrev pub operand_of : Operand → Kept
operand_of x = record { part = part_of x.part; level = x.level }

-- a binding of the program: its name, its annotation and its value
abbrev pub binding_of : Binding → KeptBinding
binding_of b = record { name = b.name; annotation = note_of b.annotation; value = part_of b.value }

-- the bindings of a `let` of the program
abbrev pub lets_of : Lets → List KeptBinding
lets_of ls = map binding_of ls.bindings
