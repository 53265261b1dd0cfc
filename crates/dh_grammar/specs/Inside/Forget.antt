-- What the machine over expressions makes of what the one over derivation trees makes: its meaning.
use Rattle.std.specs.Prelude.{List, [], ◌∷◌, ◌++◌}
use Rattle.dh_syntax.specs.Text.Derivation.{name_label, Derivation, Lets, one_let, more_lets, Chunks}
use Rattle.dh_syntax.specs.Text.Derived.{binds}
use Rattle.dh_syntax.specs.Text.Meaning.{items, meaning, note, alternatives, fields, entry, entries, pieces, interpolations}
use Rattle.dh_grammar.specs.Machine as machine
use Rattle.dh_grammar.specs.Inside.Mapping.{Mapping, map_state}
use Rattle.dh_grammar.specs.Inside.Terms.{Operand, Binding, Texts, term_sorts}
use Rattle.dh_grammar.specs.Trees as trees
use Rattle.dh_grammar.specs.Trees.{tree_sorts}

-- the expression that a derivation means, with how tightly it binds
abbrev pub ftree : Derivation → Operand
ftree d = record { expression = meaning d; level = binds d }

-- the bindings of a derivation as a list
abbrev pub let_list : Lets → List Binding
let_list (one_let w a v) = record { name = name_label w; annotation = note a; value = meaning v } ∷ []
let_list (more_lets ls w a v) = let_list ls ++ record { name = name_label w; annotation = note a; value = meaning v } ∷ []

-- the pieces and the interpolations of a text
abbrev pub fchunks : Chunks → Texts
fchunks cs = record { pieces = pieces cs; interpolations = interpolations cs }

-- from derivation trees to what they mean
abbrev pub forgetting : Mapping tree_sorts term_sorts
forgetting = record { tree = ftree; note = note; lets = let_list; chunks = fchunks; items = items; alternatives = alternatives; fields = fields; entry = entry; entries = entries }

-- a state over derivation trees, with what they mean in their place
abbrev pub forget : trees.State → machine.State term_sorts
forget = map_state forgetting
