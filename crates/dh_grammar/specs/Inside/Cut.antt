-- What the machine over expressions makes, with a stub in place of what nests too deep.
use Rattle.std.specs.Prelude.{map}
use Rattle.dh_syntax.specs.Expressions.Nesting.{nesting}
use Rattle.dh_syntax.specs.Expressions.Tree.{Name, Term}
use Rattle.dh_grammar.specs.Inside.Mapping.{Mapping}
use Rattle.dh_grammar.specs.Making.{option_map}
use Rattle.dh_grammar.specs.Inside.Terms.{Operand, Binding, term_sorts}
use Rattle.dh_grammar.specs.Stubs.{Part, Kept, KeptBinding, stub_sorts, kept, at}

-- an expression with its nesting, or a stub where it nests too deep
abbrev pub cut : Term → Part
cut e = kept e (nesting e)

-- an operand whose expression is a stub where it nests too deep
abbrev pub cut_tree : Operand → Kept
cut_tree x = at x.level (cut x.expression)

-- a binding whose expressions are stubs where they nest too deep
abbrev pub cut_binding : Binding → KeptBinding
cut_binding b = record { name = b.name; annotation = option_map cut b.annotation; value = cut b.value }

-- a function on what stands behind a label
abbrev pub labelled : {X Y : Type 0} → (X → Y) → Name × X → Name × Y
labelled f e = (e.0, f e.1)

-- from plain expressions to those that are stubs where they nest too deep
abbrev pub cutting : Mapping term_sorts stub_sorts
cutting = record {
  tree = cut_tree;
  note = option_map cut;
  lets = map cut_binding;
  chunks = λ cs. record { pieces = cs.pieces; interpolations = map cut cs.interpolations };
  items = map cut;
  alternatives = map (labelled (option_map cut));
  fields = map (labelled cut);
  entry = labelled cut;
  entries = map (labelled cut);
}
