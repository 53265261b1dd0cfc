-- What `toMap` gives for a field, and the labels of the alternatives of an optional value.
use Rattle.std.specs.Prelude.{List, [], ◌∷◌, codes}
use Rattle.dh_syntax.specs.declared.operators.Builtin.TheVariants as builtins
use Rattle.dh_syntax.specs.Expressions.Forms.{builtin, record_type}
use Rattle.dh_syntax.specs.Expressions.Tree.{Name}
use Rattle.dh_syntax.specs.Names.Nameless.{Core}

-- `mapKey` and `mapValue`
abbrev pub entry_labels : List Name
entry_labels = codes "mapKey" ∷ codes "mapValue" ∷ []

-- `{ mapKey : Text, mapValue : v }`
abbrev pub entry_type : Core → Core
entry_type v = record_type ((codes "mapKey", builtin builtins.Text) ∷ (codes "mapValue", v) ∷ [])

-- `None` and `Some`
abbrev pub optional_labels : List Name
optional_labels = codes "None" ∷ codes "Some" ∷ []
