-- Types of built-ins without names of variables.
use Rattle.std.specs.Prelude.{ℕ, List, [], ◌∷◌, codes}
use Rattle.dh_syntax.specs.declared.operators.Builtin.{Builtin}
use Rattle.dh_syntax.specs.declared.operators.Builtin.TheVariants as builtins
use Rattle.dh_syntax.specs.Expressions.Forms.{builtin, call, forall, list_type, record_type}
use Rattle.dh_syntax.specs.Expressions.Tree.{Leaf, Name}
use Rattle.dh_syntax.specs.Names.Nameless.{Bound, Core}

-- the bound variable of this number
abbrev pub var : ℕ → Core
var i = Leaf (Bound i)

-- `∀(x : b) → e` of a constant b
abbrev pub over : Name → Builtin → Core → Core
over x b e = forall x (builtin b) e

-- `a → b`
abbrev pub arrow : Core → Core → Core
arrow a b = forall (codes "_") a b

-- `∀(succ : natural → natural) → ∀(zero : natural) → natural`
abbrev pub counting_steps : Core
counting_steps = forall (codes "succ") (arrow (var 0) (var 1)) (forall (codes "zero") (var 1) (var 2))

-- `∀(natural : Type) → ∀(succ : natural → natural) → ∀(zero : natural) → natural`
abbrev pub counting : Core
counting = over (codes "natural") builtins.TypeConst counting_steps

-- `∀(cons : a → list → list) → ∀(nil : list) → list`, where a is the binder i above
abbrev pub listing_steps : ℕ → Core
listing_steps i = forall (codes "cons") (arrow (var i) (arrow (var 1) (var 2))) (forall (codes "nil") (var 1) (var 2))

-- `∀(list : Type) → ∀(cons : a → list → list) → ∀(nil : list) → list`
abbrev pub listing : ℕ → Core
listing i = over (codes "list") builtins.TypeConst (listing_steps i)

-- `∀(a : Type) → e`
abbrev pub for_each : Core → Core
for_each e = over (codes "a") builtins.TypeConst e

-- `∀(a : Type) → List a → e`
abbrev pub of_list : Core → Core
of_list e = for_each (arrow (list_type (var 0)) e)

-- `index` and `value`
abbrev pub entry_labels : List Name
entry_labels = codes "index" ∷ codes "value" ∷ []

-- `{ index : Natural, value : a }`
abbrev pub indexed : Core
indexed = record_type ((codes "index", builtin builtins.Natural) ∷ (codes "value", var 1) ∷ [])

-- `∀(A : Type) → Optional A`
abbrev pub none_type : Core
none_type = over (codes "A") builtins.TypeConst (call builtins.Optional (var 0 ∷ []))

-- `∀(needle : Text) → ∀(replacement : Text) → ∀(haystack : Text) → Text`
abbrev pub replace_type : Core
replace_type = over (codes "needle") builtins.Text (over (codes "replacement") builtins.Text (over (codes "haystack") builtins.Text (builtin builtins.Text)))
