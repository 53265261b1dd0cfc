-- Setting a path in a record type, level by level.
use Rattle.std.specs.Prelude.{◌≡◌, ℕ, true, List, [], ◌∷◌, Option, Some, None, option_map, option_and_then, unwrap_or, is_some}
use Rattle.dh_syntax.specs.Expressions.Forms.{record_type}
use Rattle.dh_syntax.specs.Expressions.Labels.{add_field, field_at}
use Rattle.dh_syntax.specs.Expressions.Tree.{Name}
use Rattle.dh_syntax.specs.Expressions.Views.{as_record_type}
use Rattle.dh_syntax.specs.Names.Nameless.{Core}
use Rattle.dh_syntax.specs.Typing.TypeRulesRecords.{type_with}

-- the record type t with a type under the label x, if there is one
abbrev pub with_field : Name → Core → Option Core → Option Core
with_field x t o = option_and_then (λ fs. option_map (λ u. record_type (add_field (λ d e. e) fs x u)) o) (as_record_type t)

-- these record types with each other under the labels of the path, and the last one with a type, if there is one
abbrev pub around : (ℕ → Core) → List Name → List ℕ → Option Core → Option Core
around f (x ∷ path) (c ∷ cs) o = with_field x (f c) (around f path cs o)
around f _ _ o = o

-- the type under the label x, the empty record type where there is none
abbrev pub type_under : Name → Core → Option Core
type_under x t = option_map (λ fs. unwrap_or (field_at x fs) (record_type [])) (as_record_type t)

-- the path can be set in t, and these levels are all that there is to it
pub record AreLevels (f : ℕ → Core) (path : List Name) (t : Core) (cs : List ℕ) : Type 0 where
  pub set : (v : Core) → is_some (type_with path v t) ≡ true
  pub made : (v : Core) → type_with path v t ≡ around f path cs (Some v)

-- the path cannot be set in t
abbrev pub IsNoPath : List Name → Core → Type 0
IsNoPath path t = (v : Core) → type_with path v t ≡ None
