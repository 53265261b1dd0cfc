-- Lists of labels, and of fields in the order of their labels.
use Rattle.std.specs.Prelude.{Bool, true, false, not, ◌||◌, List, [], ◌∷◌, Option, Some, None, if◌then◌else◌}
use Rattle.dh_syntax.specs.declared.expressions.Alt.{Alt}
use Rattle.dh_syntax.specs.Expressions.Forms.{Fields}
use Rattle.dh_syntax.specs.Expressions.Numbers.{bytes_eq}
use Rattle.dh_syntax.specs.Expressions.Order.{before}
use Rattle.dh_syntax.specs.Expressions.Tree.{Tree, Name}

-- whether a list has no element
abbrev pub is_empty : {X : Type 0} → List X → Bool
is_empty [] = true
is_empty (x ∷ xs) = false

-- whether a record has more than one field
abbrev pub has_others : {X : Type 0} → List X → Bool
has_others (x ∷ y ∷ xs) = true
has_others _ = false

-- whether a label is among these
abbrev pub has_label : List Name → Name → Bool
has_label [] x = false
has_label (y ∷ ys) x = bytes_eq x y || has_label ys x

-- the labels that are not among the first ones
abbrev pub labels_without : List Name → List Name → List Name
labels_without ks [] = []
labels_without ks (x ∷ xs) = if has_label ks x then labels_without ks xs else (x ∷ labels_without ks xs)

-- whether the union has the alternative x, without a type
abbrev pub is_empty_alternative : Name → List Alt → Bool
is_empty_alternative x [] = false
is_empty_alternative x (a ∷ as') = if bytes_eq x a.label then not a.typed else is_empty_alternative x as'

module _ {A B : Type 0} where
  -- what the field x holds
  abbrev pub field_at : Name → Fields A B → Option (Tree A B)
  field_at x [] = None
  field_at x ((y, e) ∷ fs) = if bytes_eq x y then Some e else field_at x fs

  abbrev pub prepend_field : Name → Option (Tree A B) → Option (Fields A B) → Option (Fields A B)
  prepend_field x (Some e) (Some fs) = Some ((x, e) ∷ fs)
  prepend_field x _ _ = None

  -- these fields, where each of them is there
  abbrev pub fields_at : List Name → Fields A B → Option (Fields A B)
  fields_at [] fs = Some []
  fields_at (x ∷ xs) fs = prepend_field x (field_at x fs) (fields_at xs fs)

  -- the fields that have one of these labels
  abbrev pub fields_among : List Name → Fields A B → Fields A B
  fields_among xs [] = []
  fields_among xs ((y, e) ∷ fs) = if has_label xs y then ((y, e) ∷ fields_among xs fs) else fields_among xs fs

  -- the fields with one more, in the order of their labels; `join` gives what a field holds that is there already
  abbrev pub add_field : (Tree A B → Tree A B → Tree A B) → Fields A B → Name → Tree A B → Fields A B
  add_field join [] x e = (x, e) ∷ []
  add_field join ((y, d) ∷ fs) x e =
      if bytes_eq x y then ((y, join d e) ∷ fs)
      else if before x y then ((x, e) ∷ (y, d) ∷ fs)
      else ((y, d) ∷ add_field join fs x e)

  -- all fields of both, the common ones joined
  abbrev pub all_fields : (Tree A B → Tree A B → Tree A B) → Fields A B → Fields A B → Fields A B
  all_fields join fs [] = fs
  all_fields join fs ((x, e) ∷ gs) = all_fields join (add_field join fs x e) gs
