-- Each case of `merge` and of `toMap`, once.
use Rattle.std.specs.Prelude.{◌≡◌, refl, true, false, [], ◌∷◌, codes}
use Rattle.dh_syntax.specs.declared.expressions.Op.TheVariants as ops
use Rattle.dh_syntax.specs.Normalising.Contraction.{Nothing, Gives}
use Rattle.dh_syntax.specs.Expressions.Forms.{plain_text, app, list, empty_list, some, none, union, field, merge, record_literal, to_map, to_map_typed, plain_row}
use Rattle.dh_examples.specs.Normalising.Stages.{at}
use Rattle.dh_examples.specs.Vocabulary.{a, b, natural_type, no_fields, p, q, r, with_both}
use Rattle.dh_syntax.specs.Expressions.Tree.{Node, Term}

-- ---- merge

-- `< a | b : Natural >`
abbrev choice : Term
choice = union (record { label = a; typed = false } ∷ record { label = b; typed = true } ∷ []) (natural_type ∷ [])

-- `{ None = p, Some = q }`
abbrev optional : Term
optional = record_literal ((codes "None", p) ∷ (codes "Some", q) ∷ [])

-- `merge { a = p, b = q } (< a | b : Natural >.b r)` is `q r`
merge_typed : at 2 (merge with_both (app (field choice b) r)) ≡ Gives (app q r)
merge_typed = refl

merge_early : at 1 (merge with_both (app (field choice b) r)) ≡ Nothing
merge_early = refl

-- `merge { a = p, b = q } < a | b : Natural >.a` is p; at `.b`, which has a type, it stays
merge_empty : at 2 (merge with_both (field choice a)) ≡ Gives p
merge_empty = refl

merge_unapplied : at 2 (merge with_both (field choice b)) ≡ Nothing
merge_unapplied = refl

-- `merge { a = p, b = q } < a : Natural | b >.b` is q
merge_empty_second : at 2 (merge with_both (field (union (record { label = a; typed = true } ∷ record { label = b; typed = false } ∷ []) (natural_type ∷ [])) b)) ≡ Gives q
merge_empty_second = refl

-- the applied alternative is not looked up in its union
merge_asks_nothing : at 2 (merge with_both (app (field choice a) r)) ≡ Gives (app p r)
merge_asks_nothing = refl

-- `merge { None = p, Some = q } (Some r)` is `q r`, and of `None Natural` it is p
merge_some : at 2 (merge optional (some r)) ≡ Gives (app q r)
merge_some = refl

merge_none : at 2 (merge optional (none natural_type)) ≡ Gives p
merge_none = refl

-- without the handler, and with handlers that are no record
merge_unhandled : at 2 (merge with_both (some r)) ≡ Nothing
merge_unhandled = refl

merge_stuck : at 2 (merge p (some r)) ≡ Nothing
merge_stuck = refl

merge_field : at 2 (merge with_both (field p a)) ≡ Nothing
merge_field = refl

-- `merge { None = p, Some = q } (Some r) : Natural`
merge_annotated : at 2 (Node (ops.Merge true) (plain_row (optional ∷ some r ∷ natural_type ∷ []))) ≡ Gives (app q r)
merge_annotated = refl

-- ---- toMap

-- `toMap { a = p, b = q }`, with a type too
abbrev entries : Term
entries = list (
    record_literal ((codes "mapKey", plain_text a) ∷ (codes "mapValue", p) ∷ [])
    ∷ record_literal ((codes "mapKey", plain_text b) ∷ (codes "mapValue", q) ∷ []) ∷ [])

map_fields : at 1 (to_map with_both) ≡ Gives entries
map_fields = refl

map_fields_typed : at 1 (to_map_typed with_both r) ≡ Gives entries
map_fields_typed = refl

map_early : at 0 (to_map with_both) ≡ Nothing
map_early = refl

-- `toMap {=} : p` is `[] : p`, and `toMap {=}` stays
map_empty : at 1 (to_map_typed no_fields p) ≡ Gives (empty_list p)
map_empty = refl

map_untyped : at 1 (to_map no_fields) ≡ Nothing
map_untyped = refl

map_stuck : at 1 (to_map p) ≡ Nothing
map_stuck = refl
