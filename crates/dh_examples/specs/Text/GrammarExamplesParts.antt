-- Which trees may stand as parts of which: the level of each form, the least level of each part, and that no part is left
-- unread.
use Rattle.std.specs.Prelude.{◌≡◌, true, false, List, [], ◌∷◌, ◌++◌, map, Some, None, pos, refl}
use Rattle.dh_syntax.specs.declared.locations.Mode.TheVariants as modes
use Rattle.dh_syntax.specs.declared.operators.BinOp.TheVariants as binary
use Rattle.dh_syntax.specs.declared.operators.Builtin.TheVariants as builtins
use Rattle.dh_syntax.specs.declared.tokens.TextForm.TheVariants as forms
use Rattle.dh_syntax.specs.Text.Derivation.{one_key, missing, Derivation, lambda, pi, arrow, choice, lets, updates, merge_as, to_map_as, empty_list, assertion, annotation, operation, application, merging, some_of, to_map, import, field, project_none, project, project_by, natural, integer, truth, builtin, variable, text, brackets, list, union_none, union, record_type_none, record_type, record_none, record_of, untyped, typed, one_let, more_lets, one_update, more_updates, start, more_chunks, one_item, more_items, one_alternative, more_alternatives, one_field, more_fields, alone, given, one_entry, more_entries}
use Rattle.dh_syntax.specs.Text.Derived.{binds, derived}
use Rattle.dh_examples.specs.Text.GrammarExamples.{name, key, v}

-- the tree of the variable `x`
abbrev x : Derivation
x = v "x"

-- ---- the level of each form

-- the forms of level 0, each with parts that may stand there
abbrev of_level_0 : List Derivation
of_level_0 =
    lambda (name "x") x x ∷ pi (name "x") x x ∷ arrow x x ∷ choice x x x ∷ lets (one_let (name "x") untyped x) x
    ∷ updates (one_update x (one_key (key "x")) x) ∷ merge_as x x x ∷ to_map_as x x ∷ empty_list false x ∷ assertion x
    ∷ annotation x x ∷ []

-- trees of level 14: applications and the forms that go like them
abbrev of_level_14 : List Derivation
of_level_14 = application x x ∷ merging x x ∷ some_of x ∷ to_map x ∷ []

-- trees of level 15: imports and record completion
abbrev of_level_15 : List Derivation
of_level_15 = import missing None modes.Code ∷ operation binary.Complete x x ∷ []

-- trees of level 16: selections
abbrev of_level_16 : List Derivation
of_level_16 = field x (key "x") ∷ project_none x false ∷ project x false (one_key (key "x")) false ∷ project_by x x ∷ []

-- trees of level 17: primitives
abbrev of_level_17 : List Derivation
of_level_17 =
    natural 1 ∷ integer (pos 1) ∷ truth true ∷ builtin builtins.List ∷ variable (name "x") (Some 1)
    ∷ text forms.DoubleQuoted (start None) ∷ brackets x ∷ list false (one_item x) false ∷ union_none false
    ∷ union false (one_alternative (key "x") untyped) false ∷ record_type_none false
    ∷ record_type false (one_field (key "x") x) false ∷ record_none false false ∷ record_of false (one_entry (alone (key "x"))) false
    ∷ []

level_0 : map binds of_level_0 ≡ map (λ d. 0) of_level_0
level_0 = refl

level_14 : map binds of_level_14 ≡ map (λ d. 14) of_level_14
level_14 = refl

level_15 : map binds of_level_15 ≡ map (λ d. 15) of_level_15
level_15 = refl

level_16 : map binds of_level_16 ≡ map (λ d. 16) of_level_16
level_16 = refl

level_17 : map binds of_level_17 ≡ map (λ d. 17) of_level_17
level_17 = refl

-- ---- the least level of each part

-- the places of an `op`, of an `app`, of an `imp` and of a `sel`, with this tree there
abbrev with_op : Derivation → List Derivation
with_op d =
    arrow d x ∷ annotation d x ∷ updates (one_update x (one_key (key "x")) d)
    ∷ updates (more_updates (one_update x (one_key (key "x")) x) (one_key (key "x")) d) ∷ []

-- trees in which this one is the function of an application
abbrev with_app : Derivation → List Derivation
with_app d = application d x ∷ []

-- trees in which this one is an argument, or another part that needs level 15
abbrev with_imp : Derivation → List Derivation
with_imp d =
    application x d ∷ merging d x ∷ merging x d ∷ some_of d ∷ to_map d ∷ merge_as d x x ∷ merge_as x d x ∷ to_map_as d x
    ∷ updates (one_update d (one_key (key "x")) x) ∷ []

-- trees in which this one is selected from, or stands on either side of a completion
abbrev with_sel : Derivation → List Derivation
with_sel d =
    field d (key "x") ∷ project_none d false ∷ project d false (one_key (key "x")) false ∷ project_by d x
    ∷ operation binary.Complete d x ∷ operation binary.Complete x d ∷ []

-- each of these trees is one of the grammar
abbrev AllDerived : List Derivation → Type 0
AllDerived ds = map derived ds ≡ map (λ d. true) ds

-- none of these trees is one of the grammar
abbrev NoneDerived : List Derivation → Type 0
NoneDerived ds = map derived ds ≡ map (λ d. false) ds

level_1_as_op : AllDerived (with_op (operation binary.Equivalent x x))
level_1_as_op = refl

level_14_as_app : AllDerived (with_app (merging x x))
level_14_as_app = refl

level_15_as_imp : AllDerived (with_imp (import missing None modes.Code))
level_15_as_imp = refl

level_16_as_sel : AllDerived (with_sel (project_none x false))
level_16_as_sel = refl

level_0_as_no_op : NoneDerived (with_op (assertion x))
level_0_as_no_op = refl

level_13_as_no_app : NoneDerived (with_app (operation binary.NotEqual x x))
level_13_as_no_app = refl

level_14_as_no_imp : NoneDerived (with_imp (application x x))
level_14_as_no_imp = refl

level_15_as_no_sel : NoneDerived (with_sel (import missing None modes.Code))
level_15_as_no_sel = refl

-- an annotation may follow `Some x` and a longer application
annotated : AllDerived (annotation (some_of x) x ∷ annotation (application (merging x x) x) x ∷ annotation (operation binary.Plus (to_map x) x) x ∷ [])
annotated = refl

-- ---- every part counts

-- each place of each form, with this tree there
abbrev with_part : Derivation → List Derivation
with_part d =
    lambda (name "x") d x ∷ lambda (name "x") x d ∷ pi (name "x") d x ∷ pi (name "x") x d ∷ arrow d x ∷ arrow x d
    ∷ choice d x x ∷ choice x d x ∷ choice x x d
    ∷ lets (one_let (name "x") (typed d) x) x ∷ lets (one_let (name "x") untyped d) x ∷ lets (one_let (name "x") untyped x) d
    ∷ lets (more_lets (one_let (name "x") untyped d) (name "x") untyped x) x
    ∷ lets (more_lets (one_let (name "x") untyped x) (name "x") (typed d) x) x
    ∷ lets (more_lets (one_let (name "x") untyped x) (name "x") untyped d) x
    ∷ with_op d ++ with_app d ++ with_imp d ++ with_sel d
    ++ updates (more_updates (one_update x (one_key (key "x")) d) (one_key (key "x")) x)
    ∷ merge_as x x d ∷ to_map_as x d ∷ empty_list false d ∷ assertion d ∷ annotation x d
    ∷ operation binary.Plus d x ∷ operation binary.Plus x d ∷ project_by x d
    ∷ text forms.DoubleQuoted (more_chunks (start None) d None)
    ∷ text forms.DoubleQuoted (more_chunks (more_chunks (start None) d None) x None)
    ∷ brackets d ∷ list false (one_item d) false ∷ list false (more_items (one_item d) x) false ∷ list false (more_items (one_item x) d) false
    ∷ union false (one_alternative (key "x") (typed d)) false
    ∷ union false (more_alternatives (one_alternative (key "x") (typed d)) (key "y") untyped) false
    ∷ union false (more_alternatives (one_alternative (key "x") untyped) (key "y") (typed d)) false
    ∷ record_type false (one_field (key "x") d) false
    ∷ record_type false (more_fields (one_field (key "x") d) (key "y") x) false
    ∷ record_type false (more_fields (one_field (key "x") x) (key "y") d) false
    ∷ record_of false (one_entry (given (one_key (key "x")) d)) false
    ∷ record_of false (more_entries (one_entry (given (one_key (key "x")) d)) (alone (key "x"))) false
    ∷ record_of false (more_entries (one_entry (alone (key "x"))) (given (one_key (key "x")) d)) false
    ∷ []

good_part : AllDerived (with_part (brackets (assertion x)))
good_part = refl

-- `(x + assert : x)`
bad_part : NoneDerived (with_part (brackets (operation binary.Plus x (assertion x))))
bad_part = refl
