-- Where the grammar asks for white space, and how many expressions stand open at each token.
use Rattle.std.specs.Prelude.{◌≡◌, ℕ, Bool, true, false, List, [], ◌∷◌, ◌++◌, map, replicate, Some, None, Ok, codes, refl}
use Prim.Native.String.{String}
use Rattle.dh_syntax.specs.declared.locations.Digest.{Digest}
use Rattle.dh_syntax.specs.declared.locations.Loc.TheVariants as locs
use Rattle.dh_syntax.specs.declared.locations.Mode.TheVariants as modes
use Rattle.dh_syntax.specs.declared.operators.BinOp.TheVariants as binary
use Rattle.dh_syntax.specs.declared.tokens.TextForm.TheVariants as forms
use Rattle.dh_syntax.specs.Text.Derivation.{quoted, name_key, one_key, more_keys, path, missing, Derivation, lambda, pi, arrow, choice, lets, updates, merge_as, to_map_as, empty_list, assertion, annotation, operation, application, merging, some_of, to_map, import, field, project_none, project, project_by, variable, text, brackets, list, union, record_type, record_none, record_of, untyped, typed, one_let, more_lets, one_update, more_updates, start, more_chunks, one_item, more_items, one_alternative, more_alternatives, one_field, more_fields, alone, given, one_entry, more_entries}
use Rattle.dh_examples.specs.Text.GrammarExamples.{tokens_of, fitted, name, key, v}
use Rattle.dh_syntax.specs.Text.Yield.{text_yield}

-- ---- texts in which one gap is wanting

-- each text has the tokens of its tree, but not all of the gaps
abbrev AllLackGaps : List (String × Derivation) → Type 0
AllLackGaps cases = map (λ c. fitted c.1 (tokens_of c.0)) cases ≡ map (λ c. Ok (map (λ w. w.kind) (text_yield c.1), false)) cases

-- the tree of the variable `a`
abbrev a : Derivation
a = v "a"

-- the tree of the variable `b`
abbrev b : Derivation
b = v "b"

-- the tree of the variable `c`
abbrev c : Derivation
c = v "c"

-- the tree of `(b)`
abbrev in_brackets : Derivation
in_brackets = brackets b

binders : AllLackGaps (("λ(x :a) → b", lambda (name "x") a b) ∷ ("∀(x :a) → b", pi (name "x") a b) ∷ [])
unfolding tokens_of
binders = refl

choices :
    AllLackGaps (("if(b) then a else c", choice in_brackets a c) ∷ ("if a then(b) else c", choice a in_brackets c)
    ∷ ("if a then c else(b)", choice a c in_brackets) ∷ [])
unfolding tokens_of
choices = refl

lets_lacking :
    AllLackGaps (("let`x` = a in b", lets (one_let (quoted (codes "x")) untyped a) b)
    ∷ ("let x :a = c in b", lets (one_let (name "x") (typed a) c) b)
    ∷ ("let x = (b)in a", lets (one_let (name "x") untyped in_brackets) a)
    ∷ ("let x = a in(b)", lets (one_let (name "x") untyped a) in_brackets)
    ∷ ("let x = (b)let y = a in c", lets (more_lets (one_let (name "x") untyped in_brackets) (name "y") untyped a) c)
    ∷ ("let x = a let`y` = b in c", lets (more_lets (one_let (name "x") untyped a) (quoted (codes "y")) untyped b) c) ∷ [])
unfolding tokens_of
lets_lacking = refl

updates_lacking :
    AllLackGaps (("(b)with x = a", updates (one_update in_brackets (one_key (key "x")) a))
    ∷ ("a with`x` = b", updates (one_update a (one_key (name_key (quoted (codes "x")))) b))
    ∷ ("a with x = (b)with y = c", updates (more_updates (one_update a (one_key (key "x")) in_brackets) (one_key (key "y")) c))
    ∷ ("a with x = b with`y` = c", updates (more_updates (one_update a (one_key (key "x")) b) (one_key (name_key (quoted (codes "y")))) c)) ∷ [])
unfolding tokens_of
updates_lacking = refl

merges :
    AllLackGaps (("merge(b) a", merging in_brackets a) ∷ ("merge a(b)", merging a in_brackets) ∷ ("merge(b) a : c", merge_as in_brackets a c)
    ∷ ("merge a(b) : c", merge_as a in_brackets c) ∷ ("merge a b :c", merge_as a b c) ∷ [])
unfolding tokens_of
merges = refl

maps_and_applications :
    AllLackGaps (("toMap(b)", to_map in_brackets) ∷ ("toMap(b) : a", to_map_as in_brackets a) ∷ ("toMap a :b", to_map_as a b)
    ∷ ("Some(b)", some_of in_brackets) ∷ ("a(b)", application a in_brackets) ∷ [])
unfolding tokens_of
maps_and_applications = refl

types :
    AllLackGaps (("a :b", annotation a b) ∷ ("[] :a", empty_list false a) ∷ ("assert :a", assertion a)
    ∷ ("< x :a >", union false (one_alternative (key "x") (typed a)) false)
    ∷ ("{ x :a }", record_type false (one_field (key "x") a) false)
    ∷ ("{ x : a, y :b }", record_type false (more_fields (one_field (key "x") a) (key "y") b) false) ∷ [])
unfolding tokens_of
types = refl

plus_and_fallback : AllLackGaps (("a +b", operation binary.Plus a b) ∷ ("a ?b", operation binary.Fallback a b) ∷ [])
unfolding tokens_of
plus_and_fallback = refl

-- the digest that is all zero
abbrev zeros : Digest
zeros = record { 0 = replicate 32 0 }

digests :
    AllLackGaps (("./\"a\"sha256:0000000000000000000000000000000000000000000000000000000000000000", import (path (locs.Here (codes "a" ∷ []))) (Some zeros) modes.Code) ∷ [])
unfolding tokens_of
digests = refl

-- ---- gaps and open expressions, token by token

-- a token before which a gap is needed, or may stand, where so many expressions are open
abbrev gap : ℕ → Bool × ℕ
gap n = (true, n)

-- a token before which no gap is needed, where so many expressions are open
abbrev near : ℕ → Bool × ℕ
near n = (false, n)

-- the tokens of a tree, the end of the text aside
abbrev Stands : Derivation → List (Bool × ℕ) → Type 0
Stands d ts = map (λ w. (w.gap, w.depth)) (text_yield d) ≡ ts ++ near 0 ∷ []

-- `λ(x : a) → b`
lambda_stands : Stands (lambda (name "x") a b) (near 1 ∷ near 1 ∷ near 1 ∷ near 1 ∷ gap 2 ∷ near 1 ∷ near 1 ∷ near 2 ∷ [])
lambda_stands = refl

-- `∀(x : a) → b`
pi_stands : Stands (pi (name "x") a b) (near 1 ∷ near 1 ∷ near 1 ∷ near 1 ∷ gap 2 ∷ near 1 ∷ near 1 ∷ near 2 ∷ [])
pi_stands = refl

-- `a → b → c`
arrows_stand : Stands (arrow a (arrow b c)) (near 1 ∷ near 1 ∷ near 2 ∷ near 2 ∷ near 3 ∷ [])
arrows_stand = refl

-- `if a then b else c`
choice_stands : Stands (choice a b c) (near 1 ∷ gap 2 ∷ near 1 ∷ gap 2 ∷ near 1 ∷ gap 2 ∷ [])
choice_stands = refl

-- `let x : a = b let y : b = c in a`, whose lets count once
lets_stand :
    Stands (lets (more_lets (one_let (name "x") (typed a) b) (name "y") (typed b) c) a)
    (near 1 ∷ gap 1 ∷ near 1 ∷ gap 2 ∷ near 1 ∷ near 2 ∷ gap 1 ∷ gap 1 ∷ near 1 ∷ gap 2 ∷ near 1 ∷ near 2 ∷ gap 1 ∷ gap 2 ∷ [])
lets_stand = refl

-- `a with x.y = b with x.y = c`
updates_stand :
    Stands (updates (more_updates (one_update a (more_keys (one_key (key "x")) (key "y")) b) (more_keys (one_key (key "x")) (key "y")) c))
    (near 1 ∷ gap 1 ∷ gap 1 ∷ near 1 ∷ near 1 ∷ near 1 ∷ near 1 ∷ gap 1 ∷ gap 1 ∷ near 1 ∷ near 1 ∷ near 1 ∷ near 1 ∷ [])
updates_stand = refl

-- `merge a b : c`
merge_as_stands : Stands (merge_as a b c) (near 1 ∷ gap 1 ∷ gap 1 ∷ near 1 ∷ gap 2 ∷ [])
merge_as_stands = refl

-- `toMap a : b`
to_map_as_stands : Stands (to_map_as a b) (near 1 ∷ gap 1 ∷ near 1 ∷ gap 2 ∷ [])
to_map_as_stands = refl

-- `[ , ] : a`
empty_list_stands : Stands (empty_list true a) (near 1 ∷ near 1 ∷ near 1 ∷ near 1 ∷ gap 2 ∷ [])
empty_list_stands = refl

-- `assert : a`
assertion_stands : Stands (assertion a) (near 1 ∷ near 1 ∷ gap 2 ∷ [])
assertion_stands = refl

-- `a : b`
annotation_stands : Stands (annotation a b) (near 1 ∷ near 1 ∷ gap 2 ∷ [])
annotation_stands = refl

-- `a + b`, `a ? b`, `a ++ b`
operations_stand : map (λ o. map (λ w. (w.gap, w.depth)) (text_yield (operation o a b))) (binary.Plus ∷ binary.Fallback ∷ binary.TextAppend ∷ [])
    ≡ (near 1 ∷ near 1 ∷ gap 1 ∷ near 0 ∷ []) ∷ (near 1 ∷ near 1 ∷ gap 1 ∷ near 0 ∷ []) ∷ (near 1 ∷ near 1 ∷ near 1 ∷ near 0 ∷ []) ∷ []
operations_stand = refl

-- `merge a b c`
application_stands : Stands (application (merging a b) c) (near 1 ∷ gap 1 ∷ gap 1 ∷ gap 1 ∷ [])
application_stands = refl

-- `Some a`, `toMap a`
some_stands : Stands (some_of a) (near 1 ∷ gap 1 ∷ [])
some_stands = refl

to_map_stands : Stands (to_map a) (near 1 ∷ gap 1 ∷ [])
to_map_stands = refl

-- `missing sha256:00.. as Text`, `missing as Location`
import_stands : Stands (import missing (Some zeros) modes.Text) (near 1 ∷ gap 1 ∷ near 1 ∷ gap 1 ∷ [])
import_stands = refl

location_stands : Stands (import missing None modes.Location) (near 1 ∷ near 1 ∷ gap 1 ∷ [])
location_stands = refl

-- `a.x.{,}.{ , x , y , }.(b)`
selections_stand :
    Stands (project_by (project (project_none (field a (key "x")) true) true (more_keys (one_key (key "x")) (key "y")) true) b)
    (near 1 ∷ near 1 ∷ near 1 ∷ near 1 ∷ near 1 ∷ near 1 ∷ near 1 ∷ near 1 ∷ near 1 ∷ near 1 ∷ near 1 ∷ near 1 ∷ near 1 ∷ near 1 ∷ near 1 ∷ near 1
    ∷ near 1 ∷ near 2 ∷ near 1 ∷ [])
selections_stand = refl

-- `x@1`
variable_stands : Stands (variable (name "x") (Some 1)) (near 1 ∷ near 1 ∷ near 1 ∷ [])
variable_stands = refl

-- `"x${a}y${b}"`
text_stands :
    Stands (text forms.DoubleQuoted (more_chunks (more_chunks (start (Some (codes "x"))) a (Some (codes "y"))) b None))
    (near 1 ∷ near 1 ∷ near 1 ∷ near 2 ∷ near 1 ∷ near 1 ∷ near 1 ∷ near 2 ∷ near 1 ∷ near 1 ∷ [])
text_stands = refl

-- `[ , (a), b , ]`
list_stands :
    Stands (list true (more_items (one_item (brackets a)) b) true) (near 1 ∷ near 1 ∷ near 2 ∷ near 3 ∷ near 2 ∷ near 1 ∷ near 2 ∷ near 1 ∷ near 1 ∷ [])
list_stands = refl

-- `< | x : a | y : b | >`
union_stands :
    Stands (union true (more_alternatives (one_alternative (key "x") (typed a)) (key "y") (typed b)) true)
    (near 1 ∷ near 1 ∷ near 1 ∷ near 1 ∷ gap 2 ∷ near 1 ∷ near 1 ∷ near 1 ∷ gap 2 ∷ near 1 ∷ near 1 ∷ [])
union_stands = refl

-- `{ x : a , y : b }`
record_type_stands :
    Stands (record_type false (more_fields (one_field (key "x") a) (key "y") b) false)
    (near 1 ∷ near 1 ∷ near 1 ∷ gap 2 ∷ near 1 ∷ near 1 ∷ near 1 ∷ gap 2 ∷ near 1 ∷ [])
record_type_stands = refl

-- `{ , = , }`
empty_record_stands : Stands (record_none true true) (near 1 ∷ near 1 ∷ near 1 ∷ near 1 ∷ near 1 ∷ [])
empty_record_stands = refl

-- `{ x, x.y = a }`
record_stands :
    Stands (record_of false (more_entries (one_entry (alone (key "x"))) (given (more_keys (one_key (key "x")) (key "y")) a)) false)
    (near 1 ∷ near 1 ∷ near 1 ∷ near 1 ∷ near 1 ∷ near 1 ∷ near 1 ∷ near 2 ∷ near 1 ∷ [])
record_stands = refl
