-- Texts with a tree and an expression: records and record types, and the labels that are refused.
use Rattle.std.specs.Prelude.{◌≡◌, true, false, List, [], ◌∷◌, refl, codes}
use Rattle.dh_syntax.specs.declared.expressions.Op.TheVariants as ops
use Rattle.dh_syntax.specs.declared.operators.BinOp.TheVariants as binary
use Rattle.dh_syntax.specs.declared.operators.Builtin.TheVariants as builtins
use Rattle.dh_syntax.specs.Text.Derivation.{Derivation, quoted, Key, name_key, truth_key, builtin_key, some_key, one_key, more_keys, operation, project, natural, truth, builtin, brackets, field, union, record_type_none, record_type, record_none, record_of, typed, untyped, one_alternative, more_alternatives, one_field, more_fields, Entry, alone, given, one_entry, more_entries}
use Rattle.dh_syntax.specs.Text.Derived.{derived}
use Rattle.dh_examples.specs.Text.GrammarExamples.{Reads, tokens_of, key, v, node, nat, var, bin, bool}
use Rattle.dh_syntax.specs.Expressions.Tree.{Name, Term}

-- a record with these labels and these values
abbrev record_term : List Name → List Term → Term
record_term xs es = node (ops.Record xs) es

-- the entry `x = e`
abbrev equals : Key → Derivation → Entry
equals k e = given (one_key k) e

-- ---- empty ones

empty_type : Reads "{}" (record_type_none false) (node (ops.RecordType []) [])
unfolding tokens_of
empty_type = refl

empty_type_comma : Reads "{ , }" (record_type_none true) (node (ops.RecordType []) [])
unfolding tokens_of
empty_type_comma = refl

empty_record : Reads "{=}" (record_none false false) (record_term [] [])
unfolding tokens_of
empty_record = refl

empty_record_commas : Reads "{,=,}" (record_none true true) (record_term [] [])
unfolding tokens_of
empty_record_commas = refl

-- ---- record types

-- the labels are put in their order
record_type_read : Reads "{ b : Natural, a : Bool }" (record_type false (more_fields (one_field (key "b") (builtin builtins.Natural)) (key "a") (builtin builtins.Bool)) false)
    (node (ops.RecordType (codes "a" ∷ codes "b" ∷ [])) (bool ∷ node (ops.Builtin builtins.Natural) [] ∷ []))
unfolding tokens_of
record_type_read = refl

record_type_commas : Reads "{ , Some : x , True : y , }" (record_type true (more_fields (one_field some_key (v "x")) (truth_key true) (v "y")) true)
    (node (ops.RecordType (codes "Some" ∷ codes "True" ∷ [])) (var "x" ∷ var "y" ∷ []))
unfolding tokens_of
record_type_commas = refl

-- ---- entries

one_of_each : Reads "{ b = 1, a }" (record_of false (more_entries (one_entry (equals (key "b") (natural 1))) (alone (key "a"))) false)
    (record_term (codes "a" ∷ codes "b" ∷ []) (var "a" ∷ nat 1 ∷ []))
unfolding tokens_of
one_of_each = refl

record_commas : Reads "{,a=1,}" (record_of true (one_entry (equals (key "a") (natural 1))) true) (record_term (codes "a" ∷ []) (nat 1 ∷ []))
unfolding tokens_of
record_commas = refl

-- a label alone is a variable, that of a built-in name too
builtin_alone : Reads "{ Bool }" (record_of false (one_entry (alone (builtin_key builtins.Bool))) false) (record_term (codes "Bool" ∷ []) (var "Bool" ∷ []))
unfolding tokens_of
builtin_alone = refl

quoted_alone : Reads "{ `a b` }" (record_of false (one_entry (alone (name_key (quoted (codes "a b"))))) false) (record_term (codes "a b" ∷ []) (var "a b" ∷ []))
unfolding tokens_of
quoted_alone = refl

dotted_entry : Reads "{ a.b . c = 1 }" (record_of false (one_entry (given (more_keys (more_keys (one_key (key "a")) (key "b")) (key "c")) (natural 1))) false)
    (record_term (codes "a" ∷ []) (record_term (codes "b" ∷ []) (record_term (codes "c" ∷ []) (nat 1 ∷ []) ∷ []) ∷ []))
unfolding tokens_of
dotted_entry = refl

-- two entries of one label become one
joined_entries : Reads "{ b = 1, a.x = 2, a.y = True }"
    (record_of false
    (more_entries
    (more_entries (one_entry (equals (key "b") (natural 1))) (given (more_keys (one_key (key "a")) (key "x")) (natural 2)))
    (given (more_keys (one_key (key "a")) (key "y")) (truth true)))
    false)
    (record_term (codes "a" ∷ codes "b" ∷ [])
    (bin binary.Combine (record_term (codes "x" ∷ []) (nat 2 ∷ [])) (record_term (codes "y" ∷ []) (node (ops.Bool true) [] ∷ [])) ∷ nat 1 ∷ []))
unfolding tokens_of
joined_entries = refl

twice_alone : Reads "{ a, a }" (record_of false (more_entries (one_entry (alone (key "a"))) (alone (key "a"))) false) (record_term (codes "a" ∷ []) (bin binary.Combine (var "a") (var "a") ∷ []))
unfolding tokens_of
twice_alone = refl

-- more than two are joined from the left, wherever they stand
thrice : Reads "{ b = 1, a = x, a = y, c = 2, a = z }"
    (record_of false
    (more_entries
    (more_entries
    (more_entries (more_entries (one_entry (equals (key "b") (natural 1))) (equals (key "a") (v "x"))) (equals (key "a") (v "y")))
    (equals (key "c") (natural 2)))
    (equals (key "a") (v "z")))
    false)
    (record_term (codes "a" ∷ codes "b" ∷ codes "c" ∷ []) (bin binary.Combine (bin binary.Combine (var "x") (var "y")) (var "z") ∷ nat 1 ∷ nat 2 ∷ []))
unfolding tokens_of
thrice = refl

-- the order is that of bytes: a prefix comes first, and capitals before small letters
ordered : Reads "{ ab = 1, b = 2, a = 3, B = 4, `` = 5 }"
    (record_of false
    (more_entries
    (more_entries
    (more_entries (more_entries (one_entry (equals (key "ab") (natural 1))) (equals (key "b") (natural 2))) (equals (key "a") (natural 3)))
    (equals (key "B") (natural 4)))
    (equals (name_key (quoted [])) (natural 5)))
    false)
    (record_term ([] ∷ codes "B" ∷ codes "a" ∷ codes "ab" ∷ codes "b" ∷ []) (nat 5 ∷ nat 4 ∷ nat 3 ∷ nat 1 ∷ nat 2 ∷ []))
unfolding tokens_of
ordered = refl

-- the standard's operator on records, and a selection from what stands in brackets
prefer_then_field : Reads "(x ⫽ { b = 2 }).b" (field (brackets (operation binary.Prefer (v "x") (record_of false (one_entry (equals (key "b") (natural 2))) false))) (key "b"))
    (node (ops.Field (codes "b")) (bin binary.Prefer (var "x") (record_term (codes "b" ∷ []) (nat 2 ∷ [])) ∷ []))
unfolding tokens_of
prefer_then_field = refl

-- ---- labels that are refused where they stand twice

no_field_twice : derived (record_type false (more_fields (more_fields (one_field (key "a") (v "x")) (key "b") (v "y")) (key "a") (v "x")) false) ≡ false
no_field_twice = refl

-- also where they are written in two ways
no_field_twice_quoted : derived (record_type false (more_fields (one_field (builtin_key builtins.Bool) (v "x")) (name_key (quoted (codes "Bool"))) (v "y")) false) ≡ false
no_field_twice_quoted = refl

no_alternative_twice : derived (union false (more_alternatives (one_alternative (key "a") untyped) (key "a") (typed (v "x"))) false) ≡ false
no_alternative_twice = refl

no_alternative_twice_apart : derived (union false (more_alternatives (more_alternatives (one_alternative (key "a") untyped) (key "b") untyped) (key "a") untyped) false) ≡ false
no_alternative_twice_apart = refl

no_label_twice : derived (project (v "x") false (more_keys (more_keys (one_key (key "b")) (key "a")) (key "b")) false) ≡ false
no_label_twice = refl

-- behind two equal labels another one may stand
no_label_twice_before : derived (project (v "x") false (more_keys (more_keys (one_key (key "a")) (key "a")) (key "b")) false) ≡ false
no_label_twice_before = refl

no_field_twice_before : derived (record_type false (more_fields (more_fields (one_field (key "a") (v "x")) (key "a") (v "y")) (key "b") (v "x")) false) ≡ false
no_field_twice_before = refl

no_alternative_twice_before : derived (union false (more_alternatives (more_alternatives (one_alternative (key "a") untyped) (key "a") untyped) (key "b") untyped) false) ≡ false
no_alternative_twice_before = refl
