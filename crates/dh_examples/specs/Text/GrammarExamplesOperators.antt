-- Texts with a tree and an expression: operators, their levels and grouping, brackets.
use Rattle.std.specs.Prelude.{◌≡◌, pos, true, false, List, [], ◌∷◌, map, refl, codes, None}
use Rattle.dh_syntax.specs.declared.expressions.Op.TheVariants as ops
use Rattle.dh_syntax.specs.declared.operators.BinOp.{BinOp}
use Rattle.dh_syntax.specs.declared.operators.BinOp.TheVariants as binary
use Rattle.dh_syntax.specs.Text.Derivation.{Derivation, arrow, choice, annotation, operation, application, merging, some_of, to_map, import, field, natural, integer, brackets, missing}
use Rattle.dh_syntax.specs.declared.locations.Loc.TheVariants as locs
use Rattle.dh_syntax.specs.declared.locations.Mode.TheVariants as modes
use Rattle.dh_syntax.specs.Text.Derived.{derived}
use Rattle.dh_examples.specs.Text.GrammarExamples.{Reads, tokens_of, key, v, node, nat, var, bin}

-- an operator of a higher level binds more tightly, on the right
rising : Reads "a === b ? c || d + e ++ f # g && h /\\ i // j //\\\\ k * l == m != n"
    (operation binary.Equivalent (v "a") (operation binary.Fallback (v "b") (operation binary.Or (v "c") (operation binary.Plus (v "d") (operation binary.TextAppend (v "e") (operation binary.ListAppend (v "f") (operation binary.And (v "g") (operation binary.Combine (v "h") (operation binary.Prefer (v "i") (operation binary.CombineTypes (v "j") (operation binary.Times (v "k") (operation binary.Equal (v "l") (operation binary.NotEqual (v "m") (v "n"))))))))))))))
    (bin binary.Equivalent (var "a") (bin binary.Fallback (var "b") (bin binary.Or (var "c") (bin binary.Plus (var "d") (bin binary.TextAppend (var "e") (bin binary.ListAppend (var "f") (bin binary.And (var "g") (bin binary.Combine (var "h") (bin binary.Prefer (var "i") (bin binary.CombineTypes (var "j") (bin binary.Times (var "k") (bin binary.Equal (var "l") (bin binary.NotEqual (var "m") (var "n"))))))))))))))
unfolding tokens_of
rising = refl

-- and on the left
falling : Reads "a != b == c * d //\\\\ e // f /\\ g && h # i ++ j + k || l ? m === n"
    (operation binary.Equivalent (operation binary.Fallback (operation binary.Or (operation binary.Plus (operation binary.TextAppend (operation binary.ListAppend (operation binary.And (operation binary.Combine (operation binary.Prefer (operation binary.CombineTypes (operation binary.Times (operation binary.Equal (operation binary.NotEqual (v "a") (v "b")) (v "c")) (v "d")) (v "e")) (v "f")) (v "g")) (v "h")) (v "i")) (v "j")) (v "k")) (v "l")) (v "m")) (v "n"))
    (bin binary.Equivalent (bin binary.Fallback (bin binary.Or (bin binary.Plus (bin binary.TextAppend (bin binary.ListAppend (bin binary.And (bin binary.Combine (bin binary.Prefer (bin binary.CombineTypes (bin binary.Times (bin binary.Equal (bin binary.NotEqual (var "a") (var "b")) (var "c")) (var "d")) (var "e")) (var "f")) (var "g")) (var "h")) (var "i")) (var "j")) (var "k")) (var "l")) (var "m")) (var "n"))
unfolding tokens_of
falling = refl

in_unicode : Reads "a ≡ b ∧ c ⫽ d ⩓ e"
    (operation binary.Equivalent (v "a") (operation binary.Combine (v "b") (operation binary.Prefer (v "c") (operation binary.CombineTypes (v "d") (v "e")))))
    (bin binary.Equivalent (var "a") (bin binary.Combine (var "b") (bin binary.Prefer (var "c") (bin binary.CombineTypes (var "d") (var "e")))))
unfolding tokens_of
in_unicode = refl

-- ---- grouping

-- the operators of levels 1 to 13
abbrev ladder : List BinOp
ladder = binary.Equivalent ∷ binary.Fallback ∷ binary.Or ∷ binary.Plus ∷ binary.TextAppend ∷ binary.ListAppend ∷ binary.And ∷ binary.Combine ∷ binary.Prefer ∷ binary.CombineTypes ∷ binary.Times ∷ binary.Equal ∷ binary.NotEqual ∷ []

-- the tree of `(a o b) o c` without brackets
abbrev grouped_left : BinOp → Derivation
grouped_left o = operation o (operation o (v "a") (v "b")) (v "c")

-- the tree of `a o (b o c)` without brackets
abbrev grouped_right : BinOp → Derivation
grouped_right o = operation o (v "a") (operation o (v "b") (v "c"))

-- the tree of `a o (b o c)` with its brackets
abbrev bracketed_right : BinOp → Derivation
bracketed_right o = operation o (v "a") (brackets (operation o (v "b") (v "c")))

left_grouping : map (λ o. derived (grouped_left o)) ladder ≡ map (λ o. true) ladder
left_grouping = refl

no_right_grouping : map (λ o. derived (grouped_right o)) ladder ≡ map (λ o. false) ladder
no_right_grouping = refl

brackets_on_the_right : map (λ o. derived (bracketed_right o)) ladder ≡ map (λ o. true) ladder
brackets_on_the_right = refl

left_grouping_read : Reads "1 + 2 + 3" (operation binary.Plus (operation binary.Plus (natural 1) (natural 2)) (natural 3))
    (bin binary.Plus (bin binary.Plus (nat 1) (nat 2)) (nat 3))
unfolding tokens_of
left_grouping_read = refl

brackets_read : Reads "1 + (2 + 3)" (operation binary.Plus (natural 1) (brackets (operation binary.Plus (natural 2) (natural 3))))
    (bin binary.Plus (nat 1) (bin binary.Plus (nat 2) (nat 3)))
unfolding tokens_of
brackets_read = refl

-- brackets leave no trace
brackets_twice : Reads "((x))" (brackets (brackets (v "x"))) (var "x")
unfolding tokens_of
brackets_twice = refl

-- ---- gaps

sum : Reads "1 + 2" (operation binary.Plus (natural 1) (natural 2)) (bin binary.Plus (nat 1) (nat 2))
unfolding tokens_of
sum = refl

-- a sign directly before a natural makes an integer of it
no_sum : Reads "1 +2" (application (natural 1) (integer (pos 2))) (node ops.App (nat 1 ∷ node (ops.Int (pos 2)) [] ∷ []))
unfolding tokens_of
no_sum = refl

-- no gap is needed before an operator, and only after `+` and `?` behind one
close_operators : Reads "a+ b*c#d" (operation binary.Plus (v "a") (operation binary.ListAppend (operation binary.Times (v "b") (v "c")) (v "d")))
    (bin binary.Plus (var "a") (bin binary.ListAppend (bin binary.Times (var "b") (var "c")) (var "d")))
unfolding tokens_of
close_operators = refl

fallback : Reads "missing ? 1" (operation binary.Fallback (import missing None modes.Code) (natural 1)) (bin binary.Fallback (node (ops.Import (record { loc = locs.Missing; mode = modes.Code; digest = None })) []) (nat 1))
unfolding tokens_of
fallback = refl

-- ---- the levels above

application_in_operator : Reads "f x + g y" (operation binary.Plus (application (v "f") (v "x")) (application (v "g") (v "y")))
    (bin binary.Plus (node ops.App (var "f" ∷ var "x" ∷ [])) (node ops.App (var "g" ∷ var "y" ∷ [])))
unfolding tokens_of
application_in_operator = refl

completion : Reads "x::y" (operation binary.Complete (v "x") (v "y")) (bin binary.Complete (var "x") (var "y"))
unfolding tokens_of
completion = refl

completion_in_application : Reads "f x.a::y.b z" (application (application (v "f") (operation binary.Complete (field (v "x") (key "a")) (field (v "y") (key "b")))) (v "z"))
    (node ops.App (node ops.App (var "f" ∷ bin binary.Complete (node (ops.Field (codes "a")) (var "x" ∷ [])) (node (ops.Field (codes "b")) (var "y" ∷ [])) ∷ []) ∷ var "z" ∷ []))
unfolding tokens_of
completion_in_application = refl

-- `::` is not grouped
no_completion_twice : derived (grouped_left binary.Complete) ≡ false
no_completion_twice = refl

no_completion_on_the_right : derived (grouped_right binary.Complete) ≡ false
no_completion_on_the_right = refl

-- ---- what needs brackets

-- a form that goes on to the right as far as it can is no operand
no_operand : derived (operation binary.Plus (v "a") (choice (v "p") (v "q") (v "r"))) ≡ false
no_operand = refl

no_annotation_in_application : derived (application (v "f") (annotation (v "x") (v "y"))) ≡ false
no_annotation_in_application = refl

no_application_as_argument : derived (application (v "f") (application (v "g") (v "x"))) ≡ false
no_application_as_argument = refl

no_some_as_argument : derived (application (v "f") (some_of (v "x"))) ≡ false
no_some_as_argument = refl

no_selection_of_import : derived (field (import missing None modes.Code) (key "a")) ≡ false
no_selection_of_import = refl

no_completion_of_import : derived (operation binary.Complete (import missing None modes.Code) (v "a")) ≡ false
no_completion_of_import = refl

no_arrow_before_arrow : derived (arrow (arrow (v "a") (v "b")) (v "c")) ≡ false
no_arrow_before_arrow = refl

-- `merge r u : a` is the annotated merge alone
no_annotation_of_merge : derived (annotation (merging (v "r") (v "u")) (v "a")) ≡ false
no_annotation_of_merge = refl

no_annotation_of_to_map : derived (annotation (to_map (v "r")) (v "a")) ≡ false
no_annotation_of_to_map = refl
