-- Texts with a tree and an expression: primitives, selections and imports.
use Rattle.std.specs.Prelude.{◌-◌, ◌^◌, pos, negsuc, Bool, true, false, List, [], ◌∷◌, replicate, Option, Some, None, refl, codes}
use Rattle.dh_syntax.specs.declared.expressions.Alt.{Alt}
use Rattle.dh_syntax.specs.declared.expressions.Op.TheVariants as ops
use Rattle.dh_syntax.specs.declared.locations.Digest.{Digest}
use Rattle.dh_syntax.specs.declared.locations.Loc.{Loc}
use Rattle.dh_syntax.specs.declared.locations.Loc.TheVariants as locs
use Rattle.dh_syntax.specs.declared.locations.Mode.{Mode}
use Rattle.dh_syntax.specs.declared.locations.Mode.TheVariants as modes
use Rattle.dh_syntax.specs.declared.operators.BinOp.TheVariants as binary
use Rattle.dh_syntax.specs.declared.operators.Builtin.TheVariants as builtins
use Rattle.dh_syntax.specs.declared.tokens.TextForm.TheVariants as forms
use Rattle.dh_syntax.specs.Text.Derivation.{quoted, truth_key, builtin_key, some_key, one_key, more_keys, path, url, environment, missing, application, operation, import, field, project_none, project, project_by, natural, integer, truth, builtin, variable, text, list, union_none, union, typed, untyped, start, more_chunks, one_item, more_items, one_alternative, more_alternatives}
use Rattle.dh_examples.specs.Text.GrammarExamples.{Reads, tokens_of, name, key, v, node, nat, var, var_at, bin}
use Rattle.dh_syntax.specs.Expressions.Tree.{Name, Term}

-- ---- numbers, names and variables

largest : Reads "340282366920938463463374607431768211455" (natural (2 ^ 128 - 1)) (node (ops.Nat (2 ^ 128 - 1)) [])
unfolding tokens_of
largest = refl

hexadecimal : Reads "0xFf" (natural 255) (node (ops.Nat 255) [])
unfolding tokens_of
hexadecimal = refl

minus_one : Reads "-1" (integer (negsuc 0)) (node (ops.Int (negsuc 0)) [])
unfolding tokens_of
minus_one = refl

minus_zero : Reads "-0" (integer (pos 0)) (node (ops.Int (pos 0)) [])
unfolding tokens_of
minus_zero = refl

true_read : Reads "True" (truth true) (node (ops.Bool true) [])
unfolding tokens_of
true_read = refl

builtin_read : Reads "Natural/fold" (builtin builtins.NaturalFold) (node (ops.Builtin builtins.NaturalFold) [])
unfolding tokens_of
builtin_read = refl

index_zero : Reads "x @ 0" (variable (name "x") (Some 0)) (var "x")
unfolding tokens_of
index_zero = refl

-- between backticks a built-in name is a variable
quoted_builtin : Reads "`Bool`@2" (variable (quoted (codes "Bool")) (Some 2)) (var_at "Bool" 2)
unfolding tokens_of
quoted_builtin = refl

empty_name : Reads "``" (variable (quoted []) None) (var "")
unfolding tokens_of
empty_name = refl

-- ---- texts

-- a text literal with these chunks of text and these interpolated expressions
abbrev text_term : List Name → List Term → Term
text_term ps es = node (ops.Text ps) es

empty_text : Reads "\"\"" (text forms.DoubleQuoted (start None)) (text_term ([] ∷ []) [])
unfolding tokens_of
empty_text = refl

plain_text : Reads "\"a $ \\n\"" (text forms.DoubleQuoted (start (Some (codes "a $ \n")))) (text_term (codes "a $ \n" ∷ []) [])
unfolding tokens_of
plain_text = refl

interpolated : Reads "\"a${x}b${ y + 1 }\"" (text forms.DoubleQuoted (more_chunks (more_chunks (start (Some (codes "a"))) (v "x") (Some (codes "b"))) (operation binary.Plus (v "y") (natural 1)) None))
    (text_term (codes "a" ∷ codes "b" ∷ [] ∷ []) (var "x" ∷ bin binary.Plus (var "y") (nat 1) ∷ []))
unfolding tokens_of
interpolated = refl

-- nothing stands before, between and behind
only_interpolations : Reads "\"${x}${y}\"" (text forms.DoubleQuoted (more_chunks (more_chunks (start None) (v "x") None) (v "y") None)) (text_term ([] ∷ [] ∷ [] ∷ []) (var "x" ∷ var "y" ∷ []))
unfolding tokens_of
only_interpolations = refl

text_in_text : Reads "\"${\"a\"}\"" (text forms.DoubleQuoted (more_chunks (start None) (text forms.DoubleQuoted (start (Some (codes "a")))) None)) (text_term ([] ∷ [] ∷ []) (text_term (codes "a" ∷ []) [] ∷ []))
unfolding tokens_of
text_in_text = refl

appended : Reads "\"\" ++ t ++ \"!\"" (operation binary.TextAppend (operation binary.TextAppend (text forms.DoubleQuoted (start None)) (v "t")) (text forms.DoubleQuoted (start (Some (codes "!")))))
    (bin binary.TextAppend (bin binary.TextAppend (text_term ([] ∷ []) []) (var "t")) (text_term (codes "!" ∷ []) []))
unfolding tokens_of
appended = refl

-- the tree has the lines as they are written, the expression has them without their indentation
multi_line : Reads "''\n  a\n    b\n  ''" (text forms.MultiLine (start (Some (codes "  a\n    b\n  ")))) (text_term (codes "a\n  b\n" ∷ []) [])
unfolding tokens_of
multi_line = refl

multi_line_interpolated : Reads "''\n  a${x}\n  b''" (text forms.MultiLine (more_chunks (start (Some (codes "  a"))) (v "x") (Some (codes "\n  b")))) (text_term (codes "a" ∷ codes "\nb" ∷ []) (var "x" ∷ []))
unfolding tokens_of
multi_line_interpolated = refl

-- ---- lists

list_read : Reads "[1, x, [2]]" (list false (more_items (more_items (one_item (natural 1)) (v "x")) (list false (one_item (natural 2)) false)) false)
    (node ops.List (nat 1 ∷ var "x" ∷ node ops.List (nat 2 ∷ []) ∷ []))
unfolding tokens_of
list_read = refl

-- a comma may stand before the first item and behind the last one
list_commas : Reads "[ , 1, 2, ]" (list true (more_items (one_item (natural 1)) (natural 2)) true) (node ops.List (nat 1 ∷ nat 2 ∷ []))
unfolding tokens_of
list_commas = refl

list_applied : Reads "f [ 1 ]" (application (v "f") (list false (one_item (natural 1)) false)) (node ops.App (var "f" ∷ node ops.List (nat 1 ∷ []) ∷ []))
unfolding tokens_of
list_applied = refl

-- ---- unions

-- an alternative of a union, with a type or without one
abbrev alternative : Name → Bool → Alt
alternative x t = record { label = x; typed = t }

union_read : Reads "< User : Natural | Admin >" (union false (more_alternatives (one_alternative (key "User") (typed (builtin builtins.Natural))) (key "Admin") untyped) false)
    (node (ops.Union (alternative (codes "Admin") false ∷ alternative (codes "User") true ∷ [])) (node (ops.Builtin builtins.Natural) [] ∷ []))
unfolding tokens_of
union_read = refl

union_bars : Reads "< | b: x | Some | >" (union true (more_alternatives (one_alternative (key "b") (typed (v "x"))) some_key untyped) true)
    (node (ops.Union (alternative (codes "Some") false ∷ alternative (codes "b") true ∷ [])) (var "x" ∷ []))
unfolding tokens_of
union_bars = refl

union_empty : Reads "< >" (union_none false) (node (ops.Union []) [])
unfolding tokens_of
union_empty = refl

union_bar_alone : Reads "<|>" (union_none true) (node (ops.Union []) [])
unfolding tokens_of
union_bar_alone = refl

-- ---- selections

field_read : Reads "x.a . b" (field (field (v "x") (key "a")) (key "b")) (node (ops.Field (codes "b")) (node (ops.Field (codes "a")) (var "x" ∷ []) ∷ []))
unfolding tokens_of
field_read = refl

-- a built-in name and `Some` are labels there
field_of_names : Reads "x.Some.True.List" (field (field (field (v "x") some_key) (truth_key true)) (builtin_key builtins.List))
    (node (ops.Field (codes "List")) (node (ops.Field (codes "True")) (node (ops.Field (codes "Some")) (var "x" ∷ []) ∷ []) ∷ []))
unfolding tokens_of
field_of_names = refl

field_of_false : Reads "x.False" (field (v "x") (truth_key false)) (node (ops.Field (codes "False")) (var "x" ∷ []))
unfolding tokens_of
field_of_false = refl

project_read : Reads "x.{ b, a }" (project (v "x") false (more_keys (one_key (key "b")) (key "a")) false) (node (ops.Project (codes "a" ∷ codes "b" ∷ [])) (var "x" ∷ []))
unfolding tokens_of
project_read = refl

project_in_order : Reads "x.{ a, b, c }" (project (v "x") false (more_keys (more_keys (one_key (key "a")) (key "b")) (key "c")) false) (node (ops.Project (codes "a" ∷ codes "b" ∷ codes "c" ∷ [])) (var "x" ∷ []))
unfolding tokens_of
project_in_order = refl

project_commas : Reads "x.{,a,}" (project (v "x") true (one_key (key "a")) true) (node (ops.Project (codes "a" ∷ [])) (var "x" ∷ []))
unfolding tokens_of
project_commas = refl

project_nothing : Reads "x.{}" (project_none (v "x") false) (node (ops.Project []) (var "x" ∷ []))
unfolding tokens_of
project_nothing = refl

project_comma_alone : Reads "x.{,}" (project_none (v "x") true) (node (ops.Project []) (var "x" ∷ []))
unfolding tokens_of
project_comma_alone = refl

project_by_type : Reads "x.(f a)" (project_by (v "x") (application (v "f") (v "a"))) (node ops.ProjectType (var "x" ∷ node ops.App (var "f" ∷ var "a" ∷ []) ∷ []))
unfolding tokens_of
project_by_type = refl

-- ---- imports

-- an import of a location, with a digest if there is one, in this mode
abbrev import_term : Loc → Option Digest → Mode → Term
import_term l d m = node (ops.Import (record { loc = l; mode = m; digest = d })) []

-- the location `./a`
abbrev a_path : Loc
a_path = locs.Here (codes "a" ∷ [])

import_read : Reads "./a" (import (path a_path) None modes.Code) (import_term a_path None modes.Code)
unfolding tokens_of
import_read = refl

import_missing : Reads "missing" (import missing None modes.Code) (import_term locs.Missing None modes.Code)
unfolding tokens_of
import_missing = refl

import_as_text : Reads "env:HOME as Text" (import (environment (codes "HOME")) None modes.Text) (import_term (locs.Env (codes "HOME")) None modes.Text)
unfolding tokens_of
import_as_text = refl

-- the location `https://a.b/c`
abbrev a_url : Loc
a_url = locs.Https (record { host = codes "a.b"; comps = codes "c" ∷ []; query = None })

import_as_location : Reads "https://a.b/c as Location" (import (url a_url) None modes.Location) (import_term a_url None modes.Location)
unfolding tokens_of
import_as_location = refl

-- the digest that is all zero
abbrev zeros : Digest
zeros = record { 0 = replicate 32 0 }

import_with_digest : Reads "./a sha256:0000000000000000000000000000000000000000000000000000000000000000" (import (path a_path) (Some zeros) modes.Code) (import_term a_path (Some zeros) modes.Code)
unfolding tokens_of
import_with_digest = refl

import_whole : Reads "./a sha256:0000000000000000000000000000000000000000000000000000000000000000 as Text" (import (path a_path) (Some zeros) modes.Text) (import_term a_path (Some zeros) modes.Text)
unfolding tokens_of
import_whole = refl

imports_in_list : Reads "[./a , ./b as Text] -- x" (list false (more_items (one_item (import (path a_path) None modes.Code)) (import (path (locs.Here (codes "b" ∷ []))) None modes.Text)) false)
    (node ops.List (import_term a_path None modes.Code ∷ import_term (locs.Here (codes "b" ∷ [])) None modes.Text ∷ []))
unfolding tokens_of
imports_in_list = refl
