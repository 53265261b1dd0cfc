-- An ordinary text with its tree and its expression.
use Rattle.std.specs.Prelude.{false, [], ◌∷◌, Some, None, codes, refl}
use Rattle.dh_syntax.specs.declared.expressions.Op.TheVariants as ops
use Rattle.dh_syntax.specs.declared.locations.Loc.TheVariants as locs
use Rattle.dh_syntax.specs.declared.locations.Mode.TheVariants as modes
use Rattle.dh_syntax.specs.declared.operators.Builtin.TheVariants as builtins
use Rattle.dh_syntax.specs.declared.tokens.TextForm.TheVariants as forms
use Rattle.dh_syntax.specs.Text.Derivation.{Derivation, path, lambda, lets, application, merging, import, field, builtin, text, record_of, untyped, one_let, start, more_chunks, one_key, given, one_entry, more_entries}
use Rattle.dh_examples.specs.Text.GrammarExamples.{Reads, tokens_of, name, key, v, node, var, lam, let_of}
use Rattle.dh_syntax.specs.Expressions.Tree.{Term}

-- `{ Admin = "admin", User = λ(n : Natural) → "user ${Natural/show n}" }`
abbrev handlers : Derivation
handlers = record_of false
    (more_entries (one_entry (given (one_key (key "Admin")) (text forms.DoubleQuoted (start (Some (codes "admin"))))))
    (given (one_key (key "User"))
    (lambda (name "n") (builtin builtins.Natural)
    (text forms.DoubleQuoted (more_chunks (start (Some (codes "user "))) (application (builtin builtins.NaturalShow) (v "n")) None)))))
    false

-- a record with a handler for each of two alternatives
abbrev handlers_term : Term
handlers_term = node (ops.Record (codes "Admin" ∷ codes "User" ∷ []))
    (node (ops.Text (codes "admin" ∷ [])) []
    ∷ lam "n" (node (ops.Builtin builtins.Natural) [])
    (node (ops.Text (codes "user " ∷ [] ∷ [])) (node ops.App (node (ops.Builtin builtins.NaturalShow) [] ∷ var "n" ∷ []) ∷ []))
    ∷ [])

greeting : Reads
    "let T = ./types.dhall in λ(p : T.Person) → let tail = merge { Admin = \"admin\", User = λ(n : Natural) → \"user ${Natural/show n}\" } p.role in \"${p.name}: ${tail}\""
    (lets (one_let (name "T") untyped (import (path (locs.Here (codes "types.dhall" ∷ []))) None modes.Code))
    (lambda (name "p") (field (v "T") (key "Person"))
    (lets (one_let (name "tail") untyped (merging handlers (field (v "p") (key "role"))))
    (text forms.DoubleQuoted (more_chunks (more_chunks (start None) (field (v "p") (key "name")) (Some (codes ": "))) (v "tail") None)))))
    (let_of "T" (node (ops.Import (record { loc = locs.Here (codes "types.dhall" ∷ []); mode = modes.Code; digest = None })) [])
    (lam "p" (node (ops.Field (codes "Person")) (var "T" ∷ []))
    (let_of "tail" (node (ops.Merge false) (handlers_term ∷ node (ops.Field (codes "role")) (var "p" ∷ []) ∷ []))
    (node (ops.Text ([] ∷ codes ": " ∷ [] ∷ [])) (node (ops.Field (codes "name")) (var "p" ∷ []) ∷ var "tail" ∷ [])))))
unfolding tokens_of
greeting = refl
