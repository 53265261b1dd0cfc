-- Texts with a tree that has their tokens and with the expression that it says: the forms of expressions.
use Rattle.std.specs.Prelude.{◌≡◌, ℕ, Bool, true, false, not, ◌&&◌, ◌||◌, List, [], ◌∷◌, map, Some, None, Result, Ok, Err, codes, refl, encode_utf8_all}
use Prim.Native.String.{String}
use lib.Utf8.{encode}
use Rattle.dh_syntax.specs.declared.expressions.Op.{Op}
use Rattle.dh_syntax.specs.declared.expressions.Op.TheVariants as ops
use Rattle.dh_syntax.specs.declared.operators.BinOp.{BinOp}
use Rattle.dh_syntax.specs.declared.operators.BinOp.TheVariants as binary
use Rattle.dh_syntax.specs.declared.operators.Builtin.TheVariants as builtins
use Rattle.dh_syntax.specs.declared.tokens.Token.{Token}
use Rattle.dh_syntax.specs.declared.tokens.TokenKind.{TokenKind}
use Rattle.dh_syntax.specs.Text.Derivation.{NameToken, plain, quoted, Key, name_key, builtin_key, one_key, more_keys, Derivation, lambda, pi, arrow, choice, lets, updates, merge_as, to_map_as, empty_list, assertion, annotation, operation, application, merging, some_of, to_map, field, natural, builtin, variable, brackets, record_none, untyped, typed, one_let, more_lets, one_update, more_updates}
use Rattle.dh_syntax.specs.Text.Derived.{derived}
use Rattle.dh_syntax.specs.Text.Lexing.{LexFault, lex}
use Rattle.dh_syntax.specs.Text.Meaning.{meaning, parts}
use Rattle.dh_syntax.specs.Expressions.Tree.{Leaf, Node, end, kid, Term}
use Rattle.dh_syntax.specs.Text.Yield.{Written, text_yield}

unfoldable pub tokens_of : String → Result (List Token) LexFault
unfolding lex encode
tokens_of text = lex (encode_utf8_all (codes text))

-- whether each token has a gap where the tree needs one
abbrev pub gaps_fit : List Written → List Token → Bool
gaps_fit [] [] = true
gaps_fit (w ∷ ws) (t ∷ ts) = (not w.gap || t.gap) && gaps_fit ws ts
gaps_fit _ _ = false

-- what the tokens are, and whether they have the gaps that the tree needs
abbrev pub fitted : Derivation → Result (List Token) LexFault → Result (List TokenKind × Bool) LexFault
fitted d (Ok ts) = Ok (map (λ t. t.kind) ts, gaps_fit (text_yield d) ts)
fitted d (Err fault) = Err fault

-- the text has the tokens of this tree, which the grammar derives and which says this expression
abbrev pub Reads : String → Derivation → Term → Type 0
Reads text d e =
    let seen : Result (List TokenKind × Bool) LexFault × Bool × Term = (fitted d (tokens_of text), derived d, meaning d) in
    seen ≡ (Ok (map (λ w. w.kind) (text_yield d), true), true, e)

-- ---- short names for trees

-- a name without back quotes
abbrev pub name : String → NameToken
name x = plain (codes x)

-- the label of a plain name
abbrev pub key : String → Key
key x = name_key (plain (codes x))

-- the tree of a variable without an index
abbrev pub v : String → Derivation
v x = variable (name x) None

-- ---- short names for expressions

-- a node with these parts, none under a binder
abbrev pub node : Op → List Term → Term
node op es = Node op (parts es)

-- a natural literal
abbrev pub nat : ℕ → Term
nat n = node (ops.Nat n) []

-- a variable of index 0
abbrev pub var : String → Term
var x = Leaf (record { name = codes x; index = 0 })

-- a variable with this index
abbrev pub var_at : String → ℕ → Term
var_at x n = Leaf (record { name = codes x; index = n })

-- an operator between two expressions
abbrev pub bin : BinOp → Term → Term → Term
bin o l r = node (ops.Bin o) (l ∷ r ∷ [])

-- `λ(x : a) → b`
abbrev pub lam : String → Term → Term → Term
lam x a b = Node ops.Lam (kid None a (kid (Some (codes x)) b end))

-- `∀(x : a) → b`
abbrev pub all : String → Term → Term → Term
all x a b = Node ops.Pi (kid None a (kid (Some (codes x)) b end))

-- `let x = a in b`
abbrev pub let_of : String → Term → Term → Term
let_of x a b = Node (ops.Let false) (kid None a (kid (Some (codes x)) b end))

-- `let x : t = a in b`
abbrev pub let_typed : String → Term → Term → Term → Term
let_typed x t a b = Node (ops.Let true) (kid None t (kid None a (kid (Some (codes x)) b end)))

-- the type `Bool`
abbrev pub bool : Term
bool = node (ops.Builtin builtins.Bool) []

-- ---- functions and their types

-- the tree of `λ(x : Bool) → x`
abbrev identity : Derivation
identity = lambda (name "x") (builtin builtins.Bool) (v "x")

lambda_read : Reads "λ(x : Bool) → x" identity (lam "x" bool (var "x"))
unfolding tokens_of
lambda_read = refl

lambda_in_ascii : Reads "\\(x : Bool) -> x" identity (lam "x" bool (var "x"))
unfolding tokens_of
lambda_in_ascii = refl

lambda_spaced : Reads " \\ ( x: Bool )->x -- c" identity (lam "x" bool (var "x"))
unfolding tokens_of
lambda_spaced = refl

indexed : Reads "λ(x : Bool) → λ(x : Bool) → x@1"
    (lambda (name "x") (builtin builtins.Bool) (lambda (name "x") (builtin builtins.Bool) (variable (name "x") (Some 1))))
    (lam "x" bool (lam "x" bool (var_at "x" 1)))
unfolding tokens_of
indexed = refl

pi_read : Reads "∀(x : Bool) → x" (pi (name "x") (builtin builtins.Bool) (v "x")) (all "x" bool (var "x"))
unfolding tokens_of
pi_read = refl

pi_by_name : Reads "forall (`if` : Bool) -> `if`" (pi (quoted (codes "if")) (builtin builtins.Bool) (variable (quoted (codes "if")) None)) (all "if" bool (var "if"))
unfolding tokens_of
pi_by_name = refl

-- an arrow takes all that follows, and an operator before it
arrows : Reads "a -> b → c" (arrow (v "a") (arrow (v "b") (v "c"))) (all "_" (var "a") (all "_" (var "b") (var "c")))
unfolding tokens_of
arrows = refl

arrow_after_operator : Reads "a # b → c" (arrow (operation binary.ListAppend (v "a") (v "b")) (v "c")) (all "_" (bin binary.ListAppend (var "a") (var "b")) (var "c"))
unfolding tokens_of
arrow_after_operator = refl

-- ---- if, let, assert, annotations

if_read : Reads "if p then 1 else if q then 2 else 3" (choice (v "p") (natural 1) (choice (v "q") (natural 2) (natural 3)))
    (node ops.If (var "p" ∷ nat 1 ∷ node ops.If (var "q" ∷ nat 2 ∷ nat 3 ∷ []) ∷ []))
unfolding tokens_of
if_read = refl

-- no gap is needed before `then` and `else`
if_close : Reads "if (p)then (q)else r" (choice (brackets (v "p")) (brackets (v "q")) (v "r")) (node ops.If (var "p" ∷ var "q" ∷ var "r" ∷ []))
unfolding tokens_of
if_close = refl

let_read : Reads "let T = Natural in λ(x : T) → x"
    (lets (one_let (name "T") untyped (builtin builtins.Natural)) (lambda (name "x") (v "T") (v "x")))
    (let_of "T" (node (ops.Builtin builtins.Natural) []) (lam "x" (var "T") (var "x")))
unfolding tokens_of
let_read = refl

let_with_type : Reads "let x : Bool = y in x" (lets (one_let (name "x") (typed (builtin builtins.Bool)) (v "y")) (v "x")) (let_typed "x" bool (var "y") (var "x"))
unfolding tokens_of
let_with_type = refl

-- several lets are nested ones, with or without `in` between them
let_chain : Reads "let x = 1 let y : Bool = x let z = y in z"
    (lets (more_lets (more_lets (one_let (name "x") untyped (natural 1)) (name "y") (typed (builtin builtins.Bool)) (v "x")) (name "z") untyped (v "y")) (v "z"))
    (let_of "x" (nat 1) (let_typed "y" bool (var "x") (let_of "z" (var "y") (var "z"))))
unfolding tokens_of
let_chain = refl

let_in_let : Reads "let x = 1 in let y = x in y"
    (lets (one_let (name "x") untyped (natural 1)) (lets (one_let (name "y") untyped (v "x")) (v "y")))
    (let_of "x" (nat 1) (let_of "y" (var "x") (var "y")))
unfolding tokens_of
let_in_let = refl

assert_read : Reads "assert : 1 + 1 === 2"
    (assertion (operation binary.Equivalent (operation binary.Plus (natural 1) (natural 1)) (natural 2)))
    (node ops.Assert (bin binary.Equivalent (bin binary.Plus (nat 1) (nat 1)) (nat 2) ∷ []))
unfolding tokens_of
assert_read = refl

annotation_read : Reads "x : Bool : Type" (annotation (v "x") (annotation (builtin builtins.Bool) (builtin builtins.TypeConst)))
    (node ops.Annot (var "x" ∷ node ops.Annot (bool ∷ node (ops.Builtin builtins.TypeConst) [] ∷ []) ∷ []))
unfolding tokens_of
annotation_read = refl

annotation_of_arrow : Reads "x + y : a → b" (annotation (operation binary.Plus (v "x") (v "y")) (arrow (v "a") (v "b")))
    (node ops.Annot (bin binary.Plus (var "x") (var "y") ∷ all "_" (var "a") (var "b") ∷ []))
unfolding tokens_of
annotation_of_arrow = refl

empty_list_read : Reads "[] : List a" (empty_list false (application (builtin builtins.List) (v "a")))
    (node ops.EmptyList (node ops.App (node (ops.Builtin builtins.List) [] ∷ var "a" ∷ []) ∷ []))
unfolding tokens_of
empty_list_read = refl

empty_list_comma : Reads "[ , ] : a" (empty_list true (v "a")) (node ops.EmptyList (var "a" ∷ []))
unfolding tokens_of
empty_list_comma = refl

-- ---- updates

with_read : Reads "r with a.b = 1 + 2" (updates (one_update (v "r") (more_keys (one_key (key "a")) (key "b")) (operation binary.Plus (natural 1) (natural 2))))
    (node (ops.With (codes "a" ∷ codes "b" ∷ [])) (var "r" ∷ bin binary.Plus (nat 1) (nat 2) ∷ []))
unfolding tokens_of
with_read = refl

with_chain : Reads "r with a = 1 with b=2"
    (updates (more_updates (one_update (v "r") (one_key (key "a")) (natural 1)) (one_key (key "b")) (natural 2)))
    (node (ops.With (codes "b" ∷ [])) (node (ops.With (codes "a" ∷ [])) (var "r" ∷ nat 1 ∷ []) ∷ nat 2 ∷ []))
unfolding tokens_of
with_chain = refl

with_of_with : Reads "(r with a = 1) with `b`.List = {=}"
    (updates (one_update (brackets (updates (one_update (v "r") (one_key (key "a")) (natural 1)))) (more_keys (one_key (name_key (quoted (codes "b")))) (builtin_key builtins.List)) (record_none false false)))
    (node (ops.With (codes "b" ∷ codes "List" ∷ [])) (node (ops.With (codes "a" ∷ [])) (var "r" ∷ nat 1 ∷ []) ∷ node (ops.Record []) [] ∷ []))
unfolding tokens_of
with_of_with = refl

-- ---- applications, merge, toMap, Some

application_read : Reads "f x y" (application (application (v "f") (v "x")) (v "y")) (node ops.App (node ops.App (var "f" ∷ var "x" ∷ []) ∷ var "y" ∷ []))
unfolding tokens_of
application_read = refl

some_read : Reads "Some x" (some_of (v "x")) (node ops.Some (var "x" ∷ []))
unfolding tokens_of
some_read = refl

some_applied : Reads "Some f x" (application (some_of (v "f")) (v "x")) (node ops.App (node ops.Some (var "f" ∷ []) ∷ var "x" ∷ []))
unfolding tokens_of
some_applied = refl

merge_read : Reads "merge r u.a" (merging (v "r") (field (v "u") (key "a"))) (node (ops.Merge false) (var "r" ∷ node (ops.Field (codes "a")) (var "u" ∷ []) ∷ []))
unfolding tokens_of
merge_read = refl

merge_applied : Reads "merge r u x" (application (merging (v "r") (v "u")) (v "x")) (node ops.App (node (ops.Merge false) (var "r" ∷ var "u" ∷ []) ∷ var "x" ∷ []))
unfolding tokens_of
merge_applied = refl

merge_annotated : Reads "merge r u : Bool" (merge_as (v "r") (v "u") (builtin builtins.Bool)) (node (ops.Merge true) (var "r" ∷ var "u" ∷ bool ∷ []))
unfolding tokens_of
merge_annotated = refl

-- with one argument more, or in brackets, it is a merge without annotation that is annotated
merge_applied_annotated : Reads "merge r u x : Bool" (annotation (application (merging (v "r") (v "u")) (v "x")) (builtin builtins.Bool))
    (node ops.Annot (node ops.App (node (ops.Merge false) (var "r" ∷ var "u" ∷ []) ∷ var "x" ∷ []) ∷ bool ∷ []))
unfolding tokens_of
merge_applied_annotated = refl

merge_in_brackets : Reads "(merge r u) : Bool" (annotation (brackets (merging (v "r") (v "u"))) (builtin builtins.Bool))
    (node ops.Annot (node (ops.Merge false) (var "r" ∷ var "u" ∷ []) ∷ bool ∷ []))
unfolding tokens_of
merge_in_brackets = refl

to_map_read : Reads "toMap r" (to_map (v "r")) (node (ops.ToMap false) (var "r" ∷ []))
unfolding tokens_of
to_map_read = refl

to_map_annotated : Reads "toMap r : a" (to_map_as (v "r") (v "a")) (node (ops.ToMap true) (var "r" ∷ var "a" ∷ []))
unfolding tokens_of
to_map_annotated = refl

to_map_applied_annotated : Reads "toMap r x : a" (annotation (application (to_map (v "r")) (v "x")) (v "a"))
    (node ops.Annot (node ops.App (node (ops.ToMap false) (var "r" ∷ []) ∷ var "x" ∷ []) ∷ var "a" ∷ []))
unfolding tokens_of
to_map_applied_annotated = refl
