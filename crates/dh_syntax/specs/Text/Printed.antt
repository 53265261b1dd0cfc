-- The one text that an expression is printed as, on one line. It is a text of the grammar of `dhall.abnf`.
--
-- Each form has a level, and each part is needed at one: 0 for an expression, 1 to 13 for the operators, 14 for an
-- application, 15 for an import or a completion, 16 for a selection, 17 for a primitive. A part of a lower level
-- stands in brackets.
use Rattle.std.specs.Prelude.{ℕ, suc, ◌/◌, ◌%◌, ◌==◌, nat_lt, Bool, true, false, ◌&&◌, if◌then◌else◌, List, [], ◌∷◌, ◌++◌, length, Option, Some, None, map, flat_map, codes}
use Rattle.std.specs.Fmt.{digit_glyph}
use Rattle.dh_syntax.specs.declared.expressions.Alt.{Alt}
use Rattle.dh_syntax.specs.declared.expressions.Op.{Op}
use Rattle.dh_syntax.specs.declared.expressions.Op.TheVariants as ops
use Rattle.dh_syntax.specs.declared.locations.Digest.{Digest}
use Rattle.dh_syntax.specs.declared.locations.Import.{Import}
use Rattle.dh_syntax.specs.declared.locations.Mode.{Mode}
use Rattle.dh_syntax.specs.declared.locations.Mode.TheVariants as mode
use Rattle.dh_syntax.specs.declared.operators.BinOp.{BinOp}
use Rattle.dh_syntax.specs.declared.operators.BinOp.TheVariants as op
use Rattle.dh_syntax.specs.declared.tokens.TokenKind.TheVariants as kinds
use Rattle.dh_syntax.specs.Expressions.Levels.{level_of, left_level}
use Rattle.dh_syntax.specs.Text.LexForms.{Found, Is}
use Rattle.dh_syntax.specs.Text.LexNames.{name_len, named}
use Rattle.dh_syntax.specs.Text.Literals.{escape}
use Rattle.dh_syntax.specs.Imports.Locations.{loc_text}
use Rattle.dh_syntax.specs.Expressions.Numbers.{bytes_eq}
use Rattle.dh_syntax.specs.Text.Numerals.{write_natural, write_integer}
use Rattle.dh_syntax.specs.Expressions.Operators.{builtin_name}
use Rattle.dh_syntax.specs.Expressions.Tree.{Row, Leaf, Node, end, kid, Name, Var, Term}

-- ---- names and truth values

-- whether a name token is a label
abbrev pub is_name : Found → Bool
is_name (Is (kinds.Name x)) = true
is_name _ = false

-- `dhall.abnf`, "simple-label", where it is no keyword and no built-in name, those left out among them
abbrev pub is_plain_label : Name → Bool
is_plain_label x = nat_lt 0 (length x) && name_len x == length x && is_name (named x)

-- a label as it is printed, between backticks where it is not a plain one
abbrev pub label : Name → List ℕ
label x = if is_plain_label x then x else codes "`" ++ x ++ codes "`"

-- a variable as it is printed, without its index where that is 0
abbrev pub variable : Var → List ℕ
variable v = if v.index == 0 then label v.name else label v.name ++ codes "@" ++ write_natural v.index

-- a Bool as it is printed
abbrev pub truth : Bool → List ℕ
truth true = codes "True"
truth false = codes "False"

-- ---- imports

-- the 64 hexadecimal digits of a digest
abbrev pub digest_digits : Digest → List ℕ
digest_digits d = flat_map (λ b. digit_glyph false (b / 16) ∷ digit_glyph false (b % 16) ∷ []) d.0

-- a digest as it is printed behind a location, or nothing
abbrev pub digest_text : Option Digest → List ℕ
digest_text None = []
digest_text (Some d) = codes " sha256:" ++ digest_digits d

-- the mode of an import as it is printed, nothing for code
abbrev pub mode_text : Mode → List ℕ
mode_text mode.Code = []
mode_text mode.Text = codes " as Text"
mode_text mode.Location = codes " as Location"

-- an import as it is printed: its location, its digest and its mode
abbrev pub import_text : Import → List ℕ
import_text i = loc_text i.loc ++ digest_text i.digest ++ mode_text i.mode

-- ---- operators

-- `→`, `∀`, `λ`, `∧`, `≡`, `⩓` and `⫽` in UTF-8
abbrev pub arrow : List ℕ
arrow = 0xE2 ∷ 0x86 ∷ 0x92 ∷ []

-- `∀` in UTF-8
abbrev pub forall : List ℕ
forall = 0xE2 ∷ 0x88 ∷ 0x80 ∷ []

-- `λ` in UTF-8
abbrev pub lambda : List ℕ
lambda = 0xCE ∷ 0xBB ∷ []

-- `∧` in UTF-8
abbrev pub combine : List ℕ
combine = 0xE2 ∷ 0x88 ∷ 0xA7 ∷ []

-- `≡` in UTF-8
abbrev pub equivalent : List ℕ
equivalent = 0xE2 ∷ 0x89 ∷ 0xA1 ∷ []

-- `⩓` in UTF-8
abbrev pub combine_types : List ℕ
combine_types = 0xE2 ∷ 0xA9 ∷ 0x93 ∷ []

-- `⫽` in UTF-8
abbrev pub prefer : List ℕ
prefer = 0xE2 ∷ 0xAB ∷ 0xBD ∷ []

-- an operator as it is printed
abbrev pub op_mark : BinOp → List ℕ
op_mark op.Equivalent = equivalent
op_mark op.Fallback = codes "?"
op_mark op.Or = codes "||"
op_mark op.Plus = codes "+"
op_mark op.TextAppend = codes "++"
op_mark op.ListAppend = codes "#"
op_mark op.And = codes "&&"
op_mark op.Combine = combine
op_mark op.Prefer = prefer
op_mark op.CombineTypes = combine_types
op_mark op.Times = codes "*"
op_mark op.Equal = codes "=="
op_mark op.NotEqual = codes "!="
op_mark op.Complete = codes "::"

-- ---- parts

-- an expression as it is printed; `bare` where it is a merge or a toMap without annotation
pub record Layout : Type 0 where
  pub level : ℕ
  pub text : List ℕ
  pub bare : Bool

-- an expression of this level and text that is no merge or toMap without annotation
abbrev pub form : ℕ → List ℕ → Layout
form level text = record { level = level; text = text; bare = false }

-- a text between parentheses
abbrev pub bracketed : List ℕ → List ℕ
bracketed text = codes "(" ++ text ++ codes ")"

-- an expression where a level is needed
abbrev pub at : ℕ → Layout → List ℕ
at m e = if nat_lt e.level m then bracketed e.text else e.text

-- an expression before its annotation, which would else be that of the merge or the toMap
abbrev pub annotated : Layout → List ℕ
annotated e = if e.bare then bracketed e.text else at 1 e

-- a part of a node as it is printed, which may be under a binder
pub data Part : Type 0 where
  plain : Layout → Part
  under : Name → Layout → Part

-- a printed part with its binder, if it has one
abbrev pub part : Option Name → Layout → Part
part None e = plain e
part (Some x) e = under x e

-- the texts of parts that are any expressions
abbrev pub part_text : Part → List ℕ
part_text (plain e) = at 0 e
part_text (under x e) = at 0 e

-- each of the parts as any expression is printed
abbrev pub texts : List Part → List (List ℕ)
texts ps = map part_text ps

-- the texts in a row, with this between each two
abbrev pub separated : List ℕ → List (List ℕ) → List ℕ
separated s [] = []
separated s (t ∷ []) = t
separated s (t ∷ u ∷ ts) = t ++ s ++ separated s (u ∷ ts)

-- each label with its expression
abbrev pub fields : List ℕ → List Name → List (List ℕ) → List (List ℕ)
fields mark [] ts = []
fields mark (x ∷ xs) [] = []
fields mark (x ∷ xs) (t ∷ ts) = (label x ++ mark ++ t) ∷ fields mark xs ts

-- each alternative, with its type where it has one
abbrev pub alternatives : List Alt → List (List ℕ) → List (List ℕ)
alternatives [] ts = []
alternatives (a ∷ as') ts = elim a.typed [
  | false ↦ label a.label ∷ alternatives as' ts
  | true ↦ elim ts [ [] ↦ [] | (t ∷ ts') ↦ (label a.label ++ codes " : " ++ t) ∷ alternatives as' ts' ]
]

-- the pieces of a text with the expressions between them
abbrev pub interpolated : List (List ℕ) → List (List ℕ) → List ℕ
interpolated [] ts = []
interpolated (p ∷ ps) [] = escape p ++ interpolated ps []
interpolated (p ∷ ps) (t ∷ ts) = escape p ++ codes "${" ++ t ++ codes "}" ++ interpolated ps ts

-- ---- expressions

-- `λ(x : A) → b` and `∀(x : A) → b`
abbrev pub quantified : List ℕ → Name → Layout → Layout → Layout
quantified mark x a b = form 0 (mark ++ codes "(" ++ label x ++ codes " : " ++ at 0 a ++ codes ") " ++ arrow ++ codes " " ++ at 0 b)

-- a function type; one whose binder is `_` is `A → B`
abbrev pub function_type : Name → Layout → Layout → Layout
function_type x a b = if bytes_eq x (codes "_") then form 0 (at 1 a ++ codes " " ++ arrow ++ codes " " ++ at 0 b) else quantified forall x a b

-- `l + r`, and `T::r` without spaces
abbrev pub operation : BinOp → Layout → Layout → Layout
operation op.Complete l r = form 15 (at 16 l ++ codes "::" ++ at 16 r)
operation o l r = form (level_of o) (at (left_level o) l ++ codes " " ++ op_mark o ++ codes " " ++ at (suc (level_of o)) r)

-- a list with these elements
abbrev pub list_text : List (List ℕ) → List ℕ
list_text ts = codes "[ " ++ separated (codes ", ") ts ++ codes " ]"

-- these texts between braces, with commas between them
abbrev pub braced : List (List ℕ) → List ℕ
braced ts = codes "{ " ++ separated (codes ", ") ts ++ codes " }"

-- a record type with these labels and types
abbrev pub record_type_text : List Name → List (List ℕ) → List ℕ
record_type_text [] ts = codes "{}"
record_type_text (x ∷ xs) ts = braced (fields (codes " : ") (x ∷ xs) ts)

-- a record with these labels and values, `{=}` where there is none
abbrev pub record_text : List Name → List (List ℕ) → List ℕ
record_text [] ts = codes "{=}"
record_text (x ∷ xs) ts = braced (fields (codes " = ") (x ∷ xs) ts)

-- the labels of a projection between braces
abbrev pub projection_text : List Name → List ℕ
projection_text [] = codes "{}"
projection_text (x ∷ xs) = braced (map label (x ∷ xs))

-- a union with these alternatives and the types of those that have one
abbrev pub union_text : List Alt → List (List ℕ) → List ℕ
union_text [] ts = codes "<>"
union_text (a ∷ as') ts = codes "< " ++ separated (codes " | ") (alternatives (a ∷ as') ts) ++ codes " >"

-- A node by its parts. A node that does not have its parts has no text.
abbrev pub node : Op → List Part → Layout
node (ops.Builtin b) ps = form 17 (builtin_name b)
node (ops.Bool b) ps = form 17 (truth b)
node (ops.Nat n) ps = form 17 (write_natural n)
node (ops.Int z) ps = form 17 (write_integer z)
node (ops.Text pieces) ps = form 17 (codes "\"" ++ interpolated pieces (texts ps) ++ codes "\"")
node (ops.Import i) ps = form 15 (import_text i)
node ops.Lam (plain a ∷ under x b ∷ []) = quantified lambda x a b
node ops.Pi (plain a ∷ under x b ∷ []) = function_type x a b
node (ops.Let false) (plain a ∷ under x b ∷ []) =
    form 0 (codes "let " ++ label x ++ codes " = " ++ at 0 a ++ codes " in " ++ at 0 b)
node (ops.Let true) (plain t ∷ plain a ∷ under x b ∷ []) =
    form 0 (codes "let " ++ label x ++ codes " : " ++ at 0 t ++ codes " = " ++ at 0 a ++ codes " in " ++ at 0 b)
node ops.App (plain f ∷ plain a ∷ []) = form 14 (at 14 f ++ codes " " ++ at 15 a)
node ops.If (plain p ∷ plain t ∷ plain e ∷ []) =
    form 0 (codes "if " ++ at 0 p ++ codes " then " ++ at 0 t ++ codes " else " ++ at 0 e)
node (ops.Bin o) (plain l ∷ plain r ∷ []) = operation o l r
node ops.EmptyList (plain t ∷ []) = form 0 (codes "[] : " ++ at 0 t)
node ops.List ps = form 17 (list_text (texts ps))
node ops.Some (plain t ∷ []) = form 14 (codes "Some " ++ at 15 t)
node (ops.Merge false) (plain t ∷ plain u ∷ []) =
    record { level = 14; text = codes "merge " ++ at 15 t ++ codes " " ++ at 15 u; bare = true }
node (ops.Merge true) (plain t ∷ plain u ∷ plain r ∷ []) =
    form 0 (codes "merge " ++ at 15 t ++ codes " " ++ at 15 u ++ codes " : " ++ at 0 r)
node (ops.RecordType xs) ps = form 17 (record_type_text xs (texts ps))
node (ops.Record xs) ps = form 17 (record_text xs (texts ps))
node (ops.Field x) (plain t ∷ []) = form 16 (at 16 t ++ codes "." ++ label x)
node (ops.Project xs) (plain t ∷ []) = form 16 (at 16 t ++ codes "." ++ projection_text xs)
node ops.ProjectType (plain t ∷ plain r ∷ []) = form 16 (at 16 t ++ codes ".(" ++ at 0 r ++ codes ")")
node (ops.Union alts) ps = form 17 (union_text alts (texts ps))
node ops.Assert (plain t ∷ []) = form 0 (codes "assert : " ++ at 0 t)
node ops.Annot (plain t ∷ plain r ∷ []) = form 0 (annotated t ++ codes " : " ++ at 0 r)
node (ops.ToMap false) (plain t ∷ []) = record { level = 14; text = codes "toMap " ++ at 15 t; bare = true }
node (ops.ToMap true) (plain t ∷ plain r ∷ []) = form 0 (codes "toMap " ++ at 15 t ++ codes " : " ++ at 0 r)
node (ops.With path) (plain e ∷ plain v ∷ []) =
    form 0 (at 15 e ++ codes " with " ++ separated (codes ".") (map label path) ++ codes " = " ++ at 1 v)
node op ps = form 17 []

-- how an expression, and the parts of a node, are printed
abbrev mutual
  pub layout : Term → Layout
  layout (Leaf v) = form 17 (variable v)
  layout (Node op r) = node op (layouts r)

  pub layouts : Row Var Name → List Part
  layouts end = []
  layouts (kid x e r) = part x (layout e) ∷ layouts r

-- the printed text of an expression, in UTF-8
abbrev pub text_of : Term → List ℕ
text_of e = (layout e).text
