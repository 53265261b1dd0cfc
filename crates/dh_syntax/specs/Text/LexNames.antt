-- Names: "simple-label" and "quoted-label" of `dhall.abnf`, the keywords and the built-in names.
use Rattle.std.specs.Prelude.{ℕ, ◌+◌, true, false, ◌&&◌, List, [], ◌∷◌, ◌++◌, Option, None, ◌==◌, if◌then◌else◌, take, drop, slice_index, codes, map, bytes_eq}
use Rattle.std.specs.List.{prefix_len}
use Rattle.std.specs.Str.{byte}
use Rattle.dh_syntax.specs.declared.operators.Builtin.{Builtin}
use Rattle.dh_syntax.specs.declared.tokens.Keyword.TheVariants as keywords
use Rattle.dh_syntax.specs.declared.tokens.Mark.TheVariants as marks
use Rattle.dh_syntax.specs.declared.tokens.TokenKind.TheVariants as kinds
use Rattle.dh_syntax.specs.Text.Characters.{first, begins, is_name_start, is_name_byte, is_quoted_label_byte}
use Rattle.dh_syntax.specs.Text.LexForms.{Found, Is, LeftOut, Form, form}
use Rattle.dh_syntax.specs.Expressions.Builtins.{builtins}
use Rattle.dh_syntax.specs.Expressions.Operators.{builtin_name}

-- a whole name, and what it is
pub record Reserved : Type 0 where
  pub spelling : List ℕ
  pub meaning : Found

-- such a name
abbrev pub reserved : List ℕ → Found → Reserved
reserved spelling meaning = record { spelling = spelling; meaning = meaning }

-- keyword
abbrev pub keyword_names : List Reserved
keyword_names =
    reserved (codes "if") (Is (kinds.Keyword keywords.If))
    ∷ reserved (codes "then") (Is (kinds.Keyword keywords.Then))
    ∷ reserved (codes "else") (Is (kinds.Keyword keywords.Else))
    ∷ reserved (codes "let") (Is (kinds.Keyword keywords.Let))
    ∷ reserved (codes "in") (Is (kinds.Keyword keywords.In))
    ∷ reserved (codes "missing") (Is (kinds.Keyword keywords.Missing))
    ∷ reserved (codes "assert") (Is (kinds.Keyword keywords.Assert))
    ∷ reserved (codes "as") (Is (kinds.Keyword keywords.As))
    ∷ reserved (codes "merge") (Is (kinds.Keyword keywords.Merge))
    ∷ reserved (codes "Some") (Is (kinds.Keyword keywords.Some))
    ∷ reserved (codes "toMap") (Is (kinds.Keyword keywords.ToMap))
    ∷ reserved (codes "with") (Is (kinds.Keyword keywords.With))
    ∷ reserved (codes "forall") (Is (kinds.Mark marks.Forall))
    ∷ []

-- a built-in name
abbrev pub built_in : Builtin → Reserved
built_in b = reserved (builtin_name b) (Is (kinds.Builtin b))

-- builtin
abbrev pub built_in_names : List Reserved
built_in_names =
    reserved (codes "True") (Is (kinds.Bool true))
    ∷ reserved (codes "False") (Is (kinds.Bool false))
    ∷ map built_in builtins

-- the keywords and built-in names that are left out
abbrev pub names_left_out : List Reserved
names_left_out =
    reserved (codes "Double") LeftOut
    ∷ reserved (codes "Double/show") LeftOut
    ∷ reserved (codes "Integer/toDouble") LeftOut
    ∷ reserved (codes "Date") LeftOut
    ∷ reserved (codes "Date/show") LeftOut
    ∷ reserved (codes "Time") LeftOut
    ∷ reserved (codes "Time/show") LeftOut
    ∷ reserved (codes "TimeZone") LeftOut
    ∷ reserved (codes "TimeZone/show") LeftOut
    ∷ reserved (codes "Bytes") LeftOut
    ∷ reserved (codes "showConstructor") LeftOut
    ∷ reserved (codes "using") LeftOut
    ∷ reserved (codes "Infinity") LeftOut
    ∷ reserved (codes "NaN") LeftOut
    ∷ []

-- what a whole name is, by a list of names that are no labels
abbrev pub named_in : List Reserved → List ℕ → Found
named_in [] name = Is (kinds.Name name)
named_in (r ∷ rs) name = if bytes_eq r.spelling name then r.meaning else named_in rs name

-- what a whole name is
abbrev pub named : List ℕ → Found
named name = named_in (keyword_names ++ built_in_names ++ names_left_out) name

-- how many bytes the longest name at the front takes, 0 where there is none: a letter or `_`, then letters, digits, `_`,
-- `-` and `/`
abbrev pub name_len : List ℕ → ℕ
name_len bs = if is_name_start (first bs) then prefix_len is_name_byte bs else 0

-- simple-label, a keyword or a built-in name
abbrev pub name : List ℕ → Option Form
name bs = form (named (take (name_len bs) bs)) (name_len bs)

-- quoted-label between backticks
abbrev pub quoted_name : List ℕ → Option Form
quoted_name bs =
    let n = prefix_len is_quoted_label_byte (drop 1 bs) in
    if first bs == byte "`" && slice_index bs (1 + n) == byte "`" then form (Is (kinds.Quoted (take n (drop 1 bs)))) (2 + n) else None

-- `-Infinity`, as a whole name
abbrev pub minus_infinity : List ℕ → Option Form
minus_infinity bs = if begins "-Infinity" bs && name_len (drop 1 bs) == 8 then form LeftOut 9 else None
