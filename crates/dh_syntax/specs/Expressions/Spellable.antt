-- Which expressions can be written: those that a text can spell.
use Rattle.std.specs.Prelude.{ℕ, zero, suc, ◌≤◌, Bool, true, false, ◌&&◌, ◌||◌, List, [], ◌∷◌, Option, Some, None, IsTrue, nat_le, ◌==◌}
use Rattle.std.specs.Char.{is_ascii_alphanumeric, is_ascii_digit, is_ascii_hexdigit}
use Rattle.std.specs.List.{list_all}
use Rattle.std.specs.Str.{byte}
use Rattle.dh_syntax.specs.declared.expressions.Op.{Op}
use Rattle.dh_syntax.specs.declared.expressions.Op.TheVariants as ops
use Rattle.dh_syntax.specs.declared.locations.Loc.{Loc}
use Rattle.dh_syntax.specs.declared.locations.Loc.TheVariants as locs
use Rattle.dh_syntax.specs.declared.locations.Url.{Url}
use Rattle.dh_syntax.specs.Expressions.Arity.{IsWellFormed, has_some, alt_labels}
use Rattle.dh_syntax.specs.Text.Characters.{is_quoted_label_byte, is_quoted_path_byte, is_query_byte, is_quoted_environment_byte}
use Rattle.dh_syntax.specs.Imports.Locations.{is_kept_in_url}
use Rattle.dh_syntax.specs.Expressions.Nesting.{nesting}
use Rattle.dh_syntax.specs.Limits.{most_nesting, most_index}
use Rattle.dh_syntax.specs.Expressions.Tree.{Row, Leaf, Node, end, kid, Name, Var, Term}

-- a label, as it can stand between backticks (`quoted-label`)
abbrev pub is_label : Name → Bool
is_label x = list_all is_quoted_label_byte x

-- a component of a path, as it can stand between double quotes (`quoted-path-component`)
abbrev pub is_component : List ℕ → Bool
is_component c = has_some c && list_all is_quoted_path_byte c

-- the name of an environment variable, as it can stand between double quotes (`posix-environment-variable`)
abbrev pub is_environment : List ℕ → Bool
is_environment x = has_some x && list_all is_quoted_environment_byte x

-- bytes of a class and `%` with two hexadecimal digits, where so many such digits must come first (`pct-encoded`)
abbrev pub is_encoded : (ℕ → Bool) → ℕ → List ℕ → Bool
is_encoded test zero [] = true
is_encoded test (suc n) [] = false
is_encoded test zero (b ∷ bs) = (b == byte "%" && is_encoded test 2 bs) || (test b && is_encoded test 0 bs)
is_encoded test (suc n) (b ∷ bs) = is_ascii_hexdigit b && is_encoded test n bs

-- a component of a URL (`segment`), and what stands behind its `?` (`query`)
abbrev pub is_segment : List ℕ → Bool
is_segment c = is_encoded is_kept_in_url 0 c

-- the query of a URL, as it can stand behind the `?` (`query`)
abbrev pub is_query : List ℕ → Bool
is_query q = is_encoded is_query_byte 0 q

-- A host and its port (`authority`): parts of letters, digits and inner `-` joined by `.`, then possibly one more `.`, then
-- possibly `:` and digits. Each function tells what may stand at a place.
abbrev mutual
  -- at the start
  pub is_host : List ℕ → Bool
  is_host [] = false
  is_host (b ∷ bs) = is_ascii_alphanumeric b && after_letter bs

  -- after a letter or a digit of a part
  pub after_letter : List ℕ → Bool
  after_letter [] = true
  after_letter (b ∷ bs) =
      (is_ascii_alphanumeric b && after_letter bs) || (b == byte "-" && after_hyphen bs) || (b == byte "." && after_dot bs)
      || (b == byte ":" && list_all is_ascii_digit bs)

  pub after_hyphen : List ℕ → Bool
  after_hyphen [] = false
  after_hyphen (b ∷ bs) = (is_ascii_alphanumeric b && after_letter bs) || (b == byte "-" && after_hyphen bs)

  pub after_dot : List ℕ → Bool
  after_dot [] = true
  after_dot (b ∷ bs) = (is_ascii_alphanumeric b && after_letter bs) || (b == byte ":" && list_all is_ascii_digit bs)

-- whether a query, if there is one, can be written
abbrev pub query_spellable : Option (List ℕ) → Bool
query_spellable None = true
query_spellable (Some q) = is_query q

-- whether the host, the components and the query of a URL can be written
abbrev pub url_spellable : Url → Bool
url_spellable u = is_host u.host && list_all is_segment u.comps && query_spellable u.query

-- whether the components, the URL or the environment variable of a location can be written
abbrev pub location_spellable : Loc → Bool
location_spellable (locs.Abs cs) = list_all is_component cs
location_spellable (locs.Here cs) = list_all is_component cs
location_spellable (locs.Parent cs) = list_all is_component cs
location_spellable (locs.Home cs) = list_all is_component cs
location_spellable (locs.Http u) = url_spellable u
location_spellable (locs.Https u) = url_spellable u
location_spellable (locs.Env x) = is_environment x
location_spellable locs.Missing = true

-- whether a node's labels and its location can be spelled
abbrev pub op_spellable : Op → Bool
op_spellable (ops.Import i) = location_spellable i.loc
op_spellable (ops.RecordType xs) = list_all is_label xs
op_spellable (ops.Record xs) = list_all is_label xs
op_spellable (ops.Field x) = is_label x
op_spellable (ops.Project xs) = list_all is_label xs
op_spellable (ops.Union alts) = list_all is_label (alt_labels alts)
op_spellable (ops.With path) = list_all is_label path
op_spellable _ = true

-- whether the name of a binder, if there is one, can be written
abbrev pub binder_spellable : Option Name → Bool
binder_spellable None = true
binder_spellable (Some x) = is_label x

-- whether the names in an expression, or in the parts of a node, can be spelled
abbrev mutual
  -- whether every name, index and location in an expression can be spelled
  pub names_spellable : Term → Bool
  names_spellable (Leaf x) = is_label x.name && nat_le x.index most_index
  names_spellable (Node op r) = op_spellable op && row_spellable r

  pub row_spellable : Row Var Name → Bool
  row_spellable end = true
  row_spellable (kid b e r) = binder_spellable b && names_spellable e && row_spellable r

-- an expression that a text can spell
abbrev pub IsSpellable : Term → Type 0
IsSpellable e = IsWellFormed e × (nesting e ≤ most_nesting) × IsTrue (names_spellable e)
