-- What reserved names are.
use Rattle.std.specs.Prelude.{ℕ, List, [], ◌∷◌, ◌++◌, Option, Some, None, ◌==◌, if◌then◌else◌}
use Rattle.std.specs.Borrow.{Bor}
use Rattle.dh_syntax.specs.declared.tokens.Mark.TheVariants as marks
use Rattle.dh_syntax.specs.declared.tokens.TokenKind.TheVariants as kinds
use Rattle.dh_syntax.specs.Text.Characters.{first}
use Rattle.dh_syntax.specs.Text.LexForms.{Found, Is, LeftOut}
use Rattle.dh_syntax.specs.Text.LexNames.{Reserved, built_in_names, keyword_names, names_left_out, reserved}
use Rattle.dh_tokens.specs.declared.names.Meaning.{Meaning}
use Rattle.dh_tokens.specs.declared.names.Meaning.TheVariants as meanings

-- what a name of this meaning is
abbrev pub meaning_of : Meaning → Found
meaning_of (meanings.Keyword k) = Is (kinds.Keyword k)
meaning_of meanings.Forall = Is (kinds.Mark marks.Forall)
meaning_of (meanings.Bool b) = Is (kinds.Bool b)
meaning_of (meanings.Builtin b) = Is (kinds.Builtin b)
meaning_of meanings.LeftOut = LeftOut

-- a row of a table of names
abbrev pub reserved_of : Bor (List ℕ) × Meaning → Reserved
reserved_of row = reserved row.0.now (meaning_of row.1)

-- the same of a name that may have no meaning of its own
abbrev pub meaning_or_label : Option Meaning → List ℕ → Found
meaning_or_label None name = Is (kinds.Name name)
meaning_or_label (Some m) name = meaning_of m

-- all names that are no labels
abbrev pub reserved_names : List Reserved
reserved_names = keyword_names ++ built_in_names ++ names_left_out

-- those that begin with this byte
abbrev pub beginning_with : ℕ → List Reserved → List Reserved
beginning_with b [] = []
beginning_with b (r ∷ rs) = if first r.spelling == b then r ∷ beginning_with b rs else beginning_with b rs
