-- What is read back of a text that was found.
use Rattle.std.specs.Prelude.{ℕ, List, [], Option, Some, None, Ok, Err}
use Rattle.dh_syntax.specs.Expressions.Tree.{Term}
use Rattle.dh_imports.specs.Records.{Noted, Found, Absent, Broken, Failed}

-- its bytes, and none where nothing is recorded or what is recorded is no text
abbrev pub bytes_found : Option Noted → Option (List ℕ)
bytes_found (Some (Found bytes allow parsed)) = Some bytes
bytes_found (Some Absent) = None
bytes_found (Some (Broken n)) = None
bytes_found (Some Failed) = None
bytes_found None = None

-- a path in the expression that it spells, and the empty one where it spells none
abbrev pub path_found : (Term → List ℕ) → Option Noted → List ℕ
path_found path (Some (Found bytes allow (Ok e))) = path e
path_found path (Some (Found bytes allow (Err f))) = []
path_found path (Some Absent) = []
path_found path (Some (Broken n)) = []
path_found path (Some Failed) = []
path_found path None = []
