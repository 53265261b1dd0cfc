-- Files as words of a command line.
use Rattle.std.specs.Prelude.{ℕ, zero, suc, ◌+◌, Bool, false, ◌||◌, ◌==◌, if◌then◌else◌, List, [], ◌∷◌, ◌++◌, length, Option, Some, None, Result, Ok, Err, codes}
use Rattle.dh_syntax.specs.Text.Characters.{begins}
use Rattle.dh_syntax.specs.Text.LexForms.{Form}
use Rattle.dh_syntax.specs.Text.LexLocations.{path}

-- the most files of one command line
abbrev pub most_files : ℕ
most_files = 256

-- a word that begins as a local location does
abbrev pub begins_as_path : List ℕ → Bool
begins_as_path w = begins "/" w || begins "./" w || begins "../" w || begins "~/" w

-- the text of the import that a word stands for: such a word is that location, and any other word `w` is `./w`
abbrev pub file_text : List ℕ → List ℕ
file_text w = if begins_as_path w then w else codes "./" ++ w

-- a form of so many bytes
abbrev pub has_len : Option Form → ℕ → Bool
has_len None n = false
has_len (Some f) n = f.len == n

-- the whole text is one location: "local" of `dhall.abnf`
abbrev pub is_path : List ℕ → Bool
is_path text = has_len (path text) (length text)

-- whether a word names a file
abbrev pub is_file : List ℕ → Bool
is_file w = is_path (file_text w)

-- this word and those behind it, each as the text of its file
abbrev pub with_file : List ℕ → Result (List (List ℕ)) ℕ → Result (List (List ℕ)) ℕ
with_file w (Ok texts) = Ok (file_text w ∷ texts)
with_file w (Err k) = Err k

-- The texts of the files that these words name, where so many may stand and the first is the word of this number of its line; or the
-- number of the first of them that names no file or is one too many.
abbrev pub more_files : ℕ → ℕ → List (List ℕ) → Result (List (List ℕ)) ℕ
more_files left at [] = Ok []
more_files zero at (w ∷ ws) = Err at
more_files (suc left) at (w ∷ ws) = if is_file w then with_file w (more_files left (at + 1) ws) else Err at

-- the same, where there must be a file
abbrev pub operand_files : ℕ → List (List ℕ) → Result (List (List ℕ)) ℕ
operand_files at [] = Err at
operand_files at (w ∷ ws) = more_files most_files at (w ∷ ws)
