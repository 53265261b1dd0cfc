-- Lines of scripts, computed.
use Rattle.std.specs.Prelude.{◌≡◌, [], ◌∷◌, Some, None, codes, refl}
use Rattle.dh_watch_laws.specs.ScriptLines.{lines_of, bytes_of}

two_lines : lines_of (codes "a\nb") ≡ codes "a" ∷ codes "b" ∷ []
two_lines = refl

ended_line : lines_of (codes "a\n") ≡ codes "a" ∷ []
ended_line = refl

empty_line : lines_of (codes "\na\n") ≡ [] ∷ codes "a" ∷ []
empty_line = refl

some_bytes : bytes_of (codes "2E2f31") ≡ Some (codes "./1")
some_bytes = refl

odd_digits : bytes_of (codes "3") ≡ None
odd_digits = refl
