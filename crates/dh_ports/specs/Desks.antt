-- What the calls of a desk answer and change.
use Rattle.std.specs.Prelude.{◌≡◌, ℕ, suc, ◌≤◌, nat_le, if◌then◌else◌, List, [], ◌∷◌, ◌++◌, length, Option, Some, None, option_map}
use Rattle.dh_syntax.specs.declared.locations.Digest.{Digest}
use Rattle.dh_syntax.specs.Limits.{most_bytes, most_entry_bytes}
use Rattle.dh_ports.specs.declared.worlds.Got.{Got}
use Rattle.dh_ports.specs.declared.worlds.Got.TheVariants.{Found, Absent, Broken}

-- what is answered is what is told, if anything is told
abbrev pub Tells : {A : Type 0} → Option A → A → Type 0
Tells o x = o ≡ option_map (λ _. x) o

-- how many bytes were found, and zero where nothing was
abbrev pub found_length : Got → ℕ
found_length (Found f) = length f.bytes
found_length Absent = 0
found_length (Broken n) = 0

-- no more bytes are found than one more than a text may have
abbrev pub IsShort : Got → Type 0
IsShort got = found_length got ≤ suc most_bytes

-- an entry as a look shows it: one that is too large is none
abbrev pub shown : Option (List ℕ) → Option (List ℕ)
shown None = None
shown (Some bytes) = if nat_le (length bytes) most_entry_bytes then Some bytes else None

-- the kept pairs grew by one, where they are told
abbrev pub filed_with : Option (List (Digest × List ℕ)) → Digest → List ℕ → Option (List (Digest × List ℕ))
filed_with kept d bytes = option_map (λ pairs. pairs ++ (d, bytes) ∷ []) kept
