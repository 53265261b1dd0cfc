-- The order of keys of imports.
use Rattle.std.specs.Prelude.{◌≡◌, ◌⊎◌, true}
use Rattle.dh_syntax.specs.declared.locations.Key.{Key}
use Rattle.dh_syntax.specs.Imports.Keys.{key_le}

-- of two keys one comes before the other or is it
abbrev pub KeysTotal : Type 0
KeysTotal = (j k : Key) → (key_le j k ≡ true) ⊎ (key_le k j ≡ true)

-- a key that comes before one that comes before a third comes before that
abbrev pub KeysTransitive : Type 0
KeysTransitive = (i j k : Key) → key_le i j ≡ true → key_le j k ≡ true → key_le i k ≡ true

-- keys that come before each other are equal
abbrev pub KeysAntisymmetric : Type 0
KeysAntisymmetric = (j k : Key) → key_le j k ≡ true → key_le k j ≡ true → j ≡ k
