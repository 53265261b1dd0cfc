-- What a table keeps in the cache.
use Rattle.std.specs.Prelude.{◌≡◌, ℕ, List, Option, Some, None, []}
use Rattle.dh_syntax.specs.declared.locations.Digest.{Digest}
use Rattle.dh_imports.specs.Keeps.{AreKeeps}
use Rattle.dh_imports.specs.Machine.{State}
use Rattle.dh_imports.specs.Replay.{RootEnd, ready, bad, looped, too_many}
use Rattle.dh_imports.specs.Resolver.{resolve}

-- Where the root is ready, the entries that its run keeps; else none.
abbrev pub IsKeeping : State → Option RootEnd → List (Digest × List ℕ) → Type 0
IsKeeping s (Some (ready v)) kept = (n : ℕ) × AreKeeps s.recorded (resolve s.recorded n []) s.root kept
IsKeeping s (Some (bad b)) kept = kept ≡ []
IsKeeping s (Some (looped j)) kept = kept ≡ []
IsKeeping s (Some too_many) kept = kept ≡ []
IsKeeping s None kept = kept ≡ []
