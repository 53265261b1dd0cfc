-- What several writes append.
use Rattle.std.proofs.Common.{ℕ, ◌+◌, List, Option, take, drop}
use Rattle.std.proofs.Math.Seq.{take-add}
use Rattle.std.proofs.KnownBytes.{Appends-trans}
use Rattle.std.specs.Io.KnownBytes.{Appends}

-- the bytes before a place were appended, and then the next n bytes
pub Appends-next : (old mid new : Option (List ℕ)) (bytes : List ℕ) (at n : ℕ) → Appends old mid (take at bytes)
    → Appends mid new (take n (drop at bytes)) → Appends old new (take (at + n) bytes)
Appends-next old mid new bytes at n before here = rw take-add (Appends-trans _ _ _ _ _ before here)
