-- What reading one piece of an input does.
use Rattle.std.specs.Prelude.{◌≡◌, ℕ, ◌<◌, ◌++◌, List, length, Option, Bool, MatchBool}
use Rattle.std.specs.Io.KnownBytes.{Consumes, IsAtEnd}

-- The piece was taken from the input and added to the bytes; there was none only at the end.
pub record TakesPiece (before after : Option (List ℕ)) (old new : List ℕ) (more : Bool) : Type 0 where
  pub piece : List ℕ
  pub added : new ≡ old ++ piece
  pub taken : Consumes before after piece
  pub ends : MatchBool more (length old < length new) (IsAtEnd after)
