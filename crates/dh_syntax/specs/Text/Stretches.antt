-- Stretches of characters that spell a text: a piece of a text literal, a comment's line.
use Rattle.std.specs.Prelude.{ℕ, zero, suc, pred, List, [], ◌∷◌, ◌++◌, take, if◌then◌else◌, ◌||◌}
use Rattle.dh_syntax.specs.Text.Characters.{first, char_len, code_at, is_control, is_noncharacter}

-- what stands at a place of a stretch
pub data Character : Type 0 where
  -- a character or an escape: the bytes that it stands for, and how many it takes
  Reads : List ℕ → ℕ → Character
  -- the end of the stretch
  Ends : Character
  -- what cannot stand there
  Faults : Character

-- a whole stretch
pub data Stretch : Type 0 where
  -- the bytes that it stands for, and how many it takes
  UpTo : List ℕ → ℕ → Stretch
  -- how many bytes stand before the first thing that cannot stand there
  FaultAt : ℕ → Stretch

-- a stretch with one more byte before it, and with these bytes before what it stands for
abbrev pub further : List ℕ → Stretch → Stretch
further front (UpTo text n) = UpTo (front ++ text) (suc n)
further front (FaultAt n) = FaultAt (suc n)

-- a stretch by its first character and by what follows so many bytes after the first one
abbrev pub by_character : Character → (ℕ → Stretch) → Stretch
by_character (Reads front n) rest = further front (rest (pred n))
by_character Ends rest = UpTo [] 0
by_character Faults rest = FaultAt 0

-- the stretch that begins after so many bytes, where `at` tells what stands at a place
abbrev pub stretch : (List ℕ → Character) → ℕ → List ℕ → Stretch
stretch at skip [] = UpTo [] 0
stretch at (suc skip) (b ∷ bs) = further [] (stretch at skip bs)
stretch at zero (b ∷ bs) = by_character (at (b ∷ bs)) (λ n. stretch at n bs)

-- the character at the front stands for itself
abbrev pub itself : List ℕ → Character
itself bs = Reads (take (char_len bs) bs) (char_len bs)

-- the same, but for a control character and a non-character
abbrev pub good_character : List ℕ → Character
good_character bs = if is_control (first bs) || is_noncharacter (code_at bs) then Faults else itself bs
