-- How many expressions stand open on the frames of the program.
use Rattle.std.specs.Prelude.{◌≡◌, ℕ, ◌+◌, List, [], ◌∷◌}
use Rattle.dh_reader.specs.declared.frames.productions.Open.{Open}
use Rattle.dh_reader.specs.declared.frames.productions.Open.TheVariants as opens
use Rattle.dh_reader.specs.declared.frames.productions.Shut.{Shut}
use Rattle.dh_reader.specs.declared.frames.productions.Shut.TheVariants as shuts
use Rattle.dh_reader.specs.declared.frames.productions.Frame.{Frame}
use Rattle.dh_reader.specs.declared.frames.productions.Frame.TheVariants as frames

-- the builder and what it builds
module _ {M Tree Note Lets Chunks Items Alternatives Fields Entry Entries : Type 0} where
  abbrev pub open_opens : Open M Tree Note Lets Chunks Items Alternatives Fields Entry Entries → ℕ
  open_opens (opens.Left x o) = 0
  open_opens (opens.Applied x) = 0
  open_opens (opens.Merged x) = 0
  open_opens opens.Somed = 0
  open_opens opens.Mapped = 0
  open_opens (opens.Update x ks) = 0
  open_opens _ = 1

  abbrev pub shut_opens : Shut M Tree Note Lets Chunks Items Alternatives Fields Entry Entries → ℕ
  shut_opens shuts.First = 0
  shut_opens _ = 1

  -- how many expressions the place of a frame opens
  abbrev pub frame_opens : Frame M Tree Note Lets Chunks Items Alternatives Fields Entry Entries → ℕ
  frame_opens (frames.Open f) = open_opens f
  frame_opens (frames.Shut f) = shut_opens f

  abbrev pub depth_of : List (Frame M Tree Note Lets Chunks Items Alternatives Fields Entry Entries) → ℕ
  depth_of [] = 1
  depth_of (f ∷ fs) = frame_opens f + depth_of fs

  abbrev pub IsCounted : List (Frame M Tree Note Lets Chunks Items Alternatives Fields Entry Entries) → ℕ → Type 0
  IsCounted fs n = n ≡ depth_of fs
