-- The count of the frames is the depth of what they stand for.
use Rattle.std.proofs.Common.{◌≡◌, ◌+◌, List, [], ◌∷◌, refl, ap, ◌∙◌, zero-add, one-add}
use Rattle.dh_grammar.specs.Machine.{Sorts, depth_on}
use Rattle.dh_making.specs.Views.{Views}
use Rattle.dh_reader.specs.Counting.{depth_of, frame_opens}
use Rattle.dh_reader.specs.Frames.{frames_of}
use Rattle.dh_reader.specs.declared.frames.productions.Open.TheVariants as opens
use Rattle.dh_reader.specs.declared.frames.productions.Shut.TheVariants as shuts
use Rattle.dh_reader.specs.declared.frames.productions.Frame.{Frame}
use Rattle.dh_reader.specs.declared.frames.productions.Frame.TheVariants as frames

module _ {M Tree Note Lets Chunks Items Alternatives Fields Entry Entries : Type 0} {K : Sorts} (v : Views Tree Note Lets Chunks Items Alternatives Fields Entry Entries K) where
  at_frame : (f : Frame M Tree Note Lets Chunks Items Alternatives Fields Entry Entries) (fs : List (Frame M Tree Note Lets Chunks Items Alternatives Fields Entry Entries)) → frame_opens f + depth_on (frames_of v fs) ≡ depth_on (frames_of v (f ∷ fs))
  at_frame (frames.Open (opens.Left x o)) fs = zero-add _
  at_frame (frames.Open (opens.Applied x)) fs = zero-add _
  at_frame (frames.Open (opens.Merged x)) fs = zero-add _
  at_frame (frames.Open opens.Somed) fs = zero-add _
  at_frame (frames.Open opens.Mapped) fs = zero-add _
  at_frame (frames.Open (opens.Update x ks)) fs = zero-add _
  at_frame (frames.Open f) fs = one-add _
  at_frame (frames.Shut shuts.First) fs = zero-add _
  at_frame (frames.Shut f) fs = one-add _

  pub depths : (fs : List (Frame M Tree Note Lets Chunks Items Alternatives Fields Entry Entries)) → depth_of fs ≡ depth_on (frames_of v fs)
  depths [] = refl
  depths (f ∷ fs) = ap (λ n. frame_opens f + n) (depths fs) ∙ at_frame f fs
