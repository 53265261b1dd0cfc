-- What the frames of the program stand for.
use Rattle.std.specs.Prelude.{List, [], ◌∷◌, option_map}
use Rattle.dh_grammar.specs.Machine as machine
use Rattle.dh_grammar.specs.Machine.{Stack}
use Rattle.dh_grammar.specs.Making.{Sorts}
use Rattle.dh_making.specs.Views.{Views}
use Rattle.dh_making.specs.Words.{word_of, key_of, keys_of}
use Rattle.dh_reader.specs.declared.frames.productions.Open.{Open}
use Rattle.dh_reader.specs.declared.frames.productions.Open.TheVariants as opens
use Rattle.dh_reader.specs.declared.frames.productions.Shut.{Shut}
use Rattle.dh_reader.specs.declared.frames.productions.Shut.TheVariants as shuts
use Rattle.dh_reader.specs.declared.frames.productions.Frame.{Frame}
use Rattle.dh_reader.specs.declared.frames.productions.Frame.TheVariants as frames

-- the builder, what it builds and what that stands for
module _ {M Tree Note Lets Chunks Items Alternatives Fields Entry Entries : Type 0} {K : Sorts} (v : Views Tree Note Lets Chunks Items Alternatives Fields Entry Entries K) where
  abbrev pub open_of : Open M Tree Note Lets Chunks Items Alternatives Fields Entry Entries → machine.Open K
  open_of (opens.Left x o) = machine.left (v.tree x) o
  open_of (opens.Applied x) = machine.applied (v.tree x)
  open_of (opens.Merged x) = machine.merged (v.tree x)
  open_of opens.Somed = machine.somed
  open_of opens.Mapped = machine.mapped
  open_of (opens.Update x ks) = machine.update (v.tree x) (keys_of ks)
  open_of (opens.Body b w x) = machine.body b (word_of w) (v.tree x)
  open_of (opens.Target x) = machine.target (v.tree x)
  open_of (opens.Otherwise p t) = machine.otherwise (v.tree p) (v.tree t)
  open_of (opens.Bound ls) = machine.bound (v.lets ls)
  open_of (opens.Noted x) = machine.noted (v.tree x)
  open_of (opens.Emptied c) = machine.emptied c
  open_of opens.Asserted = machine.asserted

  abbrev pub shut_of : Shut M Tree Note Lets Chunks Items Alternatives Fields Entry Entries → machine.Shut K
  shut_of shuts.Bracket = machine.bracket
  shut_of (shuts.Domain b w) = machine.domain b (word_of w)
  shut_of shuts.Condition = machine.condition
  shut_of (shuts.Branch x) = machine.branch (v.tree x)
  shut_of (shuts.LetType ls w) = machine.let_type (option_map v.lets ls) (word_of w)
  shut_of (shuts.LetValue ls w a) = machine.let_value (option_map v.lets ls) (word_of w) (v.note a)
  shut_of (shuts.Selected x) = machine.selected (v.tree x)
  shut_of shuts.First = machine.first
  shut_of (shuts.Items c is) = machine.items c (option_map v.items is)
  shut_of (shuts.AlternativeType c as' k) = machine.alternative_type c (option_map v.alternatives as') (key_of k)
  shut_of (shuts.FieldType c fs k) = machine.field_type c (option_map v.fields fs) (key_of k)
  shut_of (shuts.EntryValue c es ks) = machine.entry_value c (option_map v.entries es) (keys_of ks)
  shut_of (shuts.Chunk f cs) = machine.chunk f (v.chunks cs)

  abbrev pub frame_of : Frame M Tree Note Lets Chunks Items Alternatives Fields Entry Entries → machine.Frame K
  frame_of (frames.Open f) = machine.«open» (open_of f)
  frame_of (frames.Shut f) = machine.shut (shut_of f)

  -- the newest first
  abbrev pub frames_of : List (Frame M Tree Note Lets Chunks Items Alternatives Fields Entry Entries) → Stack K
  frames_of [] = []
  frames_of (f ∷ fs) = frame_of f ∷ frames_of fs
