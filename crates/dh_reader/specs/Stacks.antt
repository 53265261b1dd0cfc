-- What the stack of the program stands for.
use Rattle.dh_grammar.specs.Machine as machine
use Rattle.dh_grammar.specs.Making.{Sorts}
use Rattle.dh_making.specs.Views.{Views}
use Rattle.dh_making.specs.declared.making.Makes.{Ghosts}
use Rattle.dh_reader.specs.Frames.{frames_of}
use Rattle.dh_reader.specs.declared.frames.stack.Frames.{Frames}

module _ {M Tree Note Lets Chunks Items Alternatives Fields Entry Entries : Type 0} {K : Sorts} (v : Views Tree Note Lets Chunks Items Alternatives Fields Entry Entries K) where
  abbrev pub stack_of : {G : Ghosts M Tree Note Lets Chunks Items Alternatives Fields Entry Entries} → Frames M Tree Note Lets Chunks Items Alternatives Fields Entry Entries G → machine.Stack K
  stack_of fs = frames_of v fs.pile
