-- What a call on the reader answers, beside where the machine goes.
use Rattle.std.specs.Prelude.{◌≡◌, Result, MatchResult}
use Rattle.dh_grammar.specs.Machine.{State, stopped}
use Rattle.dh_grammar.specs.Making.{Sorts}
use Rattle.dh_making.specs.Views.{Views}
use Rattle.dh_making.specs.declared.making.Makes.{Ghosts}
use Rattle.dh_reader.specs.States.{state_of}
use Rattle.dh_reader.specs.declared.reader.Reader.{Reader}
use Rattle.dh_reader.specs.declared.stops.Stop.{Stop}
use Rattle.dh_reader.specs.declared.stops.Stop.TheVariants.{Refused}

-- the builder, what it builds and what that stands for
module _ {M Tree Note Lets Chunks Items Alternatives Fields Entry Entries : Type 0} {K : Sorts} (v : Views Tree Note Lets Chunks Items Alternatives Fields Entry Entries K) where
  -- the frames and the top of the reader are this state of the machine; a token is refused only where this is no state
  abbrev pub Follows : {G : Ghosts M Tree Note Lets Chunks Items Alternatives Fields Entry Entries} → State K → Reader M Tree Note Lets Chunks Items Alternatives Fields Entry Entries G → Result (Unit {0}) Stop → Type 0
  Follows s reader result = MatchResult result (λ _. s ≡ state_of v reader.frames reader.top) (λ stop. stop ≡ Refused → s ≡ stopped)
