-- States of the reading, and what a form does there, as the definition has them.
use Rattle.std.specs.Prelude.{◌≡◌, ℕ, List, Option, Some, None, Result, Ok, Err}
use Rattle.dh_syntax.specs.declared.tokens.Token.{Token}
use Rattle.dh_syntax.specs.Text.Lexing as lexing
use Rattle.dh_tokens.specs.declared.faults.LexFault.{LexFault}
use Rattle.dh_tokens.specs.declared.faults.LexFault.TheVariants as faults
use Rattle.dh_tokens.specs.declared.states.Before.{Before}
use Rattle.dh_tokens.specs.declared.states.Before.TheVariants as before
use Rattle.dh_tokens.specs.declared.states.State.{State}
use Rattle.dh_tokens.specs.Inside.Places.{IsRooted, IsWhole, place_of}

-- what stands before a place
abbrev pub before_of : Before → lexing.Before
before_of before.Start = lexing.Start
before_of before.AName = lexing.AName
before_of before.NameAt = lexing.NameAt
before_of before.Other = lexing.Other

-- a state
abbrev pub state_of : State → lexing.State
state_of s = record { place = place_of s.place; before = before_of s.before; gap = s.gap }

-- what a form of so many bytes does, where it was passed with this answer and led to this state
abbrev pub StepIs : Result (Option Token) LexFault → lexing.State → ℕ → lexing.Step → Type 0
StepIs (Ok None) after len step = step ≡ lexing.Skips after len
StepIs (Ok (Some token)) after len step = step ≡ lexing.Gives token after len
StepIs (Err (faults.Bad at)) after len step = step ≡ lexing.Stops (lexing.Bad at)
StepIs (Err (faults.Wide at)) after len step = step ≡ lexing.Stops (lexing.Wide at)
StepIs (Err (faults.Out at)) after len step = step ≡ lexing.Stops (lexing.Out at)
StepIs (Err faults.Memory) after len step = Unit {0}

-- the form at an offset of a text can be read
abbrev pub IsReady : State → ℕ → List ℕ → Type 0
IsReady s at bs = IsRooted s.place.open.items × IsWhole (place_of s.place) at bs
