-- What a head does to the state of the program.
use Rattle.std.specs.Prelude.{◌≡◌, ℕ, suc, Bool, true, false, List, [], ◌∷◌, drop, Option, Some, None, Result, Ok, Err, ⊤}
use Rattle.dh_syntax.specs.declared.faults.DecodeFault.{DecodeFault}
use Rattle.dh_syntax.specs.declared.faults.DecodeFault.TheVariants as fault
use Rattle.dh_syntax.specs.Bytes.BinaryHeads.{Mark}
use Rattle.dh_syntax.specs.Expressions.Tree.{Term}
use Rattle.dh_binary.specs.Machine.{State, stopped, start, deliver, after, run}
use Rattle.dh_binary.specs.Stubs.{Kept, stubs, decide_kept}
use Rattle.dh_decode.specs.declared.places.Frame.{Frame}
use Rattle.dh_decode.specs.declared.places.Value.{Value}
use Rattle.dh_decode.specs.declared.places.Want.{Want}
use Rattle.dh_decode.specs.declared.stops.Stop.{Stop}
use Rattle.dh_decode.specs.declared.stops.Stop.TheVariants as stop
use Rattle.dh_decode.specs.Inside.States.{state_of, want_of}
use Rattle.dh_decode.specs.Inside.Takings.{is_wide}
use Rattle.dh_decode.specs.Inside.Views.{value_of, frames_of}

-- the state where a place is waiting, or where it ended with a value
abbrev pub leaving : Option Value → Want → List Frame → State Kept
leaving None w fs = state_of w fs
leaving (Some v) w fs = deliver stubs (value_of v) (frames_of fs)

-- nothing follows a head where this is wanted, or only its number is too wide
abbrev pub Refuses : Mark → Want → List Frame → Stop → Type 0
Refuses k w fs stop.Misfit = (after stubs false k (state_of w fs) ≡ stopped) × (is_wide (want_of w (frames_of fs)) k ≡ false)
Refuses k w fs stop.Wide = (after stubs false k (state_of w fs) ≡ stopped) × (is_wide (want_of w (frames_of fs)) k ≡ true)
Refuses k w fs stop.Memory = ⊤

-- some heads lead to this state
abbrev pub IsReached : State Kept → Type 0
IsReached s = (ms : List Mark) × (run stubs false start ms ≡ s)

-- what the reading of the rest answers where one more head is read, whatever number of heads is left
abbrev pub Decides : List ℕ → ℕ → ℕ → State Kept → (ℕ → Result Term DecodeFault) → Type 0
Decides bytes from at s answer = (k : ℕ) → decide_kept (suc k) bytes from (drop at bytes) s ≡ answer k
