-- How far the orders of a script were gone through.
use Rattle.std.specs.Prelude.{◌≡◌, ◌≤◌, ℕ, List, [], ◌∷◌, ◌++◌, Option, Some, None, Result, Ok, Err}
use Rattle.dh_command.specs.declared.statuses.Status.{Status}
use Rattle.dh_ports.specs.Counts.{Rose}
use Rattle.dh_ports.specs.declared.desks.DeskError.{DeskError}
use Rattle.dh_ports.specs.declared.desks.DeskError.TheVariants as errors
use Rattle.dh_script_laws.specs.Answering.{Refusal}
use Rattle.dh_streams.specs.Streams.{Gains, Output, Stops}
use Rattle.dh_syntax.specs.declared.locations.Loc.{Loc}
use Rattle.dh_watch_laws.specs.ScriptLines.{Order, Set, Drop}
use Rattle.dh_watching.specs.declared.following.Gone.{Gone}
use Rattle.dh_watching.specs.declared.following.Halt.{Halt}
use Rattle.dh_watching.specs.declared.following.Halt.TheVariants as halts
use Rattle.dh_watching.specs.Steps.{Follows, Goes, State, IsEdit, IsUnchanged}

-- the order of a change to these bytes, or to none
abbrev pub edit_of : Loc → Option (List ℕ) → Order
edit_of l (Some bytes) = Set l bytes
edit_of l None = Drop l

-- a change was refused
pub record IsRefusedChange (a b : State) (o : Order) (e : DeskError) : Type 0 where
  pub edit : IsEdit o
  pub unchanged : IsUnchanged a b
  pub counted : a.faults ≤ b.faults
  pub failed : e ≡ errors.Failed → Rose a.faults b.faults

-- an order was followed, and its line was written whole
pub record IsFollowed (a b : State) (o : Order) (w : Output) (s : Status) : Type 0 where
  pub line : List ℕ
  pub refused : List Refusal
  pub follows : Follows a b o line s refused
  pub gains : Gains w line

-- an order was followed, and its line was not written whole
pub record IsCutOff (a b : State) (o : Order) (w : Output) : Type 0 where
  pub line : List ℕ
  pub status : Status
  pub refused : List Refusal
  pub follows : Follows a b o line status refused
  pub stops : Stops w line

-- what became of a change
abbrev pub AfterChange : State → State → Order → Result Status Halt → Type 0
AfterChange a b o (Ok s) = Follows a b o [] s []
AfterChange a b o (Err (halts.Refused e)) = IsRefusedChange a b o e
AfterChange a b o (Err halts.Cut) = ⊥

-- what became of an order
abbrev pub AfterOrder : State → State → Order → Output → Result Status Halt → Type 0
AfterOrder a b o w (Ok s) = IsFollowed a b o w s
AfterOrder a b o w (Err (halts.Refused e)) = IsRefusedChange a b o e × Gains w []
AfterOrder a b o w (Err halts.Cut) = IsCutOff a b o w

-- these orders were gone through, and what they write was written whole
pub record HasGone (a b : State) (orders : List Order) (w : Output) (s : Status) : Type 0 where
  pub told : List ℕ
  pub refused : List Refusal
  pub goes : Goes a b orders told s refused
  pub gains : Gains w told

-- the first of these orders were gone through, up to a change that was refused
pub record HasHalted (a b : State) (orders : List Order) (w : Output) (s : Status) (e : DeskError) : Type 0 where
  pub before : List Order
  pub order : Order
  pub after : List Order
  pub cut : orders ≡ before ++ order ∷ after
  pub middle : State
  pub gone : HasGone a middle before w s
  pub refused : IsRefusedChange middle b order e

-- the first of these orders were gone through, and what they write was not written whole
pub record HasStopped (a b : State) (orders : List Order) (w : Output) : Type 0 where
  pub before : List Order
  pub after : List Order
  pub cut : orders ≡ before ++ after
  pub told : List ℕ
  pub status : Status
  pub refused : List Refusal
  pub goes : Goes a b before told status refused
  pub stops : Stops w told

-- orders were gone through with this ending: all of them, or up to a refused change, or to a failed write
abbrev pub IsGoneTo : State → State → List Order → Output → Status → Option Halt → Type 0
IsGoneTo a b orders w s None = HasGone a b orders w s
IsGoneTo a b orders w s (Some (halts.Refused e)) = HasHalted a b orders w s e
IsGoneTo a b orders w s (Some halts.Cut) = HasStopped a b orders w

-- orders were gone through as far as this result tells
abbrev pub IsGone : State → State → List Order → Output → Gone → Type 0
IsGone a b orders w g = IsGoneTo a b orders w g.status g.halt
