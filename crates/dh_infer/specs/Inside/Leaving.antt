-- A failure seen from further out, and the machine out of a binder.
use Rattle.std.specs.Prelude.{◌≡◌, ◌++◌, ℕ, [], ◌∷◌, drop}
use Rattle.dh_infer.specs.declared.frames.Failure.{Failure}
use Rattle.dh_infer.specs.declared.frames.State.{State}
use Rattle.dh_infer.specs.declared.frames.State.TheVariants as states
use Rattle.dh_infer.specs.declared.frames.Typer.{Typer}

-- the second failure is the first one, below this part
pub record IsBelow (at : ℕ) (f d : Failure) : Type 0 where
  pub path : d.path.items ≡ f.path.items ++ at ∷ []
  pub rule : d.rule ≡ f.rule

-- the state is that failure, below this part
abbrev pub IsFailedBelow : ℕ → Failure → State → Type 0
IsFailedBelow at f s = (d : Failure) × (s ≡ states.Failed d) × IsBelow at f d

-- the machine out of a binder whose variable has a number
abbrev pub outside_binder : Typer → Typer
outside_binder m = record m { scope = drop 1 m.scope; levels = drop 1 m.levels }

-- the machine out of a `let`
abbrev pub outside_let : Typer → Typer
outside_let m = record m { scope = drop 1 m.scope }
