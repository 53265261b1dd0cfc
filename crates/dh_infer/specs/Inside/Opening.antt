-- How the machine goes below a binder whose variable gets a number.
use Rattle.std.specs.Prelude.{◌≡◌, ℕ, true, ◌∷◌, Some}
use Rattle.dh_syntax.specs.Expressions.Tree.{Leaf}
use Rattle.dh_types.specs.Growing.{Grows, Stands}
use Rattle.dh_infer.specs.declared.frames.Frame.{Frame}
use Rattle.dh_infer.specs.declared.frames.Typer.{Typer}
use Rattle.dh_infer.specs.Inside.OpenTyping.{level}

-- the variable has this number and this type, and this frame waits for the type of what stands below the binder
pub record Opens (old new : Typer) (number t : ℕ) (f : Frame) : Type 0 where
  pub value : ℕ
  pub grows : Grows old.codes new.codes
  pub stands : Stands new.codes value (Leaf (level number))
  pub scope : new.scope ≡ record { value = value; typed = Some t; opened = true } ∷ old.scope
  pub levels : new.levels ≡ t ∷ old.levels
  pub frames : new.frames ≡ f ∷ old.frames
