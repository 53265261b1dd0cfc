-- What the machine that types has done once no frame waits.
use Rattle.std.specs.Prelude.{◌≡◌, ◌<◌, ℕ, reverse}
use Rattle.dh_syntax.specs.Names.Nameless.{Core}
use Rattle.dh_syntax.specs.Typing.Inference.{Has, Ill}
use Rattle.dh_syntax.specs.Typing.TypeRules.{Rule, rule_number}
use Rattle.dh_store.specs.Cells.{code_core, AreCoded}
use Rattle.dh_store.specs.Growth.{count}
use Rattle.dh_infer.specs.declared.frames.State.{State}
use Rattle.dh_infer.specs.declared.frames.Typer.{Typer}
use Rattle.dh_infer.specs.declared.steps.Ending.{Ending}
use Rattle.dh_infer.specs.declared.steps.Ending.TheVariants as endings
use Rattle.dh_infer.specs.Inside.Debts.{Meets, Root}
use Rattle.dh_infer.specs.Inside.Machine.{Works}
use Rattle.dh_infer.specs.Inside.Scopes.{Models}

-- the machine is at work on an inference, whatever codes are added
abbrev pub IsAtWork : Root → Typer → State → ℕ → Type 0
IsAtWork root m s units = (g : ℕ → Core) → Models m.codes g → Works g root m s units

-- the code of the type with which the typing ends is below n
abbrev pub IsEndingThere : ℕ → Ending → Type 0
IsEndingThere n (endings.Typed t) = t < n
IsEndingThere n (endings.Failed f) = Unit {0}

-- the end is an answer to an inference, with so many units left
abbrev pub IsAnswer : Root → (ℕ → Core) → ℕ → Ending → Type 0
IsAnswer root g left (endings.Typed t) = Meets root.0 root.1 (Has (g t) left)
IsAnswer root g left (endings.Failed f) = (r : Rule) × (f.rule ≡ rule_number r) × Meets root.0 root.1 (Ill (reverse f.path.items) r)

-- the machine has ended, with an answer to the inference and so many units left
pub record Ends (root : Root) (m : Typer) (left : ℕ) (e : Ending) : Type 0 where
  pub coded : AreCoded m.codes
  pub there : IsEndingThere (count m.codes) e
  pub answer : IsAnswer root (code_core m.codes) left e
