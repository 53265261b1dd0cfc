-- On the fragment the order of steps does not matter.
use Rattle.std.specs.Prelude.{◌≡◌, ◌↔◌, ℕ, List, Some, IsTrue}
use Rattle.dh_syntax.specs.Expressions.Tree.{Term}
use Rattle.dh_syntax.specs.Normalising.Named.{names, put}
use Rattle.dh_syntax.specs.Normalising.Normal.{HasNormalForm}
use Rattle.dh_syntax.specs.Normalising.Steps.{StepsAt, Steps, Reaches, IsSettled, in_fragment}
use Rattle.dh_confluence.specs.FragmentSteps.{step_at, is_settled}

-- The steps of an expression of the fragment are those of its four rows.
abbrev pub FragmentSteps : Type 0
FragmentSteps = (place : List ℕ) (e f : Term) → IsTrue (in_fragment e) → StepsAt names place e f ↔ (step_at put place e ≡ Some f)

-- A step leads from the fragment into the fragment.
abbrev pub FragmentKept : Type 0
FragmentKept = (e f : Term) → IsTrue (in_fragment e) → Steps names e f → IsTrue (in_fragment f)

-- No step leads on exactly where the test says so.
abbrev pub SettledDecides : Type 0
SettledDecides = (e : Term) → IsTrue (in_fragment e) → IsTrue (is_settled put e) ↔ IsSettled names e

-- Two lists of steps can be continued to one expression.
abbrev pub Confluence : Type 0
Confluence = (e f g : Term) → IsTrue (in_fragment e) → Reaches names e f → Reaches names e g → (h : Term) × Reaches names f h × Reaches names g h

-- All lists of steps that end where no step leads on end in one expression.
abbrev pub OneEnd : Type 0
OneEnd = (e f g : Term) → IsTrue (in_fragment e) → Reaches names e f → IsSettled names f → Reaches names e g → IsSettled names g → f ≡ g

-- No step leads on from a normal form.
abbrev pub NormalFormSettled : Type 0
NormalFormSettled = (e f : Term) → IsTrue (in_fragment e) → HasNormalForm names e f → IsSettled names f

-- So where steps end is the normal form, if there is one.
abbrev pub EndIsNormal : Type 0
EndIsNormal = (e f g : Term) → IsTrue (in_fragment e) → Reaches names e f → IsSettled names f → HasNormalForm names e g → g ≡ f
