-- What may be answered for the typing of a nameless expression in the empty context.
use Rattle.std.specs.Prelude.{◌≡◌, ◌⊎◌, ℕ, []}
use Rattle.dh_syntax.specs.declared.faults.NormFault.{NormFault}
use Rattle.dh_syntax.specs.declared.faults.NormFault.TheVariants as limits
use Rattle.dh_syntax.specs.declared.faults.TypeFault.{TypeFault}
use Rattle.dh_syntax.specs.declared.faults.TypeFault.TheVariants as faults
use Rattle.dh_syntax.specs.Names.Nameless.{Core}
use Rattle.dh_syntax.specs.Typing.Inference.{Judgment, Ill, IsWide, IsDeep, IsOver, IsOverAside}
use Rattle.dh_syntax.specs.Typing.NamelessTyping.{core_scopes}
use Rattle.dh_syntax.specs.Typing.TypeRules.{Rule, rule_number}
use Rattle.dh_syntax.specs.Typing.Typing.{typing}
use Rattle.dh_infer.specs.Inside.Debts.{Lags}

-- this may be answered for the typing of the expression in the empty context, with so many units
abbrev pub Answers : ℕ → Core → Judgment Core → Type 0
Answers units e answer = (depth : ℕ) × Lags units (typing core_scopes depth [] e) answer

-- this fault may be answered for the typing of the expression in the empty context, with so many units
abbrev pub AnswersFault : ℕ → Core → TypeFault → Type 0
AnswersFault units e (faults.Ill ill) = (r : Rule) × (ill.rule ≡ rule_number r) × Answers units e (Ill ill.path r)
AnswersFault units e faults.Wide = Answers units e IsWide
AnswersFault units e faults.Spent = Answers units e IsOver ⊎ Answers units e IsOverAside
AnswersFault units e faults.Deep = Answers units e IsDeep
AnswersFault units e faults.Memory = Unit {0}

-- the same limit, as a fault of typing
abbrev pub limit_fault : NormFault → TypeFault
limit_fault limits.Wide = faults.Wide
limit_fault limits.Spent = faults.Spent
limit_fault limits.Deep = faults.Deep
limit_fault limits.Memory = faults.Memory
