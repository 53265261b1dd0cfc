-- How the root of a table ends.
use Rattle.std.specs.Prelude.{◌≡◌, Some, None}
use Rattle.dh_imports.specs.declared.outcomes.Why.TheVariants.{Cycle, TooMany}
use Rattle.dh_syntax.specs.Expressions.Bridge.{term}
use Rattle.dh_syntax.specs.Expressions.Tree.{Term}
use Rattle.dh_imports.specs.Replay.{RootEnd, ready, bad, looped, too_many}
use Rattle.dh_table.specs.declared.answers.roots.Ended.{Ended}
use Rattle.dh_table.specs.declared.answers.roots.Ended.TheVariants as ends
use Rattle.dh_record.specs.Values.{FitsRoot}

-- The root ends so: a loop is the fault `Cycle` of its least key, and too many keys are a fault of no key.
abbrev pub IsEnd : RootEnd → Ended → Type 0
IsEnd (ready v) (ends.Ready e) = term e ≡ v
IsEnd (bad b) (ends.Bad c) = c ≡ b
IsEnd (looped j) (ends.Bad c) = c ≡ record { at = Some j; why = Cycle }
IsEnd too_many (ends.Bad c) = c ≡ record { at = None; why = TooMany }
IsEnd _ _ = ⊥

-- a value with which the root ends is one that fits it
abbrev pub IsFitEnd : Term → Ended → Type 0
IsFitEnd root (ends.Ready e) = FitsRoot root (term e)
IsFitEnd root (ends.Bad b) = Unit {0}
