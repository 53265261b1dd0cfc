-- Laws of steps and of what is told of them.
use Rattle.std.specs.Prelude.{◌≡◌, ℕ, List}
use Rattle.dh_syntax.specs.Expressions.Spellable.{IsSpellable}
use Rattle.dh_syntax.specs.Expressions.Tree.{Term}
use Rattle.dh_steps.specs.Room.{IsRoomy}
use Rattle.dh_steps.specs.StepLines.{settled_line}
use Rattle.dh_steps.specs.StepsAnswer.{StepsReply, Printed, StepsAnswer}

-- Whatever the places are, where no step leads on from the expression that is printed, it is the same one.
abbrev pub OneEndPrinted : Type 0
OneEndPrinted =
    (input : List ℕ) (places others : List (List ℕ)) (text other : List ℕ) → StepsAnswer places input (Printed text settled_line)
    → StepsAnswer others input (Printed other settled_line) → text ≡ other

-- One thing is told of a list of places and an input.
abbrev pub OneReply : Type 0
OneReply = (input : List ℕ) (places : List (List ℕ)) (v w : StepsReply) → StepsAnswer places input v → StepsAnswer places input w → v ≡ w

-- What a text spells has room for steps.
abbrev pub SpellableHasRoom : Type 0
SpellableHasRoom = (e : Term) → IsSpellable e → IsRoomy e
