-- What the machine reads: exactly what the grammar derives.
use Rattle.std.specs.Prelude.{◌≡◌, ◌↔◌, List, [], IsTrue, IsFalse}
use Rattle.dh_syntax.specs.declared.tokens.Token.{Token}
use Rattle.dh_syntax.specs.Text.Derivation.{Derivation}
use Rattle.dh_syntax.specs.Text.Spelling.{Derives, IsPrefixOfDerived, OpensTooMany, StopsAt, StopsNested, opens_too_many}
use Rattle.dh_syntax.specs.Text.Yield.{text_yield}
use Rattle.dh_grammar.specs.Machine.{need, done}
use Rattle.dh_grammar.specs.Trees.{trees}
use Rattle.dh_grammar.specs.Reading.{Outcome, accepted, unfinished, refused, nested, reading}
use Rattle.dh_grammar.specs.Running.{IsRunning, steps, spelled}

-- the machine accepts tokens with a tree exactly where the grammar derives them by it
abbrev pub Accepts : Type 0
Accepts = (ts : List Token) (d : Derivation) → (steps (need []) ts ≡ done d) ↔ Derives ts d

-- tokens have one derivation at most
abbrev pub DerivationIsUnique : Type 0
DerivationIsUnique = (ts : List Token) (d e : Derivation) → Derives ts d → Derives ts e → d ≡ e

-- the machine still runs exactly where the tokens begin something that is derived
abbrev pub NoDeadStates : Type 0
NoDeadStates = (ts : List Token) → IsRunning (steps (need []) ts) ↔ IsPrefixOfDerived ts

-- the machine knows what each token's tree says of it
abbrev pub KnowsDepths : Type 0
KnowsDepths = (ts : List Token) (d : Derivation) → Derives ts d → text_yield d ≡ spelled (need []) ts

-- where tokens go on, the tree that is read knows whether too many expressions stand open
abbrev pub KnowsNesting : Type 0
KnowsNesting = (ts : List Token) → IsRunning (steps (need []) ts) → IsTrue (opens_too_many (spelled (need []) ts)) ↔ OpensTooMany ts

-- the outcome is that of the first token that has a fault: one that cannot stand there, or one at which too many expressions
-- stand open
abbrev pub OutcomeIsRight : List Token → Outcome Derivation → Type 0
OutcomeIsRight ts (accepted d) = Derives ts d × IsFalse (opens_too_many (text_yield d))
OutcomeIsRight ts (refused offset) = StopsAt ts offset
OutcomeIsRight ts nested = StopsNested ts
OutcomeIsRight ts unfinished = IsPrefixOfDerived ts × ((d : Derivation) → Derives ts d → ⊥)

-- the outcome of reading is the right one for any tokens
abbrev pub FirstFault : Type 0
FirstFault = (ts : List Token) → OutcomeIsRight ts (reading trees (need []) ts)
