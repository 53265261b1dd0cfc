-- What the reader of tokens and the parser answer.
use Rattle.std.specs.Prelude.{◌≡◌, ◌≢◌, Result, Ok, Err, ⊤}
use Rattle.dh_syntax.specs.declared.expressions.Expr.{Expr}
use Rattle.dh_syntax.specs.declared.faults.ParseFault.{ParseFault}
use Rattle.dh_syntax.specs.declared.faults.ParseFault.TheVariants as faults
use Rattle.dh_syntax.specs.Expressions.Bridge.{term}
use Rattle.dh_syntax.specs.Expressions.Tree.{Term}
use Rattle.dh_grammar.specs.Reading.{Outcome, refused, nested}

-- what a fault says of the reading of tokens; want of memory says nothing
abbrev pub IsFault : {A : Type 0} → Outcome A → ParseFault → Type 0
IsFault read (faults.Syntax at) = read ≡ refused at
IsFault read faults.TooNested = read ≡ nested
IsFault read faults.Memory = ⊤
IsFault read (faults.NotUtf8 at) = ⊥
IsFault read (faults.Wide at) = ⊥
IsFault read (faults.Out at) = ⊥
IsFault read faults.TooLarge = ⊥

-- the answer is this one, or memory was wanting
abbrev pub Answers : Result Term ParseFault → Result Expr ParseFault → Type 0
Answers answer (Ok e) = answer ≡ Ok (term e)
Answers answer (Err fault) = fault ≢ faults.Memory → answer ≡ Err fault
