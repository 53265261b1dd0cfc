-- What the reader of tokens answers.
use Rattle.std.specs.Prelude.{◌≡◌, List, [], ◌∷◌, ◌++◌, Result, Ok, Err}
use Rattle.dh_syntax.specs.declared.tokens.Token.{Token}
use Rattle.dh_syntax.specs.Text.Lexing as lexing
use Rattle.dh_tokens.specs.declared.faults.LexFault.{LexFault}
use Rattle.dh_tokens.specs.declared.faults.LexFault.TheVariants as faults

-- what a fault says of the tokens of a text; want of memory says nothing
abbrev pub IsFault : Result (List Token) lexing.LexFault → LexFault → Type 0
IsFault read (faults.Bad at) = read ≡ Err (lexing.Bad at)
IsFault read (faults.Wide at) = read ≡ Err (lexing.Wide at)
IsFault read (faults.Out at) = read ≡ Err (lexing.Out at)
IsFault read faults.Memory = Unit {0}

-- the end of a text, where it was read with this answer
abbrev pub EndIs : Result Token LexFault → Result (List Token) lexing.LexFault → Type 0
EndIs (Ok token) read = read ≡ Ok (token ∷ [])
EndIs (Err fault) read = IsFault read fault

-- these tokens before what was read behind them
abbrev pub onto : List Token → Result (List Token) lexing.LexFault → Result (List Token) lexing.LexFault
onto ts (Ok us) = Ok (ts ++ us)
onto ts (Err fault) = Err fault
