-- What the reading of bytes answers, as a function.
use Rattle.std.specs.Prelude.{ℕ, nat_le, if◌then◌else◌, List, [], length, Result, Ok, Err}
use Rattle.std.specs.Str.{is_utf8}
use Rattle.std.specs.Str.Lossy.{utf8_valid_len}
use Rattle.dh_syntax.specs.declared.faults.ParseFault.{ParseFault}
use Rattle.dh_syntax.specs.declared.faults.ParseFault.TheVariants as faults
use Rattle.dh_syntax.specs.declared.tokens.Token.{Token}
use Rattle.dh_syntax.specs.Text.Lexing.{LexFault, Bad, Wide, Out, lex}
use Rattle.dh_syntax.specs.Limits.{most_nesting, most_bytes}
use Rattle.dh_syntax.specs.Expressions.Tree.{Term}
use Rattle.dh_grammar.specs.Machine.{need}
use Rattle.dh_grammar.specs.Reading.{Outcome, accepted, unfinished, refused, nested, reading}
use Rattle.dh_grammar.specs.Stubs.{Kept, stubs}

-- Tokens of `lex` end in one that ends the reading, so they are never unfinished.
abbrev pub answered : Outcome Kept → Result Term ParseFault
answered (accepted x) = if nat_le x.part.nests most_nesting then Ok x.part.expression else Err faults.TooNested
answered (refused n) = Err (faults.Syntax n)
answered nested = Err faults.TooNested
answered unfinished = Err faults.Memory

-- the expression that tokens spell, or why there is none
abbrev pub parsed_tokens : List Token → Result Term ParseFault
parsed_tokens ts = answered (reading stubs (need []) ts)

-- the answer to the tokens of a text, or to the fault that was met on the way to them
abbrev pub parsed_lex : Result (List Token) LexFault → Result Term ParseFault
parsed_lex (Err (Bad n)) = Err (faults.Syntax n)
parsed_lex (Err (Wide n)) = Err (faults.Wide n)
parsed_lex (Err (Out n)) = Err (faults.Out n)
parsed_lex (Ok ts) = parsed_tokens ts

-- the expression that bytes spell, or why there is none
abbrev pub parsed : List ℕ → Result Term ParseFault
parsed bytes =
    if nat_le (length bytes) most_bytes then (if is_utf8 bytes then parsed_lex (lex bytes) else Err (faults.NotUtf8 (utf8_valid_len bytes)))
    else Err faults.TooLarge
