-- How many expressions stand open while no token has opened too many: a reader has to count only where an operand begins.
use Rattle.std.specs.Prelude.{suc, ◌≤◌, Bool, false, nat_lt, ⊤}
use Rattle.dh_syntax.specs.declared.tokens.Mark.TheVariants.{BracketClose, Comma}
use Rattle.dh_syntax.specs.declared.tokens.TokenKind.{TokenKind}
use Rattle.dh_syntax.specs.declared.tokens.TokenKind.TheVariants as kinds
use Rattle.dh_syntax.specs.Limits.{most_open}
use Rattle.dh_grammar.specs.Machine.{Sorts, State, need, have, wait, done, stopped, depth_on}

-- at most 500 expressions stand open, and one more where its first token is awaited
abbrev pub Within : {K : Sorts} → State K → Type 0
Within (need st) = depth_on st ≤ suc most_open
Within (have st h) = depth_on st ≤ most_open
Within (wait w st) = depth_on st ≤ most_open
Within (done x) = ⊤
Within stopped = ⊤

-- whether too many stand open at a token of this kind, which begins an operand; `]` and `,` begin none
abbrev pub opens_many : {K : Sorts} → State K → TokenKind → Bool
opens_many (need st) (kinds.Mark BracketClose) = false
opens_many (need st) (kinds.Mark Comma) = false
opens_many (need st) k = nat_lt most_open (depth_on st)
opens_many _ k = false
