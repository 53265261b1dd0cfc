-- Runs of the machine.
use Rattle.std.specs.Prelude.{not, ◌||◌, if◌then◌else◌, List, [], ◌∷◌, ⊤}
use Rattle.dh_syntax.specs.declared.tokens.Token.{Token}
use Rattle.dh_syntax.specs.declared.tokens.TokenKind.{TokenKind}
use Rattle.dh_syntax.specs.Text.Yield.{Written}
use Rattle.dh_grammar.specs.Machine.{stopped}
use Rattle.dh_grammar.specs.Trees.{State, after, gap_at, written}

-- a state that is not stopped
abbrev pub IsRunning : State → Type 0
IsRunning stopped = ⊥
IsRunning s = ⊤

-- the tokens of a tree read by their kinds alone
abbrev pub run : State → List Written → State
run s [] = s
run s (w ∷ ws) = run (after w.kind s) ws

-- kinds of tokens read one after another
abbrev pub runs : State → List TokenKind → State
runs s [] = s
runs s (k ∷ ks) = runs (after k s) ks

-- a token read, if the white space that it needs is there
abbrev pub step : State → Token → State
step s t = if not (gap_at s t.kind) || t.gap then after t.kind s else stopped

-- tokens read one after another, each with the white space that it needs
abbrev pub steps : State → List Token → State
steps s [] = s
steps s (t ∷ ts) = steps (step s t) ts

-- the tokens as the machine writes them: with the gap that each needs, and how many expressions stand open at it
abbrev pub spelled : State → List Token → List Written
spelled s [] = []
spelled s (t ∷ ts) = written s t.kind ∷ spelled (after t.kind s) ts

-- the same tokens by their kinds alone, as if each gap were there
abbrev pub runs_on : State → List Token → State
runs_on s [] = s
runs_on s (t ∷ ts) = runs_on (after t.kind s) ts
