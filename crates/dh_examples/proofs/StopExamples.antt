-- Worked examples of tokens that cannot stand, and of too many open expressions.
use Rattle.std.specs.Prelude.{◌+◌, ℕ, zero, suc, true, List, [], ◌∷◌}
use Rattle.dh_syntax.specs.declared.operators.BinOp.TheVariants as binary
use Rattle.dh_syntax.specs.declared.tokens.Mark.TheVariants.{ParenOpen, ParenClose}
use Rattle.dh_syntax.specs.declared.tokens.Mark.TheVariants as marks
use Rattle.dh_syntax.specs.declared.tokens.Token.{Token}
use Rattle.dh_syntax.specs.declared.tokens.TokenKind.{TokenKind}
use Rattle.dh_syntax.specs.declared.tokens.TokenKind.TheVariants as kinds
use Rattle.dh_syntax.specs.Text.Spelling.{StopsAt, StopsNested}
use Rattle.dh_grammar.proofs.Grammar.Outcomes.{answers}

-- a token at this offset
abbrev token : ℕ → TokenKind → Token
token from kind = record { kind = kind; from = from; to = suc from; gap = true }

-- ---- a token that cannot stand where it does, past the first one: `1 + )` and `1 + 2 2`

abbrev unfinished_sum : List Token
unfinished_sum = token 0 (kinds.Natural 1) ∷ token 2 (kinds.Mark (marks.Operator binary.Plus)) ∷ token 4 (kinds.Mark ParenClose) ∷ token 5 kinds.End ∷ []

third_token : StopsAt unfinished_sum 4
third_token = answers unfinished_sum

abbrev two_expressions : List Token
two_expressions =
    token 0 (kinds.Natural 1) ∷ token 2 (kinds.Mark (marks.Operator binary.Plus)) ∷ token 4 (kinds.Natural 2) ∷ token 6 (kinds.Mark ParenClose) ∷ token 7 kinds.End ∷ []

bracket_unopened : StopsAt two_expressions 6
bracket_unopened = answers two_expressions

-- ---- too many open expressions

abbrev marks_before : ℕ → TokenKind → ℕ → List Token → List Token
marks_before zero k at ts = ts
marks_before (suc n) k at ts = token at k ∷ marks_before n k (suc at) ts

-- `1` within so many brackets
abbrev bracketed : ℕ → List Token
bracketed n =
    marks_before n (kinds.Mark ParenOpen) 0 (token n (kinds.Natural 1) ∷ marks_before n (kinds.Mark ParenClose) (suc n) (token (suc n + n) kinds.End ∷ []))

-- 500 brackets round `1`: the 501st token opens one expression too many
too_many_open : StopsNested (bracketed 500)
too_many_open = answers (bracketed 500)

-- the same before a token that cannot stand, which comes later
stops_first : StopsNested (marks_before 500 (kinds.Mark ParenOpen) 0 (token 500 (kinds.Natural 1) ∷ token 501 (kinds.Mark (marks.Operator binary.Plus)) ∷ token 502 kinds.End ∷ []))
stops_first = answers (marks_before 500 (kinds.Mark ParenOpen) 0 (token 500 (kinds.Natural 1) ∷ token 501 (kinds.Mark (marks.Operator binary.Plus)) ∷ token 502 kinds.End ∷ []))

-- 500 brackets and then a token that cannot begin an expression
stops_there : StopsAt (marks_before 500 (kinds.Mark ParenOpen) 0 (token 500 (kinds.Mark ParenClose) ∷ token 501 kinds.End ∷ [])) 500
stops_there = answers (marks_before 500 (kinds.Mark ParenOpen) 0 (token 500 (kinds.Mark ParenClose) ∷ token 501 kinds.End ∷ []))
