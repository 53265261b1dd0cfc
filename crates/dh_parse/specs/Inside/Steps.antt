-- One token of several.
use Rattle.std.specs.Prelude.{◌≡◌, ℕ, suc, List, [], ◌∷◌}
use Rattle.dh_syntax.specs.declared.faults.ParseFault.{ParseFault}
use Rattle.dh_syntax.specs.declared.tokens.Token.{Token}
use Rattle.dh_syntax.specs.declared.tokens.TokenKind.TheVariants as kinds
use Rattle.dh_grammar.specs.Depths.{Within}
use Rattle.dh_grammar.specs.Ends.{EndsLast, IsEnded}
use Rattle.dh_grammar.specs.Machine.{Sorts, Making, State}
use Rattle.dh_grammar.specs.Reading.{reading_at}
use Rattle.dh_parse.specs.Answers.{IsFault}

-- the token of this number is read, and the rest goes on from there, within the limit of open expressions; behind `End` no
-- token is awaited
pub record Reads {K : Sorts} (m : ℕ → Making K) (n : ℕ) (s : State K) (token : Token) (on : State K) : Type 0 where
  pub goes_on : (rest : List Token) → reading_at m n s (token ∷ rest) ≡ reading_at m (suc n) on rest
  pub within : Within on
  pub ended : token.kind ≡ kinds.End → IsEnded on

-- reading ends at the token with this fault
abbrev pub Refuses : {K : Sorts} → (ℕ → Making K) → ℕ → State K → Token → ParseFault → Type 0
Refuses m n s token fault = (rest : List Token) → IsFault (reading_at m n s (token ∷ rest)) fault

-- the tokens that are left end in `End`, or none are left and none is awaited
abbrev pub EndsOn : {K : Sorts} → State K → List Token → Type 0
EndsOn s [] = IsEnded s
EndsOn s (t ∷ ts) = EndsLast (t ∷ ts)
