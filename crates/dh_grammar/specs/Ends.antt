-- The end of a text, as its tokens have it and as a machine comes to it.
use Rattle.std.specs.Prelude.{◌≡◌, List, [], ◌∷◌, ⊤}
use Rattle.dh_syntax.specs.declared.tokens.Token.{Token}
use Rattle.dh_syntax.specs.declared.tokens.TokenKind.TheVariants as kinds
use Rattle.dh_grammar.specs.Machine.{State, done, stopped}
use Rattle.dh_grammar.specs.Making.{Sorts}

-- the last of the tokens is `End`, as it is of the tokens of a text
abbrev pub EndsLast : List Token → Type 0
EndsLast [] = ⊥
EndsLast (t ∷ []) = t.kind ≡ kinds.End
EndsLast (t ∷ u ∷ ts) = EndsLast (u ∷ ts)

-- the machine awaits no token
abbrev pub IsEnded : {K : Sorts} → State K → Type 0
IsEnded (done x) = ⊤
IsEnded stopped = ⊤
IsEnded _ = ⊥
