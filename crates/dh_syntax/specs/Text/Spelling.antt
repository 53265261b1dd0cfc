-- Which bytes spell which expression, and what the reading of any bytes answers.
use Rattle.std.specs.Prelude.{◌≡◌, ℕ, ◌≤◌, ◌<◌, Bool, not, ◌||◌, ◌⊎◌, List, [], ◌∷◌, ◌++◌, length, take, Result, Ok, Err, IsTrue, IsFalse, ⊤, nat_lt, IsUtf8}
use Rattle.std.specs.List.{list_any}
use Rattle.std.specs.Str.Lossy.{utf8_valid_len}
use Rattle.dh_syntax.specs.declared.faults.ParseFault.{ParseFault}
use Rattle.dh_syntax.specs.declared.faults.ParseFault.TheVariants as faults
use Rattle.dh_syntax.specs.declared.tokens.Token.{Token}
use Rattle.dh_syntax.specs.Text.Derivation.{Derivation}
use Rattle.dh_syntax.specs.Text.Derived.{IsDerived}
use Rattle.dh_syntax.specs.Text.Lexing.{Bad, Wide, Out, lex}
use Rattle.dh_syntax.specs.Text.Meaning.{meaning}
use Rattle.dh_syntax.specs.Expressions.Nesting.{nesting}
use Rattle.dh_syntax.specs.Expressions.Spellable.{IsSpellable}
use Rattle.dh_syntax.specs.Expressions.Tree.{Term}
use Rattle.dh_syntax.specs.Limits.{most_bytes, most_open, most_nesting}
use Rattle.dh_syntax.specs.Text.Yield.{Written, text_yield}

-- the bytes are UTF-8 and no more than a text may have
abbrev pub IsText : List ℕ → Type 0
IsText bytes = (length bytes ≤ most_bytes) × IsUtf8 bytes

-- the token is of that kind, and has a gap where one is needed; its places do not matter
abbrev pub IsToken : Written → Token → Type 0
IsToken w t = (t.kind ≡ w.kind) × IsTrue (not w.gap || t.gap)

-- the tokens are of those kinds in order, as many, with gaps where they are needed
abbrev pub AreTokens : List Written → List Token → Type 0
AreTokens [] [] = ⊤
AreTokens (w ∷ ws) (t ∷ ts) = IsToken w t × AreTokens ws ts
AreTokens _ _ = ⊥

-- the productions derive these tokens by this tree
pub record Derives (tokens : List Token) (d : Derivation) : Type 0 where
  pub derived : IsDerived d
  pub written : AreTokens (text_yield d) tokens

-- whether more than 500 productions `expr` stand open at one of these tokens
abbrev pub opens_too_many : List Written → Bool
opens_too_many ws = list_any (λ w. nat_lt most_open w.depth) ws

-- the text spells this expression
pub record Spells (bytes : List ℕ) (e : Term) : Type 0 where
  pub is_text : IsText bytes
  pub tokens : List Token
  pub lexed : lex bytes ≡ Ok tokens
  pub tree : Derivation
  pub derives : Derives tokens tree
  pub few_open : IsFalse (opens_too_many (text_yield tree))
  pub means : meaning tree ≡ e
  pub spellable : IsSpellable e

-- some derived list of tokens begins with these
pub record IsPrefixOfDerived (tokens : List Token) : Type 0 where
  pub more : List Token
  pub tree : Derivation
  pub derives : Derives (tokens ++ more) tree

-- the same, and at one of these tokens more than 500 productions `expr` stand open
pub record OpensTooMany (tokens : List Token) : Type 0 where
  pub more : List Token
  pub tree : Derivation
  pub derives : Derives (tokens ++ more) tree
  pub many_open : IsTrue (opens_too_many (take (length tokens) (text_yield tree)))

-- the token at this offset is the first that cannot stand where it does, and before it not too many stand open
pub record StopsAt (tokens : List Token) (offset : ℕ) : Type 0 where
  pub before : List Token
  pub token : Token
  pub after : List Token
  pub split : tokens ≡ before ++ token ∷ after
  pub at : token.from ≡ offset
  pub goes_on : IsPrefixOfDerived before
  pub stops : ¬ IsPrefixOfDerived (before ++ token ∷ [])
  pub few_open : ¬ OpensTooMany before

-- too many stand open at a token that can stand where it does, as can each before it
pub record StopsNested (tokens : List Token) : Type 0 where
  pub before : List Token
  pub after : List Token
  pub split : tokens ≡ before ++ after
  pub many_open : OpensTooMany before

-- the tokens derive an expression that nests too deep
pub record NestsTooDeep (tokens : List Token) : Type 0 where
  pub tree : Derivation
  pub derives : Derives tokens tree
  pub few_open : IsFalse (opens_too_many (text_yield tree))
  pub deep : most_nesting < nesting (meaning tree)

-- What reading these bytes answers. The refusals come in this order: too large, no UTF-8, a fault of a token; then, at
-- the first token that has one, a token that cannot stand there or too many open expressions; then too deep an
-- expression.
abbrev pub ParsesTo : List ℕ → Result Term ParseFault → Type 0
ParsesTo bytes (Ok e) = Spells bytes e
ParsesTo bytes (Err faults.TooLarge) = most_bytes < length bytes
ParsesTo bytes (Err (faults.NotUtf8 offset)) = (length bytes ≤ most_bytes) × (¬ IsUtf8 bytes) × (offset ≡ utf8_valid_len bytes)
ParsesTo bytes (Err (faults.Syntax offset)) =
    IsText bytes × ((lex bytes ≡ Err (Bad offset)) ⊎ ((tokens : List Token) × (lex bytes ≡ Ok tokens) × StopsAt tokens offset))
ParsesTo bytes (Err (faults.Wide offset)) = IsText bytes × (lex bytes ≡ Err (Wide offset))
ParsesTo bytes (Err (faults.Out offset)) = IsText bytes × (lex bytes ≡ Err (Out offset))
ParsesTo bytes (Err faults.TooNested) =
    IsText bytes × (tokens : List Token) × (lex bytes ≡ Ok tokens) × (StopsNested tokens ⊎ NestsTooDeep tokens)
ParsesTo bytes (Err faults.Memory) = ⊥
