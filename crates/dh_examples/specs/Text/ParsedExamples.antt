-- Computed answers of the function, and numbers of locations.
use Rattle.std.specs.Prelude.{◌≡◌, ℕ, suc, zero, true, false, List, [], ◌∷◌, Result, Ok, Err, codes, refl}
use Rattle.dh_syntax.specs.declared.expressions.Op.TheVariants as ops
use Rattle.dh_syntax.specs.declared.faults.ParseFault.{ParseFault}
use Rattle.dh_syntax.specs.declared.faults.ParseFault.TheVariants as faults
use Rattle.dh_syntax.specs.declared.operators.BinOp.TheVariants as binary
use Rattle.dh_syntax.specs.declared.tokens.Keyword.TheVariants as keywords
use Rattle.dh_syntax.specs.declared.tokens.Token.{Token}
use Rattle.dh_syntax.specs.declared.tokens.TokenKind.{TokenKind}
use Rattle.dh_syntax.specs.declared.tokens.TokenKind.TheVariants as kinds
use Rattle.dh_examples.specs.Text.GrammarExamples.{tokens_of, node, nat, var}
use Rattle.dh_syntax.specs.Text.Lexing.{LexFault}
use Rattle.dh_syntax.specs.Text.Offsets.{locating, offsets_after}
use Rattle.dh_syntax.specs.Text.Spans.{Spans, no_spans, span, spans, stretching, in_text}
use Rattle.dh_syntax.specs.Expressions.Tree.{Term}
use Rattle.dh_grammar.specs.Machine.{need}
use Rattle.dh_grammar.specs.Parsed.{parsed_tokens, parsed_lex}
use Rattle.dh_grammar.specs.Placing.{Placed, placing}
use Rattle.dh_grammar.specs.Reading.{Outcome, accepted, refused, nested, reading, reading_at}
use Rattle.dh_grammar.specs.Stubs.{stubs}
use Rattle.dh_syntax.specs.declared.tokens.Mark.TheVariants.{ParenClose, BracketOpen, BracketClose}

sum : parsed_lex (tokens_of "1 + x") ≡ Ok (node (ops.Bin binary.Plus) (nat 1 ∷ var "x" ∷ []))
unfolding tokens_of
sum = refl

-- the annotation belongs to `merge`
merge_noted : parsed_lex (tokens_of "merge h u : T") ≡ Ok (node (ops.Merge true) (var "h" ∷ var "u" ∷ var "T" ∷ []))
unfolding tokens_of
merge_noted = refl

merge_in_brackets : parsed_lex (tokens_of "(merge h u) : T") ≡ Ok (node ops.Annot (node (ops.Merge false) (var "h" ∷ var "u" ∷ []) ∷ var "T" ∷ []))
unfolding tokens_of
merge_in_brackets = refl

cannot_stand : parsed_lex (tokens_of "a :: ./b") ≡ Err (faults.Syntax 5)
unfolding tokens_of
cannot_stand = refl

no_token : parsed_lex (tokens_of "a \"b") ≡ Err (faults.Syntax 2)
unfolding tokens_of
no_token = refl

wide : parsed_lex (tokens_of "x@2147483648") ≡ Err (faults.Wide 2)
unfolding tokens_of
wide = refl

-- ---- too deep: `((x y) y) .. y`, which opens one expression only

-- a token of this kind, all at one place
abbrev a_token : TokenKind → Token
a_token k = record { kind = k; from = 3; to = 4; gap = true }

-- so many arguments `y` before these tokens
abbrev arguments : ℕ → List Token → List Token
arguments zero ts = ts
arguments (suc n) ts = a_token (kinds.Name (codes "y")) ∷ arguments n ts

-- 501 arguments nest 501 deep, and a later token that cannot stand comes first
too_deep : parsed_tokens (arguments 502 (a_token kinds.End ∷ [])) ≡ Err faults.TooNested
too_deep = refl

deep_but_wrong : parsed_tokens (arguments 502 (record { kind = kinds.Keyword keywords.Then; from = 9; to = 13; gap = true } ∷ a_token kinds.End ∷ [])) ≡ Err (faults.Syntax 9)
deep_but_wrong = refl

-- 1 for a text that is read, 0 for one that is refused
abbrev is_read : Result Term ParseFault → ℕ
is_read (Ok e) = 1
is_read (Err fault) = 0

just_deep_enough : is_read (parsed_tokens (arguments 501 (a_token kinds.End ∷ []))) ≡ 1
just_deep_enough = refl

-- ---- imports

-- where the imports stand, where a reading was accepted
abbrev places_of : List Token → Outcome (Placed locating) → List ℕ
places_of ts (accepted p) = offsets_after ts p.nodes
places_of ts _ = []

-- where the imports of a text stand, by the reader
abbrev places : Result (List Token) LexFault → List ℕ
places (Err fault) = []
places (Ok ts) = places_of ts (reading_at (placing locating) 0 (need []) ts)

in_record : places (tokens_of "{ b = ./x, a = ./y }") ≡ 18 ∷ 9 ∷ []
unfolding tokens_of
in_record = refl

in_let : places (tokens_of "let x : ./a = ./b in missing ? ./c") ≡ 11 ∷ 17 ∷ 28 ∷ 34 ∷ []
unfolding tokens_of
in_let = refl

in_joined_entries : places (tokens_of "{ a = ./x, b = ./y, a = ./z }") ≡ 9 ∷ 27 ∷ 18 ∷ []
unfolding tokens_of
in_joined_entries = refl

-- ---- nodes

-- where the nodes stand, where a reading was accepted
abbrev nodes_of : List Token → Outcome (Placed stretching) → Spans
nodes_of ts (accepted p) = in_text ts p.nodes
nodes_of ts _ = no_spans

-- where the nodes of a text stand, by the reader
abbrev nodes : Result (List Token) LexFault → Spans
nodes (Err fault) = no_spans
nodes (Ok ts) = nodes_of ts (reading_at (placing stretching) 0 (need []) ts)

brackets_apart : nodes (tokens_of "(a + b) + c") ≡ spans 0 11 (span 1 6 (span 1 2 no_spans (spans 5 6 no_spans)) (spans 10 11 no_spans))
unfolding tokens_of
brackets_apart = refl

merge_is_one : nodes (tokens_of "merge h u : T") ≡ spans 0 13 (span 6 7 no_spans (span 8 9 no_spans (spans 12 13 no_spans)))
unfolding tokens_of
merge_is_one = refl

-- ---- too many open expressions

-- a token of this kind that is empty and at this place
abbrev token_at : ℕ → TokenKind → Token
token_at n k = record { kind = k; from = n; to = n; gap = true }

-- so many open brackets before these tokens
abbrev brackets_before : ℕ → List Token → List Token
brackets_before zero ts = ts
brackets_before (suc n) ts = token_at 7 (kinds.Mark BracketOpen) ∷ brackets_before n ts

-- 500 times `[` and `]`: the last token stands where 500 expressions are open, so the next is the first fault
not_nested : reading stubs (need []) (brackets_before 500 (token_at 8 (kinds.Mark BracketClose) ∷ token_at 9 (kinds.Mark ParenClose) ∷ [])) ≡ refused 9
not_nested = refl

too_nested : reading stubs (need []) (brackets_before 501 []) ≡ nested
too_nested = refl
