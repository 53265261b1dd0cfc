-- Texts, their trees, and where each node stands.
use Rattle.std.specs.Prelude.{◌≡◌, ℕ, Bool, true, false, List, [], ◌∷◌, map, None, Result, Ok, Err, codes, refl}
use Prim.Native.String.{String}
use Rattle.dh_syntax.specs.declared.locations.Loc.TheVariants as locs
use Rattle.dh_syntax.specs.declared.tokens.TokenKind.{TokenKind}
use Rattle.dh_syntax.specs.Text.Derived.{derived}
use Rattle.dh_syntax.specs.Text.Yield.{text_yield}
use Rattle.dh_syntax.specs.declared.operators.BinOp.TheVariants as binary
use Rattle.dh_syntax.specs.declared.locations.Mode.TheVariants as modes
use Rattle.dh_syntax.specs.declared.tokens.Token.{Token}
use Rattle.dh_syntax.specs.Text.Derivation.{Derivation, missing, import, path, lambda, lets, operation, application, brackets, natural, truth, list, record_of, field, updates, one_update, untyped, typed, one_let, more_lets, one_item, one_key, more_keys, alone, given, one_entry, more_entries, merge_as, record_type, one_field, more_fields}
use Rattle.dh_examples.specs.Text.GrammarExamples.{tokens_of, fitted, name, key, v}
use Rattle.dh_syntax.specs.Text.Lexing.{LexFault}
use Rattle.dh_syntax.specs.Text.Spans.{Spans, no_spans, spans, joined, spans_of}

-- where the nodes of a text with this tree stand
abbrev found : Derivation → Result (List Token) LexFault → Spans
found d (Ok tokens) = spans_of tokens d
found d (Err fault) = no_spans

-- the text has the tokens of this tree, whose nodes stand there
abbrev StandsAt : String → Derivation → Spans → Type 0
StandsAt text d s = let seen : Result (List TokenKind × Bool) LexFault × Bool × Spans = (fitted d (tokens_of text), derived d, found d (tokens_of text)) in seen ≡ (Ok (map (λ w. w.kind) (text_yield d), true), true, s)

-- the span of a node without parts from one offset to another
abbrev pub at : ℕ → ℕ → Spans
at n m = spans n m no_spans

infixr 55 ◌&◌
-- one node and then others
abbrev pub ◌&◌ : Spans → Spans → Spans
a & b = joined a b

-- a bracketed expression keeps the stretch between its brackets, and the operator has the brackets in its own
in_brackets :
    StandsAt "(a + b) + c"
    (operation binary.Plus (brackets (operation binary.Plus (v "a") (v "b"))) (v "c"))
    (spans 0 11 (spans 1 6 (at 1 2 & at 5 6) & at 10 11))
unfolding tokens_of
in_brackets = refl

-- a node in brackets begins behind them: the operator `+` at column 14
in_list :
    StandsAt "[ missing ? (1 + True) ]"
    (list false (one_item (operation binary.Fallback (import missing None modes.Code) (brackets (operation binary.Plus (natural 1) (truth true))))) false)
    (spans 0 24 (spans 2 22 (at 2 9 & spans 13 21 (at 13 14 & at 17 21))))
unfolding tokens_of
in_list = refl

-- each of several lets has the stretch from its own `let` to the end of the body
in_lets :
    StandsAt "let a = 1 let b : T = 2 in a"
    (lets (more_lets (one_let (name "a") untyped (natural 1)) (name "b") (typed (v "T")) (natural 2)) (v "a"))
    (spans 0 28 (at 8 9 & spans 10 28 (at 18 19 & at 22 23 & at 27 28)))
unfolding tokens_of
in_lets = refl

-- `x` alone has the label's token; the records of `a.b.c = 1` begin at `b` and `c`
in_entries :
    StandsAt "{ x, a.b.c = 1 }"
    (record_of false (more_entries (one_entry (alone (key "x"))) (given (more_keys (more_keys (one_key (key "a")) (key "b")) (key "c")) (natural 1))) false)
    (spans 0 16 (spans 7 14 (spans 9 14 (at 13 14)) & at 2 3))
unfolding tokens_of
in_entries = refl

-- a node `∧` has the stretch from the first token of the first entry to the last token of the last
in_joined :
    StandsAt "{ a = p, b, a = q }"
    (record_of false (more_entries (more_entries (one_entry (given (one_key (key "a")) (v "p"))) (alone (key "b"))) (given (one_key (key "a")) (v "q"))) false)
    (spans 0 19 (spans 2 17 (at 6 7 & at 16 17) & at 9 10))
unfolding tokens_of
in_joined = refl

in_update :
    StandsAt "r with a.b = s.c"
    (updates (one_update (v "r") (more_keys (one_key (key "a")) (key "b")) (field (v "s") (key "c"))))
    (spans 0 16 (at 0 1 & spans 13 16 (at 13 14)))
unfolding tokens_of
in_update = refl

in_lambda :
    StandsAt "\\(x : A) -> f x"
    (lambda (name "x") (v "A") (application (v "f") (v "x")))
    (spans 0 15 (at 6 7 & spans 12 15 (at 12 13 & at 14 15)))
unfolding tokens_of
in_lambda = refl

-- the same brackets twice, and a node round them
twice_in_brackets :
    StandsAt "f ((x))"
    (application (v "f") (brackets (brackets (v "x"))))
    (spans 0 7 (at 0 1 & at 4 5))
unfolding tokens_of
twice_in_brackets = refl

-- the end of the body of a `let` is that of its brackets, and a line feed is a byte
let_over_lines :
    StandsAt "let a = ./n\nin  a && True"
    (lets (one_let (name "a") untyped (import (path (locs.Here (codes "n" ∷ []))) None modes.Code)) (operation binary.And (v "a") (truth true)))
    (spans 0 25 (at 8 11 & spans 16 25 (at 16 17 & at 21 25)))
unfolding tokens_of
let_over_lines = refl

let_in_brackets :
    StandsAt "let a = 1 in (a)"
    (lets (one_let (name "a") untyped (natural 1)) (brackets (v "a")))
    (spans 0 16 (at 8 9 & at 14 15))
unfolding tokens_of
let_in_brackets = refl

-- three entries of one label: the outer node `∧` ends with the last of them
joined_thrice :
    StandsAt "{ a = p, a.b = q, a }"
    (record_of false (more_entries (more_entries (one_entry (given (one_key (key "a")) (v "p"))) (given (more_keys (one_key (key "a")) (key "b")) (v "q"))) (alone (key "a"))) false)
    (spans 0 21 (spans 2 19 (spans 2 16 (at 6 7 & spans 11 16 (at 15 16)) & at 18 19)))
unfolding tokens_of
joined_thrice = refl

-- the value of a dotted entry ends with its brackets
dotted_brackets :
    StandsAt "{ a.b = (p) }"
    (record_of false (one_entry (given (more_keys (one_key (key "a")) (key "b")) (brackets (v "p")))) false)
    (spans 0 13 (spans 4 11 (at 9 10)))
unfolding tokens_of
dotted_brackets = refl

-- parts of a record type in the order of their labels
in_record_type :
    StandsAt "{ b : T, a : U }"
    (record_type false (more_fields (one_field (key "b") (v "T")) (key "a") (v "U")) false)
    (spans 0 16 (at 13 14 & at 6 7))
unfolding tokens_of
in_record_type = refl

-- `merge` with an annotation is one node
in_merge :
    StandsAt "merge h u : T"
    (merge_as (v "h") (v "u") (v "T"))
    (spans 0 13 (at 6 7 & at 8 9 & at 12 13))
unfolding tokens_of
in_merge = refl
