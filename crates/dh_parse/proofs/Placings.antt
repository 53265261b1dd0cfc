-- What is noted of the nodes of a text that has been parsed stands in the text so.
use Rattle.std.proofs.Common.{◌≡◌, ℕ, ◌≤◌, Bool, true, false, List, [], refl, ap, sym, ◌∙◌, subst, leb-true, arith}
use Rattle.std.specs.Prelude.{if◌then◌else◌, nat_le, Result, Ok, Err}
use Rattle.dh_syntax.specs.declared.faults.ParseFault.{ParseFault}
use Rattle.dh_syntax.specs.declared.faults.ParseFault.TheVariants as faults
use Rattle.dh_syntax.specs.declared.tokens.Token.{Token}
use Rattle.dh_syntax.specs.Expressions.Tree.{Term}
use Rattle.dh_syntax.specs.Limits.{most_nesting}
use Rattle.dh_syntax.specs.Text.Noting.{Noting}
use Rattle.dh_syntax.specs.Text.Lexing.{lex}
use Rattle.dh_syntax.specs.Text.Offsets.{SpellsWith, locating, offsets_after}
use Rattle.dh_syntax.specs.Text.Spans.{Spans, SpellsAt, stretching, in_text}
use Rattle.dh_syntax.specs.Text.Spelling.{Spells}
use Rattle.dh_grammar.specs.Machine.{need}
use Rattle.dh_grammar.specs.Parsed.{parsed, parsed_lex, answered}
use Rattle.dh_grammar.specs.Reading.{Outcome, accepted, unfinished, refused, nested, reading}
use Rattle.dh_grammar.specs.Stubs.{Kept, stubs}
use Rattle.dh_grammar.proofs.Results.Answering.{parses, parses_once}
use Rattle.dh_grammar.proofs.Lexed.EndsLast.{ends_last}
use Rattle.dh_grammar.proofs.Lexed.TokenCounts.{few_tokens}
use Rattle.dh_grammar.proofs.Results.Places.{reads_offsets, reads_stretches, places_offsets, places_stretches}
use Rattle.dh_grammar.specs.Laws.Places.{PlacesStubs}
use Rattle.dh_parse.specs.Inside.Places.{AreRead, HasOffsets, HasStretches, IsSpelling}
use Rattle.dh_parse.proofs.Parsings.{text}

-- what was read, where the answer is an expression
record Read (outcome : Outcome Kept) (e : Term) : Type 0 where
  kept : Kept
  accepts : outcome ≡ accepted kept
  shallow : kept.part.nests ≤ most_nesting
  is : kept.part.expression ≡ e

same_answer : (a b : Term) → ◌≡◌ {A = Result Term ParseFault} (Ok a) (Ok b) → a ≡ b
same_answer a b h = cc

by_nesting : (x : Kept) (e : Term) (b : Bool) → nat_le x.part.nests most_nesting ≡ b → ◌≡◌ {A = Result Term ParseFault} (if b then Ok x.part.expression else Err faults.TooNested) (Ok e) → Read (accepted x) e
by_nesting x e true l h = record { kept = x; accepts = refl; shallow = leb-true x.part.nests most_nesting l; is = same_answer x.part.expression e h }
by_nesting x e false l h = absurd cc

was_read : (outcome : Outcome Kept) (e : Term) → answered outcome ≡ Ok e → Read outcome e
was_read (accepted x) e h = by_nesting x e (nat_le x.part.nests most_nesting) refl h
was_read unfinished e h = absurd cc
was_read (refused at) e h = absurd cc
was_read nested e h = absurd cc

-- the tokens of a text that spells an expression
read_of : (bytes : List ℕ) (e : Term) (ts : List Token) → Spells bytes e → lex bytes ≡ Ok ts → Read (reading stubs (need []) ts) e
read_of bytes e ts s l =
    was_read (reading stubs (need []) ts) e (sym (text bytes s.is_text.0 s.is_text.1 ∙ ap parsed_lex l) ∙ parses_once bytes (parsed bytes) (Ok e) (parses bytes) s)

-- they are read again by a machine that notes places
read_again : (notes : Noting) → PlacesStubs notes → (bytes : List ℕ) (ts : List Token) → IsSpelling bytes → lex bytes ≡ Ok ts → AreRead notes ts
read_again notes places bytes ts (e, s) l =
    let r = read_of bytes e ts s l in
    let p = places ts r.kept r.accepts in
    let few = few_tokens bytes ts l in
    let small = s.is_text.0 in
    record { ends = ends_last bytes ts l; few = omega arith; placed = p.0; read = p.1 }

pub imports_again : (bytes : List ℕ) (ts : List Token) → IsSpelling bytes → lex bytes ≡ Ok ts → AreRead locating ts
imports_again = read_again locating places_offsets

pub nodes_again : (bytes : List ℕ) (ts : List Token) → IsSpelling bytes → lex bytes ≡ Ok ts → AreRead stretching ts
nodes_again = read_again stretching places_stretches

pub offsets : (bytes : List ℕ) (e : Term) (places : List ℕ) → Spells bytes e → HasOffsets bytes places → SpellsWith bytes e places
offsets bytes e places s h =
    let r = read_of bytes e h.tokens s h.lexed in
    let n = h.has_notes in
    let found = reads_offsets bytes h.tokens r.kept n.placed s.is_text h.lexed r.shallow r.accepts n.read in
    subst (λ e. SpellsWith bytes e places) r.is (subst (SpellsWith bytes r.kept.part.expression) (sym (h.offset ∙ ap (offsets_after h.tokens) n.noted)) found)

pub stretches : (bytes : List ℕ) (e : Term) (places : Spans) → Spells bytes e → HasStretches bytes places → SpellsAt bytes e places
stretches bytes e places s h =
    let r = read_of bytes e h.tokens s h.lexed in
    let n = h.has_notes in
    let found = reads_stretches bytes h.tokens r.kept n.placed s.is_text h.lexed r.shallow r.accepts n.read in
    subst (λ e. SpellsAt bytes e places) r.is (subst (SpellsAt bytes r.kept.part.expression) (sym (h.stretched ∙ ap (in_text h.tokens) n.noted)) found)
