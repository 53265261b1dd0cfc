-- Every text has one answer.
use Rattle.std.proofs.Common.{◌≡◌, ℕ, ◌≤◌, ◌<◌, Bool, true, false, List, [], refl, sym, ◌∙◌, ap, subst, inl, inr, arith, le-leb, leb-true, leb-false}
use Rattle.std.specs.Prelude.{IsFalse, nat_le, if◌then◌else◌, length, Result, Ok, Err}
use Rattle.std.specs.Str.{is_utf8}
use Rattle.std.specs.Str.Lossy.{utf8_valid_len}
use Rattle.std.proofs.lemmas.Str.{IsUtf8-from_is_utf8, is_utf8-from_IsUtf8}
use Rattle.dh_syntax.specs.declared.faults.ParseFault.{ParseFault}
use Rattle.dh_syntax.specs.declared.faults.ParseFault.TheVariants as faults
use Rattle.dh_syntax.specs.declared.tokens.Token.{Token}
use Rattle.dh_syntax.specs.Text.Derivation.{Derivation}
use Rattle.dh_syntax.specs.Text.Lexing.{LexFault, Bad, Wide, Out, lex}
use Rattle.dh_syntax.specs.Text.Meaning.{meaning}
use Rattle.dh_syntax.specs.Expressions.Nesting.{nesting}
use Rattle.dh_syntax.specs.Expressions.Spellable.{IsSpellable}
use Rattle.dh_syntax.specs.Limits.{most_nesting}
use Rattle.dh_syntax.specs.Text.Spelling.{IsText, Derives, ParsesTo, opens_too_many}
use Rattle.dh_syntax.specs.Limits.{most_bytes}
use Rattle.dh_syntax.specs.Expressions.Tree.{Term}
use Rattle.dh_syntax.specs.Text.Yield.{text_yield}
use Rattle.dh_grammar.specs.Inside.Forget.{ftree}
use Rattle.dh_grammar.specs.Reading.{Outcome, reading, accepted, unfinished, refused, nested, outcome_map}
use Rattle.dh_grammar.specs.Laws.Derivations.{OutcomeIsRight}
use Rattle.dh_grammar.specs.Machine.{need}
use Rattle.dh_grammar.specs.Parsed.{answered, parsed_tokens, parsed_lex, parsed}
use Rattle.dh_grammar.specs.Stubs.{Part}
use Rattle.dh_grammar.specs.Inside.Cut.{cut, cut_tree}
use Rattle.dh_grammar.specs.Trees.{trees}
use Rattle.dh_grammar.proofs.Maps.Cutting.{Cut, few, many, is_cut, cuts}
use Rattle.dh_grammar.proofs.Lexed.EndsLast.{IsReached, reached, ends_last}
use Rattle.dh_grammar.proofs.Maps.Forgetting.{forgets}
use Rattle.dh_grammar.proofs.Results.OneOutcome.{one_outcome}
use Rattle.dh_grammar.proofs.Maps.Readings.{carry_reading}
use Rattle.dh_grammar.proofs.TruthValues.{by_test}
use Rattle.dh_grammar.proofs.Grammar.Outcomes.{answers}

-- ---- the machine with stubs, and the one over trees

-- the answer by an outcome
abbrev answered_part : Part → Result Term ParseFault
answered_part p = if nat_le p.nests most_nesting then Ok p.expression else Err faults.TooNested

abbrev said : Outcome Derivation → Result Term ParseFault
said (accepted d) = answered_part (cut (meaning d))
said unfinished = Err faults.Memory
said (refused n) = Err (faults.Syntax n)
said nested = Err faults.TooNested

said_is : (v : Outcome Derivation) → answered (outcome_map cut_tree (outcome_map ftree v)) ≡ said v
said_is (accepted d) = refl
said_is unfinished = refl
said_is (refused n) = refl
said_is nested = refl

-- what the machine with stubs says of tokens is what the one over trees says, with a leaf where an operand nests too deep
pub tokens_said : (ts : List Token) → parsed_tokens ts ≡ said (reading trees (need []) ts)
tokens_said ts =
    ap answered (carry_reading cuts ts (need []) ∙ ap (outcome_map cut_tree) (carry_reading forgets ts (need [])))
    ∙ said_is (reading trees (need []) ts)

-- ---- some answer

-- what these tokens mean can be spelled, nesting apart
abbrev pub MeansSpellable : List Token → Type 0
MeansSpellable ts = (d : Derivation) → Derives ts d → nesting (meaning d) ≤ most_nesting → IsSpellable (meaning d)

part_parses : (bytes : List ℕ) (ts : List Token) (d : Derivation) → IsText bytes → lex bytes ≡ Ok ts → MeansSpellable ts → Derives ts d → IsFalse (opens_too_many (text_yield d)) → Cut (meaning d) → ParsesTo bytes (answered_part (cut (meaning d)))
part_parses bytes ts d i e m h o (few k c) =
    subst (λ p. ParsesTo bytes (answered_part p)) (sym c)
    (by_test (ParsesTo bytes) (nat_le (nesting (meaning d)) most_nesting) (Ok (meaning d)) (Err faults.TooNested)
    (λ b. record { is_text = i; tokens = ts; lexed = e; tree = d; derives = h; few_open = o; means = refl; spellable = m d h k })
    (λ b. absurd (let g = leb-false (nesting (meaning d)) most_nesting b in omega arith)))
part_parses bytes ts d i e m h o (many k c) =
    subst (λ p. ParsesTo bytes (answered_part p)) (sym c) (i, ts, e, inr (record { tree = d; derives = h; few_open = o; deep = k }))

said_parses : (bytes : List ℕ) (ts : List Token) (v : Outcome Derivation) → IsText bytes → lex bytes ≡ Ok ts → MeansSpellable ts → OutcomeIsRight ts v → IsReached v → ParsesTo bytes (said v)
said_parses bytes ts (accepted d) i e m h r = part_parses bytes ts d i e m h.0 h.1 (is_cut (meaning d))
said_parses bytes ts (refused n) i e m h r = (i, inr (ts, e, h))
said_parses bytes ts nested i e m h r = (i, ts, e, inl h)
said_parses bytes ts unfinished i e m h r = absurd r

lex_parses : (bytes : List ℕ) (l : Result (List Token) LexFault) → IsText bytes → lex bytes ≡ l → ((ts : List Token) → l ≡ Ok ts → MeansSpellable ts) → ParsesTo bytes (parsed_lex l)
lex_parses bytes (Err (Bad n)) i e m = (i, inl e)
lex_parses bytes (Err (Wide n)) i e m = (i, e)
lex_parses bytes (Err (Out n)) i e m = (i, e)
lex_parses bytes (Ok ts) i e m =
    subst (ParsesTo bytes) (sym (tokens_said ts)) (said_parses bytes ts (reading trees (need []) ts) i e (m ts refl) (answers ts) (reached ts (need []) (ends_last bytes ts e)))

not_both : (b : Bool) → b ≡ true → b ≡ false → ⊥
not_both b p q = let e = sym p ∙ q in cc

pub parses_where : (bytes : List ℕ) → ((ts : List Token) → IsText bytes → lex bytes ≡ Ok ts → MeansSpellable ts) → ParsesTo bytes (parsed bytes)
parses_where bytes m =
    by_test (ParsesTo bytes) (nat_le (length bytes) most_bytes) (if is_utf8 bytes then parsed_lex (lex bytes) else Err (faults.NotUtf8 (utf8_valid_len bytes))) (Err faults.TooLarge)
    (λ b. let few = leb-true (length bytes) most_bytes b in
    by_test (ParsesTo bytes) (is_utf8 bytes) (parsed_lex (lex bytes)) (Err (faults.NotUtf8 (utf8_valid_len bytes)))
    (λ u. let i : IsText bytes = (few, IsUtf8-from_is_utf8 bytes u) in lex_parses bytes (lex bytes) i refl (λ ts e. m ts i e))
    (λ u. (few, λ v. not_both (is_utf8 bytes) (is_utf8-from_IsUtf8 bytes v) u, refl)))
    (λ b. let g = leb-false (length bytes) most_bytes b in omega arith)

-- ---- at most one

text_is : (bytes : List ℕ) → IsText bytes → parsed bytes ≡ parsed_lex (lex bytes)
text_is bytes i =
    ap (λ b. if b then (if is_utf8 bytes then parsed_lex (lex bytes) else Err (faults.NotUtf8 (utf8_valid_len bytes))) else Err faults.TooLarge) (le-leb (length bytes) most_bytes i.0)
    ∙ ap (λ b. if b then parsed_lex (lex bytes) else Err (faults.NotUtf8 (utf8_valid_len bytes))) (is_utf8-from_IsUtf8 bytes i.1)

outcome_is : (bytes : List ℕ) (ts : List Token) (v : Outcome Derivation) → IsText bytes → lex bytes ≡ Ok ts → IsReached v → OutcomeIsRight ts v → parsed bytes ≡ said v
outcome_is bytes ts v i e r h = text_is bytes i ∙ ap parsed_lex e ∙ tokens_said ts ∙ ap said (one_outcome ts v r h)

kept_is : (e : Term) → nesting e ≤ most_nesting → Cut e → answered_part (cut e) ≡ Ok e
kept_is e h (few k c) = ap answered_part c ∙ by_test (λ r. r ≡ Ok e) (nat_le (nesting e) most_nesting) (Ok e) (Err faults.TooNested) (λ b. refl) (λ b. absurd (let g = leb-false (nesting e) most_nesting b in omega arith))
kept_is e h (many k c) = absurd (omega arith)

cut_is : (e : Term) → most_nesting < nesting e → Cut e → answered_part (cut e) ≡ Err faults.TooNested
cut_is e h (few k c) = absurd (omega arith)
cut_is e h (many k c) = ap answered_part c

-- a text is answered in no other way
pub parses_only : (bytes : List ℕ) (r : Result Term ParseFault) → ParsesTo bytes r → parsed bytes ≡ r
parses_only bytes (Ok e) h =
    let deep : nesting e ≤ most_nesting = h.spellable.1 in
    outcome_is bytes h.tokens (accepted h.tree) h.is_text h.lexed tt (h.derives, h.few_open)
    ∙ kept_is (meaning h.tree) (subst (λ x. nesting x ≤ most_nesting) (sym h.means) deep) (is_cut (meaning h.tree))
    ∙ ap (λ x. Ok x) h.means
parses_only bytes (Err faults.TooLarge) h =
    by_test (λ r. r ≡ Err faults.TooLarge) (nat_le (length bytes) most_bytes) (if is_utf8 bytes then parsed_lex (lex bytes) else Err (faults.NotUtf8 (utf8_valid_len bytes))) (Err faults.TooLarge)
    (λ b. absurd (let g = leb-true (length bytes) most_bytes b in omega arith)) (λ b. refl)
parses_only bytes (Err (faults.NotUtf8 n)) h =
    ap (λ b. if b then (if is_utf8 bytes then parsed_lex (lex bytes) else Err (faults.NotUtf8 (utf8_valid_len bytes))) else Err faults.TooLarge) (le-leb (length bytes) most_bytes h.0)
    ∙ by_test (λ r. r ≡ Err (faults.NotUtf8 (utf8_valid_len bytes))) (is_utf8 bytes) (parsed_lex (lex bytes)) (Err (faults.NotUtf8 (utf8_valid_len bytes)))
    (λ u. absurd (h.1 (IsUtf8-from_is_utf8 bytes u))) (λ u. refl)
    ∙ ap (λ k. Err (faults.NotUtf8 k)) (sym h.2)
parses_only bytes (Err (faults.Syntax n)) (i, inl e) = text_is bytes i ∙ ap parsed_lex e
parses_only bytes (Err (faults.Syntax n)) (i, inr h) = outcome_is bytes h.0 (refused n) i h.1 tt h.2
parses_only bytes (Err (faults.Wide n)) h = text_is bytes h.0 ∙ ap parsed_lex h.1
parses_only bytes (Err (faults.Out n)) h = text_is bytes h.0 ∙ ap parsed_lex h.1
parses_only bytes (Err faults.TooNested) (i, ts, e, inl h) = outcome_is bytes ts nested i e tt h
parses_only bytes (Err faults.TooNested) (i, ts, e, inr h) =
    outcome_is bytes ts (accepted h.tree) i e tt (h.derives, h.few_open) ∙ cut_is (meaning h.tree) h.deep (is_cut (meaning h.tree))
parses_only bytes (Err faults.Memory) h = absurd h

pub parses_once : (bytes : List ℕ) (q r : Result Term ParseFault) → ParsesTo bytes q → ParsesTo bytes r → q ≡ r
parses_once bytes q r h k = sym (parses_only bytes q h) ∙ parses_only bytes r k
