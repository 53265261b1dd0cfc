-- What the parser answers, by the steps to it.
use Rattle.std.proofs.Common.{◌≡◌, ℕ, ◌≤◌, ◌<◌, Bool, true, false, List, refl, ap, sym, ◌∙◌, subst, le-leb}
use Rattle.std.specs.Prelude.{◌≢◌, if◌then◌else◌, length, Result, Ok, Err, IfOk, IfErr, IsUtf8}
use Rattle.std.proofs.lemmas.Bool.{lt-leb}
use Rattle.std.proofs.lemmas.Str.{is_utf8-from_IsUtf8, IsUtf8-from_is_utf8}
use Rattle.std.specs.Str.{is_utf8}
use Rattle.std.specs.Str.Lossy.{utf8_valid_len}
use Rattle.dh_syntax.specs.declared.expressions.Expr.{Expr}
use Rattle.dh_syntax.specs.declared.faults.ParseFault.{ParseFault}
use Rattle.dh_syntax.specs.declared.faults.ParseFault.TheVariants as faults
use Rattle.dh_syntax.specs.Expressions.Bridge.{term}
use Rattle.dh_syntax.specs.Limits.{most_bytes, most_nesting}
use Rattle.dh_syntax.specs.Text.Lexing.{lex}
use Rattle.dh_grammar.specs.Parsed.{parsed, parsed_lex, answered}
use Rattle.dh_grammar.specs.Reading.{Outcome, accepted}
use Rattle.dh_grammar.specs.Stubs.{Kept}
use Rattle.dh_grammar.proofs.Results.Answering.{parses}
use Rattle.dh_grammar.proofs.Results.Unique.{parsed_is_spellable}
use Rattle.dh_syntax.specs.Expressions.Spellable.{IsSpellable}
use Rattle.dh_syntax.specs.Text.Spelling.{ParsesTo}
use Rattle.dh_syntax.specs.Expressions.Tree.{Term}
use Rattle.dh_parse.specs.Answers.{Answers, IsFault}

-- the answer for bytes by their size and whether they are UTF-8
abbrev of_bytes : List ℕ → Result Term ParseFault
of_bytes bytes = if is_utf8 bytes then parsed_lex (lex bytes) else Err (faults.NotUtf8 (utf8_valid_len bytes))

small : (bytes : List ℕ) → length bytes ≤ most_bytes → parsed bytes ≡ of_bytes bytes
small bytes h = ap (λ b. if b then of_bytes bytes else Err faults.TooLarge) (le-leb (length bytes) most_bytes h)

pub too_large : (bytes : List ℕ) → most_bytes < length bytes → parsed bytes ≡ Err faults.TooLarge
too_large bytes h = ap (λ b. if b then of_bytes bytes else Err faults.TooLarge) (lt-leb (length bytes) most_bytes h)

pub text : (bytes : List ℕ) → length bytes ≤ most_bytes → IsUtf8 bytes → parsed bytes ≡ parsed_lex (lex bytes)
text bytes h u = small bytes h ∙ ap (λ b. if b then parsed_lex (lex bytes) else Err (faults.NotUtf8 (utf8_valid_len bytes))) (is_utf8-from_IsUtf8 bytes u)

by_test : (bytes : List ℕ) (b : Bool) → is_utf8 bytes ≡ b → (IsUtf8 bytes → ⊥) → of_bytes bytes ≡ Err (faults.NotUtf8 (utf8_valid_len bytes))
by_test bytes true e n = absurd (n (IsUtf8-from_is_utf8 bytes e))
by_test bytes false e n = ap (λ b. if b then parsed_lex (lex bytes) else Err (faults.NotUtf8 (utf8_valid_len bytes))) e

pub no_text : (bytes : List ℕ) → length bytes ≤ most_bytes → (IsUtf8 bytes → ⊥) → parsed bytes ≡ Err (faults.NotUtf8 (utf8_valid_len bytes))
no_text bytes h n = small bytes h ∙ by_test bytes (is_utf8 bytes) refl n

-- ---- what the operand that was read says

pub shallow : (x : Kept) → x.part.nests ≤ most_nesting → answered (accepted x) ≡ Ok x.part.expression
shallow x h = ap (λ b. if b then Ok x.part.expression else Err faults.TooNested) (le-leb x.part.nests most_nesting h)

pub deep : (x : Kept) → most_nesting < x.part.nests → answered (accepted x) ≡ Err faults.TooNested
deep x h = ap (λ b. if b then Ok x.part.expression else Err faults.TooNested) (lt-leb x.part.nests most_nesting h)

-- ---- faults

pub faulted : (read : Outcome Kept) (f : ParseFault) → IsFault read f → Answers (answered read) (Err f)
faulted read (faults.Syntax at) h = λ n. ap answered h
faulted read faults.TooNested h = λ n. ap answered h
faulted read faults.Memory h = λ n. absurd (n refl)
faulted read (faults.NotUtf8 at) h = absurd h
faulted read (faults.Wide at) h = absurd h
faulted read (faults.Out at) h = absurd h
faulted read faults.TooLarge h = absurd h

-- ---- the same answer for what is the same

pub moved : (a b : Result Term ParseFault) (r : Result Expr ParseFault) → a ≡ b → Answers b r → Answers a r
moved a b r e h = subst (λ o. Answers o r) (sym e) h

-- ---- what the answer says by the definition of spelling

pub spelled : (bytes : List ℕ) (r : Result Expr ParseFault) → Answers (parsed bytes) r → IfOk r (λ e. ParsesTo bytes (Ok (term e)))
spelled bytes (Ok e) h = subst (ParsesTo bytes) h (parses bytes)
spelled bytes (Err f) h = tt

pub refused_so : (bytes : List ℕ) (r : Result Expr ParseFault) → Answers (parsed bytes) r → IfErr r (λ f. f ≢ faults.Memory → ParsesTo bytes (Err f))
refused_so bytes (Ok e) h = tt
refused_so bytes (Err f) h = λ n. subst (ParsesTo bytes) (h n) (parses bytes)

pub spellable : (bytes : List ℕ) (r : Result Expr ParseFault) → Answers (parsed bytes) r → IfOk r (λ e. IsSpellable (term e))
spellable bytes (Ok e) h = parsed_is_spellable bytes (term e) h
spellable bytes (Err f) h = tt
