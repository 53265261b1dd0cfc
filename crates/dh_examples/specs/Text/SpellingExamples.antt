-- The limits of a text, and the refusals that come before the first token.
use Rattle.std.specs.Prelude.{◌≡◌, ℕ, ◌≤◌, ◌<◌, Bool, true, false, List, [], ◌∷◌, length, Err, IsUtf8, refl}
use Rattle.std.specs.Str.{is_utf8, chars}
use Rattle.std.specs.Str.Lossy.{utf8_valid_len}
use Rattle.std.proofs.Common.{lit≤, lit<, sym, subst, true≢false}
use Rattle.std.proofs.lemmas.Bool.{leb-true}
use Rattle.std.proofs.lemmas.Str.{utf8_valid_len-IsUtf8}
use Rattle.dh_syntax.specs.declared.faults.ParseFault.TheVariants as faults
use Rattle.dh_syntax.specs.declared.tokens.Token.{Token}
use Rattle.dh_syntax.specs.declared.tokens.TokenKind.TheVariants as kinds
use Rattle.dh_syntax.specs.Text.Meaning.{meaning}
use Rattle.dh_syntax.specs.Expressions.Nesting.{nesting}
use Rattle.dh_syntax.specs.Text.Spelling.{IsText, IsToken, NestsTooDeep, ParsesTo}
use Rattle.dh_syntax.specs.Limits.{most_bytes}
use Rattle.dh_syntax.specs.Text.Yield.{Written}
use lib.Utf8.{encode}

-- ---- a text of 1,048,576 bytes, and one byte more

longest_text : (bytes : List ℕ) → length bytes ≡ 1_048_576 → IsUtf8 bytes → IsText bytes
longest_text bytes h u = (subst (λ n. n ≤ most_bytes) (sym h) (lit≤ tt), u)

one_byte_more : (bytes : List ℕ) → length bytes ≡ 1_048_577 → ParsesTo bytes (Err faults.TooLarge)
one_byte_more bytes h = subst (λ n. most_bytes < n) (sym h) (lit< tt)

too_large : (bytes : List ℕ) → ParsesTo bytes (Err faults.TooLarge) → 1_048_577 ≤ length bytes
too_large bytes p = p

-- ---- no UTF-8: the place is where the longest front of whole characters ends

-- `é`, of which the second byte is wanting
cut_character : ParsesTo (0x61 ∷ 0xC3 ∷ []) (Err (faults.NotUtf8 1))
unfolding utf8_valid_len is_utf8 chars encode
cut_character = (leb-true _ _ refl, (λ u. let h : 1 ≡ 2 = utf8_valid_len-IsUtf8 (0x61 ∷ 0xC3 ∷ []) u in cc), refl)

-- ---- an expression that nests too deep nests 501 deep or more

nests_deeper : (tokens : List Token) (p : NestsTooDeep tokens) → 501 ≤ nesting (meaning p.tree)
nests_deeper tokens p = p.deep

-- ---- a gap counts where it is needed

-- the end as it is written, with a gap before it or without
abbrev written : Bool → Written
written gap = record { kind = kinds.End; gap = gap; depth = 0 }

-- the end as it is read, with a gap before it or without
abbrev read : Bool → Token
read gap = record { kind = kinds.End; from = 0; to = 0; gap = gap }

no_gap_where_needed : ¬ IsToken (written true) (read false)
no_gap_where_needed p = true≢false (sym p.1)

gap_where_needed : IsToken (written true) (read true)
gap_where_needed = (refl, refl)

gap_where_free : IsToken (written false) (read true)
gap_where_free = (refl, refl)

no_gap_where_free : IsToken (written false) (read false)
no_gap_where_free = (refl, refl)
