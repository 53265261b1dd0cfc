-- The tokens of a text are good, and the last of them alone is `End`.
use Rattle.std.proofs.Common.{◌≡◌, ℕ, zero, suc, pred, true, false, List, [], ◌∷◌, ◌++◌, refl, sym, ◌∙◌, subst}
use Rattle.std.specs.Prelude.{IsTrue, ⊤, ◌&&◌, ◌||◌, ◌==◌, not, Option, Some, None, Result, Ok, Err}
use Rattle.std.specs.Char.{is_ascii}
use Rattle.std.specs.Str.{byte}
use Rattle.dh_syntax.specs.declared.tokens.Mark.TheVariants as marks
use Rattle.dh_syntax.specs.declared.tokens.Token.{Token}
use Rattle.dh_syntax.specs.declared.tokens.TokenKind.{TokenKind}
use Rattle.dh_syntax.specs.declared.tokens.TokenKind.TheVariants as kinds
use Rattle.dh_syntax.specs.Text.Characters.{first, code_at, is_noncharacter}
use Rattle.dh_syntax.specs.Text.Derivation.{Derivation}
use Rattle.dh_syntax.specs.Text.Lexing.{LexFault, gap_forms, token_forms, forms_left_out, code_form, no_form, form_or, Place, Outside, Interpolated, Among, place_after, Before, Start, AName, NameAt, Other, before_after, before_after_white, is_wide_index, State, start, form_at, Stops, Gives, token_step, step, end_at, with_token, by_step, tokens_from, lex}
use Rattle.dh_syntax.specs.Text.LexForms.{Found, White, SkippedLine, Is, LeftOut, TooWide, Faulty, Unclosed, Form}
use Rattle.dh_syntax.specs.Text.LexGaps.{skipped_line}
use Rattle.dh_syntax.specs.Text.LexTexts.{text_part}
use Rattle.dh_syntax.specs.Text.Meaning.{meaning}
use Rattle.dh_syntax.specs.Text.Spelling.{AreTokens, Derives}
use Rattle.dh_syntax.specs.Text.Yield.{Written, token, free, yield}
use Rattle.dh_syntax.proofs.LexingLaws.{lex-from_start}
use Rattle.dh_grammar.specs.Inside.SoundTokens.{good_kind, sound, written_kinds}
use Rattle.dh_grammar.proofs.Lexed.Fairness.{fair}
use Rattle.dh_grammar.proofs.Lexed.FairParts.{Fair}
use Rattle.dh_grammar.proofs.Lexed.LexedForms.{found_good, Good, longest_good, white_space_good, line_comment_good, block_comment_good, skipped_line_good, name_good, quoted_name_good, minus_infinity_good, natural_good, integer_good, double_good, signed_double_good, date_good, time_good, signed_time_good, binary_good, bytes_literal_good, double_quoted_opening_good, multi_line_opening_good, text_part_good, mark_good, path_good, environment_good, digest_good}
use Rattle.dh_grammar.proofs.Lexed.LexedUrls.{url_good}
use Rattle.dh_grammar.proofs.Results.Parsing.{MeansSpellable}
use Rattle.dh_grammar.proofs.TruthValues.{both, by_test, not_true}

abbrev FormGood : Form → Type 0
FormGood f = IsTrue (found_good f.found)

code_form_good : (bs : List ℕ) → Good (code_form bs)
code_form_good bs =
    longest_good (gap_forms bs ++ token_forms bs ++ forms_left_out bs) (
      white_space_good bs,
      (
        line_comment_good bs,
        (
          block_comment_good bs,
          (
            name_good bs,
            (
              quoted_name_good bs,
              (
                natural_good bs,
                (
                  integer_good bs,
                  (
                    double_quoted_opening_good bs,
                    (
                      multi_line_opening_good bs,
                      (
                        path_good bs,
                        (
                          url_good bs,
                          (
                            environment_good bs,
                            (
                              digest_good bs,
                              (
                                mark_good bs,
                                (minus_infinity_good bs, (double_good bs, (signed_double_good bs, (date_good bs, (time_good bs, (signed_time_good bs, (binary_good bs, (bytes_literal_good bs, tt)))))))),
                              ),
                            ),
                          ),
                        ),
                      ),
                    ),
                  ),
                ),
              ),
            ),
          ),
        ),
      ),
    )

no_form_good : (bs : List ℕ) → FormGood (no_form bs)
no_form_good bs = by_test (λ f. IsTrue (found_good f)) (is_ascii (first bs) || is_noncharacter (code_at bs)) (Faulty 0) LeftOut (λ e. refl) (λ e. refl)

form_or_good : (o : Option Form) (f : Form) → Good o → FormGood f → FormGood (form_or o f)
form_or_good None f h k = k
form_or_good (Some g) f h k = h

code_good : (bs : List ℕ) → FormGood (form_or (code_form bs) (no_form bs))
code_good bs = form_or_good (code_form bs) (no_form bs) (code_form_good bs) (no_form_good bs)

form_at_good : (b : Before) (place : Place) (bs : List ℕ) → FormGood (form_at b place bs)
form_at_good b (Among f n p) bs = form_or_good (text_part f bs) (no_form bs) (text_part_good f bs) (no_form_good bs)
form_at_good b (Interpolated zero f n p) bs =
    by_test FormGood (first bs == byte "}") (record { found = Is kinds.InterpolationClose; len = 1 }) (form_or (code_form bs) (no_form bs)) (λ e. refl) (λ e. code_good bs)
form_at_good b (Interpolated (suc k) f n p) bs = code_good bs
form_at_good Start Outside bs = form_or_good (skipped_line bs) (form_or (code_form bs) (no_form bs)) (skipped_line_good bs) (code_good bs)
form_at_good AName Outside bs = code_good bs
form_at_good NameAt Outside bs = code_good bs
form_at_good Other Outside bs = code_good bs

-- ---- tokens

-- behind this stand good tokens, and then `End`, which is no good token
abbrev pub Sound : Before → List Token → Type 0
Sound b [] = ⊥
Sound b (t ∷ []) = t.kind ≡ kinds.End
Sound b (t ∷ u ∷ ts) = IsTrue (good_kind t.kind) × IsTrue (not (is_wide_index b t.kind)) × Sound (before_after t.kind b) (u ∷ ts)

abbrev Sounds : Before → Result (List Token) LexFault → Type 0
Sounds b (Ok ts) = Sound b ts
Sounds b (Err fault) = ⊤

sound_more : (b : Before) (t : Token) (ts : List Token) → IsTrue (good_kind t.kind) → IsTrue (not (is_wide_index b t.kind)) → Sound (before_after t.kind b) ts → Sound b (t ∷ ts)
sound_more b t [] g i h = absurd h
sound_more b t (u ∷ ts) g i h = (g, i, h)

sounds_more : (b : Before) (t : Token) (r : Result (List Token) LexFault) → IsTrue (good_kind t.kind) → IsTrue (not (is_wide_index b t.kind)) → Sounds (before_after t.kind b) r → Sounds b (with_token t r)
sounds_more b t (Ok ts) g i h = sound_more b t ts g i h
sounds_more b t (Err fault) g i h = tt

same_after : (k : TokenKind) → before_after k Start ≡ before_after k Other
same_after (kinds.Mark marks.At) = refl
same_after _ = refl

sound_start : (ts : List Token) → Sound Other ts → Sound Start ts
sound_start [] h = h
sound_start (t ∷ []) h = h
sound_start (t ∷ u ∷ ts) h = (h.0, refl, subst (λ b. Sound b (u ∷ ts)) (sym (same_after t.kind)) h.2)

sounds_start : (r : Result (List Token) LexFault) → Sounds Other r → Sounds Start r
sounds_start (Ok ts) h = sound_start ts h
sounds_start (Err fault) h = tt

sounds_white : (b : Before) (r : Result (List Token) LexFault) → Sounds (before_after_white b) r → Sounds b r
sounds_white Start r h = sounds_start r h
sounds_white AName r h = h
sounds_white NameAt r h = h
sounds_white Other r h = h

sounds_end : (s : State) (at : ℕ) (place : Place) → Sounds s.before (end_at s at place)
sounds_end s at Outside = refl
sounds_end s at (Interpolated b f n p) = tt
sounds_end s at (Among f n p) = tt

abbrev Rest : Type 0
Rest = State → ℕ → Result (List Token) LexFault

sounds_token : (s : State) (at : ℕ) (k : TokenKind) (len : ℕ) (rest : Rest) → IsTrue (good_kind k) → ((t : State) (n : ℕ) → Sounds t.before (rest t n)) → Sounds s.before (by_step (token_step s at k len) rest)
sounds_token s at k len rest g h =
    by_test (λ x. Sounds s.before (by_step x rest)) (is_wide_index s.before k) (Stops _) (Gives _ _ len) (λ e. tt)
    (λ e. sounds_more s.before _ (rest (record { place = place_after k at s.place; before = before_after k s.before; gap = false }) (pred len)) g (not_true (is_wide_index s.before k) e) (h (record { place = place_after k at s.place; before = before_after k s.before; gap = false }) (pred len)))

sounds_step : (s : State) (at : ℕ) (f : Found) (len : ℕ) (rest : Rest) → IsTrue (found_good f) → ((t : State) (n : ℕ) → Sounds t.before (rest t n)) → Sounds s.before (by_step (step s at f len) rest)
sounds_step s at White len rest g h = let t : State = record { place = s.place; before = before_after_white s.before; gap = true } in sounds_white s.before (rest t (pred len)) (h t (pred len))
sounds_step s at SkippedLine len rest g h = h s (pred len)
sounds_step s at (Is k) len rest g h = sounds_token s at k len rest g h
sounds_step s at LeftOut len rest g h = tt
sounds_step s at TooWide len rest g h = tt
sounds_step s at (Faulty n) len rest g h = tt
sounds_step s at Unclosed len rest g h = tt

sounds_from : (s : State) (skip at : ℕ) (bs : List ℕ) → Sounds s.before (tokens_from s skip at bs)
sounds_from s skip at [] = sounds_end s at s.place
sounds_from s (suc skip) at (b ∷ bs) = sounds_from s skip (suc at) bs
sounds_from s zero at (b ∷ bs) =
    let f = form_at s.before s.place (b ∷ bs) in
    sounds_step s at f.found f.len (λ t n. tokens_from t n (suc at) bs) (form_at_good s.before s.place (b ∷ bs)) (λ t n. sounds_from t n (suc at) bs)

-- the tokens of a text: all but the last are good, and the last is `End`
pub lexed_sound : (bs : List ℕ) (ts : List Token) → lex bs ≡ Ok ts → Sound Start ts
lexed_sound bs ts e = subst (Sounds Start) (sym (lex-from_start bs) ∙ e) (sounds_from start 0 0 bs)

-- ---- what they derive

sound_written : (ws : List Written) (b : Before) (ts : List Token) → AreTokens (ws ++ token 0 free kinds.End ∷ []) ts → Sound b ts → IsTrue (sound b (written_kinds ws))
sound_written [] b ts a h = refl
sound_written (w ∷ ws) b [] a h = absurd a
sound_written (w ∷ []) b (t ∷ []) a h = absurd a.1
sound_written (w ∷ v ∷ ws) b (t ∷ []) a h = absurd a.1
sound_written (w ∷ ws) b (t ∷ u ∷ ts) a h =
    subst (λ k. IsTrue (good_kind k && (not (is_wide_index b k) && sound (before_after k b) (written_kinds ws)))) a.0.0
    (both (good_kind t.kind) _ h.0 (both (not (is_wide_index b t.kind)) _ h.1 (sound_written ws (before_after t.kind b) (u ∷ ts) a.1 h.2)))

pub lexed_fair : (bs : List ℕ) (ts : List Token) (d : Derivation) → lex bs ≡ Ok ts → Derives ts d → Fair (meaning d)
lexed_fair bs ts d e h = fair 1 free d (record { before = Start; are = sound_written (yield 1 free d) Start ts h.written (lexed_sound bs ts e) })

pub means_spellable : (bs : List ℕ) (ts : List Token) → lex bs ≡ Ok ts → MeansSpellable ts
means_spellable bs ts e d h n = let f = lexed_fair bs ts d e h in (f.well, n, f.named)
