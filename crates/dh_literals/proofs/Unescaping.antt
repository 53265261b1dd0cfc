-- Reading a text between double quotes, from one backslash to the next.
use Rattle.std.proofs.Common.{◌≡◌, ℕ, ◌+◌, ◌-◌, ◌≤◌, List, [], ◌∷◌, ◌++◌, length, drop, lit<, Some, Ok, Err, length-drop, append_assoc, append-nil, ap, sym, subst, ◌∙◌, arith}
use Rattle.std.proofs.lemmas.Str.{IsUtf8-drop}
use Rattle.std.specs.Char.{encode_utf8}
use Rattle.std.specs.Str.{IsUtf8, IsCharBoundary, byte}
use Rattle.dh_syntax.specs.Text.Literals.{escaped, escape_or_character, text_of, unescape}
use Rattle.dh_syntax.specs.Text.Stretches.{UpTo, Reads, Faults, stretch}
use Rattle.dh_literals.specs.Escape.{IsRead}
use Rattle.dh_literals.proofs.SplitParts.{Lacks, SplitAt, split_size, before_utf8, after_utf8}
use Rattle.dh_literals.proofs.Stretching.{onto, onto-none, onto-onto, plain_text, one_escape, no_escape}

-- of a text, these bytes are what stands before the rest of it
pub record ReadUpTo (inner text rest : List ℕ) : Type 0 where
  pub so_far : stretch escape_or_character 0 inner ≡ onto text (length inner - length rest) (stretch escape_or_character 0 rest)
  pub within : length rest ≤ length inner
  pub utf8 : IsUtf8 rest

pub at_start : (inner text : List ℕ) → IsUtf8 inner → text ≡ [] → ReadUpTo inner text inner
at_start inner text u e =
    let size : 0 ≡ length inner - length inner = omega arith in
    let S = stretch escape_or_character 0 inner in
    record {
      so_far = onto-none S ∙ ap (λ k. onto [] k S) size ∙ ap (λ l. onto l (length inner - length inner) S) (sym e);
      within = omega arith;
      utf8 = u;
    }

-- the rest by its first backslash
stretched : (rest plain escape : List ℕ) → IsUtf8 rest → SplitAt (byte "\\") rest plain escape → stretch escape_or_character 0 rest ≡ onto plain (length plain) (stretch escape_or_character 0 (byte "\\" ∷ escape))
stretched rest plain escape u split = ap (stretch escape_or_character 0) split.parts ∙ plain_text plain (byte "\\" ∷ escape) (before_utf8 (byte "\\") rest plain escape (lit< tt) u split) split.first

stepped : (inner text rest plain escape front : List ℕ) (n : ℕ) → ReadUpTo inner text rest → SplitAt (byte "\\") rest plain escape → escaped escape ≡ Reads front (1 + n) → IsCharBoundary escape n → ReadUpTo inner (text ++ plain ++ front) (drop n escape)
stepped inner text rest plain escape front n h split reads cut =
    let size = split_size (byte "\\") rest plain escape split in
    let fits : n ≤ length escape = cut.0 in
    let left : length (drop n escape) ≡ length escape - n = length-drop n escape in
    let before = length inner - length rest in
    let S = stretch escape_or_character 0 (drop n escape) in
    let count : before + (length plain + (1 + n)) ≡ length inner - length (drop n escape) = omega (arith, size, fits, left, h.within) in
    record {
      so_far =
          h.so_far
          ∙ ap (onto text before) (stretched rest plain escape h.utf8 split ∙ ap (onto plain (length plain)) (one_escape escape front n fits reads) ∙ onto-onto plain front (length plain) (1 + n) S)
          ∙ onto-onto text (plain ++ front) before (length plain + (1 + n)) S
          ∙ ap (λ l. onto l (before + (length plain + (1 + n))) S) (sym (append_assoc text plain front))
          ∙ ap (λ k. onto (text ++ plain ++ front) k S) count;
      within = omega (arith, size, fits, left, h.within);
      utf8 = IsUtf8-drop escape n (after_utf8 (byte "\\") rest plain escape (lit< tt) h.utf8 split) cut;
    }

pub after_escape : (inner text rest plain escape text' rest' : List ℕ) (c n : ℕ) → ReadUpTo inner text rest → SplitAt (byte "\\") rest plain escape → IsRead (escaped escape) 1 escape (Some (c, n)) → text' ≡ text ++ plain ++ encode_utf8 c → rest' ≡ drop n escape → ReadUpTo inner text' rest'
after_escape inner text rest plain escape text' rest' c n h split read e f =
    let P : List ℕ → Type 0 = λ l. ReadUpTo inner l rest' in
    let Q : List ℕ → Type 0 = λ l. ReadUpTo inner (text ++ plain ++ encode_utf8 c) l in
    subst P (sym e) (subst Q (sym f) (stepped inner text rest plain escape (encode_utf8 c) n h split read.0 read.1))

pub at_fault : (inner text rest plain escape : List ℕ) → ReadUpTo inner text rest → SplitAt (byte "\\") rest plain escape → escaped escape ≡ Faults → unescape inner ≡ Err (length inner - length escape - 1)
at_fault inner text rest plain escape h split faults =
    let size = split_size (byte "\\") rest plain escape split in
    let before = length inner - length rest in
    let place : before + (length plain + 0) ≡ length inner - length escape - 1 = omega (arith, size, h.within) in
    ap text_of (h.so_far ∙ ap (onto text before) (stretched rest plain escape h.utf8 split ∙ ap (onto plain (length plain)) (no_escape escape faults))) ∙ ap Err place

pub at_end : (inner text rest : List ℕ) → ReadUpTo inner text rest → Lacks (byte "\\") rest → unescape inner ≡ Ok (text ++ rest)
at_end inner text rest h plain =
    let before = length inner - length rest in
    let last : stretch escape_or_character 0 rest ≡ onto rest (length rest) (UpTo [] 0) = ap (stretch escape_or_character 0) (sym (append-nil rest)) ∙ plain_text rest [] h.utf8 plain in
    ap text_of (h.so_far ∙ ap (onto text before) last) ∙ ap (λ l. Ok (text ++ l)) (append-nil rest)
