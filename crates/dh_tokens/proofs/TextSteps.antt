-- Steps of the reader of text literals.
use Rattle.std.proofs.Common.{◌≡◌, ℕ, zero, suc, ◌+◌, ◌-◌, ◌<◌, ◌≤◌, Bool, true, false, cond, eqb, if◌then◌else◌, ◌==◌, ◌&&◌, ◌||◌, not, nat_eq, nat_lt, List, [], ◌∷◌, ◌++◌, length, take, drop, get_or, Some, lit<, codes, length-append, append-nil, refl, sym, ap, subst, ◌∙◌, arith}
use lib.Utf8.{scalar, scalars, encode, encodes, scalar_cases}
use Rattle.std.proofs.str.Laws.{shape}
use Rattle.std.proofs.Math.Bool.{and-true, and_assoc}
use Rattle.std.proofs.lemmas.Bool.{eqb-true, and_parts, lt-ltb}
use Rattle.std.proofs.lemmas.Bool.Decides.{nat_tests, Decides-eqb}
use Rattle.std.proofs.lemmas.List.{drop-drop, drop_all, get_or_append_left}
use Rattle.std.proofs.lemmas.Slice.Eq.{starts_is}
use Rattle.std.proofs.lemmas.Str.{IsCharBoundary-after_ascii, IsCharBoundary-at_seam, IsCharBoundary-from_rest, IsCharBoundary-start}
use Rattle.std.specs.Char.{encode_utf8}
use Rattle.std.specs.List.{prefix_len, starts_with}
use Rattle.std.specs.Str.{IsUtf8, IsCharBoundary, continuation_len, lead_bits}
use Rattle.dh_syntax.specs.declared.tokens.TextForm.{TextForm}
use Rattle.dh_syntax.specs.declared.tokens.TextForm.TheVariants.{DoubleQuoted, MultiLine}
use Rattle.dh_syntax.specs.Text.Characters.{first, begins, tab, line_feed, carriage_return, line_end_len, char_len, code_after, is_control, is_noncharacter}
use Rattle.dh_syntax.specs.Text.LexForms.{form, stretching}
use Rattle.dh_syntax.specs.Text.LexTexts.{closing_len, double_quoted_character, multi_line_character, character_of, piece_character}
use Rattle.dh_syntax.specs.Text.Literals.{escaped}
use Rattle.dh_syntax.specs.Text.Stretches.{Character, Reads, Ends, Faults, UpTo, by_character, stretch, itself, good_character}
use Rattle.dh_syntax.proofs.Numbers.{and-true_left, and-true_right}
use Rattle.dh_literals.specs.Escape.{IsRead}
use Rattle.dh_literals.proofs.Fronts.{passing_boundary}
use Rattle.dh_literals.proofs.Stretching.{has_head, by_first, onto, onto-none, onto-onto}
use Rattle.dh_tokens.proofs.FormLaws.{form-some}
use Rattle.dh_tokens.specs.declared.texts.Next.{Next}
use Rattle.dh_tokens.specs.declared.texts.Next.TheVariants as next
use Rattle.dh_tokens.specs.Inside.Texts.{is_plain, found_piece, IsCharacter, IsNext, TakesSome}

-- after an ASCII byte a character ends
pub ends_in_ascii : (bs : List ℕ) (n : ℕ) → IsUtf8 bs → 0 < n → n ≤ length bs → get_or bs (n - 1) 0 < 128 → IsCharBoundary bs n
ends_in_ascii bs n u some within ascii =
    let e : n - 1 + 1 ≡ n = omega (arith, some) in
    let P : ℕ → Type 0 = λ k. IsCharBoundary bs k in
    subst P e (IsCharBoundary-after_ascii bs (n - 1) u (omega (arith, some, within)) ascii)

-- after an ASCII text too
pub after_text : (p bs : List ℕ) → IsUtf8 bs → starts_with nat_eq bs p ≡ true → 0 < length p → get_or p (length p - 1) 0 < 128 → IsCharBoundary bs (length p)
after_text p bs u opens some ascii =
    let rest = drop (length p) bs in
    let parts : bs ≡ p ++ rest = (starts_is Decides-eqb bs p true (sym opens)).0 refl in
    let size : length bs ≡ length p + length rest = ap length parts ∙ length-append p rest in
    let last : get_or bs (length p - 1) 0 ≡ get_or p (length p - 1) 0 = ap (λ l. get_or l (length p - 1) 0) parts ∙ get_or_append_left p rest 0 (length p - 1) (omega (arith, some)) in
    ends_in_ascii bs (length p) u some (omega (arith, size)) (omega (arith, last, ascii))

line_feed_last-by : (b : ℕ) (bs : List ℕ) (lf crlf : Bool) → (b == line_feed) ≡ lf → (b == carriage_return && first bs == line_feed) ≡ crlf
    → 0 < (if lf then 1 else if crlf then 2 else 0) → get_or (b ∷ bs) ((if lf then 1 else if crlf then 2 else 0) - 1) 0 ≡ line_feed
line_feed_last-by b bs true crlf e f some = eqb-true b line_feed e
line_feed_last-by b bs false true e f some = eqb-true (first bs) line_feed (and_parts (b == carriage_return) (first bs == line_feed) f).1
line_feed_last-by b bs false false e f some = absurd (omega (arith, some))

line_feed_last : (bs : List ℕ) → 0 < line_end_len bs → get_or bs (line_end_len bs - 1) 0 ≡ line_feed
line_feed_last [] some = absurd (omega (arith, some))
line_feed_last (b ∷ bs) some = line_feed_last-by b bs (b == line_feed) (b == carriage_return && first bs == line_feed) refl refl some

-- and after a line end
pub after_line_end : (bs : List ℕ) (n : ℕ) → IsUtf8 bs → n ≡ line_end_len bs → 0 < n → n ≤ length bs → IsCharBoundary bs n
after_line_end bs n u e some within =
    let last : get_or bs (n - 1) 0 ≡ line_feed = ap (λ k. get_or bs (k - 1) 0) e ∙ line_feed_last bs (omega (arith, e, some)) in
    ends_in_ascii bs n u some within (omega (arith, last))

-- and after the character at the front
first_character-by : (cs bs : List ℕ) → scalars cs ≡ true → encodes cs ≡ bs → 0 < length bs → IsCharBoundary bs (char_len bs)
first_character-by [] bs s e some = absurd (omega (arith, ap length e))
first_character-by (c ∷ cs) bs s e some =
    let h = has_head c (shape c (scalar_cases c (and-true_left (scalar c) (scalars cs) s))) in
    let rest = encodes cs in
    let parts : bs ≡ encode c ++ rest = sym e in
    let size : length (encode c) ≡ char_len bs = sym (ap char_len (parts ∙ ap (λ l. l ++ rest) h.is) ∙ ap suc h.counts ∙ sym (ap length h.is)) in
    let P : ℕ → Type 0 = λ k. IsCharBoundary bs k in
    subst P size (IsCharBoundary-at_seam bs (encode c) rest parts (cs, (and-true_right (scalar c) (scalars cs) s, refl)))

pub first_character : (bs : List ℕ) → IsUtf8 bs → 0 < length bs → IsCharBoundary bs (char_len bs)
first_character bs u some = first_character-by u.0 bs u.1.0 u.1.1 some

-- a plain byte stands for itself
plain_good-by : (b k v : ℕ) (bs : List ℕ) → k ≡ 0 → v ≡ b → is_control b ≡ false → is_noncharacter b ≡ false
    → (if is_control b || is_noncharacter (code_after k v bs) then Faults else Reads (b ∷ take k bs) (suc k)) ≡ Reads (b ∷ []) 1
plain_good-by b k v bs none bits shown real =
    ap (λ m. if is_control b || is_noncharacter (code_after m v bs) then Faults else Reads (b ∷ take m bs) (suc m)) none
    ∙ ap (λ m. if is_control b || is_noncharacter m then Faults else Reads (b ∷ []) 1) bits
    ∙ ap (λ t. if t || is_noncharacter b then Faults else Reads (b ∷ []) 1) shown
    ∙ ap (λ t. if t then Faults else Reads (b ∷ []) 1) real

plain_good : (b : ℕ) (bs : List ℕ) → is_plain b ≡ true → good_character (b ∷ bs) ≡ Reads (b ∷ []) 1
plain_good b bs plain =
    let none : continuation_len b ≡ 0 = grind (arith, nat_tests) in
    let bits : lead_bits b ≡ b = grind (arith, nat_tests) in
    let shown : is_control b ≡ false = grind (arith, nat_tests) in
    let real : is_noncharacter b ≡ false = grind (arith, nat_tests) in
    plain_good-by b (continuation_len b) (lead_bits b) bs none bits shown real

begins_other : (c b : ℕ) (cs bs : List ℕ) → eqb c b ≡ false → starts_with nat_eq (b ∷ bs) (c ∷ cs) ≡ false
begins_other c b cs bs h = ap (λ t. t && starts_with nat_eq bs cs) h

-- a character by what stands at the front
double_quoted_by : (bs : List ℕ) (quote dollar backslash : Bool) → begins "\"" bs ≡ quote → begins "${" bs ≡ dollar → begins "\\" bs ≡ backslash
    → piece_character DoubleQuoted bs ≡ (if nat_lt 0 (if quote then 1 else 0) || dollar then Ends else if backslash then escaped (drop 1 bs) else good_character bs)
double_quoted_by bs quote dollar backslash e f g = cc

pub multi_line_by : (bs : List ℕ) (triple dollar tabbed : Bool) (n : ℕ) → begins "'''" bs ≡ triple → begins "''${" bs ≡ dollar → line_end_len bs ≡ n → (first bs == tab) ≡ tabbed
    → multi_line_character bs ≡ (if triple then Reads (codes "''") 3 else if dollar then Reads (codes "${") 4 else if nat_lt 0 n then Reads (line_feed ∷ []) n else if tabbed then itself bs else good_character bs)
multi_line_by bs triple dollar tabbed n e f g h = cc

-- no closing and no interpolation
pub goes_on : (form : TextForm) (bs : List ℕ) (n : ℕ) (dollar : Bool) → closing_len form bs ≡ n → begins "${" bs ≡ dollar → n ≡ 0 → dollar ≡ false → piece_character form bs ≡ character_of form bs
goes_on form bs n dollar e f none other =
    ap (λ k. if nat_lt 0 k || begins "${" bs then Ends else character_of form bs) (e ∙ none)
    ∙ ap (λ (t : Bool). if t then Ends else character_of form bs) (f ∙ other)

plain_double_quoted : (b : ℕ) (bs : List ℕ) → is_plain b ≡ true → eqb 34 b ≡ false → eqb 36 b ≡ false → eqb 92 b ≡ false → piece_character DoubleQuoted (b ∷ bs) ≡ Reads (b ∷ []) 1
plain_double_quoted b bs plain quote dollar backslash =
    double_quoted_by (b ∷ bs) false false false (begins_other 34 b [] bs quote) (begins_other 36 b (codes "{") bs dollar) (begins_other 92 b [] bs backslash)
    ∙ plain_good b bs plain

plain_multi_line : (b : ℕ) (bs : List ℕ) → is_plain b ≡ true → eqb 39 b ≡ false → eqb 36 b ≡ false → eqb b 10 ≡ false → eqb b 13 ≡ false → eqb b 9 ≡ false → piece_character MultiLine (b ∷ bs) ≡ Reads (b ∷ []) 1
plain_multi_line b bs plain quote dollar feed return tabbed =
    let no_closing : closing_len MultiLine (b ∷ bs) ≡ 0 =
    ap (λ t. if t && not (begins "'''" (b ∷ bs)) && not (begins "''${" (b ∷ bs)) then 2 else 0) (begins_other 39 b (codes "'") bs quote) in
    let no_end : line_end_len (b ∷ bs) ≡ 0 =
    ap (λ (t : Bool). if t then 1 else if b == carriage_return && first bs == line_feed then 2 else 0) feed ∙ ap (λ t. if t && first bs == line_feed then 2 else 0) return in
    goes_on MultiLine (b ∷ bs) 0 false no_closing (begins_other 36 b (codes "{") bs dollar) refl refl
    ∙ multi_line_by (b ∷ bs) false false false 0 (begins_other 39 b (codes "''") bs quote) (begins_other 39 b (codes "'${") bs quote) no_end tabbed
    ∙ plain_good b bs plain

plain_reads : (form : TextForm) (b : ℕ) (bs : List ℕ) → is_plain b ≡ true → piece_character form (b ∷ bs) ≡ Reads (b ∷ []) 1
plain_reads DoubleQuoted b bs plain = plain_double_quoted b bs plain (grind (arith, nat_tests)) (grind (arith, nat_tests)) (grind (arith, nat_tests))
plain_reads MultiLine b bs plain =
    plain_multi_line b bs plain (grind (arith, nat_tests)) (grind (arith, nat_tests)) (grind (arith, nat_tests)) (grind (arith, nat_tests)) (grind (arith, nat_tests))

plain_front-by : (form : TextForm) (b n k : ℕ) (bs : List ℕ) (plain : Bool) → is_plain b ≡ plain → suc n ≤ cond plain (1 + k) 0
    → (n ≤ k → stretch (piece_character form) 0 bs ≡ onto (take n bs) n (stretch (piece_character form) 0 (drop n bs)))
    → stretch (piece_character form) 0 (b ∷ bs) ≡ onto (b ∷ take n bs) (suc n) (stretch (piece_character form) 0 (drop n bs))
plain_front-by form b n k bs true e h more =
    let at = piece_character form in
    let left : 0 ≤ length bs = omega arith in
    let size : 1 + n ≡ suc n = omega arith in
    by_first at b 0 bs (b ∷ []) left (plain_reads form b bs e)
    ∙ ap (onto (b ∷ []) 1) (more (omega (arith, h)))
    ∙ onto-onto (b ∷ []) (take n bs) 1 n (stretch at 0 (drop n bs))
    ∙ ap (λ m. onto (b ∷ take n bs) m (stretch at 0 (drop n bs))) size
plain_front-by form b n k bs false e h more = absurd (omega (arith, h))

pub plain_front : (form : TextForm) (n : ℕ) (bs : List ℕ) → n ≤ prefix_len is_plain bs → stretch (piece_character form) 0 bs ≡ onto (take n bs) n (stretch (piece_character form) 0 (drop n bs))
plain_front form zero bs h = onto-none (stretch (piece_character form) 0 bs)
plain_front form (suc n) [] h = absurd (omega (arith, h))
plain_front form (suc n) (b ∷ bs) h = plain_front-by form b n (prefix_len is_plain bs) bs (is_plain b) refl h (plain_front form n bs)

-- one character
pub one_front : (at : List ℕ → Character) (bs front : List ℕ) (n : ℕ) → 0 < n → n ≤ length bs → at bs ≡ Reads front n → stretch at 0 bs ≡ onto front n (stretch at 0 (drop n bs))
one_front at bs front zero some within e = absurd (omega (arith, some))
one_front at [] front (suc n) some within e = absurd (omega (arith, within))
one_front at (b ∷ bs) front (suc n) some within e = by_first at b n bs front (omega (arith, within)) e

pub no_front : (at : List ℕ → Character) (bs : List ℕ) → at bs ≡ Ends → stretch at 0 bs ≡ UpTo [] 0
no_front at [] e = refl
no_front at (b ∷ bs) e = ap (λ c. by_character c (λ k. stretch at k bs)) e

-- what is read of a piece so far
pub record ReadTo (form : TextForm) (bs text : List ℕ) (n : ℕ) : Type 0 where
  pub so_far : stretch (piece_character form) 0 bs ≡ onto text n (stretch (piece_character form) 0 (drop n bs))
  pub whole : IsCharBoundary bs n

pub step : (form : TextForm) (bs here text front text' : List ℕ) (n m : ℕ) → ReadTo form bs text n → here ≡ drop n bs
    → stretch (piece_character form) 0 here ≡ onto front m (stretch (piece_character form) 0 (drop m here)) → IsCharBoundary here m → text' ≡ text ++ front
    → ReadTo form bs text' (n + m)
step form bs here text front text' n m read here_is more cut text_is =
    let at = piece_character form in
    let P : List ℕ → Type 0 = λ l. IsCharBoundary l m in
    record {
      so_far =
          read.so_far
          ∙ ap (λ l. onto text n (stretch at 0 l)) (sym here_is)
          ∙ ap (onto text n) more
          ∙ onto-onto text front n m (stretch at 0 (drop m here))
          ∙ ap (λ l. onto l (n + m) (stretch at 0 (drop m here))) (sym text_is)
          ∙ ap (λ l. onto text' (n + m) (stretch at 0 l)) (ap (drop m) here_is ∙ drop-drop m n bs);
      whole = IsCharBoundary-from_rest bs n m read.whole.0 (subst P here_is cut);
    }

-- an answer for a character, where neither the closing nor `${` stands at the front
pub next_from : (form : TextForm) (answer : Next) (bs : List ℕ) (at : Character) → piece_character form bs ≡ at → IsCharacter at answer bs → IsNext form answer bs
next_from form (next.Plain n) bs at e h = absurd h
next_from form (next.Text text n) bs at e h = (e ∙ h.0, h.1)
next_from form (next.Escape c n) bs at e h = (e ∙ h.0, h.1)
next_from form next.Ends bs at e h = e ∙ h
next_from form next.Faults bs at e h = e ∙ h

-- the whole stretch of a piece that ends here
ended : (form : TextForm) (bs text : List ℕ) (n : ℕ) → ReadTo form bs text n → stretch (piece_character form) 0 (drop n bs) ≡ UpTo [] 0 → stretch (piece_character form) 0 bs ≡ UpTo text n
ended form bs text n read e =
    let size : n + 0 ≡ n = omega arith in
    read.so_far ∙ ap (onto text n) e ∙ ap (λ l. UpTo l (n + 0)) (append-nil text) ∙ ap (UpTo text) size

pub piece_read : (form : TextForm) (bs text : List ℕ) (n : ℕ) → ReadTo form bs text n → stretch (piece_character form) 0 (drop n bs) ≡ UpTo [] 0 → 0 < n
    → Some (record { found = found_piece text; len = n }) ≡ stretching found_piece 0 (stretch (piece_character form) 0 bs)
piece_read form' bs text n read e some =
    let size : 0 + n ≡ n = omega arith in
    sym (ap (stretching found_piece 0) (ended form' bs text n read e) ∙ ap (form (found_piece text)) size ∙ form-some (found_piece text) n some)

-- a good character at the front
pub good_reads : (bs bytes bytes' shown : List ℕ) (n : ℕ) (good : Bool) → bytes ≡ bs → good_character bytes ≡ (if good then itself bytes else Faults) → good ≡ true
    → n ≡ char_len bytes' → bytes' ≡ bs → shown ≡ take n bs → good_character bs ≡ Reads shown n
good_reads bs bytes bytes' shown n good p e yes' len q shown_is =
    ap good_character (sym p) ∙ e ∙ ap (λ (t : Bool). if t then itself bytes else Faults) yes' ∙ ap itself p
    ∙ ap (λ k. Reads (take k bs) k) (sym (len ∙ ap char_len q)) ∙ ap (λ l. Reads l n) (sym shown_is)

-- an escape at the front
pub escape_reads : (bs rest : List ℕ) (c n : ℕ) → begins "\\" bs ≡ true → 1 ≤ length bs → rest ≡ drop 1 bs → IsRead (escaped rest) 1 rest (Some (c, n))
    → (double_quoted_character bs ≡ Reads (encode_utf8 c) (1 + n)) × TakesSome (1 + n) bs
escape_reads bs rest c n opens some rest_is h =
    let P : List ℕ → Type 0 = λ l. IsCharBoundary l n in
    let reads : double_quoted_character bs ≡ Reads (encode_utf8 c) (1 + n) = ap (λ (t : Bool). if t then escaped (drop 1 bs) else good_character bs) opens ∙ ap escaped (sym rest_is) ∙ h.0 in
    (reads, (omega arith, IsCharBoundary-from_rest bs 1 n some (subst P rest_is h.1)))

-- what stands for other bytes in a multi-line text
pub triple_reads : (bs : List ℕ) → IsUtf8 bs → begins "'''" bs ≡ true → (multi_line_character bs ≡ Reads (codes "''") 3) × TakesSome 3 bs
triple_reads bs u e =
    (multi_line_by bs true (begins "''${" bs) (first bs == tab) (line_end_len bs) e refl refl refl, (lit< tt, after_text (codes "'''") bs u e (lit< tt) (lit< tt)))

pub dollar_reads : (bs : List ℕ) → IsUtf8 bs → begins "'''" bs ≡ false → begins "''${" bs ≡ true → (multi_line_character bs ≡ Reads (codes "${") 4) × TakesSome 4 bs
dollar_reads bs u e f =
    (multi_line_by bs false true (first bs == tab) (line_end_len bs) e f refl refl, (lit< tt, after_text (codes "''${") bs u f (lit< tt) (lit< tt)))

pub line_end_reads : (bs : List ℕ) (n : ℕ) → IsUtf8 bs → begins "'''" bs ≡ false → begins "''${" bs ≡ false → line_end_len bs ≡ n → 0 < n → n ≤ length bs
    → (multi_line_character bs ≡ Reads (line_feed ∷ []) n) × TakesSome n bs
line_end_reads bs n u e f len some within = (
  multi_line_by bs false false (first bs == tab) n e f len refl
      ∙ ap (λ (t : Bool). if t then Reads (line_feed ∷ []) n else if first bs == tab then itself bs else good_character bs) (lt-ltb 0 n some),
  (some, after_line_end bs n u (sym len) some within),
)

pub tab_reads : (bs : List ℕ) (n : ℕ) → IsUtf8 bs → begins "'''" bs ≡ false → begins "''${" bs ≡ false → line_end_len bs ≡ n → n ≡ 0 → begins "\t" bs ≡ true
    → (multi_line_character bs ≡ Reads (tab ∷ []) 1) × TakesSome 1 bs
tab_reads bs n u e f len none g =
    let opened : bs ≡ tab ∷ drop 1 bs = (starts_is Decides-eqb bs (tab ∷ []) true (sym g)).0 refl in
    (multi_line_by bs false false true 0 e f (len ∙ none) (ap (λ l. first l == tab) opened) ∙ ap itself opened, (lit< tt, after_text (codes "\t") bs u g (lit< tt) (lit< tt)))

-- at the start nothing is read
pub started : (form : TextForm) (bs text : List ℕ) → IsUtf8 bs → text ≡ [] → ReadTo form bs text 0
started form bs text u e =
    let s = stretch (piece_character form) 0 bs in
    record { so_far = onto-none s ∙ ap (λ l. onto l 0 s) (sym e); whole = IsCharBoundary-start bs u }

plain_is_ascii : (b : ℕ) → is_plain b ≡ true → b < 128
plain_is_ascii b h = grind (arith, nat_tests)

pub plain_whole : (n : ℕ) (bs : List ℕ) → IsUtf8 bs → n ≤ prefix_len is_plain bs → IsCharBoundary bs n
plain_whole n bs u h = passing_boundary is_plain plain_is_ascii n bs u h

-- a piece ends where the text does, and where the closing or `${` stands
pub ends_past : (form : TextForm) (bs : List ℕ) (n : ℕ) → length bs ≤ n → stretch (piece_character form) 0 (drop n bs) ≡ UpTo [] 0
ends_past form bs n past = ap (stretch (piece_character form) 0) (drop_all n bs past)

pub ends_here : (form : TextForm) (bs here : List ℕ) (n : ℕ) → here ≡ drop n bs → piece_character form here ≡ Ends → stretch (piece_character form) 0 (drop n bs) ≡ UpTo [] 0
ends_here form bs here n here_is e = ap (stretch (piece_character form) 0) (sym here_is) ∙ no_front (piece_character form) here e

-- after the closing a character ends
closing_whole-by : (p bs : List ℕ) (n : ℕ) (closes more : Bool) → IsUtf8 bs → 0 < length p → get_or p (length p - 1) 0 < 128
    → closes ≡ (starts_with nat_eq bs p && more) → n ≡ (if closes then length p else 0) → 0 < n → IsCharBoundary bs n
closing_whole-by p bs n true more u size ascii closes n_is some =
    let P : ℕ → Type 0 = λ k. IsCharBoundary bs k in
    subst P (sym n_is) (after_text p bs u (and-true_left (starts_with nat_eq bs p) more (sym closes)) size ascii)
closing_whole-by p bs n false more u size ascii closes n_is some = absurd (omega (arith, n_is, some))

pub closing_whole : (form : TextForm) (bs : List ℕ) (n : ℕ) → IsUtf8 bs → n ≡ closing_len form bs → 0 < n → IsCharBoundary bs n
closing_whole DoubleQuoted bs n u n_is some =
    closing_whole-by (codes "\"") bs n (begins "\"" bs) true u (lit< tt) (lit< tt) (sym (and-true (begins "\"" bs))) n_is some
closing_whole MultiLine bs n u n_is some =
    let triple = not (begins "'''" bs) in
    let dollar = not (begins "''${" bs) in
    closing_whole-by (codes "''") bs n (begins "''" bs && triple && dollar) (triple && dollar) u (lit< tt) (lit< tt) (and_assoc (begins "''" bs) triple dollar) n_is some
