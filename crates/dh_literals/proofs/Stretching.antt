-- A stretch of a text by its parts.
use Rattle.std.proofs.Common.{◌≡◌, ℕ, suc, ◌+◌, ◌<◌, ◌≤◌, ◌≢◌, true, false, if◌then◌else◌, List, [], ◌∷◌, ◌++◌, length, get_or, ◌==◌, drop, take, length-append, append_assoc, refl, ap, sym, subst, ◌∙◌, arith}
use lib.Utf8.{scalar, scalars, encode, encodes, scalar_cases}
use Rattle.std.proofs.str.Laws.{Shape, shape, of1, of2, of3, of4}
use Rattle.std.proofs.lemmas.Bool.Decides.{nat_tests}
use Rattle.std.proofs.lemmas.List.{drop_at, take_at, get_or_append_left, get_or-append-add}
use Rattle.std.specs.Str.{IsUtf8, byte, continuation_len}
use Rattle.dh_syntax.specs.Text.Literals.{escaped, escape_or_character}
use Rattle.dh_syntax.specs.Text.Stretches.{Character, Reads, Faults, Stretch, UpTo, FaultAt, by_character, further, stretch, itself}
use Rattle.dh_syntax.proofs.LexingLaws.{lengthened, stretch-skip}
use Rattle.dh_syntax.proofs.Numbers.{and-true_left, and-true_right}

-- a stretch after so many bytes that stand for these
abbrev pub onto : List ℕ → ℕ → Stretch → Stretch
onto front k (UpTo text n) = UpTo (front ++ text) (k + n)
onto front k (FaultAt n) = FaultAt (k + n)

pub onto-none : (s : Stretch) → s ≡ onto [] 0 s
onto-none (UpTo text n) = let e : n ≡ 0 + n = omega arith in ap (UpTo text) e
onto-none (FaultAt n) = let e : n ≡ 0 + n = omega arith in ap FaultAt e

pub onto-onto : (xs ys : List ℕ) (j k : ℕ) (s : Stretch) → onto xs j (onto ys k s) ≡ onto (xs ++ ys) (j + k) s
onto-onto xs ys j k (UpTo text n) = let e : j + (k + n) ≡ j + k + n = omega arith in ap (λ l. UpTo l (j + (k + n))) (sym (append_assoc xs ys text)) ∙ ap (UpTo (xs ++ ys ++ text)) e
onto-onto xs ys j k (FaultAt n) = let e : j + (k + n) ≡ j + k + n = omega arith in ap FaultAt e

further-lengthened : (front : List ℕ) (n : ℕ) (s : Stretch) → further front (lengthened n s) ≡ onto front (suc n) s
further-lengthened front n (UpTo text m) = let e : suc (n + m) ≡ suc n + m = omega arith in ap (UpTo (front ++ text)) e
further-lengthened front n (FaultAt m) = let e : suc (n + m) ≡ suc n + m = omega arith in ap FaultAt e

-- a stretch by the character at its front
pub by_first : (at : List ℕ → Character) (b n : ℕ) (bs front : List ℕ) → n ≤ length bs → at (b ∷ bs) ≡ Reads front (suc n) → stretch at 0 (b ∷ bs) ≡ onto front (suc n) (stretch at 0 (drop n bs))
by_first at b n bs front h e = ap (λ c. by_character c (λ k. stretch at k bs)) e ∙ ap (further front) (stretch-skip at n bs h) ∙ further-lengthened front n (stretch at 0 (drop n bs))

-- a character's first byte tells how many follow
pub record HasHead (c : ℕ) : Type 0 where
  pub head : ℕ
  pub tail : List ℕ
  pub is : encode c ≡ head ∷ tail
  pub counts : continuation_len head ≡ length tail

pub has_head : (c : ℕ) → Shape c → HasHead c
has_head c (of1 h e) = record { head = c; tail = []; is = e; counts = grind (arith, nat_tests) }
has_head c (of2 a b l h f s e) = record { head = a; tail = b ∷ []; is = e; counts = grind (arith, nat_tests) }
has_head c (of3 a b d l h f g s e) = record { head = a; tail = b ∷ d ∷ []; is = e; counts = grind (arith, nat_tests) }
has_head c (of4 a b d x l h f g k s e) = record { head = a; tail = b ∷ d ∷ x ∷ []; is = e; counts = grind (arith, nat_tests) }

by_itself : (b : ℕ) (bs rest : List ℕ) → continuation_len b ≡ length bs → b ≢ byte "\\" → stretch escape_or_character 0 (b ∷ bs ++ rest) ≡ onto (b ∷ bs) (length (b ∷ bs)) (stretch escape_or_character 0 rest)
by_itself b bs rest counts plain =
    let other : (b == byte "\\") ≡ false = grind (arith, nat_tests) in
    let size : length bs ≤ length (bs ++ rest) = omega (arith, length-append bs rest) in
    let reads : escape_or_character (b ∷ (bs ++ rest)) ≡ Reads (b ∷ bs) (suc (length bs)) =
    ap (λ t. if t then escaped (bs ++ rest) else itself (b ∷ (bs ++ rest))) other
    ∙ ap (λ k. Reads (take (suc k) (b ∷ (bs ++ rest))) (suc k)) counts
    ∙ ap (λ l. Reads (b ∷ l) (suc (length bs))) (take_at bs rest (length bs) refl) in
    by_first escape_or_character b (length bs) (bs ++ rest) (b ∷ bs) size reads
    ∙ ap (λ l. onto (b ∷ bs) (suc (length bs)) (stretch escape_or_character 0 l)) (drop_at bs rest (length bs) refl)

-- a character that is no backslash stands for itself
pub one_character : (c : ℕ) (rest : List ℕ) → scalar c ≡ true → get_or (encode c) 0 0 ≢ byte "\\" → stretch escape_or_character 0 (encode c ++ rest) ≡ onto (encode c) (length (encode c)) (stretch escape_or_character 0 rest)
one_character c rest s plain =
    let h = has_head c (shape c (scalar_cases c s)) in
    let P : List ℕ → Type 0 = λ l. stretch escape_or_character 0 (l ++ rest) ≡ onto l (length l) (stretch escape_or_character 0 rest) in
    let other : h.head ≢ byte "\\" = λ e. plain (ap (λ l. get_or l 0 0) h.is ∙ e) in
    subst P (sym h.is) (by_itself h.head h.tail rest h.counts other)

pub some_bytes : (c : ℕ) → scalar c ≡ true → 0 < length (encode c)
some_bytes c s = let h = has_head c (shape c (scalar_cases c s)) in let e : length (encode c) ≡ suc (length h.tail) = ap length h.is in omega arith

-- and so does a text without one
plain_chars : (cs : List ℕ) (rest : List ℕ) → scalars cs ≡ true → ((i : ℕ) → i < length (encodes cs) → get_or (encodes cs) i 0 ≢ byte "\\") → stretch escape_or_character 0 (encodes cs ++ rest) ≡ onto (encodes cs) (length (encodes cs)) (stretch escape_or_character 0 rest)
plain_chars [] rest s plain = onto-none (stretch escape_or_character 0 rest)
plain_chars (c ∷ cs) rest s plain =
    let one = and-true_left (scalar c) (scalars cs) s in
    let more = and-true_right (scalar c) (scalars cs) s in
    let size = length-append (encode c) (encodes cs) in
    let some = some_bytes c one in
    let first_plain : get_or (encode c) 0 0 ≢ byte "\\" = λ e. plain 0 (omega (arith, size, some)) (get_or_append_left (encode c) (encodes cs) 0 0 some ∙ e) in
    let later_plain : (i : ℕ) → i < length (encodes cs) → get_or (encodes cs) i 0 ≢ byte "\\" = λ i h e. plain (length (encode c) + i) (omega (arith, size, h)) (get_or-append-add (encode c) (encodes cs) i 0 ∙ e) in
    ap (stretch escape_or_character 0) (append_assoc (encode c) (encodes cs) rest)
    ∙ one_character c (encodes cs ++ rest) one first_plain
    ∙ ap (onto (encode c) (length (encode c))) (plain_chars cs rest more later_plain)
    ∙ onto-onto (encode c) (encodes cs) (length (encode c)) (length (encodes cs)) (stretch escape_or_character 0 rest)
    ∙ ap (λ k. onto (encode c ++ encodes cs) k (stretch escape_or_character 0 rest)) (sym size)

pub plain_text : (bs rest : List ℕ) → IsUtf8 bs → ((i : ℕ) → i < length bs → get_or bs i 0 ≢ byte "\\") → stretch escape_or_character 0 (bs ++ rest) ≡ onto bs (length bs) (stretch escape_or_character 0 rest)
plain_text bs rest u plain =
    let P : List ℕ → Type 0 = λ l. ((i : ℕ) → i < length l → get_or l i 0 ≢ byte "\\") → stretch escape_or_character 0 (l ++ rest) ≡ onto l (length l) (stretch escape_or_character 0 rest) in
    subst P u.1.1 (plain_chars u.0 rest u.1.0) plain

-- an escape
pub one_escape : (bs front : List ℕ) (n : ℕ) → n ≤ length bs → escaped bs ≡ Reads front (1 + n) → stretch escape_or_character 0 (byte "\\" ∷ bs) ≡ onto front (1 + n) (stretch escape_or_character 0 (drop n bs))
one_escape bs front n h e =
    let size : 1 + n ≡ suc n = omega arith in
    by_first escape_or_character (byte "\\") n bs front h (e ∙ ap (Reads front) size) ∙ ap (λ k. onto front k (stretch escape_or_character 0 (drop n bs))) (sym size)

-- a backslash that begins none
pub no_escape : (bs : List ℕ) → escaped bs ≡ Faults → stretch escape_or_character 0 (byte "\\" ∷ bs) ≡ FaultAt 0
no_escape bs e = ap (λ c. by_character c (λ k. stretch escape_or_character k bs)) e
