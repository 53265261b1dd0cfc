-- Laws of lexing for a reader that goes from place to place: bytes that are read already may be dropped.
use Rattle.std.specs.Prelude.{◌≡◌, ℕ, zero, suc, ◌+◌, ◌≤◌, Bool, List, [], ◌∷◌, Option, length, drop, refl}
use Rattle.std.proofs.Common.{◌∙◌, ap, arith}
use Rattle.dh_syntax.specs.Text.LexGaps.{Comment, ClosedAfter, FaultyAfter, NotClosed, one_further, comment}
use Rattle.dh_syntax.specs.Text.LexLocations.{Component, Components, a_byte_more, components, more_labels, url_chars_len}
use Rattle.dh_syntax.specs.Text.Lexing.{State, start, tokens_from, lex}
use Rattle.dh_syntax.specs.Text.Stretches.{Character, Stretch, UpTo, FaultAt, further, stretch}

-- the lexer starts outside every text
pub lex-from_start : (bs : List ℕ) → lex bs ≡ tokens_from start 0 0 bs
unfolding lex
lex-from_start bs = refl

pub tokens_from-skip : (s : State) (skip at : ℕ) (bs : List ℕ) → skip ≤ length bs → tokens_from s skip at bs ≡ tokens_from s 0 (at + skip) (drop skip bs)
tokens_from-skip s zero at bs h =
    let e : at ≡ at + 0 = omega arith in
    ap (λ n. tokens_from s 0 n bs) e
tokens_from-skip s (suc skip) at [] h = absurd (omega (arith, h))
tokens_from-skip s (suc skip) at (b ∷ bs) h =
    let e : suc at + skip ≡ at + suc skip = omega arith in
    tokens_from-skip s skip (suc at) bs (omega (arith, h)) ∙ ap (λ n. tokens_from s 0 n (drop skip bs)) e

-- a stretch with so many bytes before it that stand for nothing
abbrev pub lengthened : ℕ → Stretch → Stretch
lengthened k (UpTo text n) = UpTo text (k + n)
lengthened k (FaultAt n) = FaultAt (k + n)

lengthened-zero : (s : Stretch) → s ≡ lengthened 0 s
lengthened-zero (UpTo text n) = let e : n ≡ 0 + n = omega arith in ap (UpTo text) e
lengthened-zero (FaultAt n) = let e : n ≡ 0 + n = omega arith in ap FaultAt e

lengthened-suc : (k : ℕ) (s : Stretch) → further [] (lengthened k s) ≡ lengthened (suc k) s
lengthened-suc k (UpTo text n) = let e : suc (k + n) ≡ suc k + n = omega arith in ap (UpTo text) e
lengthened-suc k (FaultAt n) = let e : suc (k + n) ≡ suc k + n = omega arith in ap FaultAt e

pub stretch-skip : (at : List ℕ → Character) (skip : ℕ) (bs : List ℕ) → skip ≤ length bs → stretch at skip bs ≡ lengthened skip (stretch at 0 (drop skip bs))
stretch-skip at zero bs h = lengthened-zero (stretch at 0 bs)
stretch-skip at (suc skip) [] h = absurd (omega (arith, h))
stretch-skip at (suc skip) (b ∷ bs) h = ap (further []) (stretch-skip at skip bs (omega (arith, h))) ∙ lengthened-suc skip (stretch at 0 (drop skip bs))

-- a comment with so many bytes before it
abbrev pub after_bytes : ℕ → Comment → Comment
after_bytes k (ClosedAfter n) = ClosedAfter (k + n)
after_bytes k (FaultyAfter n) = FaultyAfter (k + n)
after_bytes k NotClosed = NotClosed

after_bytes-zero : (c : Comment) → c ≡ after_bytes 0 c
after_bytes-zero (ClosedAfter n) = let e : n ≡ 0 + n = omega arith in ap ClosedAfter e
after_bytes-zero (FaultyAfter n) = let e : n ≡ 0 + n = omega arith in ap FaultyAfter e
after_bytes-zero NotClosed = refl

after_bytes-suc : (k : ℕ) (c : Comment) → one_further (after_bytes k c) ≡ after_bytes (suc k) c
after_bytes-suc k (ClosedAfter n) = let e : suc (k + n) ≡ suc k + n = omega arith in ap ClosedAfter e
after_bytes-suc k (FaultyAfter n) = let e : suc (k + n) ≡ suc k + n = omega arith in ap FaultyAfter e
after_bytes-suc k NotClosed = refl

pub comment-skip : (inner skip : ℕ) (bs : List ℕ) → skip ≤ length bs → comment inner skip bs ≡ after_bytes skip (comment inner 0 (drop skip bs))
comment-skip inner zero bs h = after_bytes-zero (comment inner 0 bs)
comment-skip inner (suc skip) [] h = absurd (omega (arith, h))
comment-skip inner (suc skip) (b ∷ bs) h = ap one_further (comment-skip inner skip bs (omega (arith, h))) ∙ after_bytes-suc skip (comment inner 0 (drop skip bs))

-- components with so many bytes before them
abbrev pub more_bytes : ℕ → Components → Components
more_bytes k cs = record cs { total = k + cs.total }

totalling : (cs : Components) (m n : ℕ) → m ≡ n → record cs { total = m } ≡ record cs { total = n }
totalling cs m n e =
    let with_total : ℕ → Components = λ k. record cs { total = k } in
    ap with_total e

pub components-skip : (component : List ℕ → Option Component) (skip : ℕ) (bs : List ℕ) → skip ≤ length bs → components component skip bs ≡ more_bytes skip (components component 0 (drop skip bs))
components-skip component zero bs h =
    let cs = components component 0 bs in
    let e : cs.total ≡ 0 + cs.total = omega arith in
    totalling cs cs.total (0 + cs.total) e
components-skip component (suc skip) [] h = absurd (omega (arith, h))
components-skip component (suc skip) (b ∷ bs) h =
    let cs = components component 0 (drop skip bs) in
    let e : suc (skip + cs.total) ≡ suc skip + cs.total = omega arith in
    ap a_byte_more (components-skip component skip bs (omega (arith, h))) ∙ totalling cs (suc (skip + cs.total)) (suc skip + cs.total) e

pub more_labels-skip : (skip : ℕ) (bs : List ℕ) → skip ≤ length bs → more_labels skip bs ≡ skip + more_labels 0 (drop skip bs)
more_labels-skip zero bs h = let e : more_labels 0 bs ≡ 0 + more_labels 0 bs = omega arith in e
more_labels-skip (suc skip) [] h = absurd (omega (arith, h))
more_labels-skip (suc skip) (b ∷ bs) h =
    let e : suc (skip + more_labels 0 (drop skip bs)) ≡ suc skip + more_labels 0 (drop skip bs) = omega arith in
    ap suc (more_labels-skip skip bs (omega (arith, h))) ∙ e

pub url_chars_len-skip : (plain : ℕ → Bool) (skip : ℕ) (bs : List ℕ) → skip ≤ length bs → url_chars_len plain skip bs ≡ skip + url_chars_len plain 0 (drop skip bs)
url_chars_len-skip plain zero bs h = let e : url_chars_len plain 0 bs ≡ 0 + url_chars_len plain 0 bs = omega arith in e
url_chars_len-skip plain (suc skip) [] h = absurd (omega (arith, h))
url_chars_len-skip plain (suc skip) (b ∷ bs) h =
    let e : suc (skip + url_chars_len plain 0 (drop skip bs)) ≡ suc skip + url_chars_len plain 0 (drop skip bs) = omega arith in
    ap suc (url_chars_len-skip plain skip bs (omega (arith, h))) ∙ e
