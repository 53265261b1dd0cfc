-- One chunk after the other: what the first chunk of a stream leaves of its body.
use Rattle.std.proofs.Common.{◌≡◌, ℕ, ◌+◌, ◌-◌, ◌<◌, ◌≤◌, ◌⊎◌, inl, inr, List, [], ◌∷◌, ◌++◌, length, take, drop, refl, sym, ap, ◌∙◌, arith, append_assoc, subst}
use Rattle.std.proofs.lemmas.List.{length-append, take_at, drop_at}
use Rattle.httparse.specs.Ascii.{crlf_bytes}
use Rattle.httparse.specs.Grammar.{ChunkLine, chunk_size}
use Rattle.httparse.proofs.ChunkLemmas.{chunk_line_unique}
use Rattle.dh_http.specs.Bodies.{HasLine, HasTrailer, HasChunks, HasLastChunk, HasChunkPart, joined, HasBody}
use Rattle.dh_http.specs.declared.framings.Framing.TheVariants.{Chunked}

pub same_line : (s : List ℕ) (l k : ChunkLine) (r q : List ℕ) → HasLine s l r → HasLine s k q → (l ≡ k) × (r ≡ q)
same_line s l k r q x y = chunk_line_unique s l k r q x.0 y.0

-- two lists with one front of one length
pub split_same : (xs ys us vs : List ℕ) → xs ++ us ≡ ys ++ vs → length xs ≡ length ys → (xs ≡ ys) × (us ≡ vs)
split_same xs ys us vs e l = (
  sym (take_at xs us (length ys) l) ∙ ap (take (length ys)) e ∙ take_at ys vs (length ys) refl,
  sym (drop_at xs us (length ys) l) ∙ ap (drop (length ys)) e ∙ drop_at ys vs (length ys) refl,
)

-- a body that ends with the first chunk line
pub record Ends (n : ℕ) (l : ChunkLine) (rest b : List ℕ) : Type 0 where
  pub size : chunk_size l ≡ 0
  pub trailer : HasTrailer rest
  pub empty : b ≡ []
  pub room : 0 < n

-- a body that is a part of the first chunk
pub record IsPart (n : ℕ) (l : ChunkLine) (rest b : List ℕ) : Type 0 where
  pub after : List ℕ
  pub is : rest ≡ b ++ after
  pub bound : length b ≤ chunk_size l
  pub full : length b ≡ n

-- a body that goes on after the first chunk
pub record GoesOn (n : ℕ) (l : ChunkLine) (rest b : List ℕ) : Type 0 where
  pub piece : List ℕ
  pub after : List ℕ
  pub more : List ℕ
  pub is : rest ≡ piece ++ (crlf_bytes ++ after)
  pub size : chunk_size l ≡ length piece
  pub some : 0 < length piece
  pub joins : b ≡ piece ++ more
  pub bound : length piece ≤ n
  pub body : HasBody (n - length piece) Chunked after more

abbrev pub First : ℕ → ChunkLine → List ℕ → List ℕ → Type 0
First n l rest b = Ends n l rest b ⊎ (IsPart n l rest b ⊎ GoesOn n l rest b)

first_of_whole : (n : ℕ) (parts : List (List ℕ)) (s t b : List ℕ) (l : ChunkLine) (rest : List ℕ) → HasChunks s parts t → HasLastChunk t → b ≡ joined parts
    → length b < n → HasLine s l rest → First n l rest b
first_of_whole n [] s t b l rest chunks last e h line =
    let same : (last.0 ≡ l) × (last.1 ≡ rest) = same_line s last.0 l last.1 rest (subst (λ x. HasLine x last.0 last.1) (sym chunks) last.2) line in
    inl (record { size = ap chunk_size (sym same.0) ∙ last.3; trailer = subst HasTrailer same.1 last.4; empty = e; room = omega (arith, h) })
first_of_whole n (p ∷ ps) s t b l rest chunks last e h line =
    let chunk = chunks.1 in
    let same : (chunk.0 ≡ l) × (p ++ (crlf_bytes ++ chunks.0) ≡ rest) = same_line s chunk.0 l (p ++ (crlf_bytes ++ chunks.0)) rest chunk.1 line in
    let long : length b ≡ length p + length (joined ps) = ap length e ∙ length-append p (joined ps) in
    inr (inr (record {
      piece = p;
      after = chunks.0;
      more = joined ps;
      is = sym same.1;
      size = ap chunk_size (sym same.0) ∙ chunk.2;
      some = chunk.3;
      joins = e;
      bound = omega (arith, long, h);
      body = inl ((ps, t, chunks.2, last, refl), omega (arith, long, h));
    }))

first_of_part : (n : ℕ) (parts : List (List ℕ)) (s t part b : List ℕ) (l : ChunkLine) (rest : List ℕ) → HasChunks s parts t → HasChunkPart t part
    → b ≡ joined parts ++ part → length b ≡ n → HasLine s l rest → First n l rest b
first_of_part n [] s t part b l rest chunks last e h line =
    let same : (last.0 ≡ l) × (part ++ last.1 ≡ rest) =
    same_line s last.0 l (part ++ last.1) rest (subst (λ x. HasLine x last.0 (part ++ last.1)) (sym chunks) last.2) line in
    let le : length b ≤ chunk_size l = omega (arith, last.3, ap length e, ap chunk_size same.0) in
    inr (inl (record { after = last.1; is = sym same.1 ∙ ap (λ x. x ++ last.1) (sym e); bound = le; full = h }))
first_of_part n (p ∷ ps) s t part b l rest chunks last e h line =
    let chunk = chunks.1 in
    let same : (chunk.0 ≡ l) × (p ++ (crlf_bytes ++ chunks.0) ≡ rest) = same_line s chunk.0 l (p ++ (crlf_bytes ++ chunks.0)) rest chunk.1 line in
    let joins : b ≡ p ++ (joined ps ++ part) = e ∙ append_assoc p (joined ps) part in
    let long : length b ≡ length p + length (joined ps ++ part) = ap length joins ∙ length-append p (joined ps ++ part) in
    inr (inr (record {
      piece = p;
      after = chunks.0;
      more = joined ps ++ part;
      is = sym same.1;
      size = ap chunk_size (sym same.0) ∙ chunk.2;
      some = chunk.3;
      joins = joins;
      bound = omega (arith, long, h);
      body = inr ((ps, t, part, chunks.2, last, refl), omega (arith, long, h));
    }))

-- what the first chunk line leaves of a body
pub first_of : (n : ℕ) (s b : List ℕ) (l : ChunkLine) (rest : List ℕ) → HasBody n Chunked s b → HasLine s l rest → First n l rest b
first_of n s b l rest (inl w) line = first_of_whole n w.0.0 s w.0.1 b l rest w.0.2 w.0.3 w.0.4 w.1 line
first_of n s b l rest (inr w) line = first_of_part n w.0.0 s w.0.1 w.0.2 b l rest w.0.3 w.0.4 w.0.5 w.1 line

line_of_chunks : (parts : List (List ℕ)) (s t : List ℕ) (l : ChunkLine) (rest : List ℕ) → HasChunks s parts t → HasLine t l rest
    → (k : ChunkLine) × (q : List ℕ) × HasLine s k q
line_of_chunks [] s t l rest chunks line = (l, rest, subst (λ x. HasLine x l rest) (sym chunks) line)
line_of_chunks (p ∷ ps) s t l rest chunks line = (chunks.1.0, p ++ (crlf_bytes ++ chunks.0), chunks.1.1)

-- a body begins with a chunk line
pub line_of : (n : ℕ) (s b : List ℕ) → HasBody n Chunked s b → (l : ChunkLine) × (rest : List ℕ) × HasLine s l rest
line_of n s b (inl w) = line_of_chunks w.0.0 s w.0.1 w.0.3.0 w.0.3.1 w.0.2 w.0.3.2
line_of n s b (inr w) = line_of_chunks w.0.0 s w.0.1 w.0.4.0 (w.0.2 ++ w.0.4.1) w.0.3 w.0.4.2

-- ---- the ways on, from a chunk line at the front

pub body_ends : (n : ℕ) (s : List ℕ) (l : ChunkLine) (rest : List ℕ) → HasLine s l rest → chunk_size l ≡ 0 → HasTrailer rest → 0 < n → HasBody n Chunked s []
body_ends n s l rest line size trailer room = inl (([], s, refl, (l, rest, line, size, trailer), refl), room)

pub body_cut : (n : ℕ) (s d t : List ℕ) (l : ChunkLine) → HasLine s l (d ++ t) → length d ≤ chunk_size l → length d ≡ n → HasBody n Chunked s d
body_cut n s d t l line le full = inr (([], s, d, refl, (l, t, line, le), refl), full)

pub body_goes_on : (n : ℕ) (s d t b : List ℕ) (l : ChunkLine) → HasLine s l (d ++ (crlf_bytes ++ t)) → chunk_size l ≡ length d → 0 < length d
    → length d ≤ n → HasBody (n - length d) Chunked t b → HasBody n Chunked s (d ++ b)
body_goes_on n s d t b l line size some bound (inl w) =
    inl ((d ∷ w.0.0, w.0.1, (t, (l, line, size, some), w.0.2), w.0.3, ap (λ x. d ++ x) w.0.4), omega (arith, w.1, length-append d b))
body_goes_on n s d t b l line size some bound (inr w) =
    inr (
      (
        d ∷ w.0.0,
        w.0.1,
        w.0.2,
        (t, (l, line, size, some), w.0.3),
        w.0.4,
        ap (λ x. d ++ x) w.0.5 ∙ sym (append_assoc d (joined w.0.0) w.0.2),
      ),
      omega (arith, w.1, length-append d b),
    )
