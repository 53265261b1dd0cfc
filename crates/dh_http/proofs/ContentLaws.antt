-- Chunks of a body, from what was read.
use Rattle.std.proofs.Common.{Result, Ok, Err, IfOk, ◌≡◌, ◌≢◌, ℕ, ◌+◌, ◌-◌, ◌<◌, ◌≤◌, min, inl, inr, List, [], ◌++◌, length, Option, Some, None, IfSome, true, false, refl, sym, ap, ◌∙◌, arith, append-nil, append_assoc, subst}
use Rattle.std.proofs.lemmas.List.{length-append, append_cancel_left}
use Rattle.std.specs.Io.KnownBytes.{Consumes, IsAtEnd}
use Rattle.httparse.specs.Ascii.{crlf_bytes}
use Rattle.httparse.specs.Grammar.{ChunkLine, IsChunkLine, print_chunk_line, chunk_size}
use Rattle.dh_http.specs.Bodies.{most_line, HasLine, HasTrailer, HasBody}
use Rattle.dh_http.specs.Content.{room, LacksData, TakesData, Leaves, TakesChunk, TakesBody}
use Rattle.dh_http.specs.Forms.{Went, WhereKnown, TakesBytes, TakesLine, TakesTrailer}
use Rattle.dh_http.specs.Reading.{Place, Took, Fits, TakesAll, ahead}
use Rattle.dh_http.specs.Reply.{most_found}
use Rattle.dh_http.specs.declared.bodies.Chunk.{Chunk}
use Rattle.dh_http.specs.declared.bodies.Chunk.TheVariants.{More, Last, Other}
use Rattle.dh_http.specs.declared.framings.Framing.TheVariants.{Chunked}
use Rattle.dh_http.proofs.ChunkSteps.{First, first_of, line_of, body_ends, body_cut, body_goes_on, split_same}
use Rattle.dh_http.proofs.FormLaws.{where_known, known_first}
use Rattle.dh_http.proofs.Places.{Took_then, Took_ahead, Took_none}

-- chunks were read, and the body goes on after them
pub record HasChunked (first now : Place) (body : List ℕ) : Type 0 where
  pub went : Went first now
  pub bound : length body < most_found
  pub leaves : WhereKnown first (λ s. WhereKnown now (λ r. Leaves most_found s r body))

pub leaves_none : (n : ℕ) (s : List ℕ) → Leaves n s s []
leaves_none n s =
    let same : n - 0 ≡ n = omega arith in
    record { from = λ b h. (b, refl, subst (λ k. HasBody k Chunked s b) (sym same) h); back = λ b h. subst (λ k. HasBody k Chunked s b) same h }

pub leaves_then : (n : ℕ) (s r q xs ys : List ℕ) → Leaves n s r xs → Leaves (n - length xs) r q ys → Leaves n s q (xs ++ ys)
leaves_then n s r q xs ys f g =
    let count : n - length xs - length ys ≡ n - length (xs ++ ys) = omega (arith, length-append xs ys) in
    record {
      from = λ b h.
          let one = f.from b h in
          let two = g.from one.0 one.2 in
          (two.0, one.1 ∙ ap (λ t. xs ++ t) two.1 ∙ sym (append_assoc xs ys two.0), subst (λ k. HasBody k Chunked q two.0) count two.2);
      back = λ b h.
          subst (HasBody n Chunked s) (sym (append_assoc xs ys b))
          (f.back (ys ++ b) (g.back b (subst (λ k. HasBody k Chunked q b) (sym count) h)));
    }

pub known_map : (o : Option (List ℕ)) (P Q : List ℕ → Type 0) → IfSome o P → ((s : List ℕ) → P s → Q s) → IfSome o Q
known_map None P Q h f = tt
known_map (Some s) P Q h f = f s h

pub known_top : (o : Option (List ℕ)) → IfSome o (λ s. Unit {0})
known_top None = tt
known_top (Some s) = tt

both_known : (o k : Option (List ℕ)) (xs : List ℕ) (P : List ℕ → List ℕ → Type 0) → Consumes o k xs → ((s r : List ℕ) → s ≡ xs ++ r → P s r)
    → IfSome o (λ s. IfSome k (P s))
both_known None k xs P c f = tt
both_known (Some s) None xs P c f = absurd c
both_known (Some s) (Some r) xs P c f = f s r c

known_on : (o k : Option (List ℕ)) (xs : List ℕ) (L : List ℕ → List ℕ → Type 0) (P Q : List ℕ → Type 0) → Consumes o k xs
    → IfSome o (λ s. IfSome k (L s)) → IfSome k P → ((s r : List ℕ) → L s r → P r → Q s) → IfSome o Q
known_on None k xs L P Q c h p f = tt
known_on (Some s) None xs L P Q c h p f = absurd c
known_on (Some s) (Some r) xs L P Q c h p f = f s r h p

both_on : (o k m : Option (List ℕ)) (xs : List ℕ) (L M N : List ℕ → List ℕ → Type 0) → Consumes o k xs
    → IfSome o (λ s. IfSome k (L s)) → IfSome k (λ r. IfSome m (M r)) → ((s r q : List ℕ) → L s r → M r q → N s q)
    → IfSome o (λ s. IfSome m (N s))
both_on None k m xs L M N c h p f = tt
both_on (Some s) None m xs L M N c h p f = absurd c
both_on (Some s) (Some r) None xs L M N c h p f = tt
both_on (Some s) (Some r) (Some q) xs L M N c h p f = f s r q h p

-- ---- the data of a chunk

pub data_more : (a b c : Place) (old mid : List ℕ) (size want : ℕ) → TakesAll a b old mid want true → want ≡ min size (most_found - length old)
    → length old < most_found → length mid ≢ most_found → TakesBytes b c crlf_bytes true → TakesData a c old mid size More
data_more a b c old mid size want t w some more crlf =
    let long : length mid ≡ length old + length t.bytes = ap length t.added ∙ length-append old t.bytes in
    (t.bytes, Took_then a b c t.bytes crlf_bytes t.took crlf, t.added, omega (arith, t.enough, w, long, more), omega (arith, t.bound, w, long, more))

lacks_crlf : (n size : ℕ) (bytes r : List ℕ) → length bytes ≡ size → size < n → ((rest : List ℕ) → r ≢ crlf_bytes ++ rest) → LacksData n size (bytes ++ r)
lacks_crlf n size bytes r l h none = record {
  part = λ first rest e full le. absurd (omega (arith, full, le, h));
  whole = λ piece rest e same le. none rest ((split_same bytes piece r (crlf_bytes ++ rest) e (l ∙ sym same)).1);
}

pub data_other : (a b c : Place) (old mid : List ℕ) (size want : ℕ) → TakesAll a b old mid want true → want ≡ min size (most_found - length old)
    → length old < most_found → length mid ≢ most_found → TakesBytes b c crlf_bytes false → TakesData a c old mid size Other
data_other a b c old mid size want t w some more crlf =
    let long : length mid ≡ length old + length t.bytes = ap length t.added ∙ length-append old t.bytes in
    let whole : length t.bytes ≡ size = omega (arith, t.enough, w, long, more) in
    let below : size < room old = omega (arith, t.enough, w, long, more) in (
      (_, Took_then a b c t.bytes crlf.0.0 t.took crlf.0.1),
      known_first a b t.bytes (LacksData (room old) size) _ t.took crlf.1 (λ r none. lacks_crlf (room old) size t.bytes r whole below none),
    )

lacks_all : (n size : ℕ) (bytes r : List ℕ) → r ≡ [] → length bytes < min size n → LacksData n size (bytes ++ r)
lacks_all n size bytes r e h =
    let nothing : length r ≡ 0 = ap length e in
    record {
      part = λ first rest is full le. absurd (omega (arith, full, le, h, nothing, ap length is, length-append bytes r, length-append first rest));
      whole = λ piece rest is same le. absurd (omega (arith, same, le, h, nothing, ap length is, length-append bytes r, length-append piece (crlf_bytes ++ rest)));
    }

pub data_short : (a b : Place) (old mid : List ℕ) (size want : ℕ) → TakesAll a b old mid want false → want ≡ min size (most_found - length old)
    → TakesData a b old mid size Other
data_short a b old mid size want t w = (
  (t.bytes, t.took),
  known_first a b t.bytes (LacksData (room old) size) (λ r. r ≡ []) t.took
      (where_known b (λ r. r ≡ []) (λ left e. ap (λ x. x ++ left) t.enough.1.0 ∙ subst IsAtEnd e (t.took.fits t.enough.1.1)))
      (λ r e. lacks_all (room old) size t.bytes r e (omega (arith, t.enough.0, w))),
)

-- ---- chunks

pub chunk_none : (a b : Place) (body : List ℕ) → TakesLine a b None → TakesChunk a b body body Other
chunk_none a b body t = (
  t.0,
  known_map (ahead a.left a.inbox) _ _ t.1 (λ s none x h.
      let line = line_of (room body) s x h in none line.0 line.1 line.2),
)

line_there : (l : ChunkLine) (r : List ℕ) → IsChunkLine l → length (print_chunk_line l) ≤ most_line → HasLine (print_chunk_line l ++ r) l r
line_there l r is short = ((is, refl), short)

pub chunk_last : (a b c : Place) (body : List ℕ) → TakesLine a b (Some 0) → TakesTrailer b c true → length body < most_found
    → TakesChunk a c body body Last
chunk_last a b c body t q some = (
  (_, Took_then a b c (print_chunk_line t.0) q.0.0 t.1 q.0.1),
  (
    [],
    sym (append-nil body),
    omega (arith, some),
    known_first a b (print_chunk_line t.0) _ HasTrailer t.1 q.1 (λ r trailer.
        body_ends (room body) _ t.0 r (line_there t.0 r t.2 t.3) (sym t.4) trailer (omega (arith, some))),
  ),
)

no_trailer_first : (n : ℕ) (l : ChunkLine) (r x : List ℕ) → chunk_size l ≡ 0 → 0 < n → ¬ (HasTrailer r) → ¬ (First n l r x)
no_trailer_first n l r x size some none (inl f) = none f.trailer
no_trailer_first n l r x size some none (inr (inl f)) = absurd (omega (arith, size, some, f.bound, f.full))
no_trailer_first n l r x size some none (inr (inr f)) = absurd (omega (arith, size, f.size, f.some))

pub chunk_no_trailer : (a b c : Place) (body : List ℕ) → TakesLine a b (Some 0) → TakesTrailer b c false → length body < most_found
    → TakesChunk a c body body Other
chunk_no_trailer a b c body t q some = (
  (_, Took_then a b c (print_chunk_line t.0) q.0.0 t.1 q.0.1),
  known_first a b (print_chunk_line t.0) _ _ t.1 q.1 (λ r none x h.
      no_trailer_first (room body) t.0 r x (sym t.4) (omega (arith, some)) none
      (first_of (room body) _ x t.0 r h (line_there t.0 r t.2 t.3))),
)

leaves_first : (n : ℕ) (s r d x : List ℕ) (l : ChunkLine) → chunk_size l ≡ length d → 0 < length d → length d < n → First n l (d ++ (crlf_bytes ++ r)) x
    → (more : List ℕ) × (x ≡ d ++ more) × HasBody (n - length d) Chunked r more
leaves_first n s r d x l size some bound (inl f) = absurd (omega (arith, size, some, f.size))
leaves_first n s r d x l size some bound (inr (inl f)) = absurd (omega (arith, size, bound, f.bound, f.full))
leaves_first n s r d x l size some bound (inr (inr f)) =
    let same : (f.piece ≡ d) × (crlf_bytes ++ f.after ≡ crlf_bytes ++ r) =
    split_same f.piece d (crlf_bytes ++ f.after) (crlf_bytes ++ r) (sym f.is) (sym f.size ∙ size) in
    let rest : f.after ≡ r = append_cancel_left crlf_bytes f.after r same.1 in (
      f.more,
      f.joins ∙ ap (λ p. p ++ f.more) same.0,
      subst (λ q. HasBody (n - length d) Chunked q f.more) rest (subst (λ p. HasBody (n - length p) Chunked f.after f.more) same.0 f.body),
    )

pub leaves_chunk : (n : ℕ) (s r d : List ℕ) (l : ChunkLine) → HasLine s l (d ++ (crlf_bytes ++ r)) → chunk_size l ≡ length d → 0 < length d → length d < n
    → Leaves n s r d
leaves_chunk n s r d l line size some bound = record {
  from = λ x h. leaves_first n s r d x l size some bound (first_of n s x l (d ++ (crlf_bytes ++ r)) h line);
  back = λ x h. body_goes_on n s d r x l line size some (omega (arith, bound)) h;
}

lacks_first : (n : ℕ) (l : ChunkLine) (r x : List ℕ) → 0 < chunk_size l → LacksData n (chunk_size l) r → ¬ (First n l r x)
lacks_first n l r x some lacks (inl f) = absurd (omega (arith, some, f.size))
lacks_first n l r x some lacks (inr (inl f)) = lacks.part x f.after f.is f.full f.bound
lacks_first n l r x some lacks (inr (inr f)) = lacks.whole f.piece f.after f.is (sym f.size) f.bound

regroup : (l d c r : List ℕ) → (l ++ (d ++ c)) ++ r ≡ l ++ (d ++ (c ++ r))
regroup l d c r = simp append_assoc

pub chunk_data : (a b c : Place) (old new : List ℕ) (size : ℕ) (k : Chunk) → TakesLine a b (Some size) → size ≢ 0 → length old < most_found
    → TakesData b c old new size k → TakesChunk a c old new k
chunk_data a b c old new size More t pos some d =
    let l = t.0 in
    let took : Took a c (print_chunk_line t.0 ++ (d.0 ++ crlf_bytes)) = Took_then a b c (print_chunk_line t.0) (d.0 ++ crlf_bytes) t.1 d.1 in
    let long : length new ≡ length old + length d.0 = ap length d.2 ∙ length-append old d.0 in
    let size_is : chunk_size t.0 ≡ length d.0 = sym t.4 ∙ sym d.3 in
    let full : 0 < length d.0 = omega (arith, pos, d.3) in
    let below : length d.0 < room old = omega (arith, long, d.4) in (
      (_, took),
      (
        d.0,
        d.2,
        full,
        d.4,
        both_known (ahead a.left a.inbox) (ahead c.left c.inbox) _ (λ s r. Leaves (room old) s r d.0) (Took_ahead a c _ took) (λ s r e.
            leaves_chunk (room old) s r d.0 t.0
            ((t.2, e ∙ regroup (print_chunk_line t.0) d.0 crlf_bytes r), t.3) size_is full below),
      ),
    )
chunk_data a b c old new size Last t pos some d =
    let took : Took a c (print_chunk_line t.0 ++ d.0) = Took_then a b c (print_chunk_line t.0) d.0 t.1 d.1 in
    let long : length new ≡ length old + length d.0 = ap length d.2 ∙ length-append old d.0 in
    let le : length d.0 ≤ chunk_size t.0 = omega (arith, d.3, t.4) in
    let full : length d.0 ≡ room old = omega (arith, long, d.4) in (
      (_, took),
      (
        d.0,
        d.2,
        omega (arith, d.4),
        known_first a c (print_chunk_line t.0 ++ d.0) _ (λ r. Unit {0}) took (known_top (ahead c.left c.inbox)) (λ r top.
            body_cut (room old) _ d.0 r t.0 ((t.2, append_assoc (print_chunk_line t.0) d.0 r), t.3) le full),
      ),
    )
chunk_data a b c old new size Other t pos some d =
    let many : 0 < chunk_size t.0 = omega (arith, pos, t.4) in (
      (_, Took_then a b c (print_chunk_line t.0) d.0.0 t.1 d.0.1),
      known_first a b (print_chunk_line t.0) _ (LacksData (room old) size) t.1 d.1 (λ r lacks x h.
          lacks_first (room old) t.0 r x many (subst (λ k. LacksData (room old) k r) t.4 lacks)
          (first_of (room old) _ x t.0 r h (line_there t.0 r t.2 t.3))),
    )

-- ---- all chunks

pub chunked_none : (p : Place) (body : List ℕ) → Fits p.left p.inbox → body ≡ [] → HasChunked p p body
chunked_none p body fits e = record {
  went = ([], Took_none p fits);
  bound = omega (arith, ap length e);
  leaves = both_known (ahead p.left p.inbox) (ahead p.left p.inbox) [] (λ s r. Leaves most_found s r body) (Took_ahead p p [] (Took_none p fits))
      (λ s r same. subst (λ x. Leaves most_found s r x) (sym e) (subst (λ x. Leaves most_found x r []) (sym same) (leaves_none most_found r)));
}

pub chunked_more : (a b c : Place) (old new : List ℕ) → HasChunked a b old → TakesChunk b c old new More → HasChunked a c new
chunked_more a b c old new p q = record {
  went = (_, Took_then a b c p.went.0 q.0.0 p.went.1 q.0.1);
  bound = q.1.3;
  leaves = both_on (ahead a.left a.inbox) (ahead b.left b.inbox) (ahead c.left c.inbox) p.went.0 (λ s r. Leaves most_found s r old)
      (λ r x. Leaves (room old) r x q.1.0) (λ s x. Leaves most_found s x new) (Took_ahead a b p.went.0 p.went.1) p.leaves q.1.4
      (λ s r x f g. subst (λ y. Leaves most_found s x y) (sym q.1.1) (leaves_then most_found s r x old q.1.0 f g));
}

pub chunked_last : (a b c : Place) (old new : List ℕ) → HasChunked a b old → TakesChunk b c old new Last → TakesBody Chunked a c new true
chunked_last a b c old new p q = (
  (_, Took_then a b c p.went.0 q.0.0 p.went.1 q.0.1),
  q.1.2,
  known_on (ahead a.left a.inbox) (ahead b.left b.inbox) p.went.0 (λ s r. Leaves most_found s r old) (λ r. HasBody (room old) Chunked r q.1.0)
      (λ s. HasBody most_found Chunked s new) (Took_ahead a b p.went.0 p.went.1) p.leaves q.1.3
      (λ s r f g. subst (HasBody most_found Chunked s) (sym q.1.1) (f.back q.1.0 g)),
)

pub chunked_other : (a b c : Place) (old new : List ℕ) → HasChunked a b old → TakesChunk b c old new Other → TakesBody Chunked a c new false
chunked_other a b c old new p q = (
  (_, Took_then a b c p.went.0 q.0.0 p.went.1 q.0.1),
  known_on (ahead a.left a.inbox) (ahead b.left b.inbox) p.went.0 (λ s r. Leaves most_found s r old) (λ r. (x : List ℕ) → ¬ (HasBody (room old) Chunked r x))
      (λ s. (x : List ℕ) → ¬ (HasBody most_found Chunked s x)) (Took_ahead a b p.went.0 p.went.1) p.leaves q.1
      (λ s r f none x h. let y = f.from x h in none y.0 y.2),
)

pub chunk_result : {E : Type 0} (a b c : Place) (old new : List ℕ) (size : ℕ) (r : Result Chunk E) → TakesLine a b (Some size) → size ≢ 0
    → length old < most_found → IfOk r (TakesData b c old new size) → IfOk r (TakesChunk a c old new)
chunk_result a b c old new size (Ok k) t pos some d = chunk_data a b c old new size k t pos some d
chunk_result a b c old new size (Err e) t pos some d = tt
