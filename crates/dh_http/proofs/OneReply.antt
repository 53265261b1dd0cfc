-- A stream has one body and one reply.
use Rattle.std.proofs.Common.{◌≡◌, ℕ, ◌+◌, ◌-◌, ◌<◌, ◌≤◌, inl, inr, List, [], ◌∷◌, ◌++◌, length, Option, refl, sym, ap, ◌∙◌, arith, append-nil, append_assoc, subst}
use Rattle.std.proofs.lemmas.List.{length-append, append_cancel_left, nil_from_length}
use Rattle.std.proofs.lemmas.Bool.{cases_lt}
use Rattle.httparse.specs.Ascii.{crlf_bytes}
use Rattle.httparse.specs.Grammar.{ChunkLine, chunk_size, status_code}
use Rattle.httparse.proofs.GrammarLemmas.{response_unique}
use Rattle.dh_ports.specs.declared.worlds.Got.{Got}
use Rattle.dh_ports.specs.declared.worlds.Got.TheVariants.{Found}
use Rattle.dh_http.specs.Bodies.{HasLine, HasChunks, HasLastChunk, HasChunkPart, HasBody, joined}
use Rattle.dh_http.specs.Fields.{framing, allowed}
use Rattle.dh_http.specs.Reply.{most_found, Holds, Answers, AnswersTo, Replies, fields_of}
use Rattle.dh_http.specs.declared.framings.Framing.{Framing}
use Rattle.dh_http.specs.declared.framings.Framing.TheVariants.{ToEnd, Stated, Chunked, Unclear}
use Rattle.dh_http.proofs.ChunkSteps.{First, first_of, split_same}

-- the first chunk of a stream is one
same_chunk : (piece p x after : List ℕ) → p ++ (crlf_bytes ++ x) ≡ piece ++ (crlf_bytes ++ after) → length piece ≡ length p → (piece ≡ p) × (after ≡ x)
same_chunk piece p x after e l =
    let same : (piece ≡ p) × (crlf_bytes ++ after ≡ crlf_bytes ++ x) = split_same piece p (crlf_bytes ++ after) (crlf_bytes ++ x) (sym e) l in
    (same.0, append_cancel_left crlf_bytes after x same.1)

joins_same : (b piece more p rest : List ℕ) → b ≡ piece ++ more → piece ≡ p → more ≡ rest → b ≡ p ++ rest
joins_same b piece more p rest e h k = e ∙ ap (λ x. x ++ more) h ∙ ap (λ x. p ++ x) k

whole_end : (n : ℕ) (l : ChunkLine) (rest b : List ℕ) → chunk_size l ≡ 0 → 0 < n → First n l rest b → b ≡ []
whole_end n l rest b size some (inl f) = f.empty
whole_end n l rest b size some (inr (inl f)) = absurd (omega (arith, size, some, f.bound, f.full))
whole_end n l rest b size some (inr (inr f)) = absurd (omega (arith, size, f.size, f.some))

-- what follows the first chunk, where a longer body is wanted
goes_with : (n : ℕ) (l : ChunkLine) (p x b tail : List ℕ) → chunk_size l ≡ length p → 0 < length p → length p < n → First n l (p ++ (crlf_bytes ++ x)) b
    → ((more : List ℕ) → HasBody (n - length p) Chunked x more → more ≡ tail) → b ≡ p ++ tail
goes_with n l p x b tail size some below (inl f) next = absurd (omega (arith, size, some, f.size))
goes_with n l p x b tail size some below (inr (inl f)) next = absurd (omega (arith, size, below, f.bound, f.full))
goes_with n l p x b tail size some below (inr (inr f)) next =
    let same : (f.piece ≡ p) × (f.after ≡ x) = same_chunk f.piece p x f.after f.is (sym f.size ∙ size) in
    let body : HasBody (n - length p) Chunked x f.more =
    subst (λ q. HasBody (n - length p) Chunked q f.more) same.1 (subst (λ q. HasBody (n - length q) Chunked f.after f.more) same.0 f.body) in
    joins_same b f.piece f.more p tail f.joins same.0 (next f.more body)

whole_one : (parts : List (List ℕ)) (n : ℕ) (s t a b : List ℕ) → HasChunks s parts t → HasLastChunk t → a ≡ joined parts → length a < n
    → HasBody n Chunked s b → b ≡ a
whole_one [] n s t a b chunks last e h body =
    let line : HasLine s last.0 last.1 = subst (λ x. HasLine x last.0 last.1) (sym chunks) last.2 in
    whole_end n last.0 last.1 b last.3 (omega (arith, h)) (first_of n s b last.0 last.1 body line) ∙ sym e
whole_one (p ∷ ps) n s t a b chunks last e h body =
    let chunk = chunks.1 in
    let long : length a ≡ length p + length (joined ps) = ap length e ∙ length-append p (joined ps) in
    goes_with n chunk.0 p chunks.0 b (joined ps) chunk.2 chunk.3 (omega (arith, long, h))
    (first_of n s b chunk.0 (p ++ (crlf_bytes ++ chunks.0)) body chunk.1)
    (λ more k. whole_one ps (n - length p) chunks.0 t (joined ps) more chunks.2 last refl (omega (arith, long, h)) k) ∙ sym e

part_end : (n : ℕ) (l : ChunkLine) (part after b : List ℕ) → length part ≤ chunk_size l → length part ≡ n → First n l (part ++ after) b → b ≡ part
part_end n l part after b le full (inl f) = absurd (omega (arith, le, full, f.size, f.room))
part_end n l part after b le full (inr (inl f)) = (split_same b part f.after after (sym f.is) (f.full ∙ sym full)).0
part_end n l part after b le full (inr (inr f)) =
    let whole : length f.piece ≡ length part = omega (arith, le, full, f.size, f.bound) in
    let same : f.piece ≡ part = (split_same f.piece part (crlf_bytes ++ f.after) after (sym f.is) whole).0 in
    let nothing : f.more ≡ [] = nil_from_length f.more (rest_none f.body) in
    joins_same b f.piece f.more part [] f.joins same nothing ∙ append-nil part
  where
    rest_none : HasBody (n - length f.piece) Chunked f.after f.more → length f.more ≡ 0
    rest_none (inl w) = absurd (omega (arith, w.1, le, full, f.size, f.bound))
    rest_none (inr w) = omega (arith, w.1, le, full, f.size, f.bound)

-- a chunk that fills what is wanted
fills_with : (n : ℕ) (l : ChunkLine) (p x b : List ℕ) → chunk_size l ≡ length p → length p ≡ n → First n l (p ++ (crlf_bytes ++ x)) b → b ≡ p
fills_with n l p x b size full f = part_end n l p (crlf_bytes ++ x) b (omega (arith, size)) full f

part_one : (parts : List (List ℕ)) (n : ℕ) (s t part a b : List ℕ) → HasChunks s parts t → HasChunkPart t part → a ≡ joined parts ++ part → length a ≡ n
    → HasBody n Chunked s b → b ≡ a
part_one [] n s t part a b chunks last e h body =
    let line : HasLine s last.0 (part ++ last.1) = subst (λ x. HasLine x last.0 (part ++ last.1)) (sym chunks) last.2 in
    part_end n last.0 part last.1 b last.3 (ap length (sym e) ∙ h) (first_of n s b last.0 (part ++ last.1) body line) ∙ sym e
part_one (p ∷ ps) n s t part a b chunks last e h body =
    let chunk = chunks.1 in
    let tail = joined ps ++ part in
    let whole : a ≡ p ++ tail = e ∙ append_assoc p (joined ps) part in
    let long : length a ≡ length p + length tail = ap length whole ∙ length-append p tail in
    let first : First n chunk.0 (p ++ (crlf_bytes ++ chunks.0)) b = first_of n s b chunk.0 (p ++ (crlf_bytes ++ chunks.0)) body chunk.1 in
    elim (cases_lt (length p) n) [
      | inl below ↦ goes_with n chunk.0 p chunks.0 b tail chunk.2 chunk.3 below first
          (λ more k. part_one ps (n - length p) chunks.0 t part tail more chunks.2 last refl (omega (arith, long, h)) k) ∙ sym whole
      | inr above ↦
          fills_with n chunk.0 p chunks.0 b chunk.2 (omega (arith, long, h, above)) first
          ∙ sym (append-nil p) ∙ ap (λ x. p ++ x) (sym (nil_from_length tail (omega (arith, long, h, above)))) ∙ sym whole
    ]

chunked_one : (n : ℕ) (s a b : List ℕ) → HasBody n Chunked s a → HasBody n Chunked s b → b ≡ a
chunked_one n s a b (inl w) body = whole_one w.0.0 n s w.0.1 a b w.0.2 w.0.3 w.0.4 w.1 body
chunked_one n s a b (inr w) body = part_one w.0.0 n s w.0.1 w.0.2 a b w.0.3 w.0.4 w.0.5 w.1 body

longer : (a b rest : List ℕ) → a ≡ b ++ rest → length b ≤ length a
longer a b rest e = omega (arith, ap length e, length-append b rest)

end_one : (n : ℕ) (s a b : List ℕ) → HasBody n ToEnd s a → HasBody n ToEnd s b → b ≡ a
end_one n s a b (inl w) (inl v) = sym v.0 ∙ w.0
end_one n s a b (inl w) (inr v) = absurd (omega (arith, w.1, v.1, ap length w.0, longer s b v.0.0 v.0.1))
end_one n s a b (inr w) (inl v) = absurd (omega (arith, w.1, v.1, ap length v.0, longer s a w.0.0 w.0.1))
end_one n s a b (inr w) (inr v) = (split_same b a v.0.0 w.0.0 (sym v.0.1 ∙ w.0.1) (v.1 ∙ sym w.1)).0

stated_one : (n m : ℕ) (s a b : List ℕ) → HasBody n (Stated m) s a → HasBody n (Stated m) s b → b ≡ a
stated_one n m s a b (inl w) (inl v) = (split_same b a v.0.1.0 w.0.1.0 (sym v.0.1.1 ∙ w.0.1.1) (v.0.0 ∙ sym w.0.0)).0
stated_one n m s a b (inl w) (inr v) = absurd (omega (arith, w.0.0, w.1, v.0.0, v.1))
stated_one n m s a b (inr w) (inl v) = absurd (omega (arith, v.0.0, v.1, w.0.0, w.1))
stated_one n m s a b (inr w) (inr v) = (split_same b a v.0.1.0 w.0.1.0 (sym v.0.1.1 ∙ w.0.1.1) (v.1 ∙ sym w.1)).0

unclear_none : (n : ℕ) (s a : List ℕ) → ¬ (HasBody n Unclear s a)
unclear_none n s a (inl w) = w.0
unclear_none n s a (inr w) = w.0

pub body_one : (n : ℕ) (f : Framing) (s a b : List ℕ) → HasBody n f s a → HasBody n f s b → b ≡ a
body_one n ToEnd s a b x y = end_one n s a b x y
body_one n (Stated m) s a b x y = stated_one n m s a b x y
body_one n Chunked s a b x y = chunked_one n s a b x y
body_one n Unclear s a b x y = absurd (unclear_none n s a x)

holds_one : (f : Framing) (allow : Option (List ℕ)) (s : List ℕ) (a b : Got) → Holds f allow s a → Holds f allow s b → a ≡ b
holds_one f allow s a b (inl x) (inl y) =
    x.2 ∙ ap (λ t. Found (record { bytes = t; allow = allow })) (body_one most_found f s y.0 x.0 y.1 x.1) ∙ sym y.2
holds_one f allow s a b (inl x) (inr y) = absurd (y.0 x.0 x.1)
holds_one f allow s a b (inr x) (inl y) = absurd (x.0 y.0 y.1)
holds_one f allow s a b (inr x) (inr y) = x.1 ∙ sym y.1

answers_one : (status : ℕ) (f : Framing) (allow : Option (List ℕ)) (s : List ℕ) (a b : Got) → Answers status f allow s a → Answers status f allow s b → a ≡ b
answers_one status f allow s a b (inl x) (inl y) = x.1 ∙ sym y.1
answers_one status f allow s a b (inl x) (inr (inl y)) = absurd (omega (arith, x.0, y.0))
answers_one status f allow s a b (inl x) (inr (inr y)) = absurd (y.0 x.0)
answers_one status f allow s a b (inr (inl x)) (inl y) = absurd (omega (arith, x.0, y.0))
answers_one status f allow s a b (inr (inl x)) (inr (inl y)) = holds_one f allow s a b x.1 y.1
answers_one status f allow s a b (inr (inl x)) (inr (inr y)) = absurd (y.1 x.0)
answers_one status f allow s a b (inr (inr x)) (inl y) = absurd (x.0 y.0)
answers_one status f allow s a b (inr (inr x)) (inr (inl y)) = absurd (x.1 y.0)
answers_one status f allow s a b (inr (inr x)) (inr (inr y)) = x.2 ∙ sym y.2

pub one_reply : (s : List ℕ) (a b : Got) → Replies s a → Replies s b → a ≡ b
one_reply s a b (inl x) (inl y) =
    let same : (x.0 ≡ y.0) × (x.1 ≡ y.1) = response_unique s x.0 y.0 x.1 y.1 x.2.0 y.2.0 in
    let first : AnswersTo y.0 x.1 a = subst (λ h. AnswersTo h x.1 a) same.0 x.3 in
    let second : AnswersTo y.0 y.1 a = subst (λ r. AnswersTo y.0 r a) same.1 first in
    answers_one (status_code y.0) (framing (fields_of y.0)) (allowed (fields_of y.0)) y.1 a b second y.3
one_reply s a b (inl x) (inr y) = absurd (y.0 x.0 x.1 x.2)
one_reply s a b (inr x) (inl y) = absurd (x.0 y.0 y.1 y.2)
one_reply s a b (inr x) (inr y) = x.1 ∙ sym y.1
