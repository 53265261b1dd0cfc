-- What stands at the front of a stream, from what stands in the window.
use Rattle.std.proofs.Common.{◌≡◌, ◌≢◌, Result, Ok, Err, IfOk, OnErr, ℕ, ◌+◌, ◌-◌, ◌≤◌, ◌⊎◌, inl, inr, min, List, [], ◌∷◌, ◌++◌, length, take, drop, Option, Some, None, IfSome, Bool, true, false, refl, sym, ap, ◌∙◌, arith, append-nil, append_assoc, subst}
use Rattle.std.proofs.lemmas.List.{take-append-drop, length-append, length-take, take-append-le, take-take, take_at, append_cancel_left}
use Rattle.std.proofs.Math.Seq.{take-append-add}
use Rattle.std.specs.Io.KnownBytes.{Consumes, IsAtEnd}
use Rattle.httparse.specs.Grammar.{ChunkLine, print_chunk_line, ReadsChunkLine, HasNoChunkLine, NeverHasChunkLine}
use Rattle.httparse.specs.Spans.{IsChunkLineAt}
use Rattle.dh_http.specs.Bodies.{most_line, HasLine}
use Rattle.dh_http.specs.Forms.{WhereKnown, TakesLine, TakesBytes}
use Rattle.dh_http.specs.Reading.{InboxState, Place, Fits, ahead, Took, Stopped, TakesByte}
use Rattle.dh_http.proofs.Places.{Took_skip, Took_then, Took_ahead, Took_stop}

-- what holds of every stream that this may be
pub where_known : (p : Place) (P : List ℕ → Type 0) → ((left : List ℕ) → p.left ≡ Some left → P (p.inbox.bytes ++ left)) → WhereKnown p P
where_known p P f = at p.left refl
  where
    at : (o : Option (List ℕ)) → p.left ≡ o → IfSome (ahead o p.inbox) P
    at None e = tt
    at (Some left) e = f left e

known_before : (a b : Option (List ℕ)) (xs : List ℕ) (P Q : List ℕ → Type 0) → Consumes a b xs → IfSome b Q → ((s : List ℕ) → Q s → P (xs ++ s)) → IfSome a P
known_before None b xs P Q c q f = tt
known_before (Some s) None xs P Q c q f = absurd c
known_before (Some s) (Some r) xs P Q c q f = subst P (sym c) (f r q)

-- what holds before a step, from what holds after it
pub known_first : (a b : Place) (xs : List ℕ) (P Q : List ℕ → Type 0) → Took a b xs → WhereKnown b Q → ((s : List ℕ) → Q s → P (xs ++ s)) → WhereKnown a P
known_first a b xs P Q took q f = known_before (ahead a.left a.inbox) (ahead b.left b.inbox) xs P Q (Took_ahead a b xs took) q f

-- a text that is no longer than n, in the first n bytes
pub take_front : (text rest : List ℕ) (n : ℕ) → length text ≤ n → take n (text ++ rest) ≡ text ++ take (n - length text) rest
take_front text rest n h =
    let e : n ≡ length text + (n - length text) = omega arith in
    ap (λ k. take k (text ++ rest)) e ∙ take-append-add text rest (n - length text)

-- the window is what the stream begins with
pub window_cut : (p : Place) → Fits p.left p.inbox → (most_line ≤ length p.inbox.bytes) ⊎ (p.inbox.ended ≡ true)
    → (left : List ℕ) → p.left ≡ Some left → take most_line (p.inbox.bytes ++ left) ≡ take most_line p.inbox.bytes
window_cut p fits (inl h) left e = take-append-le most_line p.inbox.bytes left h
window_cut p fits (inr h) left e =
    let end : left ≡ [] = subst IsAtEnd e (fits h) in
    ap (λ t. take most_line (p.inbox.bytes ++ t)) end ∙ ap (take most_line) (append-nil p.inbox.bytes)

-- a text stands at the front of the bytes, within the window
pub record Fronts (bytes text : List ℕ) (len : ℕ) : Type 0 where
  pub within : len ≤ length bytes
  pub is : take len bytes ≡ text
  pub short : length text ≤ most_line

pub length_front : (xs ys zs : List ℕ) → xs ≡ ys ++ zs → length ys ≤ length xs
length_front xs ys zs e = omega (arith, length-append ys zs, ap length e)

pub front_at : (bytes text rest : List ℕ) (len : ℕ) → take most_line bytes ≡ text ++ rest → len ≡ length text → Fronts bytes text len
front_at bytes text rest len e l =
    let inside : length text ≤ length (take most_line bytes) = length_front _ text rest e in
    let short : length (take most_line bytes) ≡ min most_line (length bytes) = length-take most_line bytes in
    let fits : len ≤ most_line = omega arith in
    record {
      within = omega arith;
      is = sym (take-take len most_line bytes fits) ∙ ap (take len) e ∙ take_at text rest len (sym l);
      short = omega arith;
    }

pub took_front : (a b : Place) (new : InboxState) (text : List ℕ) (len : ℕ) → Took a b [] → Fronts b.inbox.bytes text len
    → new ≡ record b.inbox { bytes = drop len b.inbox.bytes } → Took a (record b { inbox = new }) text
took_front a b new text len took front e =
    let skip : Took b (record b { inbox = new }) (take len b.inbox.bytes) =
    subst (λ i. Took b (record b { inbox = i }) (take len b.inbox.bytes)) (sym e) (Took_skip b len took.fits) in
    subst (λ t. Took a (record b { inbox = new }) t) front.is (Took_then a b (record b { inbox = new }) [] (take len b.inbox.bytes) took skip)

pub whole_window : (bytes left : List ℕ) → bytes ++ left ≡ take most_line bytes ++ (drop most_line bytes ++ left)
whole_window bytes left =
    ap (λ t. t ++ left) (sym (take-append-drop most_line bytes)) ∙ append_assoc (take most_line bytes) (drop most_line bytes) left

-- ---- chunk lines

pub line_front : (bytes : List ℕ) (len size : ℕ) (l : ChunkLine) → IsChunkLineAt (take most_line bytes) len size l → Fronts bytes (print_chunk_line l) len
line_front bytes len size l at = front_at bytes (print_chunk_line l) _ len at.reads.1 at.len_is

pub no_line_never : (p : Place) → NeverHasChunkLine (take most_line p.inbox.bytes)
    → WhereKnown p (λ s. (l : ChunkLine) (rest : List ℕ) → ¬ (HasLine s l rest))
no_line_never p never = where_known p _ (λ left e l rest has.
    never (drop most_line p.inbox.bytes ++ left) l rest (subst (λ t. ReadsChunkLine t l rest) (whole_window p.inbox.bytes left) has.0))

pub no_line_full : (p : Place) → Fits p.left p.inbox → (most_line ≤ length p.inbox.bytes) ⊎ (p.inbox.ended ≡ true)
    → HasNoChunkLine (take most_line p.inbox.bytes) → WhereKnown p (λ s. (l : ChunkLine) (rest : List ℕ) → ¬ (HasLine s l rest))
no_line_full p fits full none = where_known p _ (λ left e l rest has.
    none l (take (most_line - length (print_chunk_line l)) rest)
    (has.0.0, sym (window_cut p fits full left e) ∙ ap (take most_line) has.0.1 ∙ take_front (print_chunk_line l) rest most_line has.1))

pub took_line : (a b : Place) (new : InboxState) (len size : ℕ) → Took a b []
    → (l : ChunkLine) × IsChunkLineAt (take most_line b.inbox.bytes) len size l
    → new ≡ record b.inbox { bytes = drop len b.inbox.bytes } → TakesLine a (record b { inbox = new }) (Some size)
took_line a b new len size took at e =
    let front = line_front b.inbox.bytes len size at.0 at.1 in
    (at.0, took_front a b new _ len took front e, at.1.reads.0, front.short, at.1.size_is)

pub no_line_later : (a b : Place) → Took a b [] → WhereKnown b (λ s. (l : ChunkLine) (rest : List ℕ) → ¬ (HasLine s l rest))
    → TakesLine a b None
no_line_later a b took none = (([], took), known_first a b [] _ _ took none (λ s q. q))

-- ---- given bytes

pub byte_there : (a b : Place) (x y : ℕ) (t : Bool) → TakesByte a b (Some x) → (t ≡ true → x ≡ y) → (t ≡ false → x ≢ y) → TakesBytes a b (y ∷ []) t
byte_there a b x y true took same other = subst (λ z. Took a b (z ∷ [])) (same refl) took
byte_there a b x y false took same other =
    ((x ∷ [], took), known_first a b (x ∷ []) _ (λ s. Unit {0}) took (where_known b _ (λ left e. tt)) (λ s q rest e. other refl (cc)))

pub no_byte_there : (a b : Place) (y : ℕ) → TakesByte a b None → TakesBytes a b (y ∷ []) false
no_byte_there a b y took = (
  ([], took.0),
  known_first a b [] _ (λ s. s ≡ []) took.0
      (where_known b _ (λ left e. ap (λ t. t ++ left) took.1.0 ∙ subst IsAtEnd e (took.0.fits took.1.1)))
      (λ s q rest e. cc),
)

pub bytes_then : (a b c : Place) (xs ys : List ℕ) (t : Bool) → Took a b xs → TakesBytes b c ys t → TakesBytes a c (xs ++ ys) t
bytes_then a b c xs ys true p q = Took_then a b c xs ys p q
bytes_then a b c xs ys false p q = (
  (xs ++ q.0.0, Took_then a b c xs q.0.0 p q.0.1),
  known_first a b xs _ _ p q.1 (λ s none rest e. none rest (append_cancel_left xs s (ys ++ rest) (e ∙ append_assoc xs ys rest))),
)

pub bytes_not : (a b : Place) (xs ys : List ℕ) → TakesBytes a b xs false → TakesBytes a b (xs ++ ys) false
bytes_not a b xs ys p = (p.0, at (ahead a.left a.inbox) p.1)
  where
    at : (o : Option (List ℕ)) → IfSome o (λ s. (rest : List ℕ) → s ≢ xs ++ rest) → IfSome o (λ s. (rest : List ℕ) → s ≢ (xs ++ ys) ++ rest)
    at None h = tt
    at (Some s) h = λ rest e. h (ys ++ rest) (e ∙ append_assoc xs ys rest)

-- no chunk line is there, since no bytes that follow make one
pub no_line_end : (a b : Place) → Took a b [] → NeverHasChunkLine (take most_line b.inbox.bytes) → TakesLine a b None
no_line_end a b took never = no_line_later a b took (no_line_never b never)

-- no chunk line is there, since none stands in the window, which does not grow
pub no_line_cut : (a b : Place) → Took a b [] → (most_line ≤ length b.inbox.bytes) ⊎ (b.inbox.ended ≡ true)
    → HasNoChunkLine (take most_line b.inbox.bytes) → TakesLine a b None
no_line_cut a b took full none = no_line_later a b took (no_line_full b took.fits full none)

pub bytes_both : {E : Type 0} (a b c : Place) (xs ys : List ℕ) (r : Result Bool E) → Took a b xs → IfOk r (TakesBytes b c ys) → IfOk r (TakesBytes a c (xs ++ ys))
bytes_both a b c xs ys (Ok t) p q = bytes_then a b c xs ys t p q
bytes_both a b c xs ys (Err e) p q = tt

pub stop_both : {T E : Type 0} (a b c : Place) (xs : List ℕ) (r : Result T E) → Took a b xs → OnErr r (Stopped b c) → OnErr r (Stopped a c)
stop_both a b c xs (Ok t) p q = tt
stop_both a b c xs (Err e) p q = Took_stop a b c xs p q
