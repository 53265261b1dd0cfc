-- What a loop that reads an input keeps.
use Rattle.std.proofs.Common.{◌≡◌, ℕ, ◌<◌, ◌≤◌, ◌++◌, List, length, take, Option, Some, None, IfSome, sym, ap, ◌∙◌, arith, append-nil, take_all, append_assoc, false, Bool, subst}
use Rattle.std.specs.Io.KnownBytes.{Consumes, IsAtEnd}
use Rattle.dh_streams.specs.Pieces.{TakesPiece}
use Rattle.std.specs.Prelude.{MatchBool}
use Rattle.std.proofs.Math.Seq.{take-append_seam}
use Rattle.dh_streams.specs.Streams.{most_read}

-- the bytes so far were taken from the input, and no read failed
pub record HasTaken (first now : Option (List ℕ)) (bytes : List ℕ) (faults_first faults_now : ℕ) : Type 0 where
  pub taken : Consumes first now bytes
  pub bound : length bytes ≤ most_read
  pub quiet : faults_now ≡ faults_first

-- what one read takes and what the next one takes, together
pub consumes_both : (a b c : Option (List ℕ)) (bs cs : List ℕ) → Consumes a b bs → Consumes b c cs → Consumes a c (bs ++ cs)
consumes_both None b c bs cs p q = tt
consumes_both (Some x) None c bs cs p q = absurd p
consumes_both (Some x) (Some y) None bs cs p q = absurd q
consumes_both (Some x) (Some y) (Some z) bs cs p q = p ∙ ap (λ r. bs ++ r) q ∙ sym (append_assoc bs cs z)

-- all of a list that is not longer
take_of_short : (n : ℕ) (xs : List ℕ) → length xs ≤ n → take n xs ≡ xs
take_of_short n xs h = take_all n xs h

-- what was read of an input that is at its end is all of it, as far as an input is read
pub all-at_end : (n : ℕ) (first now : Option (List ℕ)) (bytes : List ℕ) → Consumes first now bytes → length bytes ≤ n → IsAtEnd now → IfSome first (λ left. bytes ≡ take n left)
all-at_end n None now bytes p q e = tt
all-at_end n (Some l) None bytes p q e = absurd p
all-at_end n (Some l) (Some rest) bytes p q e =
    let whole : l ≡ bytes = p ∙ ap (λ r. bytes ++ r) e ∙ append-nil bytes in
    sym (ap (take n) whole ∙ take_of_short n bytes q)

-- what was read up to the most that is read is the first part of the input
pub all-full : (n : ℕ) (first now : Option (List ℕ)) (bytes : List ℕ) → Consumes first now bytes → length bytes ≤ n → n ≤ length bytes → IfSome first (λ left. bytes ≡ take n left)
all-full n None now bytes p q e = tt
all-full n (Some l) None bytes p q e = absurd p
all-full n (Some l) (Some rest) bytes p q e =
    let same : n ≡ length bytes = omega arith in
    sym (ap (take n) p ∙ ap (λ k. take k (bytes ++ rest)) same ∙ take-append_seam bytes rest)

-- after the last piece
pub all-after_last : (n : ℕ) (first mid now : Option (List ℕ)) (old new : List ℕ) (more : Bool) → Consumes first mid old → TakesPiece mid now old new more → more ≡ false → length new ≤ n → IfSome first (λ left. new ≡ take n left)
all-after_last n first mid now old new more p q e h =
    let end : IsAtEnd now = subst (λ b. MatchBool b (length old < length new) (IsAtEnd now)) e q.ends in
    let taken : Consumes first now new = subst (Consumes first now) (sym q.added) (consumes_both first mid now old q.piece p q.taken) in
    all-at_end n first now new taken h end
