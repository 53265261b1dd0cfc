-- Heads whose number stands in the first byte, and in further bytes.
use Rattle.std.specs.Prelude.{◌≡◌, ◌<◌, ◌≤◌, ◌+◌, ℕ, true, false, nat_lt, ◌==◌, ◌&&◌, List, length, take, drop, Result}
use Rattle.std.proofs.Common.{sym, ap, ◌∙◌, subst, refl, lt-ltb, le-ltb}
use Rattle.std.proofs.lemmas.List.{drop-drop}
use Rattle.dh_syntax.specs.Bytes.BinaryHeads.{head_by, long_head, known, big_endian}
use Rattle.dh_cbor.specs.declared.faults.CborFault.{CborFault}
use Rattle.dh_cbor.specs.declared.heads.Head as program
use Rattle.dh_cbor.specs.Readings.{GivesHead}

long_known : (major size : ℕ) (bs : List ℕ) → nat_lt (length bs) size ≡ false → (major == 7 && nat_lt 1 size) ≡ false
    → long_head major size bs ≡ known (record { major = major; value = big_endian (take size bs); after = drop size bs })
long_known major size bs enough number = rw (enough, number) refl

pub long_reads : (bytes rest number : List ℕ) (at major size v : ℕ) (r : Result program.Head CborFault) → rest ≡ drop (at + 1) bytes → size ≤ length rest
    → (major == 7 && nat_lt 1 size) ≡ false → number ≡ take size rest → v ≡ big_endian number
    → GivesHead bytes at (known (record { major = major; value = v; after = drop (at + 1 + size) bytes })) r
    → GivesHead bytes at (long_head major size (drop (at + 1) bytes)) r
long_reads bytes rest number at major size v r e enough short f g h =
    let test : nat_lt (length (drop (at + 1) bytes)) size ≡ false = subst (λ b. nat_lt (length b) size ≡ false) e (le-ltb (length rest) size enough) in
    let value : v ≡ big_endian (take size (drop (at + 1) bytes)) = g ∙ ap big_endian (f ∙ ap (take size) e) in
    let behind : drop (at + 1 + size) bytes ≡ drop size (drop (at + 1) bytes) = sym (drop-drop size (at + 1) bytes) in
    subst (λ k. GivesHead bytes at k r)
    (ap (λ n. known (record { major = major; value = n; after = drop (at + 1 + size) bytes })) value
    ∙ ap (λ b. known (record { major = major; value = big_endian (take size (drop (at + 1) bytes)); after = b })) behind
    ∙ sym (long_known major size (drop (at + 1) bytes) test short))
    h

pub short_reads : (bytes : List ℕ) (at major low v : ℕ) (r : Result program.Head CborFault) → low < 24 → v ≡ low
    → GivesHead bytes at (known (record { major = major; value = v; after = drop (at + 1) bytes })) r
    → GivesHead bytes at (head_by major low (drop (at + 1) bytes)) r
short_reads bytes at major low v r small e h =
    let test : nat_lt low 24 ≡ true = lt-ltb low 24 small in
    let same : head_by major low (drop (at + 1) bytes) ≡ known (record { major = major; value = low; after = drop (at + 1) bytes }) = rw test refl in
    subst (λ k. GivesHead bytes at k r) (ap (λ n. known (record { major = major; value = n; after = drop (at + 1) bytes })) e ∙ sym same) h
