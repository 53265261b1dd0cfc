-- Comparing origins part by part.
use Rattle.std.proofs.Common.{◌≡◌, ℕ, Bool, true, false, ◌&&◌, nat_eq, List, [], ◌∷◌, ◌++◌, length, take, drop, refl, sym, ◌∙◌, ap}
use Rattle.std.specs.Bool.{beq}
use Rattle.std.specs.Cmp.Lexicographic.{pointwise}
use Rattle.dh_syntax.specs.Expressions.Numbers.{eq, bytes_eq}
use Rattle.dh_syntax.proofs.NativeTests.{bytes_eq-pointwise}
use Rattle.dh_paths.specs.Inside.Origins.{scheme_text}

-- origins of one scheme are the same exactly where their hosts are
pub same_scheme : (s t : Bool) (h k : List ℕ) → beq s t ≡ true → bytes_eq h k ≡ bytes_eq (scheme_text s ++ h) (scheme_text t ++ k)
same_scheme true true h k e = refl
same_scheme false false h k e = refl
same_scheme true false h k e = cc
same_scheme false true h k e = cc

and_assoc : (a b c : Bool) → (a && b) && c ≡ a && (b && c)
and_assoc true b c = refl
and_assoc false b c = refl

-- a text is the same as two in a row where its parts are
bytes_eq-append : (bs s h : List ℕ) → bytes_eq bs (s ++ h) ≡ (bytes_eq (take (length s) bs) s && bytes_eq (drop (length s) bs) h)
bytes_eq-append bs [] h = refl
bytes_eq-append [] (x ∷ s) h = refl
bytes_eq-append (b ∷ bs) (x ∷ s) h = ap (λ t. eq b x && t) (bytes_eq-append bs s h) ∙ sym (and_assoc (eq b x) (bytes_eq (take (length s) bs) s) (bytes_eq (drop (length s) bs) h))

pub stripped : (bs p s h k rest : List ℕ) → p ≡ s → k ≡ h → pointwise nat_eq (take (length p) bs) p ≡ true → rest ≡ drop (length p) bs → pointwise nat_eq rest k ≡ bytes_eq bs (s ++ h)
stripped bs p s h k rest ps kh front e =
    ap (pointwise nat_eq rest) kh
    ∙ sym (ap (λ q. bytes_eq bs (q ++ h)) (sym ps) ∙ bytes_eq-append bs p h ∙ ap (λ t. t && bytes_eq (drop (length p) bs) h) (bytes_eq-pointwise (take (length p) bs) p ∙ front) ∙ ap (λ l. bytes_eq l h) (sym e) ∙ bytes_eq-pointwise rest h)

pub not_stripped : (bs p s h : List ℕ) → p ≡ s → pointwise nat_eq (take (length p) bs) p ≡ false → false ≡ bytes_eq bs (s ++ h)
not_stripped bs p s h ps front =
    sym (ap (λ q. bytes_eq bs (q ++ h)) (sym ps) ∙ bytes_eq-append bs p h ∙ ap (λ t. t && bytes_eq (drop (length p) bs) h) (bytes_eq-pointwise (take (length p) bs) p ∙ front))
