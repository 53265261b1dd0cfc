-- Texts that are written piece after piece.
use Rattle.std.proofs.Common.{◌≡◌, List, ℕ, ◌++◌, Result, Ok, Err, OnOk, if◌then◌else◌, codes, refl, append_assoc, sym, ap, ◌∙◌}
use lib.Utf8.{encode}
use Rattle.std.specs.Result.{is_ok}
use Rattle.std.specs.Str.{IsUtf8}
use Rattle.std.proofs.lemmas.Result.{on_ok_weaker}

-- what was written, by another name
pub appended : {E : Type 0} (r : Result (Unit {0}) E) (new old x y : List ℕ) → x ≡ y → OnOk r (new ≡ old ++ x) → OnOk r (new ≡ old ++ y)
appended r new old x y same h = on_ok_weaker r (λ (e : new ≡ old ++ x). e ∙ ap (λ l. old ++ l) same) h

-- two pieces are one
pub appended_twice : {E : Type 0} (r : Result (Unit {0}) E) (new mid old x y z : List ℕ) → x ++ y ≡ z → mid ≡ old ++ x → OnOk r (new ≡ mid ++ y) → OnOk r (new ≡ old ++ z)
appended_twice r new mid old x y z same first h =
    on_ok_weaker r (λ (e : new ≡ mid ++ y). e ∙ ap (λ l. l ++ y) first ∙ append_assoc old x y ∙ ap (λ l. old ++ l) same) h

-- four pieces are one
pub appended_four : {E : Type 0} (r : Result (Unit {0}) E) (new third second first old x y z w whole : List ℕ) → x ++ (y ++ (z ++ w)) ≡ whole →
    first ≡ old ++ x → second ≡ first ++ y → third ≡ second ++ z → OnOk r (new ≡ third ++ w) → OnOk r (new ≡ old ++ whole)
appended_four r new third second first old x y z w whole same a b c h =
    on_ok_weaker r
    (λ (e : new ≡ third ++ w). e ∙ ap (λ l. l ++ w) (c ∙ ap (λ l. l ++ z) (b ∙ ap (λ l. l ++ y) a)) ∙ regroup old x y z w ∙ ap (λ l. old ++ l) same) h
  where
    regroup : (old x y z w : List ℕ) → (((old ++ x) ++ y) ++ z) ++ w ≡ old ++ (x ++ (y ++ (z ++ w)))
    regroup old x y z w = simp append_assoc

-- one piece more of a whole of which the rest is known
pub carried : (text new x rest later whole : List ℕ) → text ++ rest ≡ whole → rest ≡ x ++ later → new ≡ text ++ x → new ++ later ≡ whole
carried text new x rest later whole so_far split pushed =
    ap (λ l. l ++ later) pushed ∙ append_assoc text x later ∙ ap (λ l. text ++ l) (sym split) ∙ so_far

-- a last piece that is pushed
pub on_ok : {E : Type 0} (r : Result (Unit {0}) E) (new text whole close : List ℕ) → new ≡ (if is_ok r then text ++ close else text) → (new ≡ text ++ close → new ≡ whole) → OnOk r (new ≡ whole)
on_ok (Ok x) new text whole close e f = f e
on_ok (Err x) new text whole close e f = tt

pub comma_is_utf8 : IsUtf8 (codes ", ")
unfolding encode
comma_is_utf8 = (codes ", ", (refl, refl))

pub bar_is_utf8 : IsUtf8 (codes " | ")
unfolding encode
bar_is_utf8 = (codes " | ", (refl, refl))
