-- Each place that fits can be gone on with, and to its end.
use Rattle.std.specs.Prelude.{◌≡◌, ℕ, zero, suc, ◌==◌, Bool, true, false, if◌then◌else◌, [], Option, Some, None, refl}
use Rattle.dh_syntax.specs.declared.expressions.Op.TheVariants as ops
use Rattle.dh_syntax.specs.Expressions.Numbers.{eq, le}
use Rattle.dh_binary.specs.Machine.{Making, term, Place, finished, applying, operands, operating, skipping, rowing, types, values, alternatives, selecting, projecting, numeral, signed_numeral, piece, importing, Start, let_name, updating, is_odd, is_some, when, row_at, or_first, lets_fit, scheme_fits, located, import_at}
use Rattle.dh_binary.specs.Inside.Fitting.{lets_left, ok, sort}

module _ {T : Type 0} (m : Making T) where
  -- ---- the rows

  abbrev pub RowOk : Option (Place T) → ℕ → Type 0
  RowOk o n = (is_some o ≡ true → ok (or_first o) n ≡ true) × (sort (or_first o) ≡ term)

  row_if : (n : ℕ) (c : Bool) (x y : Option (Place T)) → RowOk x n → RowOk y n → RowOk (if c then x else y) n
  row_if n true x y h k = h
  row_if n false x y h k = k

  row_when : (n : ℕ) (c : Bool) (p : Place T) → sort p ≡ term → (c ≡ true → ok p n ≡ true) → RowOk (when c p) n
  row_when n true p s h = (λ e. h refl, s)
  row_when n false p s h = (λ e. cc, refl)

  -- the same where one of two comes
  row_two : (n : ℕ) (c d : Bool) (p q : Place T) → sort p ≡ term → sort q ≡ term → (c ≡ true → ok p n ≡ true) → (d ≡ true → ok q n ≡ true) → RowOk (if c then Some p else when d q) n
  row_two n true d p q s t h k = (λ e. h refl, s)
  row_two n false true p q s t h k = (λ e. k refl, t)
  row_two n false false p q s t h k = (λ e. cc, refl)

  less : (k j n : ℕ) → le j k ≡ true → le k n ≡ true → le j n ≡ true
  less k zero n h g = refl
  less zero (suc j) n h g = cc
  less (suc k) (suc j) zero h g = cc
  less (suc k) (suc j) (suc n) h g = less k j n h g

  lets_are_left : (n : ℕ) → lets_fit n ≡ true → lets_left n ≡ true
  lets_are_left zero h = cc
  lets_are_left (suc zero) h = cc
  lets_are_left (suc (suc zero)) h = cc
  lets_are_left (suc (suc (suc zero))) h = cc
  lets_are_left (suc (suc (suc (suc zero)))) h = refl
  lets_are_left (suc (suc (suc (suc (suc n))))) h = lets_are_left (suc (suc n)) h

  pub row_ok : (c n : ℕ) → RowOk (row_at c n) n
  row_ok c n =
      row_if n (c == 0) _ _ (row_when n (le 2 n) (applying None) refl (λ h. less 2 1 n refl h))
      (row_if n (c == 1) _ _ (row_two n (eq n 2) (eq n 3) _ _ refl refl (λ h. h) (λ h. h))
      (row_if n (c == 2) _ _ (row_two n (eq n 2) (eq n 3) _ _ refl refl (λ h. h) (λ h. h))
      (row_if n (c == 3) _ _ (row_when n (eq n 3) operating refl (λ h. at_least n 2 h))
      (row_if n (c == 4) _ _ (row_two n (eq n 1) (le 2 n) _ _ refl refl (λ h. h) (λ h. less 2 1 n refl h))
      (row_if n (c == 5) _ _ (row_when n (eq n 2) (skipping ops.Some) refl (λ h. at_least n 1 h))
      (row_if n (c == 6) _ _ (row_two n (n == 2) (n == 3) _ _ refl refl (λ h. refl) (λ h. refl))
      (row_if n (c == 7) _ _ (row_when n (eq n 1) (rowing types) refl (λ h. h))
      (row_if n (c == 8) _ _ (row_when n (eq n 1) (rowing values) refl (λ h. h))
      (row_if n (c == 9) _ _ (row_when n (eq n 2) selecting refl (λ h. h))
      (row_if n (c == 10) _ _ (row_when n (le 1 n) projecting refl (λ h. h))
      (row_if n (c == 11) _ _ (row_when n (eq n 1) (rowing alternatives) refl (λ h. h))
      (row_if n (c == 14) _ _ (row_when n (n == 3) (operands ops.If []) refl (λ h. refl))
      (row_if n (c == 15) _ _ (row_when n (eq n 1) numeral refl (λ h. h))
      (row_if n (c == 16) _ _ (row_when n (eq n 1) signed_numeral refl (λ h. h))
      (row_if n (c == 18) _ _ (row_when n (is_odd n) (piece [] []) refl (λ h. h))
      (row_if n (c == 19) _ _ (row_when n (n == 1) (operands ops.Assert []) refl (λ h. refl))
      (row_if n (c == 24) _ _ (row_when n (le 3 n) importing refl (λ h. h))
      (row_if n (c == 25) _ _ (row_when n (lets_fit n) (let_name []) refl (lets_are_left n))
      (row_if n (c == 26) _ _ (row_when n (n == 2) (operands ops.Annot []) refl (λ h. refl))
      (row_if n (c == 27) _ _ (row_two n (n == 1) (n == 2) _ _ refl refl (λ h. refl) (λ h. refl))
      (row_if n (c == 28) _ _ (row_when n (n == 1) (operands ops.EmptyList []) refl (λ h. refl))
      (row_if n (c == 29) _ _ (row_when n (eq n 3) updating refl (λ h. h)) (λ e. cc, refl)))))))))))))))))))))))
    where
      at_least : (n k : ℕ) → eq n (suc k) ≡ true → le 1 n ≡ true
      at_least zero k h = cc
      at_least (suc n) k h = refl

  -- ---- the locations

  abbrev pub PlaceOk : Bool → Place T → ℕ → Type 0
  PlaceOk c p n = (c ≡ true → ok p n ≡ true) × (sort p ≡ term)

  place_if : (n : ℕ) (c d e : Bool) (p q : Place T) → PlaceOk d p n → PlaceOk e q n → PlaceOk (if c then d else e) (if c then p else q) n
  place_if n true d e p q h k = h
  place_if n false d e p q h k = k

  pub location_ok : (h : Start) (c n : ℕ) → PlaceOk (scheme_fits c n) (located m h c) n
  location_ok h c n =
      place_if n (c == 0) _ _ _ _ (less 4 3 n refl, refl)
      (place_if n (c == 1) _ _ _ _ (less 4 3 n refl, refl)
      (place_if n (c == 2) _ _ _ _ (λ e. refl, refl)
      (place_if n (c == 3) _ _ _ _ (λ e. refl, refl)
      (place_if n (c == 4) _ _ _ _ (λ e. refl, refl)
      (place_if n (c == 5) _ _ _ _ (λ e. refl, refl)
      (place_if n (c == 6) _ _ _ _ (λ e. e, refl)
      (last (c == 7))))))))
    where
      last : (d : Bool) → PlaceOk (if d then eq n 0 else false) (finished (import_at m h Rattle.dh_syntax.specs.declared.locations.Loc.TheVariants.Missing)) n
      last true = (λ e. e, refl)
      last false = (λ e. cc, refl)
