-- A place goes on as it fits.
use Rattle.std.specs.Prelude.{◌≡◌, ℕ, zero, suc, true, false, Some, None, refl}
use Rattle.std.proofs.Common.{◌∙◌, ap}
use Rattle.dh_syntax.specs.Expressions.Numbers.{eq}
use Rattle.dh_syntax.proofs.Numbers.{eq-true, and-true_left, and-true_right}
use Rattle.dh_binary.specs.Machine.{Making, Value, nothing, holds, called, counted, indexed, signed, coded, by, hashed, taken, queried, names, entries, Place, first, finished, applying, operands, binder, quantify, operating, emptied, skipping, rowing, types, values, alternatives, selecting, selected, projecting, projected, labelled, numeral, signed_numeral, piece, between, importing, moding, locating, components, headers, hosting, segments, environment, let_name, let_type, let_value, updating, update_path, update_value, indexing, labels, boxing, key, value, is_some, row_at, or_first, want, fill}
use Rattle.dh_binary.specs.Inside.Fitting.{lets_left, type_left, value_left, ok, sort, gives}
use Rattle.dh_binary.proofs.Fitting.{row_ok, location_ok}

module _ {T : Type 0} (m : Making T) where
  -- ---- a place goes on as it fits

  one_less : (k n : ℕ) → eq (suc n) (suc k) ≡ true → eq n k ≡ true
  one_less k n h = h

  typed : (n : ℕ) → lets_left (suc (suc n)) ≡ true → type_left (suc n) ≡ true
  typed zero h = cc
  typed (suc n) h = h

  pub goes_on : (p : Place T) (n : ℕ) (v : Value T) → ok p (suc n) ≡ true → gives (want p n) v ≡ true → (ok (fill m p v) n ≡ true) × (sort (fill m p v) ≡ sort p)
  goes_on first n (coded c j) h g =
      let e : j ≡ n = eq-true j n (and-true_right (is_some (row_at {T = T} c n)) (eq j n) g) in
      let (a, b) = row_ok m c n in
      (ap (λ k. ok (or_first (row_at {T = T} c k)) n) e ∙ a (and-true_left (is_some (row_at {T = T} c n)) (eq j n) g), ap (λ k. sort (or_first (row_at {T = T} c k))) e ∙ b)
  goes_on first n (called x) h g = (g, refl)
  goes_on (applying None) n (holds t) h g = (refl, refl)
  goes_on (applying (Some f)) n (holds t) h g = (refl, refl)
  goes_on (operands op es) n (holds t) h g = (refl, refl)
  goes_on (binder op) n (called x) h g = (h, refl)
  goes_on (quantify op x None) n (holds t) h g = (h, refl)
  goes_on (quantify op x (Some a)) n (holds t) h g = (h, refl)
  goes_on operating n (by o) h g = (refl, refl)
  goes_on emptied n (holds t) h g = (h, refl)
  goes_on (skipping op) n nothing h g = (refl, refl)
  goes_on (rowing types) n (entries es) h g = (h, refl)
  goes_on (rowing values) n (entries es) h g = (h, refl)
  goes_on (rowing alternatives) n (entries es) h g = (h, refl)
  goes_on selecting n (holds t) h g = (h, refl)
  goes_on (selected t) n (called x) h g = (h, refl)
  goes_on projecting n (holds t) h g = (refl, refl)
  goes_on (projected t) zero (called x) h g = (refl, refl)
  goes_on (projected t) zero (holds u) h g = (refl, refl)
  goes_on (projected t) (suc n) (called x) h g = (refl, refl)
  goes_on (labelled t xs) n (called x) h g = (refl, refl)
  goes_on numeral n (counted k) h g = (h, refl)
  goes_on signed_numeral n (signed z) h g = (h, refl)
  goes_on (piece ps es) n (called x) h g = (h, refl)
  goes_on (between ps es) n (holds t) h g = (h, refl)
  goes_on importing n (hashed d) h g = (h, refl)
  goes_on (moding d) n (taken how) h g = (h, refl)
  goes_on (locating s) n (counted c) h g = let (a, b) = location_ok m s c n in (a g, b)
  goes_on (components s k cs) n (called x) h g = (refl, refl)
  goes_on (headers s b) n nothing h g = (h, refl)
  goes_on (hosting s b) n (called x) h g = (h, refl)
  goes_on (segments s b host cs) zero (queried q) h g = (refl, refl)
  goes_on (segments s b host cs) (suc n) (called x) h g = (refl, refl)
  goes_on (environment s) n (called x) h g = (h, refl)
  goes_on (let_name bs) zero (holds t) h g = (refl, refl)
  goes_on (let_name bs) (suc n) (called x) h g = (typed n h, refl)
  goes_on (let_type bs x) n nothing h g = (by_type n h, refl)
    where
      by_type : (n : ℕ) → type_left (suc n) ≡ true → value_left n ≡ true
      by_type zero h = cc
      by_type (suc n) h = h
  goes_on (let_type bs x) n (holds t) h g = (by_type n h, refl)
    where
      by_type : (n : ℕ) → type_left (suc n) ≡ true → value_left n ≡ true
      by_type zero h = cc
      by_type (suc n) h = h
  goes_on (let_value bs x t) n (holds a) h g = (h, refl)
  goes_on updating n (holds t) h g = (h, refl)
  goes_on (update_path e) n (names ks) h g = (h, refl)
  goes_on (update_value e ks) n (holds t) h g = (h, refl)
  goes_on (indexing x) n (indexed k) h g = (h, refl)
  goes_on (labels ks) n (called x) h g = (refl, refl)
  goes_on boxing n (holds t) h g = (h, refl)
  goes_on (key nulls es) n (called x) h g = (h, refl)
  goes_on (value nulls es x) n nothing h g = (h, refl)
  goes_on (value nulls es x) n (holds t) h g = (h, refl)
  goes_on (value true es x) n v h g = cc
  goes_on (value false es x) n v h g = cc
  goes_on (finished t) n v h g = cc
  goes_on p n v h g = cc
