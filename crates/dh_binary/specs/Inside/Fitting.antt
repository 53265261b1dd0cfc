-- In which places so many items can come, and which values a want is met by.
use Rattle.std.specs.Prelude.{ℕ, zero, suc, Bool, true, false, ◌&&◌, Some, None}
use Rattle.dh_syntax.specs.Expressions.Numbers.{eq, le}
use Rattle.dh_binary.specs.Machine.{Value, nothing, holds, called, counted, indexed, signed, coded, by, hashed, taken, queried, names, entries, Want, term, whole, nullable, opening, spelled, null, index, operator_code, digest, mode, scheme, query, natural, integer, big_natural, big_integer, path, boxed, rows, Place, first, finished, applying, binder, quantify, operating, emptied, skipping, rowing, selecting, selected, projecting, numeral, signed_numeral, piece, between, importing, moding, locating, headers, hosting, segments, environment, let_name, let_type, let_value, updating, update_path, update_value, indexing, labels, boxing, key, value, is_odd, is_some, row_at, scheme_fits}

-- a body, or bindings and a body
abbrev pub lets_left : ℕ → Bool
lets_left (suc zero) = true
lets_left (suc (suc (suc n))) = lets_left n
lets_left _ = false

-- whether so many items may be left at the type of a let: it, its value and what follows
abbrev pub type_left : ℕ → Bool
type_left (suc (suc n)) = lets_left n
type_left _ = false

-- whether so many items may be left at the value of a let: it and what follows
abbrev pub value_left : ℕ → Bool
value_left (suc n) = lets_left n
value_left _ = false

-- whether so many items of an array may be left at this place
abbrev pub ok : {T : Type 0} → Place T → ℕ → Bool
ok first n = le 2 n
ok (finished t) n = eq n 0
ok (applying None) n = le 1 n
ok (binder op) n = eq n 3
ok (quantify op x None) n = eq n 2
ok (quantify op x (Some a)) n = eq n 1
ok operating n = le 1 n
ok emptied n = eq n 1
ok (skipping op) n = le 1 n
ok (rowing k) n = eq n 1
ok selecting n = eq n 2
ok (selected t) n = eq n 1
ok projecting n = le 1 n
ok numeral n = eq n 1
ok signed_numeral n = eq n 1
ok (piece ps es) n = is_odd n
ok (between ps es) n = is_odd (suc n)
ok importing n = le 3 n
ok (moding d) n = le 2 n
ok (locating h) n = le 1 n
ok (headers h s) n = le 3 n
ok (hosting h s) n = le 2 n
ok (segments h s host cs) n = le 1 n
ok (environment h) n = eq n 1
ok (let_name bs) n = lets_left n
ok (let_type bs x) n = type_left n
ok (let_value bs x t) n = value_left n
ok updating n = eq n 3
ok (update_path e) n = eq n 2
ok (update_value e ks) n = eq n 1
ok (indexing x) n = eq n 1
ok boxing n = eq n 1
ok (key nulls es) n = is_odd (suc n)
ok (value nulls es x) n = is_odd n
ok _ n = true

-- what a place ends as
abbrev pub sort : {T : Type 0} → Place T → Want
sort (labels ks) = path
sort (key nulls es) = rows nulls
sort (value nulls es x) = rows nulls
sort _ = term

-- whether a value is one that was wanted
abbrev pub gives : {T : Type 0} → Want → Value T → Bool
gives term (holds t) = true
gives whole (holds t) = true
gives nullable nothing = true
gives nullable (holds t) = true
gives {T} (opening k) (coded n j) = is_some (row_at {T = T} n k) && eq j k
gives (opening k) (called x) = eq k 1
gives (spelled test) (called x) = true
gives null nothing = true
gives index (indexed n) = true
gives operator_code (by o) = true
gives digest (hashed d) = true
gives mode (taken how) = true
gives (scheme k) (counted n) = scheme_fits n k
gives query (queried q) = true
gives natural (counted n) = true
gives integer (signed z) = true
gives big_natural (counted n) = true
gives (big_integer t) (signed z) = true
gives path (names ks) = true
gives boxed (called x) = true
gives boxed (holds t) = true
gives (rows nulls) (entries es) = true
gives w v = false
