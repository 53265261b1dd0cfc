-- Where a host is dialled (RFC 3986, section 3.2.3; RFC 9110, section 4.2.1).
use Rattle.std.specs.Prelude.{◌≡◌, ℕ, ◌<◌, ◌^◌, ◌⊎◌, ◌==◌, Bool, List, []}
use Rattle.std.specs.Str.Parse.{digits_value, IsNumeral}

-- whether the byte is a colon
abbrev pub is_colon : ℕ → Bool
is_colon b = b == 58

-- the port that these digits name: 80 where there are none
abbrev pub IsPort : List ℕ → ℕ → Type 0
IsPort digits port =
    ((digits ≡ []) × (port ≡ 80)) ⊎ (IsNumeral 10 digits × (port ≡ digits_value 10 digits) × (port < 2 ^ 16))

-- they name none
abbrev pub HasNoPort : List ℕ → Type 0
HasNoPort digits = (port : ℕ) → ¬ (IsPort digits port)
