-- The number of a key is the place of its first row.
use Rattle.std.specs.Prelude.{◌≡◌, ◌<◌, ℕ, zero, suc, true, false, if◌then◌else◌, List, [], ◌∷◌, length, Some}
use Rattle.std.specs.Option.{option_map}
use Rattle.std.proofs.Common.{ap, sym, ◌∙◌, arith, get_or}
use Rattle.dh_syntax.specs.declared.locations.Key.{Key}
use Rattle.dh_syntax.specs.Imports.Keys.{key_eq}
use Rattle.dh_demand.specs.Results.{number_of}
use Rattle.dh_record.specs.declared.rows.recorded.Entrant.{Entrant}
use Rattle.dh_record.specs.Rows.{rows_of}

-- no key before this place is this one
abbrev pub NotBefore : List Entrant → Key → ℕ → Type 0
NotBefore es k i = (n : ℕ) → n < i → (d : Entrant) → n < length es → key_eq (get_or es n d).key k ≡ false

pub number_first : (es : List Entrant) (k : Key) (i : ℕ) (d : Entrant) → i < length es → NotBefore es k i → key_eq (get_or es i d).key k ≡ true → Some i ≡ number_of (rows_of es) k
number_first [] k i d h before here = absurd (omega arith)
number_first (e ∷ es) k zero d h before here = sym (ap (λ b. if b then Some 0 else option_map suc (number_of (rows_of es) k)) here)
number_first (e ∷ es) k (suc i) d h before here =
    ap (option_map suc) (number_first es k i d (omega arith) (λ n m c l. before (suc n) (omega arith) c (omega arith)) here)
    ∙ sym (ap (λ b. if b then Some 0 else option_map suc (number_of (rows_of es) k)) (before 0 (omega arith) d (omega arith)))
