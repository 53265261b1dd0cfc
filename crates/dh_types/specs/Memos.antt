-- What was found for pairs of numbers.
use Rattle.std.specs.Prelude.{ℕ, ◌&&◌, nat_eq, Option}
use Rattle.std.specs.HashMap as hash
use Rattle.dh_types.specs.declared.memos.Memo.{Memo}

-- what was found for these two
unfoldable pub entry : {V : Type 0} → Memo V → ℕ → ℕ → Option V
entry m a b = hash.get (λ x y. nat_eq x.0 y.0 && nat_eq x.1 y.1) m.found (a, b)
