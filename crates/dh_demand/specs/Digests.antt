-- The digests of values, by the numbers of their keys.
use Rattle.std.specs.Prelude.{ℕ, List, map, All, Option, Some, None, IsSome, IfSome}
use Rattle.dh_syntax.specs.declared.locations.Digest.{Digest}
use Rattle.dh_imports.specs.declared.outcomes.Outcome as program
use Rattle.dh_imports.specs.declared.outcomes.Outcome.TheVariants as variants
use Rattle.dh_syntax.specs.Expressions.Bridge.{term}
use Rattle.dh_syntax.specs.Bytes.Digests.{digest_of}
use Rattle.dh_demand.specs.Results.{Row, outcome_at}

-- the digest of the value of an outcome, where it has one
abbrev pub value_digest : Option program.Outcome → Option Digest
value_digest (Some (variants.Good v o)) = Some (digest_of (term v))
value_digest (Some (variants.Bad b)) = None
value_digest None = None

-- the digest of the value that is known, if there is one
abbrev pub known_digest : Option (Option program.Outcome) → Option Digest
known_digest (Some o) = value_digest o
known_digest None = None

-- that of the key of this number, if there is one
abbrev pub digest_at : List Row → Option ℕ → Option Digest
digest_at rows (Some n) = known_digest (outcome_at rows n)
digest_at rows None = None

-- the digests of the rows of these numbers
abbrev pub digests_at : List Row → List (Option ℕ) → List (Option Digest)
digests_at rows ns = map (digest_at rows) ns

-- the key of this number has a value
abbrev pub HasValue : List Row → ℕ → Type 0
HasValue rows n = IsSome (digest_at rows (Some n))

-- each of these numbers is that of a key with a value
abbrev pub HaveValues : List Row → List (Option ℕ) → Type 0
HaveValues rows ns = All (λ (n : Option ℕ). IfSome n (HasValue rows)) ns
