-- What a worker counts, against its desk.
use Rattle.std.specs.Prelude.{◌≡◌, ◌⊎◌, ℕ, ◌+◌, ◌-◌, ◌^◌, ◌≤◌}
use Rattle.dh_shared.specs.Held.{Held}

-- a count stands at the last value of a u64
abbrev pub AtLast : ℕ → Type 0
AtLast n = 2 ^ 64 - 1 ≤ n

-- a desk that was asked so often before and after, and shares before and after: it was asked once for each fetch that was claimed
abbrev pub Asks : ℕ → ℕ → Held → Held → Type 0
Asks before after old new = AtLast after ⊎ (after + old.fetches ≡ before + new.fetches)

-- a desk with so many faults before and after: each text and each look that was delivered as failed is one of its faults
abbrev pub Fails : ℕ → ℕ → Held → Held → Type 0
Fails before after old new = (before ≤ after) × (AtLast after ⊎ (new.failed + before ≤ old.failed + after))

-- no ticket was given back but after news that came late
abbrev pub FreesLate : Held → Held → Type 0
FreesLate old new = new.releases + old.lates ≤ old.releases + new.lates

-- news was delivered for each task that was claimed: it was kept, or it came late
abbrev pub Delivers : Held → Held → Type 0
Delivers old new = new.claims + old.kept + old.lates ≡ old.claims + new.kept + new.lates

-- each ticket that was claimed was delivered and kept, or was given back
abbrev pub GivesBack : Held → Held → Type 0
GivesBack old new = new.claims + old.kept + old.returns ≡ old.claims + new.kept + new.returns

-- a worker that ended for want of memory did not find the run over, and gave back at most one ticket more
abbrev pub EndsEarly : Held → Held → Type 0
EndsEarly old new = (new.overs ≡ old.overs) × (new.releases + old.lates ≤ old.releases + new.lates + 1)
