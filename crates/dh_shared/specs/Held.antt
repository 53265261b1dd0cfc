-- What a worker has counted, and how each call changes it.
--
-- A worker counts what it does in eight ledgers: the claims that it made, the deliveries that were kept, its releases, the
-- deliveries that came late, the claims of a fetch, the kept deliveries of what failed, the claims that found the run over, and
-- its returns. A return is a ticket that it gave back: by a release, or without a step where the serial was in flight no more.
use Rattle.std.specs.Prelude.{ℕ, ◌+◌, List, sum_by}

-- how many parts of each ledger it holds, and the eight amounts
pub record Held : Type 0 where
  pub parts : ℕ
  pub claims : ℕ
  pub kept : ℕ
  pub releases : ℕ
  pub lates : ℕ
  pub fetches : ℕ
  pub failed : ℕ
  pub overs : ℕ
  pub returns : ℕ

-- so many parts of each ledger, with nothing counted yet
abbrev pub none_held : ℕ → Held
none_held parts = record { parts = parts; claims = 0; kept = 0; releases = 0; lates = 0; fetches = 0; failed = 0; overs = 0; returns = 0 }

-- both together
abbrev pub both : Held → Held → Held
both a b = record {
  parts = a.parts + b.parts;
  claims = a.claims + b.claims;
  kept = a.kept + b.kept;
  releases = a.releases + b.releases;
  lates = a.lates + b.lates;
  fetches = a.fetches + b.fetches;
  failed = a.failed + b.failed;
  overs = a.overs + b.overs;
  returns = a.returns + b.returns;
}

-- one more claim, which is one of so many fetches
abbrev pub with_claim : Held → ℕ → Held
with_claim h fetch = record h { claims = h.claims + 1; fetches = h.fetches + fetch }

-- one more delivery that was kept, with so many failures
abbrev pub with_kept : Held → ℕ → Held
with_kept h failed = record h { kept = h.kept + 1; failed = h.failed + failed }

-- one more release
abbrev pub with_release : Held → Held
with_release h = record h { releases = h.releases + 1 }

-- one more ticket that was given back
abbrev pub with_return : Held → Held
with_return h = record h { returns = h.returns + 1 }

-- one more delivery that came late
abbrev pub with_late : Held → Held
with_late h = record h { lates = h.lates + 1 }

-- one more claim that found the run over
abbrev pub with_over : Held → Held
with_over h = record h { overs = h.overs + 1 }

-- how many steps these are
abbrev pub made : Held → ℕ
made h = h.claims + h.kept + h.releases + h.lates

-- the sum of the amounts and of the parts
abbrev pub sum_held : List Held → Held
sum_held hs = record {
  parts = sum_by (λ (h : Held). h.parts) hs;
  claims = sum_by (λ (h : Held). h.claims) hs;
  kept = sum_by (λ (h : Held). h.kept) hs;
  releases = sum_by (λ (h : Held). h.releases) hs;
  lates = sum_by (λ (h : Held). h.lates) hs;
  fetches = sum_by (λ (h : Held). h.fetches) hs;
  failed = sum_by (λ (h : Held). h.failed) hs;
  overs = sum_by (λ (h : Held). h.overs) hs;
  returns = sum_by (λ (h : Held). h.returns) hs;
}
