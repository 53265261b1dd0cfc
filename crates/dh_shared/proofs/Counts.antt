-- The steps but the loop marks are those of the four kinds.
use Rattle.std.proofs.Common.{◌≡◌, ℕ, ◌+◌, Bool, cond, not, List, [], ◌∷◌, refl, arith}
use Rattle.std.specs.Prelude.{count_by}
use Rattle.std.proofs.lemmas.List.Sums.{sum_by-cons}
use Rattle.dh_table.specs.declared.steps.Step.{Step}
use Rattle.dh_shared.specs.Counting.{is_claim, is_recorded, is_release, is_late, is_mark}

flag : (Step → Bool) → Step → ℕ
flag p e = cond (p e) 1 0

of_one : (e : Step) → cond (not (is_mark e)) 1 0 ≡ cond (is_claim e) 1 0 + cond (is_recorded e) 1 0 + cond (is_release e) 1 0 + cond (is_late e) 1 0
of_one (Step.Claim w k n) = refl
of_one (Step.Release n) = refl
of_one (Step.Fetched n) = refl
of_one (Step.Looked n) = refl
of_one (Step.Finished n) = refl
of_one (Step.Late n) = refl
of_one (Step.Cycled k) = refl

pub parted : (h : List Step) → count_by (λ e. not (is_mark e)) h ≡ count_by is_claim h + count_by is_recorded h + count_by is_release h + count_by is_late h
parted [] = refl
parted (e ∷ h) = omega (
  arith,
  parted h,
  of_one e,
  sum_by-cons (λ (x : Step). cond (not (is_mark x)) 1 0) e h,
  sum_by-cons (λ (x : Step). cond (is_claim x) 1 0) e h,
  sum_by-cons (λ (x : Step). cond (is_recorded x) 1 0) e h,
  sum_by-cons (λ (x : Step). cond (is_release x) 1 0) e h,
  sum_by-cons (λ (x : Step). cond (is_late x) 1 0) e h,
)
