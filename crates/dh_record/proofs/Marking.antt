-- Marks of keys, as more are set.
use Rattle.std.specs.Prelude.{◌≡◌, ◌⊎◌, ◌<◌, ◌≤◌, ℕ, Bool, true, false, List, length, replicate, slice_set}
use Rattle.std.proofs.Common.{ap, sym, ◌∙◌, subst, arith, inl, inr}
use Rattle.std.proofs.lemmas.Bool.Decides.{eqb_tells}
use Rattle.std.proofs.lemmas.List.{get_or-set_same, get_or-set_other, get_or-replicate, length-replicate}
use Rattle.std.proofs.Math.ListN.{get_or-eq_default}
use Rattle.std.proofs.lemmas.Bool.{cases_lt, false≢true}
use Rattle.std.proofs.lemmas.List.Sums.{sum_by-set}
use Rattle.dh_syntax.specs.declared.locations.Key.{Key}
use Rattle.dh_record.specs.declared.rows.recorded.Entrant.{Entrant}
use Rattle.dh_record.specs.Marks.{is_set, IsMarked, one_unless, unseen}

pub set_cases : (bs : List Bool) (n x : ℕ) → is_set (slice_set bs n true) x ≡ true → (x ≡ n) ⊎ (is_set bs x ≡ true)
set_cases bs n x h =
    elim (eqb_tells x n) [
      | inl p ↦ inl p.1
      | inr p ↦ inr (sym (get_or-set_other bs n x true false p.1) ∙ h)
    ]

pub set_kept : (bs : List Bool) (n x : ℕ) → n < length bs → is_set bs x ≡ true → is_set (slice_set bs n true) x ≡ true
set_kept bs n x l h =
    elim (eqb_tells x n) [
      | inl p ↦ subst (λ y. is_set (slice_set bs n true) y ≡ true) (sym p.1) (get_or-set_same bs n true false l)
      | inr p ↦ get_or-set_other bs n x true false p.1 ∙ h
    ]

pub fewer_unseen : (bs : List Bool) (n : ℕ) → n < length bs → is_set bs n ≡ false → unseen (slice_set bs n true) < unseen bs
fewer_unseen bs n l h =
    let e = sum_by-set one_unless bs n true false l in
    let f : one_unless (is_set bs n) ≡ 1 = ap one_unless h in
    omega arith

pub nothing_set : (n x : ℕ) → is_set (replicate n false) x ≡ true → ⊥
nothing_set n x h =
    elim (cases_lt x n) [
      | inl l ↦ clash (sym (get_or-replicate n x false false l) ∙ h)
      | inr g ↦ clash (sym (get_or-eq_default (replicate n false) false (subst (λ m. m ≤ x) (sym (length-replicate n false)) g)) ∙ h)
    ]
  where
    clash : false ≡ true → ⊥
    clash e = false≢true e

module _ (keys : List Entrant) (marks marks' : List Bool) (rows-new : (n : ℕ) → is_set marks n ≡ true → is_set marks' n ≡ true) where
  pub marked_kept : (j : Key) → IsMarked keys marks j → IsMarked keys marks' j
  marked_kept j m = record { number = m.number; number_is = m.number_is; set = rows-new m.number m.set }
