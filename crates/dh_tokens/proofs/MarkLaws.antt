-- Laws of marks at one place.
use Rattle.std.proofs.Common.{◌≡◌, ℕ, ◌+◌, ◌<◌, ◌≤◌, List, length, drop, map, get_or, Option, IfSome, ◌⊎◌, inl, inr, sym, ap, subst, ◌∙◌}
use Rattle.std.proofs.lemmas.List.{at_drop_more}
use Rattle.std.specs.Borrow.{Bor}
use Rattle.dh_syntax.specs.declared.tokens.Mark.{Mark}
use Rattle.dh_syntax.specs.Text.LexForms.{Form}
use Rattle.dh_syntax.specs.Text.LexMarks.{mark_form}
use Rattle.dh_tokens.proofs.FormLaws.{longest-cons, joined_assoc}
use Rattle.dh_tokens.specs.Inside.Forms.{joined}
use Rattle.dh_tokens.specs.Inside.Marks.{longest_of, spelled_of}

-- a loop's step
pub longest_of-step : (bs : List ℕ) (table : List (Bor (List ℕ) × Mark)) (i : ℕ) (d : Bor (List ℕ) × Mark) (best other best' : Option Form) → i < length table
    → other ≡ mark_form bs (spelled_of (get_or table i d)) → best' ≡ joined best other
    → longest_of bs table ≡ joined best (longest_of bs (drop i table)) → longest_of bs table ≡ joined best' (longest_of bs (drop (i + 1) table))
longest_of-step bs table i d best other best' within other_is best'_is so_far =
    let next = drop (i + 1) table in
    so_far
    ∙ ap (joined best) (at_drop_more (longest_of bs) table i d within ∙ longest-cons (mark_form bs (spelled_of (get_or table i d))) (map (mark_form bs) (map spelled_of next)))
    ∙ ap (λ f. joined best (joined f (longest_of bs next))) (sym other_is)
    ∙ joined_assoc best other (longest_of bs next)
    ∙ ap (λ f. joined f (longest_of bs next)) (sym best'_is)

-- the longer one of two marks within so many bytes is within them
pub within_of_two : (n : ℕ) (best other result : Option (Mark × ℕ)) → (result ≡ best) ⊎ (result ≡ other)
    → IfSome best (λ m. (0 < m.1) × (m.1 ≤ n)) → IfSome other (λ m. (0 < m.1) × (m.1 ≤ n)) → IfSome result (λ m. (0 < m.1) × (m.1 ≤ n))
within_of_two n best other result one p q =
    let P : Option (Mark × ℕ) → Type 0 = λ o. IfSome o (λ m. (0 < m.1) × (m.1 ≤ n)) in
    elim one [ inl e ↦ subst P (sym e) p | inr e ↦ subst P (sym e) q ]
