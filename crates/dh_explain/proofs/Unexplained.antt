-- Numbers that no rule has.
use Rattle.std.proofs.Common.{◌≡◌, ℕ, ◌≤◌, List, [], ◌∷◌, Some, None, true, Bool, refl, sym, ap, subst, nat_le}
use Rattle.std.specs.Prelude.{◌&&◌, ◌==◌, cond, find, option_map}
use Rattle.std.specs.List.{list_all}
use Rattle.std.proofs.lemmas.Bool.{and_parts, leb-true, ne_eqb}
use Rattle.dh_explain.specs.RuleTexts.{rules, told_of, explanation}
use Rattle.dh_syntax.specs.Typing.TypeRules.{Rule, rule_number}

abbrev within : Rule → Bool
within r = nat_le 1 (rule_number r) && nat_le (rule_number r) 56

other : (n : ℕ) (r : Rule) → within r ≡ true → (1 ≤ n → n ≤ 56 → ⊥) → rule_number r ≡ n → ⊥
other n r h o e =
    let parts = and_parts (nat_le 1 (rule_number r)) (nat_le (rule_number r) 56) h in
    o (subst (λ m. 1 ≤ m) e (leb-true 1 (rule_number r) parts.0)) (subst (λ m. m ≤ 56) e (leb-true (rule_number r) 56 parts.1))

unfound : (n : ℕ) (rs : List Rule) → list_all within rs ≡ true → (1 ≤ n → n ≤ 56 → ⊥) → find (λ r. rule_number r == n) rs ≡ None
unfound n [] h o = refl
unfound n (r ∷ rs) h o =
    let parts = and_parts (within r) (list_all within rs) h in
    subst (λ b. cond b (Some r) (find (λ r. rule_number r == n) rs) ≡ None) (sym (ne_eqb (rule_number r) n (other n r parts.0 o))) (unfound n rs parts.1 o)

all_within : list_all within rules ≡ true
all_within = refl

-- a number below 1 or above 56 has no explanation
pub unexplained : (n : ℕ) → (1 ≤ n → n ≤ 56 → ⊥) → None ≡ explanation n
unfolding explanation
unexplained n o = sym (ap (option_map told_of) (unfound n rules all_within o))
