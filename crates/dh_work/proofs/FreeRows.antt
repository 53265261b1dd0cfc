-- Looking for a free variable in the parts of a nameless node, and in a whole expression.
use Rattle.std.specs.Prelude.{◌≡◌, ◌↔◌, ◌<◌, ◌≤◌, ◌+◌, ℕ, Bool, true, false, ◌||◌, not, List, length, drop, IsTrue, refl}
use Rattle.std.proofs.Common.{sym, ◌∙◌, ap, get_or, subst as along}
use Rattle.dh_syntax.specs.declared.expressions.Op.{Op}
use Rattle.dh_syntax.specs.Expressions.Tree.{Name, Term}
use Rattle.dh_imports.specs.Records.{IsClosed}
use Rattle.dh_syntax.specs.Names.Nameless.{to_core}
use Rattle.dh_terms.specs.declared.cores.Core.{Core}
use Rattle.dh_terms.specs.declared.cores.Core.TheVariants as cores
use Rattle.dh_terms.specs.declared.cores.CoreKid.{CoreKid}
use Rattle.dh_terms.specs.Cores.{nameless, nameless_row}
use Rattle.dh_terms.proofs.CoreTrees.{nameless-Bound, nameless-Free, nameless-Node, nameless_row-drop_item, nameless_row-drop_all}
use Rattle.dh_work.specs.Inside.Frees.{has_free, has_free_row}
use Rattle.dh_work.proofs.FreeLeaves.{closed_by_core}

pub free_bound : (c : Core) (i : ℕ) → c ≡ cores.Bound i → false ≡ has_free (nameless c)
free_bound c i h = sym (ap (λ d. has_free (nameless d)) h ∙ ap has_free (nameless-Bound i))

pub free_free : (c : Core) (x : Name) (n : ℕ) → c ≡ cores.Free x n → true ≡ has_free (nameless c)
free_free c x n h = sym (ap (λ d. has_free (nameless d)) h ∙ ap has_free (nameless-Free x n))

pub free_node : (c : Core) (op : Op) (kids : List CoreKid) (b : Bool) → c ≡ cores.Node op kids → b ≡ has_free_row (nameless_row kids) → b ≡ has_free (nameless c)
free_node c op kids b h p = p ∙ sym (ap (λ d. has_free (nameless d)) h ∙ ap has_free (nameless-Node op kids))

at_item : (ks : List CoreKid) (i : ℕ) (k : CoreKid) → i < length ks → k ≡ get_or ks i k →
    has_free_row (nameless_row (drop i ks)) ≡ (has_free (nameless k.body) || has_free_row (nameless_row (drop (i + 1) ks)))
at_item ks i k h e = ap has_free_row (nameless_row-drop_item ks i k h e)

-- a part in which one is free, one in which none is, and no part left
pub row_found : (ks : List CoreKid) (i : ℕ) (k : CoreKid) (whole : Bool) → i < length ks → k ≡ get_or ks i k → true ≡ has_free (nameless k.body)
    → has_free_row (nameless_row (drop i ks)) ≡ whole → true ≡ whole
row_found ks i k whole h e found so_far = ap (λ b. b || has_free_row (nameless_row (drop (i + 1) ks))) found ∙ sym (at_item ks i k h e) ∙ so_far

pub row_passed : (ks : List CoreKid) (i : ℕ) (k : CoreKid) (whole : Bool) → i < length ks → k ≡ get_or ks i k → false ≡ has_free (nameless k.body)
    → has_free_row (nameless_row (drop i ks)) ≡ whole → has_free_row (nameless_row (drop (i + 1) ks)) ≡ whole
row_passed ks i k whole h e passed so_far = ap (λ b. b || has_free_row (nameless_row (drop (i + 1) ks))) passed ∙ sym (at_item ks i k h e) ∙ so_far

pub row_ended : (ks : List CoreKid) (i : ℕ) (whole : Bool) → length ks ≤ i → has_free_row (nameless_row (drop i ks)) ≡ whole → false ≡ whole
row_ended ks i whole h so_far = sym (ap has_free_row (nameless_row-drop_all ks i h)) ∙ so_far

false-not_true : {P : Type 0} → false ≡ true → P
false-not_true h = absurd cc

not-tells : (b : Bool) → IsTrue (not b) ↔ (b ≡ false)
not-tells false = (λ h. refl, λ h. refl)
not-tells true = (λ h. false-not_true h, λ h. false-not_true (sym h))

-- the test of a nameless form is that of the expression
pub closed_tells : (e : Term) (c : Core) (b : Bool) → nameless c ≡ to_core e → b ≡ has_free (nameless c) → IsTrue (not b) ↔ IsClosed e
closed_tells e c b p q =
    let is : b ≡ has_free (to_core e) = q ∙ ap has_free p in
    (λ h. (closed_by_core e).0 (sym is ∙ (not-tells b).0 h), λ k. (not-tells b).1 (is ∙ (closed_by_core e).1 k))
