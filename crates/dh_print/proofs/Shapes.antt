-- The rows of parts that nodes have.
use Rattle.std.proofs.Common.{◌≡◌, ℕ, zero, suc, ◌+◌, Bool, true, ◌&&◌, List, [], ◌∷◌, length, Option, Some, None, refl, subst, ap, ◌∙◌, arith}
use Rattle.std.proofs.lemmas.Bool.{false≢true, and_parts}
use Rattle.dh_syntax.specs.declared.expressions.Kid.{Kid}
use Rattle.dh_syntax.specs.declared.expressions.Op.{Op}
use Rattle.dh_syntax.specs.Expressions.Arity.{plain, binding, between, fits}
use Rattle.dh_syntax.specs.Expressions.Bridge.{row_of}
use Rattle.dh_syntax.specs.Expressions.Rows.{row_length}
use Rattle.dh_syntax.specs.Expressions.Tree.{Row, end, kid, Name, Var, Term}
use Rattle.dh_syntax.proofs.Rows.{row_length-row_of}

pub fits_at : (o o' : Op) (r : Row Var Name) → o ≡ o' → fits o r ≡ true → fits o' r ≡ true
fits_at o o' r e h = subst (λ p. fits p r ≡ true) e h

-- ---- how many parts there are

plain_length : (n : ℕ) (r : Row Var Name) → plain n r ≡ true → n ≡ row_length r
plain_length zero end h = refl
plain_length zero (kid b e r) h = absurd (false≢true h)
plain_length (suc n) end h = absurd (false≢true h)
plain_length (suc n) (kid None e r) h = ap suc (plain_length n r h)
plain_length (suc n) (kid (Some x) e r) h = absurd (false≢true h)

binding_length : (n : ℕ) (r : Row Var Name) → binding n r ≡ true → suc n ≡ row_length r
binding_length zero end h = absurd (false≢true h)
binding_length (suc n) end h = absurd (false≢true h)
binding_length zero (kid None e r) h = absurd (false≢true h)
binding_length zero (kid (Some x) e end) h = refl
binding_length zero (kid (Some x) e (kid b f r)) h = absurd (false≢true h)
binding_length (suc n) (kid None e r) h = ap suc (binding_length n r h)
binding_length (suc n) (kid (Some x) e r) h = absurd (false≢true h)

pub plain_count : (n : ℕ) (ks : List Kid) → plain n (row_of ks) ≡ true → n ≡ length ks
plain_count n ks h = plain_length n (row_of ks) h ∙ row_length-row_of ks

pub binding_count : (n : ℕ) (ks : List Kid) → binding n (row_of ks) ≡ true → suc n ≡ length ks
binding_count n ks h = binding_length n (row_of ks) h ∙ row_length-row_of ks

pub labelled_count : (b : Bool) (n : ℕ) (ks : List Kid) → (b && plain n (row_of ks)) ≡ true → n ≡ length ks
labelled_count b n ks h = plain_count n ks (and_parts b (plain n (row_of ks)) h).1

pub between_count : (pieces : List (List ℕ)) (ks : List Kid) → between pieces (row_of ks) ≡ true → length pieces ≡ length ks + 1
between_count [] ks h = absurd (false≢true h)
between_count (p ∷ ps) ks h = let n = plain_count (length ps) ks h in omega arith

-- ---- a claim on the rows of so many parts

pub one_part : (P : Row Var Name → Type 0) → ((e : Term) → P (kid None e end)) → (r : Row Var Name) → plain 1 r ≡ true → P r
one_part P f (kid None e end) h = f e
one_part P f end h = absurd (false≢true h)
one_part P f (kid (Some x) e r) h = absurd (false≢true h)
one_part P f (kid None e (kid b g r)) h = absurd (false≢true h)

pub two_parts : (P : Row Var Name → Type 0) → ((e f : Term) → P (kid None e (kid None f end))) → (r : Row Var Name) → plain 2 r ≡ true → P r
two_parts P g end h = absurd (false≢true h)
two_parts P g (kid (Some x) e r) h = absurd (false≢true h)
two_parts P g (kid None e r) h = one_part (λ s. P (kid None e s)) (λ f. g e f) r h

pub three_parts : (P : Row Var Name → Type 0) → ((e f g : Term) → P (kid None e (kid None f (kid None g end)))) → (r : Row Var Name) → plain 3 r ≡ true → P r
three_parts P g end h = absurd (false≢true h)
three_parts P g (kid (Some x) e r) h = absurd (false≢true h)
three_parts P g (kid None e r) h = two_parts (λ s. P (kid None e s)) (λ f k. g e f k) r h

pub bound_part : (P : Row Var Name → Type 0) → ((x : Name) (b : Term) → P (kid (Some x) b end)) → (r : Row Var Name) → binding 0 r ≡ true → P r
bound_part P g end h = absurd (false≢true h)
bound_part P g (kid None e r) h = absurd (false≢true h)
bound_part P g (kid (Some x) e end) h = g x e
bound_part P g (kid (Some x) e (kid b f r)) h = absurd (false≢true h)

pub part_and_bound : (P : Row Var Name → Type 0) → ((e : Term) (x : Name) (b : Term) → P (kid None e (kid (Some x) b end))) → (r : Row Var Name) → binding 1 r ≡ true → P r
part_and_bound P g end h = absurd (false≢true h)
part_and_bound P g (kid (Some x) e r) h = absurd (false≢true h)
part_and_bound P g (kid None e r) h = bound_part (λ s. P (kid None e s)) (λ x b. g e x b) r h

pub parts_and_bound : (P : Row Var Name → Type 0) → ((e f : Term) (x : Name) (b : Term) → P (kid None e (kid None f (kid (Some x) b end)))) → (r : Row Var Name) → binding 2 r ≡ true → P r
parts_and_bound P g end h = absurd (false≢true h)
parts_and_bound P g (kid (Some x) e r) h = absurd (false≢true h)
parts_and_bound P g (kid None e r) h = part_and_bound (λ s. P (kid None e s)) (λ f x b. g e f x b) r h

-- two parts, whatever they stand under
pub any_two : (P : Row Var Name → Type 0) → ((b : Option Name) (e : Term) (c : Option Name) (f : Term) → P (kid b e (kid c f end))) → (r : Row Var Name) → row_length r ≡ 2 → P r
any_two P g end h = absurd (omega arith)
any_two P g (kid b e end) h = absurd (omega arith)
any_two P g (kid b e (kid c f end)) h = g b e c f
any_two P g (kid b e (kid c f (kid d k r))) h = absurd (omega arith)
