-- A type below a binder of its own, and a body with its argument put in.
use Rattle.std.specs.Prelude.{◌≡◌, ◌⊎◌, ℕ, zero, suc, Bool, true, false, [], Option, Some, None, if◌then◌else◌, refl}
use Rattle.std.proofs.Common.{ap, sym, ◌∙◌, arith, inl, inr}
use Rattle.std.proofs.lemmas.Bool.{false≢true}
use Rattle.dh_syntax.specs.Expressions.Numbers.{eq}
use Rattle.dh_syntax.specs.Expressions.Tree.{Row, Leaf, Node, end, kid, Name}
use Rattle.dh_syntax.specs.Names.Moves.{moved, moved_row}
use Rattle.dh_syntax.specs.Names.Nameless.{Ref, Bound, Free, Core, lifted, ren, renaming, raised, sub, sub_row, first}
use Rattle.dh_syntax.specs.Normalising.NamelessRuns.{ref_eq}
use Rattle.dh_store.specs.Cells.{outside}
use Rattle.dh_types.specs.Binding.{bound_ref, binding, bound_in}
use Rattle.dh_types.specs.Closed.{IsClosed, IsClosedBelow}
use Rattle.dh_types.specs.Inside.Changes.{changed, changed_row, put_ref}
use Rattle.dh_types.proofs.ClosedCores.{Keeps, leaf-once, lifted-keeps, node-once, part-once, rest-once}

both : (b : Option Name) (d e : Core) (r s : Row Ref Name) → d ≡ e → r ≡ s → kid b d r ≡ kid b e s
both b d e r s p q = cc

-- ---- binding

module _ (n : ℕ) where
  mutual
    pub changed-binding : (k : ℕ) (e : Core) → changed (λ k r. Leaf (bound_ref n k r)) k e ≡ moved (binding n) k e
    changed-binding k (Leaf r) = refl
    changed-binding k (Node op r) = ap (Node op) (changed-binding_row k r)

    changed-binding_row : (k : ℕ) (r : Row Ref Name) → changed_row (λ k r. Leaf (bound_ref n k r)) k r ≡ moved_row (binding n) k r
    changed-binding_row k end = refl
    changed-binding_row k (kid None e r) = both None _ _ _ _ (changed-binding k e) (changed-binding_row k r)
    changed-binding_row k (kid (Some x) e r) = both (Some x) _ _ _ _ (changed-binding (suc k) e) (changed-binding_row k r)

  -- what a renaming f keeps, h keeps, and the variable that is bound
  record Stays (k : ℕ) (f h : ℕ → ℕ) : Type 0 where
    kept : (i : ℕ) → f i ≡ i → h i ≡ i
    bound : h k ≡ k

  stays-lifted : (k : ℕ) (f h : ℕ → ℕ) → Stays k f h → Stays (suc k) (lifted f) (lifted h)
  stays-lifted k f h s = record { kept = by; bound = ap suc s.bound }
    where
      by : (i : ℕ) → lifted f i ≡ i → lifted h i ≡ i
      by zero e = refl
      by (suc i) e = ap suc (s.kept i (omega arith))

  bound-leaf : (k : ℕ) (h : ℕ → ℕ) (r : Ref) (b : Bool) → h k ≡ k → ren {B = Name} h (Leaf r) ≡ Leaf r → ren {B = Name} h (Leaf (if b then Bound k else r)) ≡ Leaf (if b then Bound k else r)
  bound-leaf k h r true e p = ap (λ j. Leaf (Bound j)) e
  bound-leaf k h r false e p = p

  mutual
    bound-kept : (k : ℕ) (f h : ℕ → ℕ) → Stays k f h → (e : Core) → ren f e ≡ e → ren h (moved (binding n) k e) ≡ moved (binding n) k e
    bound-kept k f h s (Leaf (Bound i)) p = bound-leaf k h (Bound i) (ref_eq (outside [] n) (Bound i)) s.bound (ap (λ j. Leaf (Bound j)) (s.kept i (leaf-once (f i) i p)))
    bound-kept k f h s (Leaf (Free x m)) p = bound-leaf k h (Free x m) (ref_eq (outside [] n) (Free x m)) s.bound refl
    bound-kept k f h s (Node op r) p = ap (Node op) (bound-kept_row k f h s r (node-once op _ _ p))

    bound-kept_row : (k : ℕ) (f h : ℕ → ℕ) → Stays k f h → (r : Row Ref Name) → moved_row renaming f r ≡ r → moved_row renaming h (moved_row (binding n) k r) ≡ moved_row (binding n) k r
    bound-kept_row k f h s end p = refl
    bound-kept_row k f h s (kid None e r) p = both None _ _ _ _ (bound-kept k f h s e (part-once _ _ _ _ _ p)) (bound-kept_row k f h s r (rest-once _ _ _ _ _ p))
    bound-kept_row k f h s (kid (Some x) e r) p =
        both (Some x) _ _ _ _ (bound-kept (suc k) (lifted f) (lifted h) (stays-lifted k f h s) e (part-once _ _ _ _ _ p)) (bound-kept_row k f h s r (rest-once _ _ _ _ _ p))

  -- below the binder it has no variable but that of the binder
  pub bound-closed : (e : Core) → IsClosed e → IsClosedBelow (bound_in n e)
  bound-closed e h = bound-kept 0 (λ i. suc i) (lifted (λ i. suc i)) (record { kept = λ i p. absurd (omega arith); bound = refl }) e h

-- ---- putting an argument

-- what a renaming f keeps, h keeps
abbrev Less : (ℕ → ℕ) → (ℕ → ℕ) → Type 0
Less f h = (i : ℕ) → f i ≡ i → h i ≡ i

less-lifted : (f h : ℕ → ℕ) → Less f h → Less (lifted f) (lifted h)
less-lifted f h less zero e = refl
less-lifted f h less (suc i) e = ap suc (less i (omega arith))

mutual
  renamed-kept : (f h : ℕ → ℕ) → Less f h → (e : Core) → ren f e ≡ e → ren h e ≡ e
  renamed-kept f h less (Leaf (Bound i)) p = ap (λ j. Leaf (Bound j)) (less i (leaf-once (f i) i p))
  renamed-kept f h less (Leaf (Free x m)) p = refl
  renamed-kept f h less (Node op r) p = ap (Node op) (renamed-kept_row f h less r (node-once op _ _ p))

  renamed-kept_row : (f h : ℕ → ℕ) → Less f h → (r : Row Ref Name) → moved_row renaming f r ≡ r → moved_row renaming h r ≡ r
  renamed-kept_row f h less end p = refl
  renamed-kept_row f h less (kid None e r) p = both None _ _ _ _ (renamed-kept f h less e (part-once _ _ _ _ _ p)) (renamed-kept_row f h less r (rest-once _ _ _ _ _ p))
  renamed-kept_row f h less (kid (Some x) e r) p = both (Some x) _ _ _ _ (renamed-kept (lifted f) (lifted h) (less-lifted f h less) e (part-once _ _ _ _ _ p)) (renamed-kept_row f h less r (rest-once _ _ _ _ _ p))

-- what has no loose variable is itself with any renaming
pub closed-anyhow : (e : Core) → IsClosed e → (h : ℕ → ℕ) → ren h e ≡ e
closed-anyhow e c h = renamed-kept (λ i. suc i) h (λ i p. absurd (omega arith)) e c

module _ (a : Core) (closed : IsClosed a) where
  put-leaf : (h : ℕ → ℕ) (i : ℕ) (b : Bool) → (b ≡ true) ⊎ (h i ≡ i) → ren h (if b then a else Leaf (Bound i)) ≡ (if b then a else Leaf (Bound i))
  put-leaf h i true p = closed-anyhow a closed h
  put-leaf h i false (inl p) = absurd (false≢true p)
  put-leaf h i false (inr p) = ap (λ j. Leaf (Bound j)) p

  mutual
    put-kept : (k : ℕ) (f h : ℕ → ℕ) → Keeps k f h → (e : Core) → ren f e ≡ e → ren h (changed (put_ref a) k e) ≡ changed (put_ref a) k e
    put-kept k f h keeps (Leaf (Bound i)) p = put-leaf h i (eq i k) (keeps i (leaf-once (f i) i p))
    put-kept k f h keeps (Leaf (Free x m)) p = refl
    put-kept k f h keeps (Node op r) p = ap (Node op) (put-kept_row k f h keeps r (node-once op _ _ p))

    put-kept_row : (k : ℕ) (f h : ℕ → ℕ) → Keeps k f h → (r : Row Ref Name) → moved_row renaming f r ≡ r → moved_row renaming h (changed_row (put_ref a) k r) ≡ changed_row (put_ref a) k r
    put-kept_row k f h keeps end p = refl
    put-kept_row k f h keeps (kid None e r) p = both None _ _ _ _ (put-kept k f h keeps e (part-once _ _ _ _ _ p)) (put-kept_row k f h keeps r (rest-once _ _ _ _ _ p))
    put-kept_row k f h keeps (kid (Some x) e r) p =
        both (Some x) _ _ _ _ (put-kept (suc k) (lifted f) (lifted h) (lifted-keeps k f h keeps) e (part-once _ _ _ _ _ p)) (put-kept_row k f h keeps r (rest-once _ _ _ _ _ p))

  below-put : Keeps 0 (lifted (λ i. suc i)) (λ i. suc i)
  below-put zero e = inl refl
  below-put (suc i) e = absurd (omega arith)

  -- with the argument put in it has no loose variable
  pub put-closed : (e : Core) → IsClosedBelow e → IsClosed (changed (put_ref a) 0 e)
  put-closed e h = put-kept 0 (lifted (λ i. suc i)) (λ i. suc i) below-put e h

  -- ---- against substitution

  -- the substitution does what putting the argument does, where f keeps the variable
  abbrev Puts : ℕ → (ℕ → ℕ) → (ℕ → Core) → Type 0
  Puts k f s = (i : ℕ) → f i ≡ i → s i ≡ put_ref a k (Bound i)

  up-put : (i : ℕ) (b : Bool) → ren (λ j. suc j) (if b then a else Leaf (Bound i)) ≡ (if b then a else Leaf (Bound (suc i)))
  up-put i true = closed
  up-put i false = refl

  puts-raised : (k : ℕ) (f : ℕ → ℕ) (s : ℕ → Core) → Puts k f s → Puts (suc k) (lifted f) (raised s)
  puts-raised k f s puts zero e = refl
  puts-raised k f s puts (suc i) e = ap (ren (λ j. suc j)) (puts i (omega arith)) ∙ up-put i (eq i k)

  mutual
    sub-put : (k : ℕ) (f : ℕ → ℕ) (s : ℕ → Core) → Puts k f s → (e : Core) → ren f e ≡ e → changed (put_ref a) k e ≡ sub s e
    sub-put k f s puts (Leaf (Bound i)) p = sym (puts i (leaf-once (f i) i p))
    sub-put k f s puts (Leaf (Free x m)) p = refl
    sub-put k f s puts (Node op r) p = ap (Node op) (sub-put_row k f s puts r (node-once op _ _ p))

    sub-put_row : (k : ℕ) (f : ℕ → ℕ) (s : ℕ → Core) → Puts k f s → (r : Row Ref Name) → moved_row renaming f r ≡ r → changed_row (put_ref a) k r ≡ sub_row s r
    sub-put_row k f s puts end p = refl
    sub-put_row k f s puts (kid None e r) p = both None _ _ _ _ (sub-put k f s puts e (part-once _ _ _ _ _ p)) (sub-put_row k f s puts r (rest-once _ _ _ _ _ p))
    sub-put_row k f s puts (kid (Some x) e r) p =
        both (Some x) _ _ _ _ (sub-put (suc k) (lifted f) (raised s) (puts-raised k f s puts) e (part-once _ _ _ _ _ p)) (sub-put_row k f s puts r (rest-once _ _ _ _ _ p))

  first-puts : Puts 0 (lifted (λ i. suc i)) (first a)
  first-puts zero e = refl
  first-puts (suc i) e = absurd (omega arith)

  pub put-first : (e : Core) → IsClosedBelow e → changed (put_ref a) 0 e ≡ sub (first a) e
  put-first e h = sub-put 0 (lifted (λ i. suc i)) (first a) first-puts e h
