-- The normal form of an expression without free variables has none.
--
-- A run takes renamed references to renamed references. So what is found for an expression that has no free variable is left as it is
-- by the renaming that moves each number of a free variable.
use Rattle.std.specs.Prelude.{◌≡◌, ℕ, zero, suc, false, ◌||◌, Option, Some, None, refl}
use Rattle.std.proofs.Common.{ap, sym, ◌∙◌, arith, subst as along}
use Rattle.dh_syntax.specs.declared.expressions.Op.{Op}
use Rattle.dh_syntax.specs.Expressions.Arity.{IsWellFormed}
use Rattle.dh_syntax.specs.Expressions.Tree.{Row, Leaf, Node, end, kid, Name, Term}
use Rattle.dh_imports.specs.Records.{IsClosed, IsTyped}
use Rattle.dh_syntax.specs.Names.Moves.{moved_row}
use Rattle.dh_syntax.specs.Names.Nameless.{Ref, Bound, Free, Core, past, to_core}
use Rattle.dh_syntax.specs.Normalising.Heads.{Found, Whole, run}
use Rattle.dh_syntax.specs.Normalising.Named.{names}
use Rattle.dh_syntax.specs.Normalising.NamelessRuns.{cores}
use Rattle.dh_syntax.specs.Normalising.Normal.{endless, HasNormalForm}
use Rattle.dh_laws.specs.NamelessAnswers.{answer_map}
use Rattle.dh_laws.proofs.Normalising.NamedLags.{core-run}
use Rattle.dh_norm.specs.References.{Apart, below, lower, renamer, opened}
use Rattle.dh_norm.proofs.Opening.{answer_of, opened-run}
use Rattle.dh_work.specs.Inside.Frees.{has_free, has_free_row}
use Rattle.dh_work.proofs.FreeLeaves.{or-left, or-right, neither, closed_by_core}
use Rattle.dh_work.proofs.TypedClosed.{typed_core}

-- ---- the renaming

-- the next number for a free variable
abbrev next : Ref → Ref
next (Bound i) = Bound i
next (Free x n) = Free x (suc n)

suc-free : (x y : Name) (m n : ℕ) → Free x (suc m) ≡ Free y (suc n) → Free x m ≡ Free y n
suc-free x y m n h = cc

next-apart : (r s : Ref) → next r ≡ next s → r ≡ s
next-apart (Bound i) (Bound j) h = h
next-apart (Free x m) (Free y n) h = suc-free x y m n h
next-apart (Bound i) (Free y n) h = absurd cc
next-apart (Free x m) (Bound j) h = absurd cc

abbrev onward : Apart
onward = record { fun = next; apart = next-apart }

-- it moves the numbers of free variables alone
record Moves (s : Apart) : Type 0 where
  pub bound : (i : ℕ) → s.fun (Bound i) ≡ Bound i
  pub free : (x : Name) (n : ℕ) → s.fun (Free x n) ≡ Free x (suc n)

moves-next : Moves onward
moves-next = record { bound = λ i. refl; free = λ x n. refl }

below-bound : (s : Apart) → Moves s → (i : ℕ) → below s.fun (Bound i) ≡ Bound i
below-bound s m zero = refl
below-bound s m (suc i) = ap past (m.bound i)

moves-lower : (s : Apart) → Moves s → Moves (lower s)
moves-lower s m = record { bound = below-bound s m; free = λ x n. ap past (m.free x n) }

-- ---- what has no free variable is left as it is, and that alone

leaf-of : (r s : Ref) (c d : Core) → c ≡ Leaf r → d ≡ Leaf s → c ≡ d → r ≡ s
leaf-of r s c d p q h = cc

row-of : (op : Op) (r s : Row Ref Name) (c d : Core) → c ≡ Node op r → d ≡ Node op s → c ≡ d → r ≡ s
row-of op r s c d p q h = cc

kid-part : (b c : Option Name) (e f : Core) (r s : Row Ref Name) → kid b e r ≡ kid c f s → e ≡ f
kid-part b c e f r s h = cc

kid-rest : (b c : Option Name) (e f : Core) (r s : Row Ref Name) → kid b e r ≡ kid c f s → r ≡ s
kid-rest b c e f r s h = cc

not-next : {P : Type 0} (x : Name) (n : ℕ) → Free x (suc n) ≡ Free x n → P
not-next x n h = absurd (let p : suc n ≡ n = number x n h in omega (arith, p))
  where
    number : (x : Name) (n : ℕ) → Free x (suc n) ≡ Free x n → suc n ≡ n
    number x n h = cc

mutual
  keeps : (s : Apart) → Moves s → (c : Core) → has_free c ≡ false → opened s c ≡ c
  keeps s m (Leaf (Bound i)) h = ap Leaf (m.bound i)
  keeps s m (Leaf (Free x n)) h = absurd cc
  keeps s m (Node op r) h = ap (Node op) (keeps_row s m r h)

  keeps_row : (s : Apart) → Moves s → (r : Row Ref Name) → has_free_row r ≡ false → moved_row renamer s r ≡ r
  keeps_row s m end h = refl
  keeps_row s m (kid None e r) h =
      let p = keeps s m e (or-left (has_free e) (has_free_row r) h) in
      let q = keeps_row s m r (or-right (has_free e) (has_free_row r) h) in
      cc
  keeps_row s m (kid (Some y) e r) h =
      let p = keeps (lower s) (moves-lower s m) e (or-left (has_free e) (has_free_row r) h) in
      let q = keeps_row s m r (or-right (has_free e) (has_free_row r) h) in
      cc

mutual
  kept : (s : Apart) → Moves s → (c : Core) → opened s c ≡ c → has_free c ≡ false
  kept s m (Leaf (Bound i)) h = refl
  kept s m (Leaf (Free x n)) h = not-next x n (sym (m.free x n) ∙ leaf-of (s.fun (Free x n)) (Free x n) _ _ refl refl h)
  kept s m (Node op r) h = kept_row s m r (row-of op (moved_row renamer s r) r _ _ refl refl h)

  kept_row : (s : Apart) → Moves s → (r : Row Ref Name) → moved_row renamer s r ≡ r → has_free_row r ≡ false
  kept_row s m end h = refl
  kept_row s m (kid None e r) h =
      neither (has_free e) (has_free_row r) (kept s m e (kid-part None None _ _ _ _ h)) (kept_row s m r (kid-rest None None _ _ _ _ h))
  kept_row s m (kid (Some y) e r) h =
      neither (has_free e) (has_free_row r) (kept (lower s) (moves-lower s m) e (kid-part (Some y) (Some y) _ _ _ _ h)) (kept_row s m r (kid-rest (Some y) (Some y) _ _ _ _ h))

-- ---- normal forms

found-equal : (c d : Core) (m n : ℕ) → Found c m ≡ Found d n → c ≡ d
found-equal c d m n h = cc

-- the normal form of what has no free variable has none
normal_core : (e f : Term) → HasNormalForm names e f → has_free (to_core e) ≡ false → has_free (to_core f) ≡ false
normal_core e f (units, left, (heights, h)) k =
    let found : run (endless cores) heights Whole units (to_core e) ≡ Found (to_core f) left = core-run heights units e ∙ ap (answer_map to_core) h in
    let still : opened onward (to_core e) ≡ to_core e = keeps onward moves-next (to_core e) k in
    let again : Found (to_core f) left ≡ answer_of onward (Found (to_core f) left) =
    sym found ∙ sym (ap (λ c. run (endless cores) heights Whole units c) still) ∙ opened-run onward (to_core e) heights units Whole ∙ ap (answer_of onward) found in
    kept onward moves-next (to_core f) (sym (found-equal (to_core f) (opened onward (to_core f)) left left again))

-- The normal form of an expression that has a type in the empty context is closed.
pub typed_normal_closed : (e f : Term) → IsWellFormed e → IsTyped e → HasNormalForm names e f → IsClosed f
typed_normal_closed e f w t h = (closed_by_core f).0 (normal_core e f h (typed_core e w t))
