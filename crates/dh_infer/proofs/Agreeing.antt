-- Two changes of references that agree where a renaming changes nothing do the same to what that renaming does not change.
use Rattle.std.specs.Prelude.{◌≡◌, ℕ, zero, suc, Some, None, refl}
use Rattle.std.proofs.Common.{ap, sym, ◌∙◌}
use Rattle.dh_syntax.specs.declared.expressions.Op.{Op}
use Rattle.dh_syntax.specs.Expressions.Tree.{Row, Leaf, Node, end, kid, Name}
use Rattle.dh_syntax.specs.Names.Moves.{moved_row}
use Rattle.dh_syntax.specs.Names.Nameless.{Ref, Bound, Free, Core, past, renamed_ref, renaming, lifted, ren, raised, sub, sub_ref, sub_row}
use Rattle.dh_norm.specs.References.{Apart, lower, renamer, opened}
use Rattle.dh_norm.proofs.Opening.{past-renamed, raised-past}

abbrev pub leaf : Ref → Core
leaf r = Leaf r

pub leaf-once : (r s : Ref) → leaf r ≡ leaf s → r ≡ s
leaf-once r s h = cc

abbrev pub node : Op → Row Ref Name → Core
node op r = Node op r

pub row-of : (op : Op) (r s : Row Ref Name) → node op r ≡ node op s → r ≡ s
row-of op r s h = cc

pub part-plain : (d e : Core) (r s : Row Ref Name) → kid None d r ≡ kid None e s → d ≡ e
part-plain d e r s h = cc

pub rest-plain : (d e : Core) (r s : Row Ref Name) → kid None d r ≡ kid None e s → r ≡ s
rest-plain d e r s h = cc

pub part-bound : (x : Name) (d e : Core) (r s : Row Ref Name) → kid (Some x) d r ≡ kid (Some x) e s → d ≡ e
part-bound x d e r s h = cc

pub rest-bound : (x : Name) (d e : Core) (r s : Row Ref Name) → kid (Some x) d r ≡ kid (Some x) e s → r ≡ s
rest-bound x d e r s h = cc

pub plain-kid : (d e : Core) (r s : Row Ref Name) → d ≡ e → r ≡ s → kid None d r ≡ kid None e s
plain-kid d e r s p q = cc

pub bound-kid : (x : Name) (d e : Core) (r s : Row Ref Name) → d ≡ e → r ≡ s → kid (Some x) d r ≡ kid (Some x) e s
bound-kid x d e r s p q = cc

pub past-same : (q r : Ref) → past q ≡ past r → q ≡ r
past-same (Bound i) (Bound j) h = cc
past-same (Free x m) (Free y n) h = h
past-same (Bound i) (Free y n) h = absurd cc
past-same (Free x m) (Bound j) h = absurd cc

-- ---- two renamings

abbrev pub AgreeWhere : Apart → Apart → Apart → Type 0
AgreeWhere s t u = (r : Ref) → s.fun r ≡ r → t.fun r ≡ u.fun r

agree-below : (s t u : Apart) → AgreeWhere s t u → AgreeWhere (lower s) (lower t) (lower u)
agree-below s t u k (Bound zero) h = refl
agree-below s t u k (Bound (suc i)) h = ap past (k (Bound i) (past-same (s.fun (Bound i)) (Bound i) h))
agree-below s t u k (Free x n) h = ap past (k (Free x n) (past-same (s.fun (Free x n)) (Free x n) h))

mutual
  pub agree-opened : (s t u : Apart) → AgreeWhere s t u → (e : Core) → opened s e ≡ e → opened t e ≡ opened u e
  agree-opened s t u k (Leaf r) h = ap Leaf (k r (leaf-once (s.fun r) r h))
  agree-opened s t u k (Node op r) h = ap (Node op) (agree_row-opened s t u k r (row-of op _ _ h))

  agree_row-opened : (s t u : Apart) → AgreeWhere s t u → (r : Row Ref Name) → moved_row renamer s r ≡ r → moved_row renamer t r ≡ moved_row renamer u r
  agree_row-opened s t u k end h = refl
  agree_row-opened s t u k (kid None e r) h = plain-kid _ _ _ _ (agree-opened s t u k e (part-plain _ _ _ _ h)) (agree_row-opened s t u k r (rest-plain _ _ _ _ h))
  agree_row-opened s t u k (kid (Some x) e r) h =
      bound-kid x _ _ _ _ (agree-opened (lower s) (lower t) (lower u) (agree-below s t u k) e (part-bound x _ _ _ _ h)) (agree_row-opened s t u k r (rest-bound x _ _ _ _ h))

-- the renaming that changes nothing
abbrev pub still : Apart
still = record { fun = λ r. r; apart = λ r s h. h }

still-below : (s : Apart) → ((r : Ref) → s.fun r ≡ r) → (r : Ref) → (lower s).fun r ≡ r
still-below s k (Bound zero) = refl
still-below s k (Bound (suc i)) = ap past (k (Bound i))
still-below s k (Free x n) = ap past (k (Free x n))

mutual
  pub opened-itself : (s : Apart) → ((r : Ref) → s.fun r ≡ r) → (e : Core) → opened s e ≡ e
  opened-itself s k (Leaf r) = ap Leaf (k r)
  opened-itself s k (Node op r) = ap (Node op) (opened_row-itself s k r)

  opened_row-itself : (s : Apart) → ((r : Ref) → s.fun r ≡ r) → (r : Row Ref Name) → moved_row renamer s r ≡ r
  opened_row-itself s k end = refl
  opened_row-itself s k (kid None e r) = plain-kid _ _ _ _ (opened-itself s k e) (opened_row-itself s k r)
  opened_row-itself s k (kid (Some x) e r) = bound-kid x _ _ _ _ (opened-itself (lower s) (still-below s k) e) (opened_row-itself s k r)

-- what one renaming does not change, another one does not that changes no more
pub fixed-more : (s t : Apart) → ((r : Ref) → s.fun r ≡ r → t.fun r ≡ r) → (e : Core) → opened s e ≡ e → opened t e ≡ e
fixed-more s t k e h = agree-opened s t still k e h ∙ opened-itself still (λ r. refl) e

-- ---- a renaming and a substitution

abbrev pub PutsWhere : Apart → Apart → (ℕ → Core) → Type 0
PutsWhere s t a = (r : Ref) → s.fun r ≡ r → leaf (t.fun r) ≡ sub_ref a r

puts-past : (t : Apart) (a : ℕ → Core) (r : Ref) → leaf (t.fun r) ≡ sub_ref a r → leaf (past (t.fun r)) ≡ sub_ref (raised a) (past r)
puts-past t a r h = ap Leaf (sym (past-renamed (t.fun r))) ∙ ap (ren (λ k. suc k)) h ∙ sym (raised-past a r)

puts-below : (s t : Apart) (a : ℕ → Core) → PutsWhere s t a → PutsWhere (lower s) (lower t) (raised a)
puts-below s t a k (Bound zero) h = refl
puts-below s t a k (Bound (suc i)) h = puts-past t a (Bound i) (k (Bound i) (past-same (s.fun (Bound i)) (Bound i) h))
puts-below s t a k (Free x n) h = puts-past t a (Free x n) (k (Free x n) (past-same (s.fun (Free x n)) (Free x n) h))

mutual
  pub puts-opened : (s t : Apart) (a : ℕ → Core) → PutsWhere s t a → (e : Core) → opened s e ≡ e → opened t e ≡ sub a e
  puts-opened s t a k (Leaf r) h = k r (leaf-once (s.fun r) r h)
  puts-opened s t a k (Node op r) h = ap (Node op) (puts_row-opened s t a k r (row-of op _ _ h))

  puts_row-opened : (s t : Apart) (a : ℕ → Core) → PutsWhere s t a → (r : Row Ref Name) → moved_row renamer s r ≡ r → moved_row renamer t r ≡ sub_row a r
  puts_row-opened s t a k end h = refl
  puts_row-opened s t a k (kid None e r) h = plain-kid _ _ _ _ (puts-opened s t a k e (part-plain _ _ _ _ h)) (puts_row-opened s t a k r (rest-plain _ _ _ _ h))
  puts_row-opened s t a k (kid (Some x) e r) h =
      bound-kid x _ _ _ _ (puts-opened (lower s) (lower t) (raised a) (puts-below s t a k) e (part-bound x _ _ _ _ h)) (puts_row-opened s t a k r (rest-bound x _ _ _ _ h))

-- what a renaming does not change, a substitution does not that puts nothing there
pub fixed-sub : (s : Apart) (a : ℕ → Core) → ((r : Ref) → s.fun r ≡ r → leaf r ≡ sub_ref a r) → (e : Core) → opened s e ≡ e → sub a e ≡ e
fixed-sub s a k e h = sym (puts-opened s still a k e h) ∙ opened-itself still (λ r. refl) e

-- ---- a renaming and a renaming of numbers

abbrev Crosses : Apart → Apart → (ℕ → ℕ) → Type 0
Crosses s t f = (r : Ref) → s.fun r ≡ r → t.fun r ≡ renamed_ref f r

lifted-past : (f : ℕ → ℕ) (r : Ref) → renamed_ref (lifted f) (past r) ≡ past (renamed_ref f r)
lifted-past f (Bound i) = refl
lifted-past f (Free x n) = refl

crosses-below : (s t : Apart) (f : ℕ → ℕ) → Crosses s t f → Crosses (lower s) (lower t) (lifted f)
crosses-below s t f k (Bound zero) h = refl
crosses-below s t f k (Bound (suc i)) h = ap past (k (Bound i) (past-same (s.fun (Bound i)) (Bound i) h)) ∙ sym (lifted-past f (Bound i))
crosses-below s t f k (Free x n) h = ap past (k (Free x n) (past-same (s.fun (Free x n)) (Free x n) h)) ∙ sym (lifted-past f (Free x n))

mutual
  pub crosses-opened : (s t : Apart) (f : ℕ → ℕ) → Crosses s t f → (e : Core) → opened s e ≡ e → opened t e ≡ ren f e
  crosses-opened s t f k (Leaf r) h = ap Leaf (k r (leaf-once (s.fun r) r h))
  crosses-opened s t f k (Node op r) h = ap (Node op) (crosses_row-opened s t f k r (row-of op _ _ h))

  crosses_row-opened : (s t : Apart) (f : ℕ → ℕ) → Crosses s t f → (r : Row Ref Name) → moved_row renamer s r ≡ r → moved_row renamer t r ≡ moved_row renaming f r
  crosses_row-opened s t f k end h = refl
  crosses_row-opened s t f k (kid None e r) h = plain-kid _ _ _ _ (crosses-opened s t f k e (part-plain _ _ _ _ h)) (crosses_row-opened s t f k r (rest-plain _ _ _ _ h))
  crosses_row-opened s t f k (kid (Some x) e r) h =
      bound-kid x _ _ _ _ (crosses-opened (lower s) (lower t) (lifted f) (crosses-below s t f k) e (part-bound x _ _ _ _ h)) (crosses_row-opened s t f k r (rest-bound x _ _ _ _ h))

-- what a renaming does not change, a renaming of numbers does not that changes no more
pub fixed-ren : (s : Apart) (f : ℕ → ℕ) → ((r : Ref) → s.fun r ≡ r → r ≡ renamed_ref f r) → (e : Core) → opened s e ≡ e → ren f e ≡ e
fixed-ren s f k e h = sym (crosses-opened s still f k e h) ∙ opened-itself still (λ r. refl) e
