-- What has no loose variable is itself wherever it stands.
use Rattle.std.specs.Prelude.{◌≡◌, ◌⊎◌, ◌||◌, ℕ, zero, suc, pred, Bool, true, false, Option, Some, None, refl}
use Rattle.std.proofs.Common.{ap, sym, ◌∙◌, arith, inl, inr}
use Rattle.std.proofs.lemmas.Bool.{false≢true}
use Rattle.dh_syntax.specs.declared.expressions.Op.{Op}
use Rattle.dh_syntax.specs.Expressions.Numbers.{eq}
use Rattle.dh_syntax.specs.Expressions.Tree.{Row, Leaf, Node, end, kid, Name}
use Rattle.dh_syntax.specs.Names.Moves.{moved_row}
use Rattle.dh_syntax.specs.Names.Nameless.{Ref, Bound, Free, Core, lifted, ren, renaming}
use Rattle.dh_syntax.specs.Typing.NamelessTyping.{mentions, mentions_row}
use Rattle.dh_types.specs.Closed.{IsClosedBelow}

-- a renaming f that keeps only what h keeps, or what is not mentioned
abbrev pub Keeps : ℕ → (ℕ → ℕ) → (ℕ → ℕ) → Type 0
Keeps k f h = (i : ℕ) → f i ≡ i → (eq i k ≡ true) ⊎ (h i ≡ i)

suc-once : {m n : ℕ} → suc m ≡ suc n → m ≡ n
suc-once p = ap pred p

pub lifted-keeps : (k : ℕ) (f h : ℕ → ℕ) → Keeps k f h → Keeps (suc k) (lifted f) (lifted h)
lifted-keeps k f h keeps zero e = inr refl
lifted-keeps k f h keeps (suc i) e = by (keeps i (suc-once e))
  where
    by : (eq i k ≡ true) ⊎ (h i ≡ i) → (eq (suc i) (suc k) ≡ true) ⊎ (suc (h i) ≡ suc i)
    by (inl p) = inl p
    by (inr p) = inr (ap suc p)

abbrev pub variable : ℕ → Core
variable i = Leaf (Bound i)

abbrev node : Op → Row Ref Name → Core
node op r = Node op r

abbrev bound_of : Core → ℕ
bound_of (Leaf (Bound i)) = i
bound_of e = 0

pub leaf-once : (i j : ℕ) → variable i ≡ variable j → i ≡ j
leaf-once i j e = ap bound_of e

abbrev row_of : Core → Row Ref Name
row_of (Node op r) = r
row_of e = end

pub node-once : (op : Op) (r s : Row Ref Name) → node op r ≡ node op s → r ≡ s
node-once op r s e = ap row_of e

abbrev first_of : Core → Row Ref Name → Core
first_of d (kid b e r) = e
first_of d end = d

abbrev rest_of : Row Ref Name → Row Ref Name
rest_of (kid b e r) = r
rest_of end = end

pub part-once : (b : Option Name) (e f : Core) (r s : Row Ref Name) → kid b e r ≡ kid b f s → e ≡ f
part-once b e f r s p = ap (first_of e) p

pub rest-once : (b : Option Name) (e f : Core) (r s : Row Ref Name) → kid b e r ≡ kid b f s → r ≡ s
rest-once b e f r s p = ap rest_of p

both : (b : Option Name) (e f : Core) (r s : Row Ref Name) → e ≡ f → r ≡ s → kid b e r ≡ kid b f s
both b e f r s p q = cc

or-first : (a b : Bool) → (a || b) ≡ false → a ≡ false
or-first false b h = refl
or-first true b h = h

or-second : (a b : Bool) → (a || b) ≡ false → b ≡ false
or-second false b h = h
or-second true b h = absurd (false≢true (sym h))

module _ where
  mutual
    -- what such a renaming f keeps, h keeps where k is not mentioned
    pub kept : (k : ℕ) (f h : ℕ → ℕ) → Keeps k f h → (e : Core) → ren f e ≡ e → mentions k e ≡ false → ren h e ≡ e
    kept k f h keeps (Leaf (Bound i)) p m = ap (λ j. Leaf (Bound j)) (by (keeps i (leaf-once (f i) i p)))
      where
        by : (eq i k ≡ true) ⊎ (h i ≡ i) → h i ≡ i
        by (inl q) = absurd (false≢true (sym m ∙ q))
        by (inr q) = q
    kept k f h keeps (Leaf (Free x n)) p m = refl
    kept k f h keeps (Node op r) p m = ap (Node op) (kept-row k f h keeps r (node-once op _ _ p) m)

    kept-row : (k : ℕ) (f h : ℕ → ℕ) → Keeps k f h → (r : Row Ref Name) → moved_row renaming f r ≡ r → mentions_row k r ≡ false → moved_row renaming h r ≡ r
    kept-row k f h keeps end p m = refl
    kept-row k f h keeps (kid None e r) p m = both None _ _ _ _ (kept k f h keeps e (part-once _ _ _ _ _ p) (or-first _ _ m)) (kept-row k f h keeps r (rest-once _ _ _ _ _ p) (or-second _ _ m))
    kept-row k f h keeps (kid (Some x) e r) p m =
        both (Some x) _ _ _ _ (kept (suc k) (lifted f) (lifted h) (lifted-keeps k f h keeps) e (part-once _ _ _ _ _ p) (or-first _ _ m)) (kept-row k f h keeps r (rest-once _ _ _ _ _ p) (or-second _ _ m))

-- what stands below one binder and does not mention its variable is itself seen from outside
below-keeps : Keeps 0 (lifted (λ i. suc i)) pred
below-keeps zero e = inl refl
below-keeps (suc i) e = absurd (omega (arith, e))

pub outside-itself : (e : Core) → IsClosedBelow e → mentions 0 e ≡ false → ren pred e ≡ e
outside-itself e p m = kept 0 _ _ below-keeps e p m
