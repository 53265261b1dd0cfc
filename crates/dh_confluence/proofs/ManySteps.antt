-- Steps at many places at once, up to all places of an expression (its complete development), by which Takahashi proves confluence.
use Rattle.std.specs.Prelude.{◌≡◌, ◌⊎◌, ℕ, zero, suc, List, [], ◌∷◌, Option, Some, None, option_map, refl}
use Rattle.std.proofs.Common.{ap, sym, ◌∙◌, inl, inr, subst as along}
use Rattle.dh_syntax.specs.declared.expressions.Op.{Op}
use Rattle.dh_syntax.specs.Expressions.Tree.{Tree, Row, Leaf, Node, end, kid}
use Rattle.dh_syntax.specs.Names.Moves.{moved, moved_row, entered}
use Rattle.dh_syntax.specs.Names.Nameless.{Ref, Bound, Free, renaming, ren, raised, sub_below, sub, sub_row, first}
use Rattle.dh_laws.proofs.Contracting.Contractions.{ren-first}
use Rattle.dh_confluence.specs.FragmentSteps.{reduct, step_at, step_part}
use Rattle.dh_confluence.proofs.RowsRelated.{map-some}
use Rattle.dh_confluence.proofs.ReductsMoved.{reduct-moved, put_first, reduct-sub}

module _ {B : Type 0} where
  abbrev pub given : Op → Row Ref B → Option (Tree Ref B)
  given op r = reduct put_first op r

  -- a node stays, or it contracts too: what it gives before the steps in its parts it gives after them
  abbrev pub Way : Op → Row Ref B → Row Ref B → Tree Ref B → Type 0
  Way op r s e = (e ≡ Node op s) ⊎ ((c : Tree Ref B) × (reduct put_first op r ≡ Some c) × (reduct put_first op s ≡ Some e))

  abbrev mutual
    -- e is d after steps at any places of d at once, none of them in what another one made
    pub Parallel : Tree Ref B → Tree Ref B → Type 0
    Parallel (Leaf v) e = e ≡ Leaf v
    Parallel (Node op r) e = (s : Row Ref B) × ParallelRow r s × Way op r s e

    pub ParallelRow : Row Ref B → Row Ref B → Type 0
    ParallelRow end s = s ≡ end
    ParallelRow (kid b d r) s = (e : Tree Ref B) × (t : Row Ref B) × Parallel d e × ParallelRow r t × (s ≡ kid b e t)

  mutual
    pub parallel-itself : (e : Tree Ref B) → Parallel e e
    parallel-itself (Leaf v) = refl
    parallel-itself (Node op r) = (r, parallel_row-itself r, inl refl)

    pub parallel_row-itself : (r : Row Ref B) → ParallelRow r r
    parallel_row-itself end = refl
    parallel_row-itself (kid b e r) = (e, r, parallel-itself e, parallel_row-itself r, refl)

  -- ---- a step is one of these

  mutual
    pub step-parallel : (place : List ℕ) (d e : Tree Ref B) → step_at put_first place d ≡ Some e → Parallel d e
    step-parallel [] (Leaf v) e p = absurd cc
    step-parallel [] (Node op r) e p = (r, parallel_row-itself r, inr (e, p, p))
    step-parallel (i ∷ place) (Leaf v) e p = absurd cc
    step-parallel (i ∷ place) (Node op r) e p =
        map-some (λ s. Node op s) (step_part put_first i place r) e p λ s q k. (s, step_part-parallel i place r s q, inl (sym k))

    step_part-parallel : (i : ℕ) (place : List ℕ) (r s : Row Ref B) → step_part put_first i place r ≡ Some s → ParallelRow r s
    step_part-parallel i place end s p = absurd cc
    step_part-parallel zero place (kid b d r) s p =
        map-some (λ g. kid b g r) (step_at put_first place d) s p λ g q k. (g, r, step-parallel place d g q, parallel_row-itself r, sym k)
    step_part-parallel (suc i) place (kid b d r) s p =
        map-some (λ t. kid b d t) (step_part put_first i place r) s p λ t q k. (d, t, parallel-itself d, step_part-parallel i place r t q, sym k)

  -- ---- renaming and substitution

  reduct-ren : (f : ℕ → ℕ) (op : Op) (r : Row Ref B) (c : Tree Ref B) → given op r ≡ Some c → given op (moved_row renaming f r) ≡ Some (ren f c)
  reduct-ren f op r c p =
      reduct-moved renaming put_first put_first (λ f x a b. sym (ren-first f a b)) f op r ∙ ap (option_map (ren f)) p

  mutual
    pub parallel-ren : (f : ℕ → ℕ) (d e : Tree Ref B) → Parallel d e → Parallel (ren f d) (ren f e)
    parallel-ren f (Leaf v) e p = ap (ren f) p
    parallel-ren f (Node op r) e (s, h, inl p) = (moved_row renaming f s, parallel_row-ren f r s h, inl (ap (ren f) p))
    parallel-ren f (Node op r) e (s, h, inr (c, p, q)) =
        (moved_row renaming f s, parallel_row-ren f r s h, inr (ren f c, reduct-ren f op r c p, reduct-ren f op s e q))

    parallel_row-ren : (f : ℕ → ℕ) (r s : Row Ref B) → ParallelRow r s → ParallelRow (moved_row renaming f r) (moved_row renaming f s)
    parallel_row-ren f end s p = ap (moved_row renaming f) p
    parallel_row-ren f (kid b d r) s (e, t, h, k, p) =
        (moved renaming (entered renaming f b) e, moved_row renaming f t, parallel-ren (entered renaming f b) d e h, parallel_row-ren f r t k, ap (moved_row renaming f) p)

  abbrev Points : (ℕ → Tree Ref B) → (ℕ → Tree Ref B) → Type 0
  Points s t = (i : ℕ) → Parallel (s i) (t i)

  raised-points : (s t : ℕ → Tree Ref B) → Points s t → Points (raised s) (raised t)
  raised-points s t h zero = refl
  raised-points s t h (suc i) = parallel-ren (λ k. suc k) (s i) (t i) (h i)

  below-points : (b : Option B) (s t : ℕ → Tree Ref B) → Points s t → Points (sub_below b s) (sub_below b t)
  below-points None s t h = h
  below-points (Some x) s t h = raised-points s t h

  ref-points : (s t : ℕ → Tree Ref B) (v : Ref) → Points s t → Parallel (sub s (Leaf v)) (sub t (Leaf v))
  ref-points s t (Bound i) h = h i
  ref-points s t (Free x n) h = refl

  mutual
    pub parallel-sub : (s t : ℕ → Tree Ref B) → Points s t → (d e : Tree Ref B) → Parallel d e → Parallel (sub s d) (sub t e)
    parallel-sub s t h (Leaf v) e p = along (λ x. Parallel (sub s (Leaf v)) (sub t x)) (sym p) (ref-points s t v h)
    parallel-sub s t h (Node op r) e (q, k, inl p) = (sub_row t q, parallel_row-sub s t h r q k, inl (ap (sub t) p))
    parallel-sub s t h (Node op r) e (q, k, inr (c, u, v)) =
        (sub_row t q, parallel_row-sub s t h r q k, inr (sub s c, reduct-sub s op r c u, reduct-sub t op q e v))

    parallel_row-sub : (s t : ℕ → Tree Ref B) → Points s t → (r q : Row Ref B) → ParallelRow r q → ParallelRow (sub_row s r) (sub_row t q)
    parallel_row-sub s t h end q p = ap (sub_row t) p
    parallel_row-sub s t h (kid b d r) q (e, u, k, l, p) =
        (sub (sub_below b t) e, sub_row t u, parallel-sub (sub_below b s) (sub_below b t) (below-points b s t h) d e k, parallel_row-sub s t h r u l, ap (sub_row t) p)

  pub first-points : (a c : Tree Ref B) → Parallel a c → Points (first a) (first c)
  first-points a c h zero = h
  first-points a c h (suc i) = refl

  pub put-parallel : (a c b d : Tree Ref B) → Parallel a c → Parallel b d → Parallel (sub (first a) b) (sub (first c) d)
  put-parallel a c b d h k = parallel-sub (first a) (first c) (first-points a c h) b d k
