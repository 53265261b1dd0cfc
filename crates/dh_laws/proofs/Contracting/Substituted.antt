-- Substitution is a graft.
use Rattle.std.specs.Prelude.{◌≡◌, ℕ, suc, Option, Some, None, refl}
use Rattle.std.proofs.Common.{ap, sym, ◌∙◌, subst as along}
use Rattle.std.proofs.Math.Path.{fun_ext}
use Rattle.dh_syntax.specs.Expressions.Tree.{Tree, Row, Leaf, Node, end, kid}
use Rattle.dh_syntax.specs.Names.Nameless.{Ref, ren, raised, sub, sub_row, first}
use Rattle.dh_syntax.specs.Normalising.Contract.{contract_at}
use Rattle.dh_syntax.specs.Normalising.NamelessRuns.{nameless_binders}
use Rattle.dh_syntax.specs.Normalising.Needs.{place, most_needs}
use Rattle.dh_laws.specs.Grafts.{grafted, grafted_row, substituting, carried, TableOfSub, PlaceOfSub, MostOfSub}
use Rattle.dh_laws.proofs.Contracting.Contractions.{sub-first}
use Rattle.dh_laws.proofs.Contracting.GraftedCases.{BindersGraft}
use Rattle.dh_laws.proofs.Contracting.GraftedPlaces.{place-grafted, most_needs-grafted}
use Rattle.dh_laws.proofs.Contracting.GraftedTable.{contract_at-grafted}
use Rattle.dh_laws.proofs.Names.Renamings.{sub-ren, ren-sub}

module _ {B : Type 0} where
  abbrev pub put_in : (ℕ → Tree Ref B) → Tree Ref B → Tree Ref B
  put_in s c = grafted substituting s c

  both-kids : (b b' : Option B) (e e' : Tree Ref B) (r r' : Row Ref B) → b ≡ b' → e ≡ e' → r ≡ r' → kid b e r ≡ kid b' e' r'
  both-kids b b' e e' r r' p q t = cc

  mutual
    pub put_in-sub : (s : ℕ → Tree Ref B) (c : Tree Ref B) → put_in s c ≡ sub s c
    put_in-sub s (Leaf r) = refl
    put_in-sub s (Node op r) = ap (Node op) (put_in-sub_row s r)

    put_in-sub_row : (s : ℕ → Tree Ref B) (r : Row Ref B) → grafted_row substituting s r ≡ sub_row s r
    put_in-sub_row s end = refl
    put_in-sub_row s (kid None e r) = both-kids None None _ _ _ _ refl (put_in-sub s e) (put_in-sub_row s r)
    put_in-sub_row s (kid (Some y) e r) = both-kids (Some y) (Some y) _ _ _ _ refl (put_in-sub (raised s) e) (put_in-sub_row s r)

  put_in-ren : (s : ℕ → Tree Ref B) (t : Tree Ref B) → ren (λ k. suc k) (put_in s t) ≡ put_in (raised s) (ren (λ k. suc k) t)
  put_in-ren s t =
      ap (ren (λ k. suc k)) (put_in-sub s t) ∙ ren-sub (λ k. suc k) s t ∙ sym (sub-ren (raised s) (λ k. suc k) t) ∙ sym (put_in-sub (raised s) (ren (λ k. suc k) t))

  cons-graft : (x a as' : B) (s : ℕ → Tree Ref B) (t : Tree Ref B)
      → (nameless_binders x a as').cons (put_in s t) ≡ put_in s ((nameless_binders x a as').cons t)
  cons-graft x a as' s t = let p = put_in-ren s t in cc

  pub binders-graft : (x a as' : B) → BindersGraft substituting (nameless_binders x a as') (nameless_binders x a as')
  binders-graft x a as' = record {
    put = λ s y c b.
        ap (λ d. sub (first d) (put_in (raised s) b)) (put_in-sub s c) ∙ ap (sub (first (sub s c))) (put_in-sub (raised s) b)
        ∙ sym (sub-first s c b) ∙ sym (put_in-sub s (sub (first c) b));
    successor = λ s. refl;
    cons = λ s t. cons-graft x a as' s t;
  }

  -- ---- the table and substitution

  pub table_of_sub : TableOfSub B
  table_of_sub x a as' s stage e o r =
      let b = nameless_binders x a as' in
      along (λ f. contract_at b stage (f e) ≡ carried f (contract_at b stage e)) (fun_ext (put_in-sub s))
      (contract_at-grafted substituting b b (binders-graft x a as') s stage e o r)

  pub place_of_sub : PlaceOfSub B
  place_of_sub s stage e o r = ap (place stage) (sym (put_in-sub s e)) ∙ place-grafted substituting s stage e o r

  pub most_of_sub : MostOfSub B
  most_of_sub s e o = ap most_needs (sym (put_in-sub s e)) ∙ most_needs-grafted substituting s e o
