-- Nameless expressions that are made of codes whose free variables have a letter more.
use Rattle.std.specs.Prelude.{◌≡◌, ◌<◌, ◌≤◌, ◌+◌, ◌++◌, ℕ, List, [], ◌∷◌, length, drop, Option}
use Rattle.std.proofs.Common.{ap, sym, ◌∙◌, get_or, subst as along}
use Rattle.std.proofs.lemmas.List.{drop_more, drop_all}
use Rattle.dh_syntax.specs.Expressions.Rows.{◌+++◌}
use Rattle.dh_syntax.specs.Expressions.Tree.{Row, end, kid, Name}
use Rattle.dh_syntax.specs.Names.Nameless.{Ref, Core}
use Rattle.dh_syntax.proofs.Rows.{+++-end, +++_assoc}
use Rattle.dh_store.specs.declared.codes.CodeKid.{CodeKid}
use Rattle.dh_store.specs.declared.codes.Codes.{Codes}
use Rattle.dh_norm.specs.Loaded.{IsLoaded, AreLoaded}
use Rattle.dh_terms.specs.declared.cores.CoreKid.{CoreKid}
use Rattle.dh_terms.specs.Cores.{nameless, nameless_row}
use Rattle.dh_terms.proofs.CoreTrees.{nameless_row-nil, nameless_row-push}
use Rattle.dh_infer.specs.Inside.Lettered.{lettered, lettered_row}
use Rattle.dh_infer.proofs.Lettering.{lettered-kid}

same-kid : (b : Option Name) (e : Core) (r q : Row Ref Name) → r ≡ q → kid b e r ≡ kid b e q
same-kid b e r q h = ap (kid b e) h

lettered-appended : (r : Row Ref Name) (b : Option Name) (e : Core) → lettered_row (r +++ kid b e end) ≡ lettered_row r +++ kid b (lettered e) end
lettered-appended end b e = lettered-kid b e end
lettered-appended (kid c d r) b e =
    lettered-kid c d (r +++ kid b e end) ∙ same-kid c (lettered d) _ _ (lettered-appended r b e) ∙ ap (λ q. q +++ kid b (lettered e) end) (sym (lettered-kid c d r))

-- parts for the rest behind these are parts for the whole
abbrev pub Unloading : Codes → List CodeKid → List CodeKid → List CoreKid → Type 0
Unloading cs whole rest done = (r : Row Ref Name) → AreLoaded cs rest r → AreLoaded cs whole (lettered_row (nameless_row done) +++ r)

module _ (cs : Codes) (whole : List CodeKid) where
  pub unloading-begins : (done : List CoreKid) → done ≡ [] → Unloading cs whole whole done
  unloading-begins done e = λ r l. along (λ q. AreLoaded cs whole (q +++ r)) (sym (ap (λ ks. lettered_row (nameless_row ks)) e ∙ ap lettered_row nameless_row-nil)) l

  pub unloading-keeps : (i : ℕ) (k : CodeKid) (done next : List CoreKid) (j : CoreKid) → i < length whole → k ≡ get_or whole i k → next ≡ done ++ j ∷ [] → j.binder ≡ k.binder
      → IsLoaded cs k.code (lettered (nameless j.body)) → Unloading cs whole (drop i whole) done → Unloading cs whole (drop (i + 1) whole) next
  unloading-keeps i k done next j h e n b l so_far = λ r m.
      along (AreLoaded cs whole)
      (sym (+++_assoc (lettered_row (nameless_row done)) (kid j.binder (lettered (nameless j.body)) end) r)
      ∙ ap (λ q. q +++ r) (sym (ap (λ ks. lettered_row (nameless_row ks)) n ∙ ap lettered_row (nameless_row-push done j) ∙ lettered-appended (nameless_row done) j.binder (nameless j.body))))
      (so_far (kid j.binder (lettered (nameless j.body)) r)
      (along (λ ks. AreLoaded cs ks (kid j.binder (lettered (nameless j.body)) r)) (sym (drop_more whole i k h ∙ ap (λ x. x ∷ drop (i + 1) whole) (sym e))) (sym b, l, m)))

  pub unloading-ends : (i : ℕ) (done : List CoreKid) → length whole ≤ i → Unloading cs whole (drop i whole) done → AreLoaded cs whole (lettered_row (nameless_row done))
  unloading-ends i done h so_far = along (AreLoaded cs whole) (+++-end (lettered_row (nameless_row done))) (so_far end (along (λ ks. AreLoaded cs ks end) (sym (drop_all i whole h)) tt))
