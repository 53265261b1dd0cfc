-- What is found of pairs of numbers, as more is found, and the parts of nodes, one by one.
use Rattle.std.specs.Prelude.{◌≡◌, ◌<◌, ◌+◌, ◌&&◌, ◌||◌, ℕ, Bool, true, false, nat_eq, List, ◌∷◌, length, drop, Option, Some, None, IfSome, Result, Ok, Err, OnOk, if◌then◌else◌, refl}
use Rattle.std.proofs.Common.{ap, sym, ◌∙◌, get_or, subst as along}
use Rattle.std.proofs.lemmas.Bool.{false≢true}
use Rattle.std.proofs.lemmas.List.{drop_more}
use Rattle.dh_syntax.specs.Expressions.SameTree.{option_eq}
use Rattle.dh_syntax.specs.Names.Nameless.{Core}
use Rattle.dh_syntax.specs.Normalising.NamelessRuns.{nameless_eq, nameless_row_eq}
use Rattle.dh_syntax.specs.Typing.NamelessTyping.{above, mentions, mentions_row}
use Rattle.dh_store.specs.declared.codes.CodeKid.{CodeKid}
use Rattle.dh_store.specs.Cells.{code_row}
use Rattle.dh_types.specs.declared.memos.Memo.{Memo}
use Rattle.dh_types.specs.Memos.{entry}
use Rattle.dh_types.proofs.ChangedCodes.{both-true, same-number}

-- ---- one thing more is found

module _ (m m' : Memo Bool) (a b : ℕ) (v : Bool) (P : ℕ → ℕ → Bool → Type 0) (so_far : (c d : ℕ) (w : Bool) → entry m c d ≡ Some w → P c d w) (it : P a b v) where
  found-case : (c d : ℕ) (w t : Bool) → (nat_eq a c && nat_eq b d) ≡ t → (if t then Some v else entry m c d) ≡ Some w → P c d w
  found-case c d w true e h =
      let i = both-true _ _ e in
      along (λ z. P z d w) (same-number a c i.0) (along (λ z. P a z w) (same-number b d i.1) (along (P a b) (some-once v w h) it))
    where
      some-once : (x y : Bool) → Some x ≡ Some y → x ≡ y
      some-once x y q = cc
  found-case c d w false e h = so_far c d w h

  pub found-more : {E : Type 0} (r : Result (Unit {0}) E) → OnOk r ((c d : ℕ) → entry m' c d ≡ (if nat_eq a c && nat_eq b d then Some v else entry m c d))
      → OnOk r ((c d : ℕ) (w : Bool) → entry m' c d ≡ Some w → P c d w)
  found-more (Ok u) puts = λ c d w h. found-case c d w (nat_eq a c && nat_eq b d) refl (sym (puts c d) ∙ h)
  found-more (Err x) puts = tt

-- ---- the parts of two nodes

module _ (f : ℕ → Core) (ks js : List CodeKid) (i : ℕ) (k j : CodeKid) (below : i < length ks) (below' : i < length js) (is : k ≡ get_or ks i k) (is' : j ≡ get_or js i j) where
  abbrev alike : Bool
  alike = option_eq (λ x y. true) k.binder j.binder

  abbrev rest : ℕ → Bool
  rest n = nameless_row_eq (code_row f (drop n ks)) (code_row f (drop n js))

  pub next-pair : rest i ≡ (alike && nameless_eq (f k.code) (f j.code) && rest (i + 1))
  next-pair =
      ap (λ xs. nameless_row_eq (code_row f xs) (code_row f (drop i js))) (drop_more ks i k below)
      ∙ ap (λ xs. nameless_row_eq (code_row f (get_or ks i k ∷ drop (i + 1) ks)) (code_row f xs)) (drop_more js i j below')
      ∙ ap (λ (x : CodeKid). nameless_row_eq (code_row f (x ∷ drop (i + 1) ks)) (code_row f (get_or js i j ∷ drop (i + 1) js))) (sym is)
      ∙ ap (λ (x : CodeKid). nameless_row_eq (code_row f (k ∷ drop (i + 1) ks)) (code_row f (x ∷ drop (i + 1) js))) (sym is')

  last-false : (a b : Bool) → (a && b && false) ≡ false
  last-false true true = refl
  last-false true false = refl
  last-false false b = refl

  both-false : (a b c : Bool) → false ≡ (a && b) → (a && b && c) ≡ false
  both-false true true c h = absurd (false≢true h)
  both-false true false c h = refl
  both-false false b c h = refl

  both-pass : (a b c : Bool) → true ≡ (a && b) → (a && b && c) ≡ c
  both-pass true true c h = refl
  both-pass true false c h = absurd (false≢true (sym h))
  both-pass false b c h = absurd (false≢true (sym h))

  -- a difference behind these parts, or in them
  pub differs-behind : rest (i + 1) ≡ false → rest i ≡ false
  differs-behind h = next-pair ∙ ap (λ z. alike && nameless_eq (f k.code) (f j.code) && z) h ∙ last-false alike (nameless_eq (f k.code) (f j.code))

  pub differs-here : false ≡ (alike && nameless_eq (f k.code) (f j.code)) → rest i ≡ false
  differs-here h = next-pair ∙ both-false alike (nameless_eq (f k.code) (f j.code)) (rest (i + 1)) h

  pub agrees-here : true ≡ (alike && nameless_eq (f k.code) (f j.code)) → rest i ≡ rest (i + 1)
  agrees-here h = next-pair ∙ both-pass alike (nameless_eq (f k.code) (f j.code)) (rest (i + 1)) h

-- what is told of the parts is told of their nodes
pub row-told : (o : Option Bool) (r e : Bool) → r ≡ e → IfSome o (λ v. v ≡ r) → IfSome o (λ v. v ≡ e)
row-told (Some v) r e p h = h ∙ p
row-told None r e p h = tt

pub alike-told : (a e : Bool) (o : Option Bool) → a ≡ true → IfSome o (λ v. v ≡ e) → IfSome o (λ v. v ≡ (a && e))
alike-told true e o p h = h
alike-told false e o p h = absurd (false≢true p)

-- ---- the parts of a node

module _ (f : ℕ → Core) (level : ℕ) (ks : List CodeKid) (i : ℕ) (k : CodeKid) (below : i < length ks) (is : k ≡ get_or ks i k) where
  abbrev left_rest : ℕ → Bool
  left_rest n = mentions_row level (code_row f (drop n ks))

  pub next-kid : left_rest i ≡ (mentions (above k.binder level) (f k.code) || left_rest (i + 1))
  next-kid =
      ap (λ xs. mentions_row level (code_row f xs)) (drop_more ks i k below)
      ∙ ap (λ (x : CodeKid). mentions_row level (code_row f (x ∷ drop (i + 1) ks))) (sym is)

  or-true : (a : Bool) → (a || true) ≡ true
  or-true true = refl
  or-true false = refl

  pub mentioned-here : (v : Bool) (l : ℕ) → v ≡ mentions l (f k.code) → l ≡ above k.binder level → v ≡ true → left_rest i ≡ true
  mentioned-here v l told e y = next-kid ∙ ap (λ z. mentions z (f k.code) || left_rest (i + 1)) (sym e) ∙ ap (λ z. z || left_rest (i + 1)) (sym told ∙ y)

  pub mentioned-behind : left_rest (i + 1) ≡ true → left_rest i ≡ true
  mentioned-behind h = next-kid ∙ ap (λ z. mentions (above k.binder level) (f k.code) || z) h ∙ or-true (mentions (above k.binder level) (f k.code))

  pub unmentioned-here : (v : Bool) (l : ℕ) → v ≡ mentions l (f k.code) → l ≡ above k.binder level → v ≡ false → left_rest i ≡ left_rest (i + 1)
  unmentioned-here v l told e n = next-kid ∙ ap (λ z. mentions z (f k.code) || left_rest (i + 1)) (sym e) ∙ ap (λ z. z || left_rest (i + 1)) (sym told ∙ n)
