-- Entries may be put among others in any order.
use Rattle.std.specs.Prelude.{◌≡◌, Bool, true, false, List, [], ◌∷◌, Option, Some, None, refl}
use Rattle.std.proofs.Common.{sym, ◌∙◌, ap}
use Rattle.dh_syntax.specs.Bytes.BinaryLeaves.{◌>>=◌, inserted}
use Rattle.dh_syntax.specs.Expressions.Numbers.{bytes_eq}
use Rattle.dh_syntax.specs.Expressions.Order.{before}
use Rattle.dh_syntax.specs.Expressions.Tree.{Name}
use Rattle.dh_syntax.proofs.Order.{before_irreflexive, before-transitive, before-total}
use Rattle.dh_syntax.proofs.Numbers.{bytes_eq-itself, bytes_eq-true, bytes_eq-comm}
use Rattle.dh_binary.proofs.Rows.{bind_assoc, bind_same, bind_none, none}

data Compared (x y : Name) : Type 0 where
  below : before x y ≡ true → before y x ≡ false → bytes_eq x y ≡ false → bytes_eq y x ≡ false → Compared x y
  same : x ≡ y → Compared x y
  above : before x y ≡ false → before y x ≡ true → bytes_eq x y ≡ false → bytes_eq y x ≡ false → Compared x y

not_both : (x y : Name) → before x y ≡ true → before y x ≡ false
not_both x y h = by (before y x) refl
  where
    by : (b : Bool) → before y x ≡ b → b ≡ false
    by false e = refl
    by true e = let f = before-transitive x y x h e in let g = before_irreflexive x in cc

not_same : (x y : Name) → before x y ≡ true → bytes_eq x y ≡ false
not_same x y h = by (bytes_eq x y) refl
  where
    by : (b : Bool) → bytes_eq x y ≡ b → b ≡ false
    by false e = refl
    by true e = let f = bytes_eq-true x y e in let g = before_irreflexive x in cc

compared : (x y : Name) → Compared x y
compared x y = by (before x y) (before y x) refl refl
  where
    by : (a b : Bool) → before x y ≡ a → before y x ≡ b → Compared x y
    by true b p q = below p (not_both x y p) (not_same x y p) (bytes_eq-comm y x ∙ not_same x y p)
    by false true p q = above p q (bytes_eq-comm x y ∙ not_same y x q) (not_same y x q)
    by false false p q = same (before-total x y p q)

module _ {A : Type 0} (n : A → Name) where
  -- where an entry goes by the first of the others
  goes_before : (x z : A) (zs : List A) → before (n x) (n z) ≡ true → inserted n x (z ∷ zs) ≡ Some (x ∷ z ∷ zs)
  goes_before x z zs p = rw p refl

  goes_nowhere : (x z : A) (zs : List A) → n x ≡ n z → inserted n x (z ∷ zs) ≡ None
  goes_nowhere x z zs e =
      let p : before (n x) (n z) ≡ false = ap (λ y. before y (n z)) e ∙ before_irreflexive (n z) in
      let q : bytes_eq (n x) (n z) ≡ true = ap (λ y. bytes_eq y (n z)) e ∙ bytes_eq-itself (n z) in
      rw (p, q) refl

  goes_behind : (x z : A) (zs : List A) → before (n x) (n z) ≡ false → bytes_eq (n x) (n z) ≡ false → inserted n x (z ∷ zs) ≡ (inserted n x zs >>= λ ws. Some (z ∷ ws))
  goes_behind x z zs p q = rw (p, q) refl

  -- no name stands twice
  twice_by : (x y z : A) (zs : List A) → n y ≡ n x → (inserted n x zs >>= inserted n y) ≡ None → Compared (n x) (n z) → (inserted n x (z ∷ zs) >>= inserted n y) ≡ None
  twice_by x y z zs e h (below p q r s) = ap (λ o. o >>= inserted n y) (goes_before x z zs p) ∙ goes_nowhere y x (z ∷ zs) e
  twice_by x y z zs e h (same p) = ap (λ o. o >>= inserted n y) (goes_nowhere x z zs p)
  twice_by x y z zs e h (above p q r s) =
      ap (λ o. o >>= inserted n y) (goes_behind x z zs p r) ∙ bind_assoc (inserted n x zs) (λ ws. Some (z ∷ ws)) (inserted n y)
      ∙ bind_same (inserted n x zs) (λ ws. inserted n y (z ∷ ws)) (λ ws. inserted n y ws >>= λ vs. Some (z ∷ vs)) (λ ws. goes_behind y z ws (ap (λ k. before k (n z)) e ∙ p) (ap (λ k. bytes_eq k (n z)) e ∙ r))
      ∙ sym (bind_assoc (inserted n x zs) (inserted n y) (λ vs. Some (z ∷ vs))) ∙ ap (λ o. o >>= λ vs. Some (z ∷ vs)) h

  pub never_twice : (x y : A) (zs : List A) → n y ≡ n x → (inserted n x zs >>= inserted n y) ≡ None
  never_twice x y [] e = goes_nowhere y x [] e
  never_twice x y (z ∷ zs) e = twice_by x y z zs e (never_twice x y zs e) (compared (n x) (n z))

  -- what is put behind a first entry stays behind it
  after_first : (x y z : A) (zs : List A) → before (n x) (n y) ≡ true → before (n x) (n z) ≡ true → Compared (n y) (n z) → (inserted n y (z ∷ zs) >>= λ ws. Some (x ∷ ws)) ≡ (inserted n y (z ∷ zs) >>= inserted n x)
  after_first x y z zs e f (below p q r s) = ap (λ o. o >>= λ ws. Some (x ∷ ws)) (goes_before y z zs p) ∙ sym (ap (λ o. o >>= inserted n x) (goes_before y z zs p) ∙ goes_before x y (z ∷ zs) e)
  after_first x y z zs e f (same p) = ap (λ o. o >>= λ ws. Some (x ∷ ws)) (goes_nowhere y z zs p) ∙ sym (ap (λ o. o >>= inserted n x) (goes_nowhere y z zs p))
  after_first x y z zs e f (above p q r s) =
      ap (λ o. o >>= λ ws. Some (x ∷ ws)) (goes_behind y z zs p r) ∙ bind_assoc (inserted n y zs) (λ ws. Some (z ∷ ws)) (λ ws. Some (x ∷ ws))
      ∙ bind_same (inserted n y zs) (λ ws. Some (x ∷ z ∷ ws)) (λ ws. inserted n x (z ∷ ws)) (λ ws. sym (goes_before x z ws f))
      ∙ sym (bind_assoc (inserted n y zs) (λ ws. Some (z ∷ ws)) (inserted n x)) ∙ sym (ap (λ o. o >>= inserted n x) (goes_behind y z zs p r))

  -- a name that comes before another one may come first or second
  half_by : (x y z : A) (zs : List A) → before (n x) (n y) ≡ true → (inserted n x zs >>= inserted n y) ≡ (inserted n y zs >>= inserted n x) → Compared (n x) (n z)
      → (inserted n x (z ∷ zs) >>= inserted n y) ≡ (inserted n y (z ∷ zs) >>= inserted n x)
  half_by x y z zs e h (below p q r s) =
      ap (λ o. o >>= inserted n y) (goes_before x z zs p) ∙ goes_behind y x (z ∷ zs) (not_both (n x) (n y) e) (bytes_eq-comm (n y) (n x) ∙ not_same (n x) (n y) e)
      ∙ after_first x y z zs e p (compared (n y) (n z))
  half_by x y z zs e h (same p) =
      let f : before (n z) (n y) ≡ true = ap (λ k. before k (n y)) (sym p) ∙ e in
      ap (λ o. o >>= inserted n y) (goes_nowhere x z zs p)
      ∙ sym (ap (λ o. o >>= inserted n x) (goes_behind y z zs (not_both (n z) (n y) f) (bytes_eq-comm (n y) (n z) ∙ not_same (n z) (n y) f)) ∙ bind_assoc (inserted n y zs) (λ ws. Some (z ∷ ws)) (inserted n x)
      ∙ bind_same (inserted n y zs) (λ ws. inserted n x (z ∷ ws)) none (λ ws. goes_nowhere x z ws p) ∙ bind_none (inserted n y zs))
  half_by x y z zs e h (above p q r s) =
      let f : before (n z) (n y) ≡ true = before-transitive (n z) (n x) (n y) q e in
      ap (λ o. o >>= inserted n y) (goes_behind x z zs p r) ∙ bind_assoc (inserted n x zs) (λ ws. Some (z ∷ ws)) (inserted n y)
      ∙ bind_same (inserted n x zs) (λ ws. inserted n y (z ∷ ws)) (λ ws. inserted n y ws >>= λ vs. Some (z ∷ vs)) (λ ws. goes_behind y z ws (not_both (n z) (n y) f) (bytes_eq-comm (n y) (n z) ∙ not_same (n z) (n y) f))
      ∙ sym (bind_assoc (inserted n x zs) (inserted n y) (λ vs. Some (z ∷ vs))) ∙ ap (λ o. o >>= λ vs. Some (z ∷ vs)) h
      ∙ bind_assoc (inserted n y zs) (inserted n x) (λ vs. Some (z ∷ vs))
      ∙ sym (bind_same (inserted n y zs) (λ ws. inserted n x (z ∷ ws)) (λ ws. inserted n x ws >>= λ vs. Some (z ∷ vs)) (λ ws. goes_behind x z ws p r))
      ∙ sym (bind_assoc (inserted n y zs) (λ ws. Some (z ∷ ws)) (inserted n x)) ∙ sym (ap (λ o. o >>= inserted n x) (goes_behind y z zs (not_both (n z) (n y) f) (bytes_eq-comm (n y) (n z) ∙ not_same (n z) (n y) f)))

  half : (x y : A) (zs : List A) → before (n x) (n y) ≡ true → (inserted n x zs >>= inserted n y) ≡ (inserted n y zs >>= inserted n x)
  half x y [] e = goes_behind y x [] (not_both (n x) (n y) e) (bytes_eq-comm (n y) (n x) ∙ not_same (n x) (n y) e) ∙ sym (goes_before x y [] e)
  half x y (z ∷ zs) e = half_by x y z zs e (half x y zs e) (compared (n x) (n z))

  pub commute : (x y : A) (zs : List A) → (inserted n x zs >>= inserted n y) ≡ (inserted n y zs >>= inserted n x)
  commute x y zs = by (compared (n x) (n y))
    where
      by : Compared (n x) (n y) → (inserted n x zs >>= inserted n y) ≡ (inserted n y zs >>= inserted n x)
      by (below p q r s) = half x y zs p
      by (same e) = never_twice x y zs (sym e) ∙ sym (never_twice y x zs e)
      by (above p q r s) = sym (half y x zs q)

  -- ---- entries that may be wanting

  abbrev pub put : Option A → List A → Option (List A)
  put o zs = o >>= λ x. inserted n x zs

  -- the last of them is put first
  abbrev pub all_put : List A → List (Option A) → Option (List A)
  all_put zs [] = Some zs
  all_put zs (o ∷ os) = all_put zs os >>= put o

  put_both : (o p : Option A) (zs : List A) → (put o zs >>= put p) ≡ (put p zs >>= put o)
  put_both None None zs = refl
  put_both None (Some y) zs = sym (bind_none (inserted n y zs))
  put_both (Some x) None zs = bind_none (inserted n x zs)
  put_both (Some x) (Some y) zs = commute x y zs

  -- and may as well be put after the first one
  pub put_first : (zs : List A) (o : Option A) (os : List (Option A)) → all_put zs (o ∷ os) ≡ (put o zs >>= λ ws. all_put ws os)
  put_first zs o [] = sym (bind_some (put o zs))
    where
      bind_some : (q : Option (List A)) → (q >>= λ ws. Some ws) ≡ q
      bind_some (Some a) = refl
      bind_some None = refl
  put_first zs o (p ∷ os) =
      bind_assoc (all_put zs os) (put p) (put o)
      ∙ bind_same (all_put zs os) (λ ws. put p ws >>= put o) (λ ws. put o ws >>= put p) (λ ws. put_both p o ws)
      ∙ sym (bind_assoc (all_put zs os) (put o) (put p))
      ∙ ap (λ q. q >>= put p) (put_first zs o os)
      ∙ bind_assoc (put o zs) (λ ws. all_put ws os) (put p)
