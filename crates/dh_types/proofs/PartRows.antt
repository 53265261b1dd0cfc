-- Codes as the parts of a node, as the views see them.
use Rattle.std.specs.Prelude.{◌≡◌, ◌&&◌, ℕ, zero, suc, Bool, true, false, List, [], ◌∷◌, Option, Some, None, option_map, length, IsTrue, refl}
use Rattle.std.proofs.Common.{sym, ◌∙◌, ap}
use Rattle.std.proofs.lemmas.Bool.{false≢true}
use Rattle.dh_syntax.specs.declared.expressions.Alt.{Alt}
use Rattle.dh_syntax.specs.declared.expressions.Op.{Op}
use Rattle.dh_syntax.specs.declared.expressions.Op.TheVariants as ops
use Rattle.dh_syntax.specs.Expressions.Arity.{alt_labels, fits, plain, typed_count}
use Rattle.dh_syntax.specs.Expressions.Order.{ascending}
use Rattle.dh_syntax.specs.Expressions.Tree.{Name, Node, kid}
use Rattle.dh_syntax.specs.Expressions.Views.{as_record_type, bodies, fields}
use Rattle.dh_syntax.specs.Names.Nameless.{Core}
use Rattle.dh_syntax.specs.Typing.TypeViews.{alternatives, as_union_type}
use Rattle.dh_store.specs.declared.codes.CodeKid.{CodeKid}
use Rattle.dh_store.specs.Cells.{code_row, nothing}
use Rattle.dh_types.specs.Closed.{AreClosed, AreClosedTypes, IsClosed, IsClosedIn}
use Rattle.dh_types.specs.Parts.{alternatives_of, cores_of, fields_of}

module _ (f : ℕ → Core) (n c : ℕ) (ks : List CodeKid) where
  bodies-first : (b : Option Name) → (plain n (code_row f ks) ≡ true → bodies (code_row f ks) ≡ Some (cores_of f ks)) → plain (suc n) (kid b (f c) (code_row f ks)) ≡ true
      → bodies (kid b (f c) (code_row f ks)) ≡ Some (f c ∷ cores_of f ks)
  bodies-first None rest h = ap (option_map (λ es. f c ∷ es)) (rest h)
  bodies-first (Some x) rest h = absurd (false≢true h)

  lengths-first : (b : Option Name) → (plain n (code_row f ks) ≡ true → n ≡ length ks) → plain (suc n) (kid b (f c) (code_row f ks)) ≡ true → suc n ≡ suc (length ks)
  lengths-first None rest h = ap suc (rest h)
  lengths-first (Some x) rest h = absurd (false≢true h)

fields-first : (f : ℕ → Core) (x : Name) (xs : List Name) (c : ℕ) (ks : List CodeKid) (b : Option Name) → (plain (length xs) (code_row f ks) ≡ true → fields xs (code_row f ks) ≡ Some (fields_of f xs ks))
    → plain (suc (length xs)) (kid b (f c) (code_row f ks)) ≡ true → fields (x ∷ xs) (kid b (f c) (code_row f ks)) ≡ Some ((x, f c) ∷ fields_of f xs ks)
fields-first f x xs c ks None rest h = ap (option_map (λ fs. (x, f c) ∷ fs)) (rest h)
fields-first f x xs c ks (Some y) rest h = absurd (false≢true h)

bodies-plain : (f : ℕ → Core) (n : ℕ) (ks : List CodeKid) → plain n (code_row f ks) ≡ true → bodies (code_row f ks) ≡ Some (cores_of f ks)
bodies-plain f n [] h = refl
bodies-plain f zero (k ∷ ks) h = absurd (false≢true h)
bodies-plain f (suc n) (k ∷ ks) h = bodies-first f n k.code ks k.binder (λ p. bodies-plain f n ks p) h

fields-plain : (f : ℕ → Core) (xs : List Name) (ks : List CodeKid) → plain (length xs) (code_row f ks) ≡ true → fields xs (code_row f ks) ≡ Some (fields_of f xs ks)
fields-plain f [] [] h = refl
fields-plain f [] (k ∷ ks) h = absurd (false≢true h)
fields-plain f (x ∷ xs) [] h = absurd (false≢true h)
fields-plain f (x ∷ xs) (k ∷ ks) h = fields-first f x xs k.code ks k.binder (λ p. fields-plain f xs ks p) h

lengths-plain : (f : ℕ → Core) (n : ℕ) (ks : List CodeKid) → plain n (code_row f ks) ≡ true → n ≡ length ks
lengths-plain f zero [] h = refl
lengths-plain f zero (k ∷ ks) h = absurd (false≢true h)
lengths-plain f (suc n) [] h = absurd (false≢true h)
lengths-plain f (suc n) (k ∷ ks) h = lengths-first f n k.code ks k.binder (λ p. lengths-plain f n ks p) h

and-first : (a b : Bool) → (a && b) ≡ true → a ≡ true
and-first true b h = refl
and-first false b h = absurd (false≢true h)

and-second : (a b : Bool) → (a && b) ≡ true → b ≡ true
and-second true b h = h
and-second false b h = absurd (false≢true h)

closed-first : (f : ℕ → Core) (n : ℕ) (e : Core) (ks : List CodeKid) (b : Option Name) → (plain n (code_row f ks) ≡ true → AreClosedTypes f ks) → plain (suc n) (kid b e (code_row f ks)) ≡ true → IsClosedIn b e → IsClosed e × AreClosedTypes f ks
closed-first f n e ks None rest h c = (c, rest h)
closed-first f n e ks (Some x) rest h c = absurd (false≢true h)

plain-closed : (f : ℕ → Core) (n : ℕ) (ks : List CodeKid) → plain n (code_row f ks) ≡ true → AreClosed f ks → AreClosedTypes f ks
plain-closed f n [] h c = tt
plain-closed f zero (k ∷ ks) h c = absurd (false≢true h)
plain-closed f (suc n) (k ∷ ks) h c = closed-first f n (f k.code) ks k.binder (λ p. plain-closed f n ks p c.1) h c.0

-- the parts that a record type or a union has
abbrev Fits : Op → List CodeKid → Type 0
Fits op ks = (f : ℕ → Core) → IsTrue (fits op (code_row f ks))

along-op : (o p : Op) (ks : List CodeKid) → o ≡ p → Fits o ks → Fits p ks
along-op o p ks e h f = ap (λ q. fits q (code_row f ks)) (sym e) ∙ h f

module _ (op : Op) (xs ys : List Name) (ks : List CodeKid) (is : op ≡ ops.RecordType xs) (same : ys ≡ xs) (h : Fits op ks) where
  pub record-row : (f : ℕ → Core) → Some (fields_of f ys ks) ≡ as_record_type (Node op (code_row f ks))
  record-row f =
      ap (λ zs. Some (fields_of f zs ks)) same
      ∙ sym (ap (λ o. as_record_type (Node o (code_row f ks))) is ∙ fields-plain f xs ks (and-second (ascending xs) _ (along-op op _ ks is h f)))

  pub record-lengths : length ys ≡ length ks
  record-lengths = ap length same ∙ lengths-plain (λ c. nothing) (length xs) ks (and-second (ascending xs) _ (along-op op _ ks is h (λ c. nothing)))

  pub record-ascends : IsTrue (ascending ys)
  record-ascends = ap ascending same ∙ and-first (ascending xs) _ (along-op op _ ks is h (λ c. nothing))

  pub record-closed : (f : ℕ → Core) → AreClosed f ks → AreClosedTypes f ks
  record-closed f c = plain-closed f (length xs) ks (and-second (ascending xs) _ (along-op op _ ks is h f)) c

pub union-row : (op : Op) (alts as' : List Alt) (ks : List CodeKid) → op ≡ ops.Union alts → as' ≡ alts → Fits op ks → (f : ℕ → Core) → Some (alternatives_of f as' ks) ≡ as_union_type (Node op (code_row f ks))
union-row op alts as' ks is same h f =
    ap (λ xs. Some (alternatives_of f xs ks)) same
    ∙ sym (ap (λ o. as_union_type (Node o (code_row f ks))) is ∙ ap (option_map (λ ts. alternatives alts ts)) (bodies-plain f (typed_count alts) ks (and-second (ascending (alt_labels alts)) _ (along-op op _ ks is h f))))
