-- Fields of record types, by the places of their labels.
use Rattle.std.specs.Prelude.{◌≡◌, ◌<◌, ◌≤◌, ◌+◌, ◌++◌, ℕ, zero, suc, Bool, true, false, List, [], ◌∷◌, Option, Some, None, option_map, map, take, length, IfSome, if◌then◌else◌, refl}
use Rattle.std.proofs.Common.{ap, sym, ◌∙◌, arith, get_or, subst as along}
use Rattle.std.proofs.lemmas.List.{length-append, take_more}
use Rattle.dh_syntax.specs.Expressions.Forms.{Fields, labels_of, plain_row, record_type, values_of}
use Rattle.dh_syntax.specs.Expressions.Labels.{field_at, fields_at, prepend_field}
use Rattle.dh_syntax.specs.Expressions.Numbers.{bytes_eq}
use Rattle.dh_syntax.specs.Expressions.Tree.{Name, Node}
use Rattle.dh_syntax.specs.declared.expressions.Op.TheVariants as ops
use Rattle.dh_syntax.specs.Expressions.Views.{as_record_type}
use Rattle.dh_syntax.specs.Names.Nameless.{Ref, Core}
use Rattle.dh_syntax.specs.Typing.NamelessTyping.{core_scopes}
use Rattle.dh_syntax.specs.Typing.TypeRulesRecords.{projection}
use Rattle.dh_store.specs.declared.codes.CodeKid.{CodeKid}
use Rattle.dh_store.specs.Cells.{AreBelow, AreKidsBelow}
use Rattle.dh_records.specs.Places.{index_of}
use Rattle.dh_types.specs.Following.{follow, Facts, Forms}
use Rattle.dh_types.specs.Parts.{fields_of}
use Rattle.dh_types.proofs.SameCodes.{kid-below}
use Rattle.dh_typerows.specs.Fields.{fields_with}

module _ (f : ℕ → Core) (d : CodeKid) where
  abbrev held : List CodeKid → ℕ → Core
  held ks i = f (get_or ks i d).code

  later : (k : CodeKid) (ks : List CodeKid) (o : Option ℕ) → option_map (held ks) o ≡ option_map (held (k ∷ ks)) (option_map (λ j. suc j) o)
  later k ks None = refl
  later k ks (Some j) = refl

  here : (x : Name) (xs : List Name) (k : CodeKid) (ks : List CodeKid) (b : Bool) → field_at x (fields_of f xs ks) ≡ option_map (held ks) (index_of x xs)
      → (if b then Some (f k.code) else field_at x (fields_of f xs ks)) ≡ option_map (held (k ∷ ks)) (if b then Some 0 else option_map (λ j. suc j) (index_of x xs))
  here x xs k ks true e = refl
  here x xs k ks false e = e ∙ later k ks (index_of x xs)

  field-index : (x : Name) (xs : List Name) (ks : List CodeKid) → length xs ≡ length ks → field_at x (fields_of f xs ks) ≡ option_map (held ks) (index_of x xs)
  field-index x [] [] h = refl
  field-index x [] (k ∷ ks) h = refl
  field-index x (y ∷ ys) [] h = absurd (omega arith)
  field-index x (y ∷ ys) (k ∷ ks) h = here x ys k ks (bytes_eq x y) (field-index x ys ks (omega arith))

pub found-field : (f : ℕ → Core) (d : CodeKid) (x : Name) (xs : List Name) (ks : List CodeKid) (i : ℕ) → length xs ≡ length ks → Some i ≡ index_of x xs → Some (f (get_or ks i d).code) ≡ field_at x (fields_of f xs ks)
found-field f d x xs ks i h e = ap (option_map (held f d ks)) e ∙ sym (field-index f d x xs ks h)

-- no part, which stands where there is none
abbrev pub no-kid : CodeKid
no-kid = record { binder = None; code = 0 }

pub missing-field : (f : ℕ → Core) (d : CodeKid) (x : Name) (xs : List Name) (ks : List CodeKid) → length xs ≡ length ks → None ≡ index_of x xs → None ≡ field_at x (fields_of f xs ks)
missing-field f d x xs ks h e = ap (option_map (held f d ks)) e ∙ sym (field-index f d x xs ks h)

-- ---- several fields

-- these codes are what the fields with these labels hold
abbrev pub AreFound : (ℕ → Core) → Fields Ref Name → List Name → List ℕ → Type 0
AreFound f fs xs cs = map (λ x. field_at x fs) xs ≡ map (λ c. Some (f c)) cs

map-push : {X Y : Type 0} (g : X → Y) (xs : List X) (x : X) → map g (xs ++ x ∷ []) ≡ map g xs ++ g x ∷ []
map-push g [] x = refl
map-push g (y ∷ ys) x = ap (λ zs. g y ∷ zs) (map-push g ys x)

pub found-more : (f : ℕ → Core) (fs : Fields Ref Name) (xs : List Name) (i : ℕ) (x : Name) (cs : List ℕ) (c : ℕ) → i < length xs → x ≡ get_or xs i x → AreFound f fs (take i xs) cs → Some (f c) ≡ field_at x fs
    → AreFound f fs (take (i + 1) xs) (cs ++ c ∷ [])
found-more f fs xs i x cs c h e so_far p =
    ap (map (λ y. field_at y fs)) (take_more xs i x h ∙ ap (λ y. take i xs ++ y ∷ []) (sym e)) ∙ map-push (λ y. field_at y fs) (take i xs) x
    ∙ ap (λ o. map (λ y. field_at y fs) (take i xs) ++ o ∷ []) (sym p) ∙ ap (λ os. os ++ Some (f c) ∷ []) so_far ∙ sym (map-push (λ j. Some (f j)) cs c)

heads-same : {X : Type 0} (x y : X) (xs ys : List X) → x ∷ xs ≡ y ∷ ys → x ≡ y
heads-same x y xs ys e = cc

tails-same : {X : Type 0} (x y : X) (xs ys : List X) → x ∷ xs ≡ y ∷ ys → xs ≡ ys
tails-same x y xs ys e = cc

pub found-all : (f : ℕ → Core) (fs : Fields Ref Name) (xs : List Name) (cs : List ℕ) → AreFound f fs xs cs → Some (fields_with f xs cs) ≡ fields_at xs fs
found-all f fs [] [] h = refl
found-all f fs [] (c ∷ cs) h = absurd cc
found-all f fs (x ∷ xs) [] h = absurd cc
found-all f fs (x ∷ xs) (c ∷ cs) h =
    ap (prepend_field x (Some (f c))) (found-all f fs xs cs (tails-same _ _ _ _ h)) ∙ ap (λ o. prepend_field x o (fields_at xs fs)) (sym (heads-same _ _ _ _ h))

none-after : (x : Name) (o : Option Core) → prepend_field x o None ≡ None
none-after x None = refl
none-after x (Some e) = refl

none-first : (x : Name) (gs : Option (Fields Ref Name)) → prepend_field x None gs ≡ None
none-first x None = refl
none-first x (Some g) = refl

pub missing-one : (fs : Fields Ref Name) (xs : List Name) (i : ℕ) (d : Name) → i < length xs → None ≡ field_at (get_or xs i d) fs → None ≡ fields_at xs fs
missing-one fs [] i d h e = absurd (omega arith)
missing-one fs (x ∷ xs) zero d h e = sym (ap (λ o. prepend_field x o (fields_at xs fs)) (sym e) ∙ none-first x (fields_at xs fs))
missing-one fs (x ∷ xs) (suc i) d h e = sym (ap (prepend_field x (field_at x fs)) (sym (missing-one fs xs i d (omega arith) e)) ∙ none-after x (field_at x fs))

-- ---- the record type of such fields

labels-with : (f : ℕ → Core) (xs : List Name) (cs : List ℕ) → length xs ≡ length cs → labels_of (fields_with f xs cs) ≡ xs
labels-with f [] [] h = refl
labels-with f [] (c ∷ cs) h = absurd (omega arith)
labels-with f (x ∷ xs) [] h = absurd (omega arith)
labels-with f (x ∷ xs) (c ∷ cs) h = ap (λ ys. x ∷ ys) (labels-with f xs cs (omega arith))

values-with : (f : ℕ → Core) (xs : List Name) (cs : List ℕ) → length xs ≡ length cs → values_of (fields_with f xs cs) ≡ map f cs
values-with f [] [] h = refl
values-with f [] (c ∷ cs) h = absurd (omega arith)
values-with f (x ∷ xs) [] h = absurd (omega arith)
values-with f (x ∷ xs) (c ∷ cs) h = ap (λ ys. f c ∷ ys) (values-with f xs cs (omega arith))

pub record-with : (f : ℕ → Core) (xs : List Name) (cs : List ℕ) → length xs ≡ length cs → record_type (fields_with f xs cs) ≡ Node (ops.RecordType xs) (plain_row (map f cs))
record-with f xs cs h = ap (λ ys. Node (ops.RecordType ys) (plain_row (values_of (fields_with f xs cs)))) (labels-with f xs cs h) ∙ ap (λ es. Node (ops.RecordType xs) (plain_row es)) (values-with f xs cs h)

pub below-at : (n : ℕ) (ks : List CodeKid) (i : ℕ) (d : CodeKid) → AreKidsBelow n ks → i < length ks → (get_or ks i d).code < n
below-at n ks i d b h = kid-below n ks i d b h

pub kids-below : (m n : ℕ) (ks : List CodeKid) → m ≤ n → AreKidsBelow m ks → AreKidsBelow n ks
kids-below m n [] h b = tt
kids-below m n (k ∷ ks) h b = ((let p = b.0 in omega arith), kids-below m n ks h b.1)

pub below-push : (n : ℕ) (cs : List ℕ) (c : ℕ) → AreBelow n cs → c < n → AreBelow n (cs ++ c ∷ [])
below-push n [] c b h = (h, tt)
below-push n (d ∷ cs) c b h = (b.0, below-push n cs c b.1 h)

pub pushed-length : (cs : List ℕ) (c n : ℕ) → length cs ≡ n → length (cs ++ c ∷ []) ≡ n + 1
pushed-length cs c n h = let p = length-append cs (c ∷ []) in omega arith

pub take-whole : {X : Type 0} (xs : List X) (n : ℕ) → length xs ≤ n → take n xs ≡ xs
take-whole [] zero h = refl
take-whole [] (suc n) h = refl
take-whole (x ∷ xs) zero h = absurd (omega arith)
take-whole (x ∷ xs) (suc n) h = ap (λ ys. x ∷ ys) (take-whole xs n (omega arith))

pub found-whole : (f : ℕ → Core) (fs : Fields Ref Name) (xs : List Name) (cs : List ℕ) (n : ℕ) → length xs ≤ n → AreFound f fs (take n xs) cs → Some (fields_with f xs cs) ≡ fields_at xs fs
found-whole f fs xs cs n h e = found-all f fs xs cs (along (λ ys. AreFound f fs ys cs) (take-whole xs n h) e)

pub missing-at : (fs : Fields Ref Name) (xs : List Name) (i : ℕ) (x : Name) → i < length xs → x ≡ get_or xs i x → None ≡ field_at x fs → None ≡ fields_at xs fs
missing-at fs xs i x h e p = missing-one fs xs i x h (p ∙ ap (λ y. field_at y fs) e)

-- ---- projection

pub from-some : {X : Type 0} (P : X → Type 0) (o : Option X) (x : X) → o ≡ Some x → IfSome o P → P x
from-some P o x e h = along (λ q. IfSome q P) e h

module _ (facts : Facts Core) (f : ℕ → Core) (t : Core) (ls : List Name) (ks : List CodeKid) (xs ys zs : List Name) (cs : List ℕ) (same : ys ≡ xs) (copied : zs ≡ xs) (view : Some (fields_of f ls ks) ≡ as_record_type t) where
  forms : (gs : Fields Ref Name) → Some gs ≡ fields_at xs (fields_of f ls ks) → Forms (record_type gs) ≡ follow facts (projection core_scopes xs t)
  forms gs p = rw (sym view, sym p) refl

  pub projection-forms : (o : Option (List ℕ)) → o ≡ Some cs → option_map (λ ds. fields_with f ys ds) o ≡ fields_at ys (fields_of f ls ks) → IfSome o (λ ds. length ys ≡ length ds)
      → Forms (Node (ops.RecordType zs) (plain_row (map f cs))) ≡ follow facts (projection core_scopes xs t)
  projection-forms o e p h =
      let lengths = from-some (λ ds. length ys ≡ length ds) o cs e h in
      ap (λ ws. Forms (Node (ops.RecordType ws) (plain_row (map f cs)))) copied
      ∙ ap Forms (sym (record-with f xs cs (ap length (sym same) ∙ lengths)))
      ∙ forms (fields_with f xs cs) (along (λ ws. Some (fields_with f ws cs) ≡ fields_at ws (fields_of f ls ks)) same (ap (option_map (λ ds. fields_with f ys ds)) (sym e) ∙ p))

pub kid-in : (n : ℕ) (ks : List CodeKid) (i : ℕ) (k : CodeKid) → AreKidsBelow n ks → i < length ks → k ≡ get_or ks i k → k.code < n
kid-in n ks i k b h e = along (λ (j : CodeKid). j.code < n) (sym e) (kid-below n ks i k b h)

-- what holds of a number that is there
pub some-there : (P : ℕ → Type 0) (o : Option ℕ) (c : ℕ) → o ≡ Some c → IfSome o P → P c
some-there P o c e h = from-some P o c e h
