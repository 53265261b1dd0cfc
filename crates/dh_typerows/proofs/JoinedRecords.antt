-- Two record types as one.
use Rattle.std.specs.Prelude.{◌≡◌, ◌<◌, ◌≤◌, ◌&&◌, ℕ, Bool, true, false, nat_eq, List, [], ◌∷◌, length, Option, Some, None, option_map, option_and_then, IfSome, Result, Ok, Err, IfOk, OnOk, if◌then◌else◌, refl}
use Rattle.std.proofs.Common.{ap, sym, ◌∙◌, arith, subst as along}
use Rattle.std.proofs.lemmas.Bool.{false≢true}
use Rattle.dh_syntax.specs.declared.expressions.Op.TheVariants as ops
use Rattle.dh_syntax.specs.Expressions.Arity.{plain}
use Rattle.dh_syntax.specs.Expressions.Forms.{Fields, record_type}
use Rattle.dh_syntax.specs.Expressions.Labels.{all_fields, field_at, prepend_field}
use Rattle.dh_syntax.specs.Expressions.Order.{ascending}
use Rattle.dh_syntax.specs.Expressions.Tree.{Row, Leaf, Node, end, kid, Name}
use Rattle.dh_syntax.specs.Expressions.Views.{as_record_type, fields}
use Rattle.dh_syntax.specs.Names.Nameless.{Ref, Core}
use Rattle.dh_syntax.specs.Typing.TypeRulesRecords.{joined, joined_field, joined_fields}
use Rattle.dh_syntax.proofs.NativeTests.{eq-native}
use Rattle.dh_syntax.proofs.Numbers.{eq-true}
use Rattle.dh_store.specs.declared.codes.CodeKid.{CodeKid}
use Rattle.dh_store.specs.declared.codes.Codes.{Codes}
use Rattle.dh_store.specs.Cells.{code_core, AreCoded, AreKidsBelow}
use Rattle.dh_store.specs.Growth.{count}
use Rattle.dh_types.specs.declared.memos.Memo.{Memo}
use Rattle.dh_types.specs.Growing.{Grows}
use Rattle.dh_types.specs.Memos.{entry}
use Rattle.dh_types.specs.Parts.{fields_of}
use Rattle.dh_types.proofs.CodeNodes.{code-fitting, IsFitting}
use Rattle.dh_typerows.specs.declared.preferring.Side.TheVariants as sides
use Rattle.dh_typerows.specs.Fields.{fields_with, ids, on_side}
use Rattle.dh_typerows.specs.Joining.{joined_all, record_of, AreFoundBelow, AreJoined, IsRecordBelow, Joins}
use Rattle.dh_typerows.proofs.FoundFields.{record-with}
use Rattle.dh_typerows.proofs.PickedFields.{id-fields}

-- all fields of both as a record type, where those of the first were joined
abbrev pub as_one : Fields Ref Name → Fields Ref Name → Core
as_one gs fs = record_type (all_fields (on_side sides.First) fs gs)

-- ---- against the definition

fields-once : (hs fs : Fields Ref Name) → Some hs ≡ Some fs → hs ≡ fs
fields-once hs fs e = cc

first-joined : (x : Name) (e : Core) (xs : List Name) (r : Row Ref Name) (fs gs : Fields Ref Name) → ((hs : Fields Ref Name) → fields xs r ≡ Some hs → joined_fields r xs gs ≡ joined_all hs gs) → (o : Option (Fields Ref Name)) → fields xs r ≡ o
    → option_map (λ hs. (x, e) ∷ hs) o ≡ Some fs → prepend_field x (joined_field (λ u. joined e u) e (field_at x gs)) (joined_fields r xs gs) ≡ joined_all fs gs
first-joined x e xs r fs gs rest None p q = absurd cc
first-joined x e xs r fs gs rest (Some hs) p q = ap (prepend_field x (joined_field (λ u. joined e u) e (field_at x gs))) (rest hs p) ∙ ap (λ is. joined_all is gs) (fields-once _ _ q)

row-joined : (xs : List Name) (r : Row Ref Name) (fs gs : Fields Ref Name) → fields xs r ≡ Some fs → joined_fields r xs gs ≡ joined_all fs gs
row-joined [] end fs gs h = ap (λ hs. joined_all hs gs) (fields-once _ _ h)
row-joined [] (kid b e r) fs gs h = absurd cc
row-joined (x ∷ xs) end fs gs h = absurd cc
row-joined (x ∷ xs) (kid (Some y) e r) fs gs h = absurd cc
row-joined (x ∷ xs) (kid None e r) fs gs h = first-joined x e xs r fs gs (λ hs p. row-joined xs r hs gs p) (fields xs r) refl h

both-records : (l u : Core) (fs gs : Fields Ref Name) → Some fs ≡ as_record_type l → Some gs ≡ as_record_type u → joined l u ≡ option_map (as_one gs) (joined_all fs gs)
both-records (Node (ops.RecordType xs) r) u fs gs p q =
    ap (λ o. option_and_then (λ hs. option_map (as_one hs) (joined_fields r xs hs)) o) (sym q) ∙ ap (option_map (as_one gs)) (row-joined xs r fs gs (sym p))
both-records (Node op r) u fs gs p q = absurd cc
both-records (Leaf a) u fs gs p q = absurd cc

fields-whole : (xs : List Name) (r : Row Ref Name) → plain (length xs) r ≡ true → None ≡ fields xs r → ⊥
fields-whole [] end h p = cc
fields-whole [] (kid b e r) h p = false≢true h
fields-whole (x ∷ xs) end h p = false≢true h
fields-whole (x ∷ xs) (kid (Some y) e r) h p = false≢true h
fields-whole (x ∷ xs) (kid None e r) h p = fields-whole xs r h (by (fields xs r) p)
  where
    by : (o : Option (Fields Ref Name)) → None ≡ option_map (λ hs. (x, e) ∷ hs) o → None ≡ o
    by None q = refl
    by (Some hs) q = absurd cc

and-second : (a b : Bool) → (a && b) ≡ true → b ≡ true
and-second true b h = h
and-second false b h = absurd (false≢true h)

left-none : (l u : Core) → IsFitting l → None ≡ as_record_type l → None ≡ joined l u
left-none (Node (ops.RecordType xs) r) u h p = absurd (fields-whole xs r (and-second (ascending xs) _ h) p)
left-none (Node op r) u h p = refl
left-none (Leaf a) u h p = refl

right-none : (l u : Core) (fs : Fields Ref Name) → Some fs ≡ as_record_type l → None ≡ as_record_type u → None ≡ joined l u
right-none (Node (ops.RecordType xs) r) u fs p q = sym (ap (λ o. option_and_then (λ hs. option_map (as_one hs) (joined_fields r xs hs)) o) (sym q))
right-none (Node op r) u fs p q = absurd cc
right-none (Leaf a) u fs p q = absurd cc

module _ (cs : Codes) (coded : AreCoded cs) (l r : ℕ) where
  pub no-left : None ≡ as_record_type (code_core cs l) → None ≡ joined (code_core cs l) (code_core cs r)
  no-left h = left-none (code_core cs l) (code_core cs r) (code-fitting cs coded l) h

  pub no-right : (fs : Fields Ref Name) → Some fs ≡ as_record_type (code_core cs l) → None ≡ as_record_type (code_core cs r) → None ≡ joined (code_core cs l) (code_core cs r)
  no-right fs p h = right-none (code_core cs l) (code_core cs r) fs p h

-- ---- one record type

pub one-record : (f : ℕ → Core) (xs ys : List Name) (p : List Name × List ℕ) (others : List CodeKid) (left left' right right' : List ℕ) (o : Option (List ℕ)) (J : Option (Fields Ref Name)) → o ≡ Some left → option_map (λ cs. fields_with f xs cs) o ≡ J → left' ≡ left → right ≡ ids others → right' ≡ right
    → fields_with f p.0 p.1 ≡ all_fields (on_side sides.First) (fields_with f xs left') (fields_with f ys right') → length p.0 ≡ length p.1 → Some (record_of f p) ≡ option_map (as_one (fields_of f ys others)) J
one-record f xs ys p others left left' right right' o J a v b c d e paired =
    ap Some
    (sym (record-with f p.0 p.1 paired) ∙ ap record_type e
    ∙ ap (λ cs. record_type (all_fields (on_side sides.First) (fields_with f xs cs) (fields_with f ys right'))) b
    ∙ ap (λ cs. as_one (fields_with f ys cs) (fields_with f xs left)) (d ∙ c) ∙ ap (λ gs. as_one gs (fields_with f xs left)) (id-fields f ys others))
    ∙ ap (option_map (as_one (fields_of f ys others))) (ap (option_map (λ cs. fields_with f xs cs)) (sym a) ∙ v)

pub joined-view : {E : Type 0} (f : ℕ → Core) (m : Memo (Option ℕ)) (l u : Core) (xs ys : List Name) (kids others : List CodeKid) (r : Result (Option (List Name × List ℕ)) E) → Some (fields_of f xs kids) ≡ as_record_type l → Some (fields_of f ys others) ≡ as_record_type u → Joins f m
    → IfOk r (λ o. (g : ℕ → Core) → Joins g m → option_map (record_of g) o ≡ option_map (as_one (fields_of g ys others)) (joined_all (fields_of g xs kids) (fields_of g ys others))) → IfOk r (λ o. option_map (record_of f) o ≡ joined l u)
joined-view f m l u xs ys kids others (Ok o) p q j h = h f j ∙ sym (both-records l u (fields_of f xs kids) (fields_of f ys others) p q)
joined-view f m l u xs ys kids others (Err x) p q j h = tt

pub joined-shape : {E : Type 0} (n : ℕ) (m : Memo (Option ℕ)) (kids others : List CodeKid) (r : Result (Option (List Name × List ℕ)) E) → AreKidsBelow n kids → AreKidsBelow n others → AreFoundBelow n m
    → IfOk r (λ o. (k : ℕ) → AreKidsBelow k kids → AreKidsBelow k others → AreFoundBelow k m → IfSome o (IsRecordBelow k)) → IfOk r (λ o. IfSome o (IsRecordBelow n))
joined-shape n m kids others (Ok o) a b c h = h n a b c
joined-shape n m kids others (Err x) a b c h = tt

-- ---- what was kept for pairs of types

same-number : (m n : ℕ) → nat_eq m n ≡ true → m ≡ n
same-number m n h = eq-true m n (eq-native m n ∙ h)

both-true : (a b : Bool) → (a && b) ≡ true → (a ≡ true) × (b ≡ true)
both-true true true h = (refl, refl)
both-true true false h = absurd (false≢true h)
both-true false b h = absurd (false≢true h)

option-once : (x y : Option ℕ) → Some x ≡ Some y → x ≡ y
option-once x y e = cc

found-later : (old new : Codes) (o : Option ℕ) → Grows old new → IfSome o (λ c. c < count old) → option_map (code_core new) o ≡ option_map (code_core old) o
found-later old new (Some c) g h = ap Some (g.cores c h)
found-later old new None g h = refl

there-later : (m n : ℕ) (o : Option ℕ) → m ≤ n → IfSome o (λ c. c < m) → IfSome o (λ c. c < n)
there-later m n (Some c) h p = omega arith
there-later m n None h p = tt

both-same : (a b c d : Core) → a ≡ c → b ≡ d → joined a b ≡ joined c d
both-same a b c d p q = cc

module _ (old new : Codes) (m m' : Memo (Option ℕ)) (left right : ℕ) (found : Option ℕ) (grows : Grows old new) (so_far : AreJoined old m) (l : left < count old) (r : right < count old)
    (core : option_map (code_core new) found ≡ joined (code_core old left) (code_core old right)) (there : IfSome found (λ c. c < count new))
    (puts : (a b : ℕ) → entry m' a b ≡ (if nat_eq left a && nat_eq right b then Some found else entry m a b)) where
  record Holds (a b : ℕ) (o : Option ℕ) : Type 0 where
    below : (a < count new) × (b < count new)
    there-too : IfSome o (λ c. c < count new)
    joins : option_map (code_core new) o ≡ joined (code_core new a) (code_core new b)

  known : (a b : ℕ) (o : Option ℕ) → a < count old → b < count old → IfSome o (λ c. c < count new) → option_map (code_core new) o ≡ joined (code_core old a) (code_core old b) → Holds a b o
  known a b o p q h e = record {
    below = ((let g = grows.more in omega arith), (let g = grows.more in omega arith));
    there-too = h;
    joins = e ∙ both-same _ _ _ _ (sym (grows.cores a p)) (sym (grows.cores b q));
  }

  case : (a b : ℕ) (o : Option ℕ) (t : Bool) → (nat_eq left a && nat_eq right b) ≡ t → (if t then Some found else entry m a b) ≡ Some o → Holds a b o
  case a b o true e h =
      let i = both-true _ _ e in
      along (λ z. Holds z b o) (same-number left a i.0)
      (along (λ z. Holds left z o) (same-number right b i.1) (along (Holds left right) (option-once found o h) (known left right found l r there core)))
  case a b o false e h =
      let p = so_far.below a b o h in
      known a b o p.0 p.1 (there-later (count old) (count new) o grows.more (so_far.found a b o h)) (found-later old new o grows (so_far.found a b o h) ∙ so_far.joins a b o h)

  entries : (a b : ℕ) (o : Option ℕ) → entry m' a b ≡ Some o → Holds a b o
  entries a b o h = case a b o (nat_eq left a && nat_eq right b) refl (sym (puts a b) ∙ h)

  one-more : AreJoined new m'
  one-more = record { below = λ a b o h. (entries a b o h).below; found = λ a b o h. (entries a b o h).there-too; joins = λ a b o h. (entries a b o h).joins }

pub joined-once : {E : Type 0} (old new : Codes) (m m' : Memo (Option ℕ)) (left right : ℕ) (found : Option ℕ) (fields : Option (List Name × List ℕ)) (r : Result (Unit {0}) E) → Grows old new → AreJoined old m → left < count old → right < count old
    → option_map (code_core new) found ≡ option_map (record_of (code_core old)) fields → option_map (record_of (code_core old)) fields ≡ joined (code_core old left) (code_core old right) → IfSome found (λ c. c < count new)
    → OnOk r ((a b : ℕ) → entry m' a b ≡ (if nat_eq left a && nat_eq right b then Some found else entry m a b)) → OnOk r (AreJoined new m')
joined-once old new m m' left right found fields (Ok u) g s l h e v t p = one-more old new m m' left right found g s l h (e ∙ v) t p
joined-once old new m m' left right found fields (Err x) g s l h e v t p = tt

-- ---- what was found for the whole

pub joined-whole : {E : Type 0} (old new : Codes) (m : Memo (Option ℕ)) (l r : ℕ) (o : Result (Option ℕ) E) → Grows old new → l < count old → r < count old → AreJoined new m → IfOk o (λ p. entry m l r ≡ Some p)
    → IfOk o (λ p. option_map (code_core new) p ≡ joined (code_core old l) (code_core old r))
joined-whole old new m l r (Ok p) g a b j h = j.joins l r p h ∙ both-same _ _ _ _ (g.cores l a) (g.cores r b)
joined-whole old new m l r (Err x) g a b j h = tt

pub joined-there : {E : Type 0} (new : Codes) (m : Memo (Option ℕ)) (l r : ℕ) (o : Result (Option ℕ) E) → AreJoined new m → IfOk o (λ p. entry m l r ≡ Some p) → IfOk o (λ p. IfSome p (λ c. c < count new))
joined-there new m l r (Ok p) j h = j.found l r p h
joined-there new m l r (Err x) j h = tt
