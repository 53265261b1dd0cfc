-- Handlers and alternatives, one by one.
use Rattle.std.specs.Prelude.{◌≡◌, ◌<◌, ◌≤◌, ◌+◌, ◌&&◌, ℕ, zero, suc, Bool, true, false, List, [], ◌∷◌, Option, Some, None, option_map, map, drop, length, refl}
use Rattle.std.proofs.Common.{ap, sym, ◌∙◌, arith, get_or}
use Rattle.std.proofs.lemmas.Bool.{false≢true}
use Rattle.std.proofs.lemmas.List.{drop_more, drop_all}
use Rattle.dh_syntax.specs.declared.expressions.Alt.{Alt}
use Rattle.dh_syntax.specs.Expressions.Arity.{alt_labels}
use Rattle.dh_syntax.specs.Expressions.Forms.{Fields, labels_of}
use Rattle.dh_syntax.specs.Expressions.Numbers.{bytes_eq}
use Rattle.dh_syntax.specs.Expressions.SameTree.{list_eq}
use Rattle.dh_syntax.specs.Expressions.Tree.{Name}
use Rattle.dh_syntax.specs.Names.Nameless.{Ref, Core}
use Rattle.dh_syntax.specs.Typing.NamelessTyping.{core_scopes}
use Rattle.dh_syntax.specs.Typing.TypeRuling.{Ruling, require}
use Rattle.dh_syntax.specs.Typing.TypeRules as rule
use Rattle.dh_syntax.specs.Typing.TypeRulesUnions.{all_handled, merged}
use Rattle.dh_syntax.specs.Typing.TypeViews.{alternatives, next_alternative, optional_alternatives, Alternatives}
use Rattle.dh_store.specs.declared.codes.CodeKid.{CodeKid}
use Rattle.dh_types.specs.Following.{follow, Facts, Refuses}
use Rattle.dh_types.specs.Closed.{AreClosedTypes, IsClosed}
use Rattle.dh_types.specs.Parts.{alternatives_of, cores_of, fields_of}
use Rattle.dh_typerows.specs.Entries.{optional_labels}
use Rattle.dh_typerows.specs.Merging.{handled_all, handled_by}
use Rattle.dh_typerows.proofs.AlternativeLists.{split-at, Splits}

-- ---- labels

pub labels-of-fields : (f : ℕ → Core) (xs : List Name) (ks : List CodeKid) → length xs ≡ length ks → labels_of (fields_of f xs ks) ≡ xs
labels-of-fields f [] [] h = refl
labels-of-fields f [] (k ∷ ks) h = absurd (omega arith)
labels-of-fields f (x ∷ xs) [] h = absurd (omega arith)
labels-of-fields f (x ∷ xs) (k ∷ ks) h = ap (λ ys. x ∷ ys) (labels-of-fields f xs ks (omega arith))

next-label : (x : Name) (typed : Bool) (ts : List Core) (others : List Core → Alternatives Ref Name) (ls : List Name) → ((us : List Core) → map (λ a. a.0) (others us) ≡ ls)
    → map (λ a. a.0) (next_alternative x typed ts others) ≡ x ∷ ls
next-label x true (t ∷ ts) others ls h = ap (λ ys. x ∷ ys) (h ts)
next-label x true [] others ls h = ap (λ ys. x ∷ ys) (h [])
next-label x false ts others ls h = ap (λ ys. x ∷ ys) (h ts)

labels-of-alternatives : (alts : List Alt) (ts : List Core) → map (λ a. a.0) (alternatives alts ts) ≡ alt_labels alts
labels-of-alternatives [] ts = refl
labels-of-alternatives (a ∷ as') ts = next-label a.label a.typed ts (λ us. alternatives as' us) (alt_labels as') (λ us. labels-of-alternatives as' us)

pub same-labels : (f : ℕ → Core) (xs : List Name) (ks : List CodeKid) (alts : List Alt) (ts : List CodeKid) → length xs ≡ length ks
    → list_eq bytes_eq (labels_of (fields_of f xs ks)) (map (λ a. a.0) (alternatives_of f alts ts)) ≡ list_eq bytes_eq xs (alt_labels alts)
same-labels f xs ks alts ts h = ap (λ ys. list_eq bytes_eq ys (map (λ a. a.0) (alternatives_of f alts ts))) (labels-of-fields f xs ks h) ∙ ap (list_eq bytes_eq xs) (labels-of-alternatives alts (cores_of f ts))

and-second : (a b : Bool) → (a && b) ≡ true → b ≡ true
and-second true b h = h
and-second false b h = absurd (false≢true h)

pub labels-count : (xs : List Name) (alts : List Alt) → list_eq bytes_eq xs (alt_labels alts) ≡ true → length xs ≡ length alts
labels-count [] [] h = refl
labels-count [] (a ∷ as') h = absurd (false≢true h)
labels-count (x ∷ xs) [] h = absurd (false≢true h)
labels-count (x ∷ xs) (a ∷ as') h = ap suc (labels-count xs as' (and-second (bytes_eq x a.label) _ h))

-- ---- one more handler

pub field-at : (f : ℕ → Core) (xs : List Name) (ks : List CodeKid) (i : ℕ) (x : Name) (k : CodeKid) → i < length xs → i < length ks
    → fields_of f (drop i xs) (drop i ks) ≡ (get_or xs i x, f (get_or ks i k).code) ∷ fields_of f (drop (i + 1) xs) (drop (i + 1) ks)
field-at f xs ks i x k h l = ap (λ ys. fields_of f ys (drop i ks)) (drop_more xs i x h) ∙ ap (fields_of f (get_or xs i x ∷ drop (i + 1) xs)) (drop_more ks i k l)

module _ (f : ℕ → Core) (facts : Facts Core) (xs : List Name) (hs : List CodeKid) (alts : List Alt) (paired : length xs ≡ length hs) (counted : length xs ≡ length alts) where
  abbrev pub left : ℕ → List CodeKid → Option Core → (Option Core → Ruling Core) → Ruling Core
  left i rest q next = all_handled core_scopes q (fields_of f (drop i xs) (drop i hs)) (alternatives_of f (drop i alts) rest) next

  pub handled-more : (i : ℕ) (rest others : List CodeKid) (own : Option ℕ) (a : Alt) (k : CodeKid) (q : Option Core) (next : Option Core → Ruling Core) → i < length hs → a ≡ get_or alts i a → Splits f a rest own others
      → left i rest q next ≡ handled_by core_scopes q (option_map f own) (f (get_or hs i k).code) (λ r. left (i + 1) others (Some r) next)
  handled-more i rest others own a k q next h e s =
      ap (λ fs. all_handled core_scopes q fs (alternatives_of f (drop i alts) rest) next) (field-at f xs hs i [] k (omega (arith, paired, h)) h)
      ∙ ap (λ as'. all_handled core_scopes q ((get_or xs i [], f (get_or hs i k).code) ∷ fields_of f (drop (i + 1) xs) (drop (i + 1) hs)) as' next)
      (split-at f alts i a rest others own (omega (arith, paired, counted, h)) e s)

  pub handled-end : (i : ℕ) (rest : List CodeKid) (q : Option Core) (next : Option Core → Ruling Core) → length hs ≤ i → left i rest q next ≡ next q
  handled-end i rest q next h = ap (λ ys. all_handled core_scopes q (fields_of f ys (drop i hs)) (alternatives_of f (drop i alts) rest) next) (drop_all i xs (omega (arith, paired, h)))

-- ---- all handlers

module _ (facts : Facts Core) (annotated : Bool) (hs : Fields Ref Name) (alts : Alternatives Ref Name) where
  pub handled-refused : list_eq bytes_eq (labels_of hs) (map (λ a. a.0) alts) ≡ false → Refuses 36 ≡ follow facts (handled_all core_scopes annotated hs alts)
  handled-refused h = ap (λ b. follow facts (require b rule.HandlerLabels (all_handled core_scopes None hs alts (λ result. merged core_scopes annotated result)))) (sym h)

  pub handled-goes : list_eq bytes_eq (labels_of hs) (map (λ a. a.0) alts) ≡ true → follow facts (all_handled core_scopes None hs alts (λ result. merged core_scopes annotated result)) ≡ follow facts (handled_all core_scopes annotated hs alts)
  handled-goes h = ap (λ b. follow facts (require b rule.HandlerLabels (all_handled core_scopes None hs alts (λ result. merged core_scopes annotated result)))) (sym h)

pub same-optional : (f : ℕ → Core) (xs : List Name) (ks : List CodeKid) (t : Core) → length xs ≡ length ks → list_eq bytes_eq (labels_of (fields_of f xs ks)) (map (λ a. a.0) (optional_alternatives t)) ≡ list_eq bytes_eq xs optional_labels
same-optional f xs ks t h = ap (λ ys. list_eq bytes_eq ys optional_labels) (labels-of-fields f xs ks h)

pub optional-handled : (f : ℕ → Core) (xs : List Name) (ks : List CodeKid) (a b : CodeKid) (t : Core) (next : Option Core → Ruling Core) → 2 ≤ length ks → length ks < 3 → length xs ≡ length ks → a ≡ get_or ks 0 a → b ≡ get_or ks 1 b
    → all_handled core_scopes None (fields_of f xs ks) (optional_alternatives t) next ≡ handled_by core_scopes (Some (f a.code)) (Some t) (f b.code) (λ q. next (Some q))
optional-handled f xs [] a b t next h l p d e = absurd (omega arith)
optional-handled f xs (k ∷ []) a b t next h l p d e = absurd (omega arith)
optional-handled f xs (k ∷ k' ∷ k'' ∷ ks) a b t next h l p d e = absurd (omega arith)
optional-handled f [] (k ∷ k' ∷ []) a b t next h l p d e = absurd (omega arith)
optional-handled f (x ∷ []) (k ∷ k' ∷ []) a b t next h l p d e = absurd (omega arith)
optional-handled f (x ∷ y ∷ z ∷ xs) (k ∷ k' ∷ []) a b t next h l p d e = absurd (omega arith)
optional-handled f (x ∷ y ∷ []) (k ∷ k' ∷ []) a b t next h l p d e =
    ap (λ (j : CodeKid). handled_by core_scopes (Some (f j.code)) (Some t) (f k'.code) (λ q. next (Some q))) (sym d)
    ∙ ap (λ (j : CodeKid). handled_by core_scopes (Some (f a.code)) (Some t) (f j.code) (λ q. next (Some q))) (sym e)

pub closed-at : (f : ℕ → Core) (ks : List CodeKid) (i : ℕ) (d : CodeKid) → AreClosedTypes f ks → i < length ks → IsClosed (f (get_or ks i d).code)
closed-at f [] i d c h = absurd (omega arith)
closed-at f (k ∷ ks) zero d c h = c.0
closed-at f (k ∷ ks) (suc i) d c h = closed-at f ks i d c.1 (omega arith)

pub other-labels : (xs : List Name) (alts : List Alt) → (length xs ≡ length alts → ⊥) → false ≡ list_eq bytes_eq xs (alt_labels alts)
other-labels xs alts h = by (list_eq bytes_eq xs (alt_labels alts)) refl
  where
    by : (b : Bool) → list_eq bytes_eq xs (alt_labels alts) ≡ b → false ≡ b
    by false p = refl
    by true p = absurd (h (labels-count xs alts p))
