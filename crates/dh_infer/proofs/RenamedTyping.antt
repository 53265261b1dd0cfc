-- Typing commutes with a renaming of references that keeps the types of variables.
use Rattle.std.specs.Prelude.{◌≡◌, ℕ, zero, suc, pred, Bool, true, false, ◌||◌, if◌then◌else◌, codes, Option, Some, None, option_map, refl}
use Rattle.std.proofs.Common.{ap, sym, ◌∙◌, subst as along}
use Rattle.dh_syntax.specs.declared.operators.Builtin.{Builtin}
use Rattle.dh_syntax.specs.declared.operators.Builtin.TheVariants as builtins
use Rattle.dh_syntax.specs.Expressions.Tree.{Row, Leaf, Node, end, kid, Name}
use Rattle.dh_syntax.specs.Names.Moves.{moved_row}
use Rattle.dh_syntax.specs.Names.Nameless.{Ref, Bound, Free, Core, past, ren, renaming, lifted, sub, first, to_core}
use Rattle.dh_syntax.specs.Typing.BuiltinTypes.{type_of}
use Rattle.dh_syntax.specs.Typing.Inference.{Inference}
use Rattle.dh_syntax.specs.Typing.NamelessTyping.{is_bound, mentions, mentions_row, down, core_scopes}
use Rattle.dh_syntax.specs.Typing.Scopes.{Context, enter}
use Rattle.dh_syntax.specs.Typing.TypeRules as rule
use Rattle.dh_syntax.specs.Typing.Typing as typings
use Rattle.dh_syntax.specs.Typing.Typing.{given_type}
use Rattle.dh_laws.proofs.Names.Renamings.{ren-ren, ren-itself}
use Rattle.dh_norm.specs.References.{Apart, lower, renamer, opened}
use Rattle.dh_norm.proofs.Opening.{renamer-binders, opened-ren, opened-same}
use Rattle.dh_typing_laws.specs.KeptTypes.{typing_over}
use Rattle.dh_typing_laws.proofs.Ruling.TypedRules.{ScopesMove}
use Rattle.dh_typing_laws.proofs.Ruling.Typings.{RowOver, row_of, Courses, given_type-alike, node-alike}
use Rattle.dh_typing_laws.proofs.Typing.TypingsMoved.{IsMoved, moved-expressions}

-- ---- the types of built-ins have no variable that no binder binds

pub type_of-renamed : (s : Apart) (b : Builtin) → option_map to_core (type_of b) ≡ option_map (opened s) (option_map to_core (type_of b))
type_of-renamed s builtins.TypeConst = refl
type_of-renamed s builtins.Kind = refl
type_of-renamed s builtins.Sort = refl
type_of-renamed s builtins.Bool = refl
type_of-renamed s builtins.Natural = refl
type_of-renamed s builtins.Integer = refl
type_of-renamed s builtins.Text = refl
type_of-renamed s builtins.List = refl
type_of-renamed s builtins.Optional = refl
type_of-renamed s builtins.None = refl
type_of-renamed s builtins.NaturalFold = refl
type_of-renamed s builtins.NaturalBuild = refl
type_of-renamed s builtins.NaturalIsZero = refl
type_of-renamed s builtins.NaturalEven = refl
type_of-renamed s builtins.NaturalOdd = refl
type_of-renamed s builtins.NaturalToInteger = refl
type_of-renamed s builtins.NaturalShow = refl
type_of-renamed s builtins.NaturalSubtract = refl
type_of-renamed s builtins.IntegerShow = refl
type_of-renamed s builtins.IntegerNegate = refl
type_of-renamed s builtins.IntegerClamp = refl
type_of-renamed s builtins.ListBuild = refl
type_of-renamed s builtins.ListFold = refl
type_of-renamed s builtins.ListLength = refl
type_of-renamed s builtins.ListHead = refl
type_of-renamed s builtins.ListLast = refl
type_of-renamed s builtins.ListIndexed = refl
type_of-renamed s builtins.ListReverse = refl
type_of-renamed s builtins.TextShow = refl
type_of-renamed s builtins.TextReplace = refl

-- ---- what stands below a binder, seen from outside

is_bound-below : (s : Apart) (r : Ref) → is_bound 0 ((lower s).fun r) ≡ is_bound 0 r
is_bound-below s (Bound zero) = refl
is_bound-below s (Bound (suc i)) = not_nearest (s.fun (Bound i))
  where
    not_nearest : (q : Ref) → is_bound 0 (past q) ≡ false
    not_nearest (Bound j) = refl
    not_nearest (Free x n) = refl
is_bound-below s (Free x n) = not_nearest (s.fun (Free x n))
  where
    not_nearest : (q : Ref) → is_bound 0 (past q) ≡ false
    not_nearest (Bound j) = refl
    not_nearest (Free y m) = refl

-- a renaming by which the variable of the binder so many above stays that of this binder
abbrev KeepsBound : ℕ → Apart → Type 0
KeepsBound k s = (r : Ref) → is_bound k (s.fun r) ≡ is_bound k r

past-bound : (k : ℕ) (q : Ref) → is_bound (suc k) (past q) ≡ is_bound k q
past-bound k (Bound j) = refl
past-bound k (Free x n) = refl

keeps-below : (k : ℕ) (s : Apart) → KeepsBound k s → KeepsBound (suc k) (lower s)
keeps-below k s h (Bound zero) = refl
keeps-below k s h (Bound (suc i)) = past-bound k (s.fun (Bound i)) ∙ h (Bound i)
keeps-below k s h (Free x n) = past-bound k (s.fun (Free x n)) ∙ h (Free x n)

mutual
  mentions-renamed : (k : ℕ) (s : Apart) → KeepsBound k s → (c : Core) → mentions k (opened s c) ≡ mentions k c
  mentions-renamed k s h (Leaf r) = h r
  mentions-renamed k s h (Node op r) = mentions_row-renamed k s h r

  mentions_row-renamed : (k : ℕ) (s : Apart) → KeepsBound k s → (r : Row Ref Name) → mentions_row k (moved_row renamer s r) ≡ mentions_row k r
  mentions_row-renamed k s h end = refl
  mentions_row-renamed k s h (kid None e r) = let p = mentions-renamed k s h e in let q = mentions_row-renamed k s h r in rw (p, q) refl
  mentions_row-renamed k s h (kid (Some y) e r) = let p = mentions-renamed (suc k) (lower s) (keeps-below k s h) e in let q = mentions_row-renamed k s h r in rw (p, q) refl

or-false_left : (a b : Bool) → (a || b) ≡ false → a ≡ false
or-false_left false b h = refl
or-false_left true b h = h

or-false_right : (a b : Bool) → (a || b) ≡ false → b ≡ false
or-false_right false b h = h
or-false_right true b h = absurd cc

-- a renaming that changes nothing but the variable of the binder so many above
abbrev KeepsOthers : ℕ → (ℕ → ℕ) → Type 0
KeepsOthers k f = (i : ℕ) → is_bound k (Bound i) ≡ false → f i ≡ i

others-below : (k : ℕ) (f : ℕ → ℕ) → KeepsOthers k f → KeepsOthers (suc k) (lifted f)
others-below k f h zero p = refl
others-below k f h (suc i) p = ap suc (h i p)

mutual
  unmentioned-itself : (k : ℕ) (f : ℕ → ℕ) → KeepsOthers k f → (c : Core) → mentions k c ≡ false → ren f c ≡ c
  unmentioned-itself k f h (Leaf (Bound i)) p = ap (λ j. Leaf (Bound j)) (h i p)
  unmentioned-itself k f h (Leaf (Free x n)) p = refl
  unmentioned-itself k f h (Node op r) p = ap (Node op) (unmentioned_row-itself k f h r p)

  unmentioned_row-itself : (k : ℕ) (f : ℕ → ℕ) → KeepsOthers k f → (r : Row Ref Name) → mentions_row k r ≡ false → moved_row renaming f r ≡ r
  unmentioned_row-itself k f h end p = refl
  unmentioned_row-itself k f h (kid None e r) p =
      let a = unmentioned-itself k f h e (or-false_left _ _ p) in let b = unmentioned_row-itself k f h r (or-false_right (mentions k e) _ p) in cc
  unmentioned_row-itself k f h (kid (Some y) e r) p =
      let a = unmentioned-itself (suc k) (lifted f) (others-below k f h) e (or-false_left _ _ p) in
      let b = unmentioned_row-itself k f h r (or-false_right (mentions (suc k) e) _ p) in
      cc

after-pred : KeepsOthers 0 (λ i. suc (pred i))
after-pred zero p = absurd cc
after-pred (suc i) p = refl

up-down : (c : Core) → mentions 0 c ≡ false → ren (λ k. suc k) (ren pred c) ≡ c
up-down c p = ren-ren (λ k. suc k) pred c ∙ unmentioned-itself 0 (λ i. suc (pred i)) after-pred c p

pred-suc : (c : Core) → ren pred (ren (λ k. suc k) c) ≡ c
pred-suc c = ren-ren pred (λ k. suc k) c ∙ ren-itself c

down-unmentioned : (s : Apart) (c : Core) → mentions 0 c ≡ false → ren pred (opened (lower s) c) ≡ opened s (ren pred c)
down-unmentioned s c p =
    ap (λ d. ren pred (opened (lower s) d)) (sym (up-down c p)) ∙ ap (ren pred) (opened-ren s (ren pred c)) ∙ pred-suc (opened s (ren pred c))

unless_mentioned : (f : Core → Core) (b' b : Bool) (x' x : Core) → b' ≡ b → (b ≡ false → x' ≡ f x) → (if b' then None else Some x') ≡ option_map f (if b then None else Some x)
unless_mentioned f b' true x' x p k = ap (λ c. if c then None else Some x') p
unless_mentioned f b' false x' x p k = ap (λ c. if c then None else Some x') p ∙ ap Some (k refl)

down-renamed : (s : Apart) (c : Core) → down (opened (lower s) c) ≡ option_map (opened s) (down c)
down-renamed s c = unless_mentioned (opened s) _ _ _ _ (mentions-renamed 0 (lower s) (is_bound-below s) c) (down-unmentioned s c)

-- ---- scopes

pub scopes-renamed : ScopesMove renamer core_scopes core_scopes
scopes-renamed = record {
  type_of = type_of-renamed;
  binder = λ x. refl;
  up = λ s x e. sym (opened-ren s e);
  down = λ s x e. down-renamed s e;
  same = opened-same;
}

puts-renamed : (s : Apart) (x : Name) (a b : Core) → sub (first (opened s a)) (opened (lower s) b) ≡ opened s (sub (first a) b)
puts-renamed s x a b = (renamer-binders (codes "x") (codes "a") (codes "as")).put s x a b

-- ---- typing

abbrev Looks : Type 0
Looks = Context Ref Name → Ref → Option Core

-- what leaves answer
abbrev pub by_looks : Looks → ℕ → Context Ref Name → Ref → Inference Core
by_looks look depth c r = given_type (look c r) rule.UnboundVariable

-- a variable has, renamed, its type renamed
abbrev pub LooksRenamed : Looks → Looks → Apart → Context Ref Name → Context Ref Name → Type 0
LooksRenamed look' look s c' c = (r : Ref) → look' c' (s.fun r) ≡ option_map (opened s) (look c r)

module _ (look' look : Looks)
    (entering : (s : Apart) (x : Name) (t : Core) (c' c : Context Ref Name) → LooksRenamed look' look s c' c → LooksRenamed look' look (lower s) (enter core_scopes x (opened s t) c') (enter core_scopes x t c))
    (Q : Apart → Inference Core → Inference Core → Type 0) (q : Courses renamer (IsMoved renamer) Q) where
  abbrev over : (s : Apart) (r : Row Ref Name) → RowOver renamer (IsMoved renamer) s r
  over s end = tt
  over s (kid None e r) = ((opened s e, refl), over s r)
  over s (kid (Some x) e r) = ((opened (lower s) e, refl), over s r)

  over-renamed : (s : Apart) (r : Row Ref Name) → row_of renamer (IsMoved renamer) s r (over s r) ≡ moved_row renamer s r
  over-renamed s end = refl
  over-renamed s (kid None e r) = ap (kid None (opened s e)) (over-renamed s r)
  over-renamed s (kid (Some x) e r) = ap (kid (Some x) (opened (lower s) e)) (over-renamed s r)

  pub renamed_typing : (depth : ℕ) (s : Apart) (c' c : Context Ref Name) (e : Core) → LooksRenamed look' look s c' c
      → Q s (typing_over core_scopes (by_looks look') depth c' (opened s e)) (typing_over core_scopes (by_looks look) depth c e)
  renamed_typing zero s c' c e g = q.deeper s
  renamed_typing (suc depth) s c' c (Leaf r) g =
      given_type-alike renamer (IsMoved renamer) (LooksRenamed look' look) Q core_scopes core_scopes scopes-renamed (moved-expressions renamer core_scopes core_scopes scopes-renamed puts-renamed) q entering
      s _ _ rule.UnboundVariable (g r)
  renamed_typing (suc depth) s c' c (Node op r) g =
      along (λ z. Q s (typings.node core_scopes (typing_over core_scopes (by_looks look') depth) c' op z) (typings.node core_scopes (typing_over core_scopes (by_looks look) depth) c op r)) (over-renamed s r)
      (node-alike renamer (IsMoved renamer) (LooksRenamed look' look) Q core_scopes core_scopes scopes-renamed (moved-expressions renamer core_scopes core_scopes scopes-renamed puts-renamed) q entering
      (typing_over core_scopes (by_looks look') depth) (typing_over core_scopes (by_looks look) depth)
      (λ t k' k d f i j. along (λ z. Q t (typing_over core_scopes (by_looks look') depth k' z) (typing_over core_scopes (by_looks look) depth k f)) (sym j) (renamed_typing depth t k' k f i))
      s c' c g op r (over s r))
