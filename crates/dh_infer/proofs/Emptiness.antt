-- Typing in the empty context, where no variable has a number.
use Rattle.std.specs.Prelude.{◌≡◌, ◌<◌, ◌+◌, ℕ, zero, suc, Bool, true, false, List, [], ◌∷◌, Some, None, refl}
use Rattle.std.proofs.Common.{ap, sym, ◌∙◌, arith, inl, inr, subst as along}
use Rattle.std.proofs.Math.Path.{fun_ext}
use Rattle.dh_syntax.specs.Expressions.Nesting.{nesting}
use Rattle.dh_syntax.specs.Expressions.Numbers.{bytes_eq}
use Rattle.dh_syntax.specs.Expressions.Tree.{Row, Leaf, Node, end, kid, Name, Var, Term}
use Rattle.dh_syntax.specs.Limits.{most_nesting}
use Rattle.dh_syntax.specs.Names.Moves.{moved_row}
use Rattle.dh_syntax.specs.Names.Nameless.{Ref, Bound, Free, Core, past, nearest, ref_of, going_nameless, core_below, to_core}
use Rattle.dh_syntax.specs.Normalising.NamelessRuns.{cores}
use Rattle.dh_syntax.specs.Typing.Inference.{Judgment, Has, Ill, IsWide, IsDeep, IsOver, IsOverAside, ComesTo}
use Rattle.dh_syntax.specs.Typing.NamelessTyping.{type_in, core_scopes}
use Rattle.dh_syntax.specs.Typing.Scopes.{Context}
use Rattle.dh_syntax.specs.Typing.TypeRules as rule
use Rattle.dh_syntax.specs.Typing.Typing.{given_type, typing}
use Rattle.dh_syntax.proofs.Moves.{nesting-moved}
use Rattle.dh_norm.specs.References.{Apart, below, lower, renamer, opened}
use Rattle.dh_norm.proofs.UnloadSteps.{opened-one}
use Rattle.dh_typing_laws.specs.KeptTypes.{typing_over}
use Rattle.dh_typing_laws.proofs.Ruling.Typings.{typing-is_over}
use Rattle.dh_infer.specs.Inside.Debts.{whole, Lags, Meets}
use Rattle.dh_infer.specs.Inside.Lettered.{lettering, lettered}
use Rattle.dh_infer.specs.Inside.Levels.{moving, IsOf}
use Rattle.dh_infer.specs.Inside.OpenTyping.{type_at, typing_in, typing_at}
use Rattle.dh_infer.specs.Inside.TypeAnswers.{Answers}
use Rattle.dh_infer.proofs.NestedTypes.{nested-type}
use Rattle.dh_infer.proofs.RenamedJudgments.{renamed_lag}
use Rattle.dh_infer.proofs.RenamedTyping.{LooksRenamed}

-- ---- no variable has a number

type-nowhere : (c : Context Ref Name) (r : Ref) → type_in c r ≡ type_at [] c r
type-nowhere c (Bound i) = refl
type-nowhere c (Free x n) = refl

pub typing-open : (depth : ℕ) (c : Context Ref Name) (e : Core) → typing core_scopes depth c e ≡ typing_in [] depth c e
typing-open depth c e =
    typing-is_over core_scopes depth c e
    ∙ ap (λ look. typing_over core_scopes look depth c e) (fun_ext (λ d. fun_ext (λ k. fun_ext (λ r. ap (λ o. given_type o rule.UnboundVariable) (type-nowhere k r)))))

-- ---- letters

looks-lettered : LooksRenamed (type_at []) (type_at []) lettering [] []
looks-lettered (Bound i) = refl
looks-lettered (Free x n) = refl

-- what is met where variables have a letter more
pub met-answer : (units : ℕ) (e : Core) (answer : Judgment Core) → Meets units (whole [] (lettered e)) answer
    → (depth : ℕ) × Lags units (typing_at [] depth (lettered e)) answer
met-answer units e answer (enough, m) = (0 + enough, m 0)

module _ (units : ℕ) (e : Core) where
  pub met-type : (t : Core) (left : ℕ) → Meets units (whole [] (lettered e)) (Has t left) → (v : Core) × (t ≡ lettered v) × Answers units e (Has v left)
  met-type t left m =
      let (depth, h) = met-answer units e (Has t left) m in
      let (v, p, extra, r) = renamed_lag [] [] tt tt lettering [] [] looks-lettered depth e units (Has t left) h in
      (v, p, (depth, (v, refl, extra, along (λ i. ComesTo cores (units + extra) i (Has v left)) (sym (typing-open depth [] e)) r)))

  as-answer : (answer : Judgment Core) (depth : ℕ) → Lags units (typing_at [] depth e) answer → Answers units e answer
  as-answer answer depth h = (depth, along (λ i. Lags units i answer) (sym (typing-open depth [] e)) h)

  pub met-ill : (path : List ℕ) (r : rule.Rule) → Meets units (whole [] (lettered e)) (Ill path r) → Answers units e (Ill path r)
  met-ill path r m =
      let (depth, h) = met-answer units e (Ill path r) m in
      as-answer (Ill path r) depth (renamed_lag [] [] tt tt lettering [] [] looks-lettered depth e units (Ill path r) h)

  pub met-wide : Meets units (whole [] (lettered e)) IsWide → Answers units e IsWide
  met-wide m = let (depth, h) = met-answer units e IsWide m in as-answer IsWide depth (renamed_lag [] [] tt tt lettering [] [] looks-lettered depth e units IsWide h)

  pub met-deep : Meets units (whole [] (lettered e)) IsDeep → Answers units e IsDeep
  met-deep m = let (depth, h) = met-answer units e IsDeep m in as-answer IsDeep depth (renamed_lag [] [] tt tt lettering [] [] looks-lettered depth e units IsDeep h)

  pub met-over : Meets units (whole [] (lettered e)) IsOver → Answers units e IsOver
  met-over m = let (depth, h) = met-answer units e IsOver m in as-answer IsOver depth (renamed_lag [] [] tt tt lettering [] [] looks-lettered depth e units IsOver h)

  pub met-over_aside : Meets units (whole [] (lettered e)) IsOverAside → Answers units e IsOverAside
  met-over_aside m =
      let (depth, h) = met-answer units e IsOverAside m in
      as-answer IsOverAside depth (renamed_lag [] [] tt tt lettering [] [] looks-lettered depth e units IsOverAside h)

  -- ---- the type

  -- the expression that has the type's code with letters is the type
  pub typed-as : (t c : Core) (left : ℕ) → t ≡ lettered c → Meets units (whole [] (lettered e)) (Has t left) → Answers units e (Has c left)
  typed-as t c left p m =
      let (v, q, a) = met-type t left m in
      along (λ z. Answers units e (Has z left)) (opened-one lettering v c (sym q ∙ p)) a

  -- one that nests too deep has a licence
  pub typed-deep : (t : Core) (left : ℕ) → most_nesting < nesting t → Meets units (whole [] (lettered e)) (Has t left) → Answers units e IsDeep
  typed-deep t left l m =
      let (v, q, a) = met-type t left m in
      let (depth, (w, p, extra, r)) = a in
      let same : nesting w ≡ nesting t = ap nesting (sym p) ∙ sym (nesting-moved renamer lettering v) ∙ ap nesting (sym q) in (
        depth,
        elim (nested-type depth e w (units + extra, left, r)) [
          | inl d ↦ d
          | inr k ↦ absurd (let s = same in omega (arith, k, l, s))
        ],
      )

-- ---- an expression of the program has no variable of a binder above it

-- below these binders
abbrev inside : Apart → List Name → Apart
inside s [] = s
inside s (y ∷ ys) = lower (inside s ys)

below-past : (f : Ref → Ref) (r : Ref) → below f (past r) ≡ past (f r)
below-past f (Bound i) = refl
below-past f (Free x n) = refl

abbrev Keeps : (Ref → Ref) → (Ref → Ref) → Ref → Type 0
Keeps f g r = f (g r) ≡ g r

keeps-past : (f g : Ref → Ref) (r : Ref) → Keeps f g r → Keeps (below f) (below g) (past r)
keeps-past f g r h = ap (below f) (below-past g r) ∙ below-past f (g r) ∙ ap past h ∙ sym (below-past g r)

keeps-nearest : (f g : Ref → Ref) (above : ℕ → Ref) (b : Bool) (n : ℕ) → ((k : ℕ) → Keeps f g (above k)) → Keeps (below f) (below g) (nearest b above n)
keeps-nearest f g above false n h = keeps-past f g (above n) (h n)
keeps-nearest f g above true zero h = refl
keeps-nearest f g above true (suc n) h = keeps-past f g (above n) (h n)

keeps-leaf : (ys : List Name) (x : Name) (n : ℕ) → Keeps (inside (moving 0) ys).fun (inside lettering ys).fun (ref_of ys x n)
keeps-leaf [] x n = refl
keeps-leaf (y ∷ ys) x n = keeps-nearest (inside (moving 0) ys).fun (inside lettering ys).fun (ref_of ys x) (bytes_eq y x) n (keeps-leaf ys x)

mutual
  keeps : (ys : List Name) (e : Term) → opened (inside (moving 0) ys) (opened (inside lettering ys) (core_below ys e)) ≡ opened (inside lettering ys) (core_below ys e)
  keeps ys (Leaf v) = ap Leaf (keeps-leaf ys v.name v.index)
  keeps ys (Node op r) = ap (Node op) (keeps_row ys r)

  keeps_row : (ys : List Name) (r : Row Var Name)
      → moved_row renamer (inside (moving 0) ys) (moved_row renamer (inside lettering ys) (moved_row going_nameless ys r)) ≡ moved_row renamer (inside lettering ys) (moved_row going_nameless ys r)
  keeps_row ys end = refl
  keeps_row ys (kid None e r) = let p = keeps ys e in let q = keeps_row ys r in cc
  keeps_row ys (kid (Some y) e r) = let p = keeps (y ∷ ys) e in let q = keeps_row ys r in cc

pub program-closed : (e : Term) → IsOf 0 (lettered (to_core e))
program-closed e = keeps [] e
