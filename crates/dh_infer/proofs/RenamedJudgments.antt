-- What typing with numbered variables comes to where references are renamed: as one more binder is opened, with one more type,
-- and that types have variables of lower numbers alone.
use Rattle.std.specs.Prelude.{◌≡◌, ◌+◌, ℕ, List, [], ◌∷◌, length, refl}
use Rattle.std.proofs.Common.{ap, sym, ◌∙◌, subst as along}
use Rattle.dh_syntax.specs.Expressions.Nesting.{nesting}
use Rattle.dh_syntax.specs.Expressions.Tree.{Leaf, Name}
use Rattle.dh_syntax.specs.Limits.{purse_aside}
use Rattle.dh_syntax.specs.Names.Nameless.{Ref, Core, sub, first}
use Rattle.dh_syntax.specs.Normalising.Heads.{Whole, Answer, Found, run}
use Rattle.dh_syntax.specs.Normalising.NamelessRuns.{cores}
use Rattle.dh_syntax.specs.Normalising.Normal.{endless, Normalises, IsWideLicensed, IsDeepLicensed}
use Rattle.dh_syntax.specs.Typing.Inference.{Inference, Judgment, Has, Ill, IsWide, IsDeep, IsOver, IsOverAside, IsShallow, judged_within, ComesTo, MeetsLimit, MeetsNormal}
use Rattle.dh_syntax.specs.Typing.NamelessTyping.{core_scopes}
use Rattle.dh_syntax.specs.Typing.Scopes.{Context, enter}
use Rattle.dh_laws.specs.NamelessAnswers.{answer_map}
use Rattle.dh_norm.specs.References.{Apart, lower, renamer, opened}
use Rattle.dh_typing_laws.specs.Judgments.{judgment_map}
use Rattle.dh_typing_laws.specs.KeptTypes.{TypingLag}
use Rattle.dh_typing_laws.proofs.Judging.Judgments.{JudgedAlike, judged-courses}
use Rattle.dh_typing_laws.proofs.Judging.JudgmentsLimits.{has-before, ill-before, over-before, LimitsAlike, limit-courses}
use Rattle.dh_typing_laws.proofs.Typing.TypingsMoved.{IsMoved}
use Rattle.dh_infer.specs.Inside.Levels.{moving, IsOf, IsOfBelow, AreOf, entering}
use Rattle.dh_infer.specs.Inside.OpenTyping.{level, type_at, typing_in, typing_at}
use Rattle.dh_infer.proofs.LevelTypes.{of-opened, moved-looks, grown-looks, entered-looks, looks-below}
use Rattle.dh_infer.proofs.RenamedRuns.{renamed-endless, wide-renamed, deep-renamed}
use Rattle.dh_infer.proofs.RenamedTyping.{LooksRenamed, renamed_typing}

abbrev Runs : ℕ → ℕ → Core → Answer Core
Runs heights u d = run (endless cores) heights Whole u d

alike-runs : (heights : ℕ) (s : Apart) (u : ℕ) (d e : Core) → IsMoved renamer s d e → Runs heights u d ≡ answer_map (opened s) (Runs heights u e)
alike-runs heights s u d e p = renamed-endless heights s u d e p

-- ---- any renaming that keeps the types of variables

module _ (ts' ts : List Core) (a' : AreOf ts') (a : AreOf ts) (s : Apart) (c' c : Context Ref Name) (g : LooksRenamed (type_at ts') (type_at ts) s c' c) (depth : ℕ) (e : Core) where
  abbrev i : Inference Core
  i = typing_in ts' depth c' (opened s e)

  abbrev j : Inference Core
  j = typing_in ts depth c e

  pub renamed_judged : (heights purse units : ℕ) → judged_within cores heights purse units i ≡ judgment_map (opened s) (judged_within cores heights purse units j)
  renamed_judged heights purse units =
      renamed_typing (type_at ts') (type_at ts) (looks-below ts' ts a' a)
      (JudgedAlike renamer (IsMoved renamer) (Runs heights) (Runs heights) (alike-runs heights))
      (judged-courses renamer (IsMoved renamer) (Runs heights) (Runs heights) (alike-runs heights))
      depth s c' c e g purse units

  module _ (meets : Core → Type 0) (met : (t : Apart) (d f : Core) → IsMoved renamer t d f → meets d → meets f) where
    renamed_limit : MeetsNormal cores meets i → MeetsNormal cores meets j
    renamed_limit =
        (renamed_typing (type_at ts') (type_at ts) (looks-below ts' ts a' a)
        (LimitsAlike renamer (IsMoved renamer) cores cores alike-runs meets meets met (λ k. ⊥) (λ k. ⊥) (λ t k l x n. n))
        (limit-courses renamer (IsMoved renamer) cores cores alike-runs meets meets met (λ k. ⊥) (λ k. ⊥) (λ t k l x n. n)) depth s c' c e g).1

  over-renamed : (purse : ℕ) (t : Apart) (k l : Inference Core)
      → ((heights : ℕ) → JudgedAlike renamer (IsMoved renamer) (Runs heights) (Runs heights) (alike-runs heights) t k l) → ComesTo cores purse k IsOver → ComesTo cores purse l IsOver
  over-renamed purse t k l x (h, p, r) = (h, p, over-before (opened t) (judged_within cores h p purse l) (sym (x h p purse) ∙ r))

  renamed_aside : (purse : ℕ) → MeetsLimit cores (λ d. ⊥) (λ k. ComesTo cores purse k IsOver) i → MeetsLimit cores (λ d. ⊥) (λ k. ComesTo cores purse k IsOver) j
  renamed_aside purse =
      (renamed_typing (type_at ts') (type_at ts) (looks-below ts' ts a' a)
      (LimitsAlike renamer (IsMoved renamer) cores cores alike-runs (λ d. ⊥) (λ d. ⊥) (λ t d f p n. n) (λ k. ComesTo cores purse k IsOver) (λ k. ComesTo cores purse k IsOver) (over-renamed purse))
      (limit-courses renamer (IsMoved renamer) cores cores alike-runs (λ d. ⊥) (λ d. ⊥) (λ t d f p n. n) (λ k. ComesTo cores purse k IsOver) (λ k. ComesTo cores purse k IsOver) (over-renamed purse))
      depth s c' c e g).1

  abbrev LagOf : (Core → Core) → ℕ → Inference Core → Judgment Core → Type 0
  LagOf f units k b = TypingLag cores (IsWideLicensed cores nesting) (IsDeepLicensed cores nesting) purse_aside f units k b

  -- what may be answered for the renamed expression may be, for the expression
  pub renamed_lag : (units : ℕ) (b : Judgment Core) → LagOf (λ t. t) units i b → LagOf (opened s) units j b
  renamed_lag units (Has t l) (v, q, extra, (h, p, r)) =
      let (w, x, y) = has-before (opened s) (judged_within cores h p (units + extra) j) v l (sym (renamed_judged h p (units + extra)) ∙ r) in
      (w, q ∙ y, extra, (h, p, x))
  renamed_lag units (Ill path rule) (n, (h, p, r)) = (n, (h, p, ill-before (opened s) (judged_within cores h p n j) path rule (sym (renamed_judged h p n) ∙ r)))
  renamed_lag units IsWide m = renamed_limit (IsWideLicensed cores nesting) wide-renamed m
  renamed_lag units IsDeep m = renamed_limit (IsDeepLicensed cores nesting) deep-renamed m
  renamed_lag units IsOver (h, p, r) = (h, p, over-before (opened s) (judged_within cores h p units j) (sym (renamed_judged h p units) ∙ r))
  renamed_lag units IsOverAside m = renamed_aside purse_aside m
  renamed_lag units IsShallow m = tt

-- ---- types

has-same : (t v : Core) (l k : ℕ) → Has t l ≡ Has v k → t ≡ v
has-same t v l k h = cc

-- a type has variables of lower numbers alone, where the expression has
pub types-of : (ts : List Core) → AreOf ts → (depth : ℕ) (e : Core) → IsOf (length ts) e → (units left : ℕ) (t : Core)
    → ComesTo cores units (typing_at ts depth e) (Has t left) → IsOf (length ts) t
types-of ts a depth e h units left t (heights, purse, r) =
    let s = moving (length ts) in
    sym (has-same t (opened s t) left left (
    sym r ∙ ap (λ d. judged_within cores heights purse units (typing_at ts depth d)) (sym h)
    ∙ renamed_judged ts ts a a s [] [] (moved-looks ts a) depth e heights purse units ∙ ap (judgment_map (opened s)) r))

-- a type of an expression below one more binder
pub types-of_below : (ts : List Core) → AreOf ts → (x : Name) (u : Core) → IsOf (length ts) u → (depth : ℕ) (e : Core) → IsOfBelow (length ts) e → (units left : ℕ) (t : Core)
    → ComesTo cores units (typing_in ts depth (enter core_scopes x u []) e) (Has t left) → IsOfBelow (length ts) t
types-of_below ts a x u k depth e h units left t (heights, purse, r) =
    let s = moving (length ts) in
    let g = looks-below ts ts a a s x u [] [] (moved-looks ts a) in
    sym (has-same t (opened (lower s) t) left left (
    sym r ∙ ap (λ d. judged_within cores heights purse units (typing_in ts depth (enter core_scopes x u []) d)) (sym h)
    ∙ ap (λ v. judged_within cores heights purse units (typing_in ts depth (enter core_scopes x v []) (opened (lower s) e))) (sym k)
    ∙ renamed_judged ts ts a a (lower s) (enter core_scopes x (opened s u) []) (enter core_scopes x u []) g depth e heights purse units
    ∙ ap (judgment_map (opened (lower s))) r))

-- ---- one more type

-- the type with one more numbered variable is that without it
pub grown-type : (t : Core) (ts : List Core) → AreOf (t ∷ ts) → (depth : ℕ) (e : Core) → IsOf (length ts) e → (units left : ℕ) (v : Core)
    → ComesTo cores units (typing_at ts depth e) (Has v left) → ComesTo cores units (typing_at (t ∷ ts) depth e) (Has v left)
grown-type t ts a depth e h units left v c =
    let (heights, purse, r) = c in
    let s = moving (length ts) in (
      heights,
      purse,
      ap (λ d. judged_within cores heights purse units (typing_at (t ∷ ts) depth d)) (sym h)
          ∙ renamed_judged (t ∷ ts) ts a a.1 s [] [] (grown-looks t ts a.1) depth e heights purse units
          ∙ ap (judgment_map (opened s)) r ∙ ap (λ w. Has w left) (types-of ts a.1 depth e h units left v c),
    )

pub shrunk-type : (t : Core) (ts : List Core) → AreOf (t ∷ ts) → (depth : ℕ) (e : Core) → IsOf (length ts) e → (units left : ℕ) (v : Core)
    → ComesTo cores units (typing_at (t ∷ ts) depth e) (Has v left) → ComesTo cores units (typing_at ts depth e) (Has v left)
shrunk-type t ts a depth e h units left v (heights, purse, r) =
    let s = moving (length ts) in
    let q = sym (renamed_judged (t ∷ ts) ts a a.1 s [] [] (grown-looks t ts a.1) depth e heights purse units)
    ∙ ap (λ d. judged_within cores heights purse units (typing_at (t ∷ ts) depth d)) h ∙ r in
    let (w, x, y) = has-before (opened s) (judged_within cores heights purse units (typing_at ts depth e)) v left q in
    (heights, purse, x ∙ ap (λ z. Has z left) (sym (types-of ts a.1 depth e h units left w (heights, purse, x)) ∙ sym y))

-- ---- the body of a binder

module _ (ts : List Core) (a : AreOf ts) (x : Name) (u : Core) (k : IsOf (length ts) u) (depth : ℕ) (b : Core) (h : IsOfBelow (length ts) b) where
  pub opened_lag : (units : ℕ) (c : Judgment Core)
      → TypingLag cores (IsWideLicensed cores nesting) (IsDeepLicensed cores nesting) purse_aside (λ t. t) units (typing_at (u ∷ ts) depth (sub (first (Leaf (level (length ts)))) b)) c
      → TypingLag cores (IsWideLicensed cores nesting) (IsDeepLicensed cores nesting) purse_aside (opened (entering (length ts))) units (typing_in ts depth (enter core_scopes x u []) b) c
  opened_lag units c m =
      renamed_lag (u ∷ ts) ts (k, a) a (entering (length ts)) [] (enter core_scopes x u []) (entered-looks x u ts k a) depth b units c
      (along (λ d. TypingLag cores (IsWideLicensed cores nesting) (IsDeepLicensed cores nesting) purse_aside (λ t. t) units (typing_at (u ∷ ts) depth d) c) (sym (of-opened (length ts) b h)) m)

-- ---- normal forms

found-same : (f g : Core) (l k : ℕ) → Found f l ≡ Found g k → f ≡ g
found-same f g l k h = cc

pub normal-of : (n : ℕ) (e f : Core) (units left : ℕ) → IsOf n e → Normalises cores units e (Found f left) → IsOf n f
normal-of n e f units left h (heights, r) =
    sym (found-same f (opened (moving n) f) left left (
    sym r ∙ ap (Runs heights units) (sym h) ∙ renamed-endless heights (moving n) units (opened (moving n) e) e refl ∙ ap (answer_map (opened (moving n))) r))
