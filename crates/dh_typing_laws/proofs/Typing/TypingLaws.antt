-- The laws of typing in the words of the definitions: what is shown of nameless forms holds of expressions with names, and
-- what is typed in a context is typed, shifted, in a longer one.
use Rattle.std.specs.Prelude.{◌≡◌, ℕ, suc, ◌+◌, false, nat_lt, IsTrue, List, option_map, codes, refl}
use Rattle.std.proofs.Common.{ap, sym, ◌∙◌, inl, inr, subst as along}
use Rattle.dh_syntax.specs.Normalising.Heads.{Whole, run}
use Rattle.dh_syntax.specs.Typing.Inference.{Has, Inference, IsOver, ComesTo, IsRefused, MeetsNormal, IsSpentAside, judged_within}
use Rattle.dh_syntax.specs.Names.Alpha.{same}
use Rattle.dh_syntax.specs.Typing.BuiltinTypes.{type_of}
use Rattle.dh_syntax.specs.Limits.{most_height, most_reached, most_nesting, purse_aside}
use Rattle.dh_syntax.specs.Normalising.Named.{binders, names}
use Rattle.dh_syntax.specs.Typing.NamedTyping as named
use Rattle.dh_syntax.specs.Names.Nameless.{Ref, going_nameless, core_below, to_core, ren, Core}
use Rattle.dh_syntax.specs.Normalising.NamelessRuns.{cores, nameless_binders, nameless_eq}
use Rattle.dh_syntax.specs.Typing.NamelessTyping.{core_scopes}
use Rattle.dh_syntax.specs.Expressions.Nesting.{nesting}
use Rattle.dh_syntax.specs.Normalising.Normal.{endless, IsWideLicensed, IsDeepLicensed}
use Rattle.dh_syntax.specs.Typing.Scopes.{Context, enter}
use Rattle.dh_syntax.specs.Expressions.Tree.{Name, Var, Term}
use Rattle.dh_syntax.specs.Typing.TypeRules.{Rule}
use Rattle.dh_syntax.specs.Typing.Typing.{typing}
use Rattle.dh_syntax.proofs.Moves.{nesting-moved, staying, moved-staying}
use Rattle.dh_laws.specs.NamelessAnswers.{answer_map}
use Rattle.dh_typing_laws.specs.Judgments.{judgment_map}
use Rattle.dh_typing_laws.proofs.Judging.Judgments.{JudgedAlike}
use Rattle.dh_typing_laws.proofs.Judging.JudgmentsLimits.{has-before, ill-before, over-before, wide-before, deep-before, found-before, LimitsAlike, limit-courses}
use Rattle.dh_laws.proofs.Normalising.MovedRuns.{MovedAlike, trees-alike}
use Rattle.dh_laws.proofs.Normalising.NamedAnswers.{tested-equal}
use Rattle.dh_laws.proofs.Normalising.RunLimits.{reaches-itself}
use Rattle.dh_laws.proofs.Normalising.RunsAlike.{Alike, run-alike}
use Rattle.dh_typing_laws.proofs.Typing.TypingsKeptAnswers.{below-judged}
use Rattle.dh_typing_laws.proofs.Typing.TypingsMoved.{IsMoved}
use Rattle.dh_typing_laws.proofs.Typing.TypingsNamed.{IsCored, core-runs, binders-core, binders-staying, core_tests, answer-of, plus-zero, nameless_typing, nameless_judged, core_types-closed}

-- ---- names

module _ (depth : ℕ) (ys : List Name) (c' : Context Ref Name) (c : Context Var Name) (e : Term) (g : IsCored ys c' c) where
  -- the type that the nameless form comes to is the nameless form of the type that the expression comes to
  pub named_type : (units left : ℕ) (t : Core) → ComesTo cores units (typing core_scopes depth c' (core_below ys e)) (Has t left)
      → (v : Term) × (t ≡ core_below ys v) × ComesTo names units (typing named.scopes depth c e) (Has v left)
  named_type units left t (h, p, r) =
      let (v, a, b) = has-before (core_below ys) (named.infer h p depth c units e) t left (sym (nameless_judged h p depth ys c' c units e g) ∙ r) in (v, b, (h, p, a))

  pub named_refusal : (path : List ℕ) (rule : Rule) → IsRefused cores (typing core_scopes depth c' (core_below ys e)) path rule → IsRefused names (typing named.scopes depth c e) path rule
  named_refusal path rule (units, (h, p, r)) =
      (units, (h, p, ill-before (core_below ys) (named.infer h p depth c units e) path rule (sym (nameless_judged h p depth ys c' c units e g) ∙ r)))

  pub named_over : (units : ℕ) → ComesTo cores units (typing core_scopes depth c' (core_below ys e)) IsOver → ComesTo names units (typing named.scopes depth c e) IsOver
  named_over units (h, p, r) = (h, p, over-before (core_below ys) (named.infer h p depth c units e) (sym (nameless_judged h p depth ys c' c units e g) ∙ r))

  -- a limit of one kind of expression that is one of the other
  module _ (meets' : Core → Type 0) (meets : Term → Type 0) (met : (zs : List Name) (d : Core) (f : Term) → d ≡ core_below zs f → meets' d → meets f) where
    pub named_limit : MeetsNormal cores meets' (typing core_scopes depth c' (core_below ys e)) → MeetsNormal names meets (typing named.scopes depth c e)
    named_limit =
        (nameless_typing (LimitsAlike going_nameless (IsMoved going_nameless) cores names core-runs meets' meets met (λ i. ⊥) (λ i. ⊥) (λ zs i j g n. n))
        (limit-courses going_nameless (IsMoved going_nameless) cores names core-runs meets' meets met (λ i. ⊥) (λ i. ⊥) (λ zs i j g n. n)) depth ys c' c e g).1

  -- a purse that does not suffice for a typing aside
  pub named_spent_aside : IsSpentAside cores (typing core_scopes depth c' (core_below ys e)) → IsSpentAside names (typing named.scopes depth c e)
  named_spent_aside =
      (nameless_typing (LimitsAlike going_nameless (IsMoved going_nameless) cores names core-runs (λ d. ⊥) (λ d. ⊥) (λ zs d f p n. n)
      (λ i. ComesTo cores purse_aside i IsOver) (λ i. ComesTo names purse_aside i IsOver) over-aside)
      (limit-courses going_nameless (IsMoved going_nameless) cores names core-runs (λ d. ⊥) (λ d. ⊥) (λ zs d f p n. n)
      (λ i. ComesTo cores purse_aside i IsOver) (λ i. ComesTo names purse_aside i IsOver) over-aside) depth ys c' c e g).1
    where
      over-aside : (zs : List Name) (i : Inference Core) (j : Inference Term)
          → ((heights : ℕ) → JudgedAlike going_nameless (IsMoved going_nameless) (λ u d. run (endless cores) heights Whole u d) (λ u d. run (endless names) heights Whole u d) (core-runs heights) zs i j)
          → ComesTo cores purse_aside i IsOver → ComesTo names purse_aside j IsOver
      over-aside zs i j k (h, p, r) = (h, p, over-before (core_below zs) (judged_within names h p purse_aside j) (sym (k h p purse_aside) ∙ r))

wide-named : (zs : List Name) (d : Core) (f : Term) → d ≡ core_below zs f → IsWideLicensed cores nesting d → IsWideLicensed names nesting f
wide-named zs d f p (units, left, (h, r)) =
    (units, left, (h, wide-before (core_below zs) (run (endless names) h Whole units f) left (sym (core-runs h zs units d f p) ∙ r)))

pub named_wide : (depth : ℕ) (ys : List Name) (c' : Context Ref Name) (c : Context Var Name) (e : Term) → IsCored ys c' c
    → MeetsNormal cores (IsWideLicensed cores nesting) (typing core_scopes depth c' (core_below ys e)) → MeetsNormal names (IsWideLicensed names nesting) (typing named.scopes depth c e)
named_wide depth ys c' c e g = named_limit depth ys c' c e g (IsWideLicensed cores nesting) (IsWideLicensed names nesting) wide-named

-- `Deep` by the height and nesting of the plain run, or by the nesting of the normal form
abbrev Rel : List Name × Unit {0} → Term → Core → Type 0
Rel c e f = MovedAlike going_nameless staying c e f

plain-alike : Alike false names cores Rel
plain-alike =
    trees-alike going_nameless staying binders (nameless_binders (codes "x") (codes "a") (codes "as")) (nameless_binders (codes "x") (codes "a") (codes "as")) binders-core
    (binders-staying (nameless_binders (codes "x") (codes "a") (codes "as"))) false same nameless_eq
    (λ e. nat_lt most_reached (nesting e)) (λ e. nat_lt most_reached (nesting e)) core_tests
    (λ c e f p. tested-equal _ _ (ap (nat_lt most_reached) (sym (nesting-moved going_nameless c.0 e) ∙ ap nesting (p ∙ moved-staying f))))

ended-runs : (heights units : ℕ) (ys : List Name) (d : Core) (e : Term) → d ≡ core_below ys e
    → run cores heights Whole units d ≡ answer_map (core_below ys) (run names heights Whole units e)
ended-runs heights units ys d e p =
    ap (λ u. run cores heights Whole u d) (sym (plus-zero units))
    ∙ answer-of ys _ _ (run-alike 0 false false (λ z. refl) names cores Rel plain-alike heights heights (reaches-itself false heights) (ys, tt) Whole units e d (sym p ∙ sym (moved-staying d)))

pub deep-named : (zs : List Name) (d : Core) (f : Term) → d ≡ core_below zs f → IsDeepLicensed cores nesting d → IsDeepLicensed names nesting f
deep-named zs d f p (inl (units, left, r)) =
    inl (units, left, deep-before (core_below zs) (run (endless names) most_height Whole units f) left (sym (core-runs most_height zs units d f p) ∙ r))
deep-named zs d f p (inr (inl (units, left, enough, r))) =
    inr (inl (
      units,
      left,
      enough,
      λ more.
          deep-before (core_below zs) (run names (more + enough) Whole units f) left (sym (ended-runs (more + enough) units zs d f p) ∙ r more),
    ))
deep-named zs d f p (inr (inr (g, (units, left, (h, r)), n))) =
    let (v, a, b) = found-before (core_below zs) (run (endless names) h Whole units f) g left (sym (core-runs h zs units d f p) ∙ r) in
    inr (inr (v, (units, left, (h, a)), along (λ z. IsTrue (nat_lt most_nesting z)) (ap nesting b ∙ nesting-moved going_nameless zs v) n))

pub named_deep : (depth : ℕ) (ys : List Name) (c' : Context Ref Name) (c : Context Var Name) (e : Term) → IsCored ys c' c
    → MeetsNormal cores (IsDeepLicensed cores nesting) (typing core_scopes depth c' (core_below ys e)) → MeetsNormal names (IsDeepLicensed names nesting) (typing named.scopes depth c e)
named_deep depth ys c' c e g = named_limit depth ys c' c e g (IsDeepLicensed cores nesting) (IsDeepLicensed names nesting) deep-named

-- ---- weakening, at nameless forms with names

pub core_weakening : (heights purse depth : ℕ) (y : Name) (t : Core) (c : Context Ref Name) (units : ℕ) (e : Core)
    → judged_within cores heights purse units (typing core_scopes depth (enter core_scopes y t c) (ren (λ k. suc k) e))
    ≡ judgment_map (ren (λ k. suc k)) (judged_within cores heights purse units (typing core_scopes depth c e))
core_weakening heights purse depth y t c units e =
    below-judged (λ b. option_map to_core (type_of b)) (λ x. x) core_types-closed (codes "x") (codes "a") (codes "as") (λ d. nat_lt most_reached (nesting d)) heights purse depth y t c units e
