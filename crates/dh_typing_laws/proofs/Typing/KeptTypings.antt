-- What is kept of the values of `let`s, in the words of the laws.
use Rattle.std.specs.Prelude.{◌≡◌, ℕ, suc, ◌+◌, nat_lt, codes, option_map}
use Rattle.std.proofs.Common.{ap, sym, subst as along}
use Rattle.std.proofs.Math.Path.{fun_ext}
use Rattle.dh_syntax.specs.Expressions.Nesting.{nesting}
use Rattle.dh_syntax.specs.Expressions.Tree.{Name, Var, Term}
use Rattle.dh_syntax.specs.Limits.{most_reached, purse_aside}
use Rattle.dh_syntax.specs.Names.Nameless.{Ref, Core, core_below, to_core, sub, first}
use Rattle.dh_syntax.specs.Normalising.Heads.{Answer}
use Rattle.dh_syntax.specs.Normalising.Named.{names}
use Rattle.dh_syntax.specs.Normalising.NamelessRuns.{cores}
use Rattle.dh_syntax.specs.Normalising.Normal.{IsWideLicensed, IsDeepLicensed}
use Rattle.dh_syntax.specs.Typing.BuiltinTypes.{type_of}
use Rattle.dh_syntax.specs.Typing.Inference.{Inference, Judgment, Has, Ill, IsWide, IsDeep, IsOver, IsOverAside, IsShallow, judged}
use Rattle.dh_syntax.specs.Typing.NamelessTyping.{core_scopes}
use Rattle.dh_syntax.specs.Typing.Scopes.{Context}
use Rattle.dh_syntax.specs.Typing.Typing.{typing}
use Rattle.dh_laws.proofs.Normalising.RunLimits.{plus-is}
use Rattle.dh_laws.proofs.Normalising.RunsAlike.{plus}
use Rattle.dh_typing_laws.specs.KeptTypes.{Coded, embed, meaning, Sortless, StandsFor, held, cell_sub, kept_typing, Kept, IsKept, answer, NormalLag, TypingLag, IsNormaliser, AreKept, judged_kept, Substitution, MayAnswer, KeptTyping, KeptBelow, KeptDeeper}
use Rattle.dh_typing_laws.specs.NamelessTyping.{names_of, core_context}
use Rattle.dh_typing_laws.proofs.Typing.TypingContract.{MayAnswerBy, infer_with_kept}
use Rattle.dh_typing_laws.proofs.Typing.TypingLaws.{deep-named}
use Rattle.dh_typing_laws.proofs.Typing.TypingsKeptAnswers.{kept_let, kept-below}
use Rattle.dh_typing_laws.proofs.Typing.TypingsKeptDeeper.{kept-deeper}
use Rattle.dh_typing_laws.proofs.Typing.TypingsNamed.{core_types-closed}

module _ (normal : ℕ → Coded Name → Answer (Coded Name)) (more : ℕ) (kept : Context Ref Name → Core → Kept Core) (n : IsNormaliser normal) (k : AreKept more kept) where
  -- in the words of the lemmas
  lags : (s : Unit {0}) (units : ℕ) (d : Coded Name) (e : Core) → StandsFor s d e
      → NormalLag cores (IsWideLicensed cores nesting) (IsDeepLicensed cores nesting) embed units e (normal units d)
  lags s units d e p = along (λ z. NormalLag cores (IsWideLicensed cores nesting) (IsDeepLicensed cores nesting) embed units z (normal units d)) p.0 (n units d p.1)

  valid : (depth : ℕ) (c : Context Ref Name) (v : Core) → IsKept cores (typing core_scopes (suc (plus depth more)) c v) (kept c v)
  valid depth c v = along (λ z. IsKept cores (typing core_scopes (suc z) c v) (kept c v)) (sym (plus-is depth more)) (k depth c v)

  abbrev Uses : Type 0
  Uses = ℕ → Context Ref Name → Core → Inference (Coded Name)

  abbrev in_laws : Uses
  in_laws i c v = answer (kept c v) (typing core_scopes (suc (i + more)) c v)

  abbrev in_lemmas : Uses
  in_lemmas i c v = answer (kept c v) (typing core_scopes (suc (plus i more)) c v)

  abbrev judged_by : Uses → ℕ → Context Ref Name → ℕ → Coded Name → Judgment (Coded Name)
  judged_by uses depth c units d = judged normal purse_aside units (kept_typing (λ b. option_map to_core (type_of b)) (λ x. x) uses depth c d)

  same-uses : in_lemmas ≡ in_laws
  same-uses = fun_ext (λ i. fun_ext (λ c. fun_ext (λ v. ap (λ z. answer (kept c v) (typing core_scopes (suc z) c v)) (plus-is i more))))

  let_lag : (depth : ℕ) (c : Context Ref Name) (v b : Core) (units : ℕ)
      → TypingLag cores (IsWideLicensed cores nesting) (IsDeepLicensed cores nesting) purse_aside embed units (typing core_scopes (depth + more) c (sub (first v) b))
      (judged_kept normal more kept depth c units (cell_sub (held v) (embed b)))
  let_lag depth c v b units =
      along (λ u. TypingLag cores (IsWideLicensed cores nesting) (IsDeepLicensed cores nesting) purse_aside embed units (typing core_scopes (depth + more) c (sub (first v) b))
      (judged_by u depth c units (cell_sub (held v) (embed b)))) same-uses
      (along (λ z. TypingLag cores (IsWideLicensed cores nesting) (IsDeepLicensed cores nesting) purse_aside embed units (typing core_scopes z c (sub (first v) b))
      (judged_by in_lemmas depth c units (cell_sub (held v) (embed b)))) (plus-is depth more)
      (kept_let (λ b. option_map to_core (type_of b)) (λ x. x) cores (IsWideLicensed cores nesting) (IsDeepLicensed cores nesting) purse_aside normal lags more kept valid depth c v b units))

  as_licensed : (c : Context Var Name) (units : ℕ) (e : Term) (j : Judgment (Coded Name))
      → MayAnswerBy (IsDeepLicensed cores nesting) (IsDeepLicensed names nesting) deep-named normal lags c units e j → MayAnswer c units e j
  as_licensed c units e (Has t left) r = r
  as_licensed c units e (Ill path rule) r = r
  as_licensed c units e IsWide r = r
  as_licensed c units e IsDeep r = r
  as_licensed c units e IsOver r = r
  as_licensed c units e IsOverAside r = r
  as_licensed c units e IsShallow r = r

  may_answer : (depth : ℕ) (c : Context Var Name) (e : Term) (d : Coded Name) → Sortless d → meaning d ≡ core_below (names_of c) e → (units : ℕ)
      → MayAnswer c units e (judged_kept normal more kept depth (core_context c) units d)
  may_answer depth c e d s m units =
      along (λ u. MayAnswer c units e (judged_by u depth (core_context c) units d)) same-uses
      (as_licensed c units e (judged_by in_lemmas depth (core_context c) units d)
      (infer_with_kept (IsDeepLicensed cores nesting) (IsDeepLicensed names nesting) deep-named normal lags more kept valid depth c e d s m units))

pub substitutions : Substitution
substitutions normal more kept n k depth c v b units = let_lag normal more kept n k depth c v b units

pub kept_typings : KeptTyping
kept_typings normal more kept n k depth c e d s m units = may_answer normal more kept n k depth c e d s m units

pub kept_belows : KeptBelow
kept_belows depth y t c v k r =
    kept-below (λ b. option_map to_core (type_of b)) (λ x. x) core_types-closed (codes "x") (codes "a") (codes "as") (λ d. nat_lt most_reached (nesting d)) depth y t c v k r

pub kept_deepers : KeptDeeper
kept_deepers depth more c v k r = along (λ z. IsKept cores (typing core_scopes z c v) k) (plus-is depth more) (kept-deeper core_scopes cores depth more c v k r)
