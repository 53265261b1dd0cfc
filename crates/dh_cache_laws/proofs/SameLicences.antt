-- The limits that may be named for expressions that differ only in the names of their binders are the same.
use Rattle.std.specs.Prelude.{◌≡◌, ℕ, false, nat_lt, List, [], refl}
use Rattle.std.proofs.Common.{ap, sym, ◌∙◌, subst as along}
use Rattle.dh_syntax.specs.declared.faults.NormFault.{NormFault}
use Rattle.dh_syntax.specs.Expressions.Nesting.{nesting}
use Rattle.dh_syntax.specs.Expressions.Tree.{Name, Term}
use Rattle.dh_syntax.specs.Limits.{most_reached}
use Rattle.dh_syntax.specs.Names.Alpha.{same}
use Rattle.dh_syntax.specs.Names.Nameless.{Core, Bare, going_nameless, core_below, to_core, forgetting, forget}
use Rattle.dh_syntax.specs.Normalising.Heads.{Whole, run}
use Rattle.dh_syntax.specs.Normalising.Named.{binders, names}
use Rattle.dh_syntax.specs.Normalising.NamelessRuns.{nameless_eq, cores}
use Rattle.dh_syntax.specs.Typing.Inference.{IsLicensedIn}
use Rattle.dh_syntax.specs.Typing.NamedTyping as named
use Rattle.dh_syntax.specs.Typing.NamelessTyping.{core_scopes, bare_scopes}
use Rattle.dh_syntax.specs.Typing.Typing.{typing}
use Rattle.dh_syntax.proofs.Moves.{staying, nesting-moved, moved-staying}
use Rattle.dh_laws.specs.NamelessAnswers.{answer_map}
use Rattle.dh_laws.proofs.Names.AlphaForms.{same-bare}
use Rattle.dh_laws.proofs.Normalising.MovedRuns.{MovedAlike, trees-alike}
use Rattle.dh_laws.proofs.Normalising.NamedAnswers.{tested-equal}
use Rattle.dh_laws.proofs.Normalising.RunLimits.{reaches-itself}
use Rattle.dh_laws.proofs.Normalising.RunsAlike.{Alike, run-alike}
use Rattle.dh_typing_laws.proofs.Typing.TypingsMoved.{IsMoved}
use Rattle.dh_typing_laws.proofs.Typing.TypingsNamed as named_runs
use Rattle.dh_typing_laws.proofs.Typing.TypingsNamed.{binders-core, core_tests, core-runs, nameless_typing, cored-itself}
use Rattle.dh_typing_laws.proofs.Typing.Weakenings.{nameless_licences}
use Rattle.dh_cache_laws.specs.SameTyping.{SameLicences}
use Rattle.dh_cache_laws.proofs.LicencesMoved.{licensed-onward, licensed-back}
use Rattle.dh_cache_laws.proofs.SameTypings as bares
use Rattle.dh_cache_laws.proofs.SameTypings.{binders-forget, bare_tests, bare-runs, forgotten_typing}

-- ---- runs that end by nesting

abbrev Named : List Name × Unit {0} → Term → Core → Type 0
Named c e f = MovedAlike going_nameless staying c e f

named-alike : Alike false names cores Named
named-alike =
    trees-alike going_nameless staying binders bares.core_binders bares.core_binders binders-core (named_runs.binders-staying bares.core_binders) false same nameless_eq
    (λ e. nat_lt most_reached (nesting e)) (λ e. nat_lt most_reached (nesting e)) core_tests
    (λ c e f p. tested-equal _ _ (ap (nat_lt most_reached) (sym (nesting-moved going_nameless c.0 e) ∙ ap nesting (p ∙ moved-staying f))))

named-ended : (heights : ℕ) (ys : List Name) (units : ℕ) (d : Core) (e : Term) → IsMoved going_nameless ys d e
    → run cores heights Whole units d ≡ answer_map (core_below ys) (run names heights Whole units e)
named-ended heights ys units d e p =
    ap (λ u. run cores heights Whole u d) (sym (named_runs.plus-zero units))
    ∙ named_runs.answer-of ys _ _ (run-alike 0 false false (λ z. refl) names cores Named named-alike heights heights (reaches-itself false heights) (ys, tt) Whole units e d (sym p ∙ sym (moved-staying d)))

forgotten-alike : Alike false cores bares.the_bares bares.Rel
forgotten-alike =
    trees-alike forgetting staying bares.core_binders bares.bare_binders bares.bare_binders binders-forget (bares.binders-staying bares.bare_binders) false nameless_eq nameless_eq
    (λ e. nat_lt most_reached (nesting e)) (λ e. nat_lt most_reached (nesting e)) bare_tests
    (λ c e f p. tested-equal _ _ (ap (nat_lt most_reached) (sym (nesting-moved forgetting c.0 e) ∙ ap nesting (p ∙ moved-staying f))))

forgotten-ended : (heights : ℕ) (s : Unit {0}) (units : ℕ) (d : Bare) (e : Core) → IsMoved forgetting s d e
    → run bares.the_bares heights Whole units d ≡ answer_map forget (run cores heights Whole units e)
forgotten-ended heights s units d e p =
    ap (λ u. run bares.the_bares heights Whole u d) (sym (bares.plus-zero units))
    ∙ bares.answer-of _ _ (run-alike 0 false false (λ z. refl) cores bares.the_bares bares.Rel forgotten-alike heights heights (reaches-itself false heights) (tt, tt) Whole units e d (sym p ∙ sym (moved-staying d)))

-- ---- typing

core-licensed : (depth units : ℕ) (e : Term) (l : NormFault) → IsLicensedIn names nesting units (typing named.scopes depth [] e) l → IsLicensedIn cores nesting units (typing core_scopes depth [] (to_core e)) l
core-licensed depth units e l h =
    licensed-onward going_nameless cores names core-runs named-ended [] (typing core_scopes depth [] (to_core e)) (typing named.scopes depth [] e)
    (λ Q q. nameless_typing Q q depth [] [] [] e (cored-itself [])) units l h

bare-licensed : (depth units : ℕ) (c : Core) (l : NormFault) → IsLicensedIn cores nesting units (typing core_scopes depth [] c) l → IsLicensedIn bares.the_bares nesting units (typing bare_scopes depth [] (forget c)) l
bare-licensed depth units c l h =
    licensed-onward forgetting bares.the_bares cores bare-runs forgotten-ended tt (typing bare_scopes depth [] (forget c)) (typing core_scopes depth [] c)
    (λ Q q. forgotten_typing Q q depth tt [] [] c refl) units l h

licensed-core : (depth units : ℕ) (c : Core) (l : NormFault) → IsLicensedIn bares.the_bares nesting units (typing bare_scopes depth [] (forget c)) l → IsLicensedIn cores nesting units (typing core_scopes depth [] c) l
licensed-core depth units c l h =
    licensed-back forgetting bares.the_bares cores bare-runs forgotten-ended tt (typing bare_scopes depth [] (forget c)) (typing core_scopes depth [] c)
    (λ Q q. forgotten_typing Q q depth tt [] [] c refl) units l h

pub same_licences : SameLicences
same_licences units e f l s (depth, h) = (
  depth,
  nameless_licences depth [] units f l
      (licensed-core depth units (to_core f) l
      (along (λ b. IsLicensedIn bares.the_bares nesting units (typing bare_scopes depth [] b) l) (same-bare e f s)
      (bare-licensed depth units (to_core e) l (core-licensed depth units e l h)))),
)
