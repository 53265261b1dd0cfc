-- Names and nameless forms in the words of the laws, and weakening of expressions with names.
use Rattle.std.specs.Prelude.{◌≡◌, suc, nat_lt, ◌∷◌, List, option_map, refl}
use Rattle.std.proofs.Common.{ap, sym, ◌∙◌, inl, inr}
use Rattle.dh_syntax.specs.declared.faults.NormFault.TheVariants as fault
use Rattle.dh_syntax.specs.Expressions.Nesting.{nesting}
use Rattle.dh_syntax.specs.Expressions.Tree.{Name, Term}
use Rattle.dh_syntax.specs.Limits.{most_reached}
use Rattle.dh_syntax.specs.Names.Nameless.{core_below, term_below, bare, ren}
use Rattle.dh_syntax.specs.Names.Subst.{shift_up}
use Rattle.dh_syntax.specs.Normalising.NamelessRuns.{cores, bares}
use Rattle.dh_syntax.specs.Typing.BuiltinTypes.{type_of}
use Rattle.dh_syntax.specs.Typing.Inference.{Judgment, Has, Ill, IsWide, IsDeep, IsOver, IsOverAside, IsShallow, judged_within}
use Rattle.dh_syntax.specs.Typing.NamedTyping.{infer, scopes}
use Rattle.dh_syntax.specs.Typing.NamelessTyping.{core_scopes, bare_scopes}
use Rattle.dh_syntax.specs.Typing.Scopes.{enter}
use Rattle.dh_syntax.specs.Typing.Typing.{typing}
use Rattle.dh_laws.proofs.Names.Cores.{core-shift_up_one, term_below-core_below}
use Rattle.dh_typing_laws.specs.Judgments.{judgment_map}
use Rattle.dh_typing_laws.specs.NamelessTyping.{names_of, core_context, NamelessJudged, NamelessLicences, Weakening, NamelessWeakening}
use Rattle.dh_typing_laws.proofs.Typing.TypingLaws.{named_over, named_spent_aside, named_wide, named_deep, core_weakening}
use Rattle.dh_typing_laws.proofs.Typing.TypingsKeptAnswers.{below-judged}
use Rattle.dh_typing_laws.proofs.Typing.TypingsNamed.{cored-itself, entering-core, nameless_judged, bare_types-closed}

pub nameless_judgments : NamelessJudged
nameless_judgments heights purse depth c units e = nameless_judged heights purse depth (names_of c) (core_context c) c units e (cored-itself c)

pub nameless_licences : NamelessLicences
nameless_licences depth c units e fault.Spent (inl r) = inl (named_over depth (names_of c) (core_context c) c e (cored-itself c) units r)
nameless_licences depth c units e fault.Spent (inr r) = inr (named_spent_aside depth (names_of c) (core_context c) c e (cored-itself c) r)
nameless_licences depth c units e fault.Wide r = named_wide depth (names_of c) (core_context c) c e (cored-itself c) r
nameless_licences depth c units e fault.Deep r = named_deep depth (names_of c) (core_context c) c e (cored-itself c) r
nameless_licences depth c units e fault.Memory r = tt

-- ---- weakening

pub core_weakenings : NamelessWeakening core_scopes cores
core_weakenings heights purse depth y t c units e = core_weakening heights purse depth y t c units e

pub bare_weakenings : NamelessWeakening bare_scopes bares
bare_weakenings heights purse depth y t c units e =
    below-judged (λ b. option_map bare (type_of b)) (λ x. tt) bare_types-closed tt tt tt (λ d. nat_lt most_reached (nesting d)) heights purse depth y t c units e

-- shifting and then going nameless is going nameless and then shifting
shifted-core : (x : Name) (ys : List Name) (j : Judgment Term)
    → judgment_map (ren (λ k. suc k)) (judgment_map (core_below ys) j) ≡ judgment_map (core_below (x ∷ ys)) (judgment_map (shift_up x 0) j)
shifted-core x ys (Has t left) = ap (λ u. Has u left) (sym (core-shift_up_one x ys t))
shifted-core x ys (Ill path rule) = refl
shifted-core x ys IsWide = refl
shifted-core x ys IsDeep = refl
shifted-core x ys IsOver = refl
shifted-core x ys IsOverAside = refl
shifted-core x ys IsShallow = refl

read-back : (ys : List Name) (j : Judgment Term) → judgment_map (term_below ys) (judgment_map (core_below ys) j) ≡ j
read-back ys (Has t left) = ap (λ u. Has u left) (term_below-core_below ys t)
read-back ys (Ill path rule) = refl
read-back ys IsWide = refl
read-back ys IsDeep = refl
read-back ys IsOver = refl
read-back ys IsOverAside = refl
read-back ys IsShallow = refl

pub weakenings : Weakening
weakenings heights purse depth x t c units e =
    let ys = names_of c in
    let longer = enter core_scopes x (core_below ys t) (core_context c) in
    let p : judgment_map (core_below (x ∷ ys)) (infer heights purse depth (enter scopes x t c) units (shift_up x 0 e))
    ≡ judgment_map (core_below (x ∷ ys)) (judgment_map (shift_up x 0) (infer heights purse depth c units e)) =
    sym (nameless_judged heights purse depth (x ∷ ys) longer (enter scopes x t c) units (shift_up x 0 e) (entering-core ys x t (core_context c) c (cored-itself c)))
    ∙ ap (λ d. judged_within cores heights purse units (typing core_scopes depth longer d)) (core-shift_up_one x ys e)
    ∙ core_weakening heights purse depth x (core_below ys t) (core_context c) units (core_below ys e)
    ∙ ap (judgment_map (ren (λ k. suc k))) (nameless_judgments heights purse depth c units e)
    ∙ shifted-core x ys (infer heights purse depth c units e) in
    sym (read-back (x ∷ ys) (infer heights purse depth (enter scopes x t c) units (shift_up x 0 e)))
    ∙ ap (judgment_map (term_below (x ∷ ys))) p
    ∙ read-back (x ∷ ys) (judgment_map (shift_up x 0) (infer heights purse depth c units e))
