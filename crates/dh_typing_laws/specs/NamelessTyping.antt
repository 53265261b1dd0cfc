-- Typing of nameless forms, and in a longer context.
use Rattle.std.specs.Prelude.{◌≡◌, ℕ, suc, List, [], ◌∷◌}
use Rattle.dh_syntax.specs.declared.faults.NormFault.{NormFault}
use Rattle.dh_syntax.specs.Expressions.Nesting.{nesting}
use Rattle.dh_syntax.specs.Expressions.Tree.{Tree, Name, Var, Term}
use Rattle.dh_syntax.specs.Names.Nameless.{Ref, Core, core_below, ren}
use Rattle.dh_syntax.specs.Names.Subst.{shift_up}
use Rattle.dh_syntax.specs.Normalising.Heads.{Lang}
use Rattle.dh_syntax.specs.Normalising.Named.{names}
use Rattle.dh_syntax.specs.Normalising.NamelessRuns.{cores}
use Rattle.dh_syntax.specs.Typing.Inference.{judged_within, IsLicensedIn}
use Rattle.dh_syntax.specs.Typing.NamedTyping.{scopes, infer}
use Rattle.dh_syntax.specs.Typing.NamelessTyping.{core_scopes}
use Rattle.dh_syntax.specs.Typing.Scopes.{Scopes, Context, enter}
use Rattle.dh_syntax.specs.Typing.Typing.{typing}
use Rattle.dh_typing_laws.specs.Judgments.{judgment_map}

-- the names of the binders of a context, the nearest one first
abbrev pub names_of : Context Var Name → List Name
names_of [] = []
names_of ((y, t) ∷ c) = y ∷ names_of c

-- its types with a function on them
abbrev pub cored : (Term → Core) → Context Var Name → Context Ref Name
cored g [] = []
cored g ((y, t) ∷ c) = (y, g t) ∷ cored g c

-- its nameless form
abbrev pub core_context : Context Var Name → Context Ref Name
core_context c = cored (core_below (names_of c)) c

-- ---- names

-- The nameless form comes to the nameless form of the type that the expression comes to, with the same units left, to the same
-- refusal, or to the same limit.
abbrev pub NamelessJudged : Type 0
NamelessJudged =
    (heights purse depth : ℕ) (c : Context Var Name) (units : ℕ) (e : Term)
    → judged_within cores heights purse units (typing core_scopes depth (core_context c) (core_below (names_of c) e))
    ≡ judgment_map (core_below (names_of c)) (infer heights purse depth c units e)

-- What is licensed for the nameless form is licensed for the expression.
abbrev pub NamelessLicences : Type 0
NamelessLicences =
    (depth : ℕ) (c : Context Var Name) (units : ℕ) (e : Term) (fault : NormFault)
    → IsLicensedIn cores nesting units (typing core_scopes depth (core_context c) (core_below (names_of c) e)) fault
    → IsLicensedIn names nesting units (typing scopes depth c e) fault

-- ---- weakening

-- In the context with one more binder the shifted expression comes to the shifted type, with the same units left, to the
-- same path and rule, or to the same limit.
abbrev pub Weakening : Type 0
Weakening =
    (heights purse depth : ℕ) (x : Name) (t : Term) (c : Context Var Name) (units : ℕ) (e : Term)
    → infer heights purse depth (enter scopes x t c) units (shift_up x 0 e) ≡ judgment_map (shift_up x 0) (infer heights purse depth c units e)

-- So does the nameless form.
abbrev pub NamelessWeakening : {B : Type 0} → Scopes Ref B → Lang (Tree Ref B) → Type 0
NamelessWeakening {B = B} S L =
    (heights purse depth : ℕ) (y : B) (t : Tree Ref B) (c : Context Ref B) (units : ℕ) (e : Tree Ref B)
    → judged_within L heights purse units (typing S depth (enter S y t c) (ren (λ k. suc k) e))
    ≡ judgment_map (ren (λ k. suc k)) (judged_within L heights purse units (typing S depth c e))
