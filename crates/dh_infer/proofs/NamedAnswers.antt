-- What is answered for a nameless form, in the words of typing with names.
use Rattle.std.specs.Prelude.{◌≡◌, ◌+◌, ℕ, []}
use Rattle.std.proofs.Common.{ap, sym, ◌∙◌, arith, inl, inr, subst as along}
use Rattle.dh_syntax.specs.declared.faults.TypeFault.{TypeFault}
use Rattle.dh_syntax.specs.declared.faults.TypeFault.TheVariants as faults
use Rattle.dh_syntax.specs.Expressions.Tree.{Term}
use Rattle.dh_syntax.specs.Names.Nameless.{Core, to_core, from_core}
use Rattle.dh_syntax.specs.Normalising.Named.{names}
use Rattle.dh_syntax.specs.Typing.Inference.{Has}
use Rattle.dh_syntax.specs.Typing.NamedTyping.{scopes, IsTypeFault}
use Rattle.dh_syntax.specs.Typing.Typing.{typing}
use Rattle.dh_laws.proofs.Names.Cores.{term_below-core_below}
use Rattle.dh_typing_laws.proofs.Judging.JudgmentsCost.{cost-of}
use Rattle.dh_typing_laws.proofs.Typing.TypingLaws.{named_type, named_refusal, named_over, named_spent_aside, named_wide, named_deep}
use Rattle.dh_typing_laws.proofs.Typing.TypingsNamed.{cored-itself}
use Rattle.dh_infer.specs.NamedTypes.{IsTypeOf}
use Rattle.dh_infer.specs.Inside.TypeAnswers.{Answers, AnswersFault}

pub type-named : (units left : ℕ) (e : Term) (d : Core) → Answers units (to_core e) (Has d left) → IsTypeOf units left e (from_core d)
type-named units left e d (depth, (w, p, extra, r)) =
    let (t, q, (h, k, s)) = named_type depth [] [] [] e (cored-itself []) (units + extra) left w r in
    let (n, x, y) = cost-of names h k (units + extra) left t (typing scopes depth [] e) s in
    let is : t ≡ from_core d = sym (term_below-core_below [] t) ∙ ap from_core (sym q ∙ sym p) in
    along (IsTypeOf units left e) is (record { cost = n; typed = (depth, y); most = omega (arith, x) })

pub fault-named : (units : ℕ) (e : Term) (fault : TypeFault) → AnswersFault units (to_core e) fault → IsTypeFault [] units e fault
fault-named units e (faults.Ill ill) (rule, p, (depth, r)) =
    let (n, b) = named_refusal depth [] [] [] e (cored-itself []) ill.path rule r in (rule, n, (depth, b), p)
fault-named units e faults.Wide (depth, r) = (depth, named_wide depth [] [] [] e (cored-itself []) r)
fault-named units e faults.Deep (depth, r) = (depth, named_deep depth [] [] [] e (cored-itself []) r)
fault-named units e faults.Spent (inl (depth, r)) = (depth, inl (named_over depth [] [] [] e (cored-itself []) units r))
fault-named units e faults.Spent (inr (depth, r)) = (depth, inr (named_spent_aside depth [] [] [] e (cored-itself []) r))
fault-named units e faults.Memory h = tt
